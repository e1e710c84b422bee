-- `replay_text::put_ran` meets its contract: the refusal's line, or the lines and then the totals. Assumes nothing.
use borrow.Author.Rules.{rules}
use Prim.Native.Nat.{◌≤◌}
use Rattle.records.specs.Layout.{most_packets}
use Rattle.lines.proofs.PutLaws.{line-alone, line_after}
use Rattle.replay_text.proofs.RanLaws.{refused-put, packets-put}
use Rattle.replay_text.proofs.put_ran.Goals as goal

pub put_outcomes-at-requires : goal.put_outcomes-at-requires
put_outcomes-at-requires c =
    let few : c.in-Ok.count ≤ most_packets = rw c.in-Ok.is at c.requires.0 in
    (few, search rules, search rules)

pub put_line-requires-in-Ok : goal.put_line-requires-in-Ok
put_line-requires-in-Ok c =
    let few : c.in-Ok.count ≤ most_packets = rw c.in-Ok.is at c.requires.0 in
    search rules

pub returns-in-Err : goal.returns-in-Err
returns-in-Err c =
    let put = c.put_line.ensures in
    refused-put _ _ c.in-Err.is (line-alone c.refusal_line.ensures put.output put.end)

pub returns-in-Ok : goal.returns-in-Ok
returns-in-Ok c =
    let few : c.in-Ok.count ≤ most_packets = rw c.in-Ok.is at c.requires.0 in
    let put = c.put_line-in-Ok.ensures in
    packets-put _ _ c.in-Ok.is
    (line_after c.put_outcomes-at.ensures.lines c.totals_line.ensures put.output put.end put.short (search rules))
