-- `replay_text::text` meets its contract: the refusal that the files' sizes and slots.txt give, or the run. Assumes nothing.
use borrow.Author.Rules.{rules}
use mathlib.Core.Path.{sym}
use Rattle.replay_text.proofs.FileLaws.{files-taken}
use Rattle.lines.proofs.PutLaws.{line-alone}
use Rattle.replay_text.proofs.RanLaws.{text-refused, text-run}
use Rattle.replay_text.proofs.text.Goals as goal

pub put_run-requires : goal.put_run-requires
put_run-requires c =
    let t = files-taken _ _ _ (sym c.in-Ok.ensures) in
    (t.some-there, t.few-there, t.trace-short, search rules)

pub returns-in-Err : goal.returns-in-Err
returns-in-Err c =
    let put = c.put_line.ensures in
    text-refused _ _ _ c.file_answer.ensures c.in-Err.is
    (line-alone c.refusal_line.ensures put.output put.end)

pub returns-in-Ok : goal.returns-in-Ok
returns-in-Ok c =
    text-run _ _ _ c.file_answer.ensures c.in-Ok.is c.put_run.ensures
