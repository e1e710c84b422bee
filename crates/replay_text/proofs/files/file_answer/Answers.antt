-- `replay_text::files::file_answer` meets its contract: each return is the first test that fails, or none does. Assumes nothing.
use borrow.Author.Tests.{le-leb, lt-leb}
use Rattle.replay_text.specs.Files.{file_refusal, file_answer}
use Rattle.replay_text.proofs.files.file_answer.Goals as goal

pub returns-in_default : goal.returns-in_default
unfolding file_refusal file_answer
returns-in_default c =
    let none-given = rw c.in_default.is at c.slot_count.ensures in
    rw (← none-given)

pub returns-then-policy-gt-MOST_POLICY_BYTES : goal.returns-then-policy-gt-MOST_POLICY_BYTES
unfolding file_refusal file_answer
returns-then-policy-gt-MOST_POLICY_BYTES c =
    rw (
      ← c.in-Some.ensures,
      lt-leb _ _ c.if-policy-gt-MOST_POLICY_BYTES.true,
    )

pub returns-then-trace-gt-MOST_TRACE_BYTES : goal.returns-then-trace-gt-MOST_TRACE_BYTES
unfolding file_refusal file_answer
returns-then-trace-gt-MOST_TRACE_BYTES c =
    rw (
      ← c.in-Some.ensures,
      le-leb _ _ c.if-policy-gt-MOST_POLICY_BYTES.false,
      lt-leb _ _ c.if-trace-gt-MOST_TRACE_BYTES.true,
    )

pub returns : goal.returns
unfolding file_refusal file_answer
returns c =
    rw (
      ← c.in-Some.ensures,
      le-leb _ _ c.if-policy-gt-MOST_POLICY_BYTES.false,
      le-leb _ _ c.if-trace-gt-MOST_TRACE_BYTES.false,
    )
