-- An answer that isolates a rule keeps what the model promises of isolating. Assumes nothing.
use mathlib.Core.Path.{refl}
use Rattle.std.specs.Prelude.{Ok}
use Rattle.model.specs.Isolate.{isolate}
use Rattle.model.proofs.Isolation.{rounds-isolate}
use Rattle.ternary.specs.Sizes.{key_size, positions}
use Rattle.records.specs.Layout.{most_rules}
use Rattle.records.specs.Rules.{rules}
use Rattle.checks.proofs.RefusalLaws.{answer-given}
use Rattle.policy.proofs.Acceptance.{accepted-bytes}
use Rattle.isolate.specs.Answers.{isolate_refusal, isolated_of, isolate_answer}
use Rattle.isolate.specs.Promise.{AnswerLaw}
use Rattle.isolate.proofs.AnswerLaws.{ready, policy-fine}

pub answer-isolates : AnswerLaw
unfolding isolate_answer
answer-isolates policy key number x e =
    let told = answer-given (isolate_refusal policy key number) (isolated_of (isolate positions (rules key_size policy) key number)) {y = x} refl e in
    let is = ready policy key number (Ok tt) (rw told.0) refl in
    let accepted = ((accepted-bytes policy).0 (policy-fine policy key number told.0)).accepted in
    let law = rounds-isolate key_size most_rules (rules key_size policy) accepted key number is.is-best in
    rw told.1 (law.1, law.0.few)
