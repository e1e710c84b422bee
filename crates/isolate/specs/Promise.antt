-- What an answer that isolates a rule promises. Assumes nothing.
use Rattle.std.specs.Prelude.{◌≡◌, List, ℕ, ◌≤◌, length, Ok}
use Rattle.model.specs.Policy.{dependents}
use Rattle.model.specs.Isolate.{Isolates}
use Rattle.ternary.specs.Sizes.{key_size, positions}
use Rattle.records.specs.Rules.{rules}
use Rattle.isolate.specs.Answers.{isolate_answer}
use Rattle.isolate.specs.declared.rounds.Isolated.{Isolated}
use Rattle.isolate.specs.Structs.{as_isolated}

-- every key that the pattern takes has the same best rule, each position is the rule's own or the key's, and the fixed bits are no more than
-- the dependents, nor than the rule's wildcard bits
abbrev pub AnswerLaw : Type 0
AnswerLaw = (policy key : List ℕ) (number : ℕ) (x : Isolated) → isolate_answer policy key number ≡ Ok x
    → Isolates positions (rules key_size policy) key number (as_isolated x)
    × (x.fixed ≤ length (dependents positions (rules key_size policy) number))
