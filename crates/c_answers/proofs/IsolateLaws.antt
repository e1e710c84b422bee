-- What the answer that isolates comes to with an output: each way out of the call. Assumes nothing.
use mathlib.Core.Path.{◌≡◌, sym, ap, ◌∙◌}
use mathlib.Core.List.{List, ◌++◌}
use Rattle.std.specs.Prelude.{None, Some, Result, Ok, Err}
use Prim.Native.Nat.{ℕ, ◌≤◌, ◌<◌}
use native.Mathlib.Omega.{arith}
use lib.ListN.{length}
use borrow.Author.Tests.{lt-ltb, le-ltb}
use Rattle.model.specs.Pattern.{wildcards}
use Rattle.checks.specs.declared.refusal.Refusal.TheVariants.{ShortOutput}
use Rattle.ternary.specs.Sizes.{positions}
use Rattle.buffers.specs.Parts.{splice}
use Rattle.checks.specs.declared.refusal.Refusal.{Refusal}
use Rattle.isolate.specs.Answers.{isolate_refusal, isolated_of, isolate_answer}
use Rattle.isolate.specs.declared.rounds.Isolated.{Isolated}
use Rattle.checks.proofs.RefusalLaws.{answer-refused, answer-given}
use Rattle.isolate.proofs.Promise.{answer-isolates}
use Rattle.c_answers.specs.Isolate.{pattern_size, pattern_refusal, refused_counts, isolated_counts}
use Rattle.c_answers.specs.declared.structs.WgIsolated.{WgIsolated}
use Rattle.c_answers.specs.IsolateCalls.{isolated_in, IsolateCall}

module _ (policy key : List ℕ) (number : ℕ) (a : Result Isolated Refusal) (e : a ≡ isolate_answer policy key number) where
  refused : (r : Refusal) → a ≡ Err r → isolate_refusal policy key number ≡ Some r
  unfolding isolate_answer
  refused r t = answer-refused (isolate_refusal policy key number) (isolated_of (isolated_in policy key number)) e t

  module _ (x : Isolated) (t : a ≡ Ok x) where
    -- the answer is the model's rule
    told : (isolate_refusal policy key number ≡ None) × (x ≡ isolated_of (isolated_in policy key number))
    unfolding isolate_answer
    told = answer-given (isolate_refusal policy key number) (isolated_of (isolated_in policy key number)) e t

    -- its counts are of the pattern's positions
    pub counts-fit : (x.fixed ≤ positions) × (x.wildcards ≤ positions)
    unfolding wildcards
    counts-fit =
        let is = (answer-isolates policy key number x (sym e ∙ t)).0 in
        (omega (arith, is.within), omega (arith, is.left))

  -- ---- each way out, with an output

  module _ (out : List ℕ) (w : WgIsolated) where
    pub call-refused : (r : Refusal) → a ≡ Err r → w ≡ refused_counts r → IsolateCall policy key number out w out
    unfolding pattern_refusal
    call-refused r t n = record { answer = rw (refused r t) n; out-after = rw (refused r t) }

    module _ (x : Isolated) (t : a ≡ Ok x) where
      pub call-short : length out < pattern_size → w ≡ refused_counts ShortOutput → IsolateCall policy key number out w out
      unfolding pattern_refusal
      call-short l n = let free = (told x t).0 in record { answer = rw (free, lt-ltb _ _ l) n; out-after = rw (free, lt-ltb _ _ l) }

      pub call-isolated : (out' : List ℕ) → pattern_size ≤ length out → w ≡ isolated_counts x.fixed x.wildcards
          → out' ≡ splice 0 (x.pattern.value ++ x.pattern.mask) out → IsolateCall policy key number out w out'
      unfolding pattern_refusal
      call-isolated out' l n p =
          let free = (told x t).0 in
          let counts : w ≡ isolated_counts (isolated_in policy key number).fixed_bits (isolated_in policy key number).wildcards_left =
          n ∙ ap (λ (y : Isolated). isolated_counts y.fixed y.wildcards) (told x t).1
          in
          let pattern : out' ≡ splice 0 ((isolated_in policy key number).value ++ (isolated_in policy key number).mask) out =
          p ∙ ap (λ (y : Isolated). splice 0 (y.pattern.value ++ y.pattern.mask) out) (told x t).1
          in
          record { answer = rw (free, le-ltb _ _ l) counts; out-after = rw (free, le-ltb _ _ l) pattern }
