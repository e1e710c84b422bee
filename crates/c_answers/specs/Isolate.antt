-- The numbers of the answer that isolates, with its pattern in an output. Assumes nothing.
use Rattle.std.specs.Prelude.{not, List, ℕ, ◌+◌, ltb, Option, None, Some}
use Rattle.model.specs.Isolate.{Isolated}
use Rattle.checks.specs.declared.refusal.Refusal.TheVariants.{ShortOutput}
use Rattle.ternary.specs.Sizes.{key_size}
use Rattle.checks.specs.Refusals.{or_else, need, number_of, place_of}
use Rattle.checks.specs.declared.refusal.Refusal.{Refusal}
use Rattle.isolate.specs.Answers.{isolate_refusal}
use Rattle.c_answers.specs.declared.structs.WgIsolated.{WgIsolated}

-- value, then mask
abbrev pub pattern_size : ℕ
pattern_size = key_size + key_size

-- the call's own refusals; then 5, where the output has out_len bytes
unfoldable pub pattern_refusal : List ℕ → List ℕ → ℕ → ℕ → Option Refusal
pattern_refusal policy key number out_len =
    or_else (isolate_refusal policy key number) (need (not (ltb out_len pattern_size)) ShortOutput None)

abbrev pub refused_counts : Refusal → WgIsolated
refused_counts r = record { refusal = number_of r; place = place_of r; fixed = 0; wildcards = 0 }

abbrev pub isolated_counts : ℕ → ℕ → WgIsolated
isolated_counts fixed wildcards = record { refusal = 0; place = 0; fixed = fixed; wildcards = wildcards }

-- the refusal's, or the isolated rule's
abbrev pub isolate_for_c : Option Refusal → Isolated → WgIsolated
isolate_for_c (Some r) x = refused_counts r
isolate_for_c None x = isolated_counts x.fixed_bits x.wildcards_left
