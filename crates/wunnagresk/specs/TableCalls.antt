-- The table's calls as C sees them: the numbers of the answer, and the buffers after it. Assumes nothing.
use Rattle.std.specs.Prelude.{◌≡◌, List, ℕ, length}
use Rattle.table.specs.Lookups.{lookup_answer, table_after_lookup, out_after_lookup}
use Rattle.table.specs.Writes.{write_call_refusal, table_after_write, out_after_write}
use Rattle.checks.specs.Refusals.{verdict_of}
use Rattle.c_answers.specs.Answers.{lookup_for_c, done_for_c}
use Rattle.c_answers.specs.declared.structs.WgDone.{WgDone}
use Rattle.c_answers.specs.declared.structs.WgFound.{WgFound}

pub record LookupCall (key table out : List ℕ) (r : WgFound) (table' out' : List ℕ) : Type 0 where
  pub answer : r ≡ lookup_for_c (lookup_answer key table (length out))
  pub table-after : table' ≡ table_after_lookup key table (length out)
  pub out-after : out' ≡ out_after_lookup key table out

pub record WriteCall (table m out : List ℕ) (r : WgDone) (table' out' : List ℕ) : Type 0 where
  pub answer : r ≡ done_for_c (verdict_of (write_call_refusal table m (length out)))
  pub table-after : table' ≡ table_after_write table m (length out)
  pub out-after : out' ≡ out_after_write table m out
