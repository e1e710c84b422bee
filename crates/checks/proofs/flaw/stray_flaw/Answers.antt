-- `checks::flaw::stray_flaw` meets its contract: a stray byte lies inside the row, so its place in the record is a number. Assumes nothing.
use borrow.Author.Rules.{rules}
use mathlib.Core.Path.{◌≡◌, refl, ◌∙◌, sym}
use mathlib.Core.List.{List}
use Rattle.std.specs.Prelude.{Option}
use Prim.Native.Nat.{ℕ, ◌+◌, ◌≤◌}
use lib.ListN.{length}
use native.Mathlib.Omega.{arith}
use Rattle.model.specs.Pattern.{first_stray}
use Rattle.buffers.specs.Parts.{part}
use Rattle.ternary.specs.Sizes.{key_size}
use Rattle.buffers.proofs.PartLaws.{part_length}
use Rattle.checks.proofs.FlawLaws.{stray-inside}
use Rattle.checks.proofs.flaw.stray_flaw.Goals as goal

-- the search over the rows that are lent is that over the parts
told : {s : Option ℕ} {value mask : List ℕ} (at : ℕ) (r : List ℕ) → at + (key_size + key_size) ≤ length r
    → value ≡ part key_size at r → mask ≡ part key_size (at + key_size) r → s ≡ first_stray (length value) value mask
    → first_stray key_size (part key_size at r) (part key_size (at + key_size) r) ≡ s
told at r inside v m is = sym (rw (v, m, part_length key_size at r (omega arith)) at is)

pub first_stray-requires : goal.first_stray-requires
first_stray-requires c =
    let a = c.args in
    let rows = c.rows_at.ensures in
    rw (rows.0, rows.1, part_length key_size a.at a.r.now (omega arith), part_length key_size (a.at + key_size) a.r.now (omega arith)) refl

pub map-requires : goal.map-requires
map-requires c x e =
    let rows = c.rows_at.ensures in
    let l = stray-inside key_size _ _ x (told c.args.at c.args.r.now c.requires rows.0 rows.1 c.first_stray.ensures ∙ e) in
    search rules

pub returns : goal.returns
returns c =
    let rows = c.rows_at.ensures in
    rw (told c.args.at c.args.r.now c.requires rows.0 rows.1 c.first_stray.ensures) (search rules)
