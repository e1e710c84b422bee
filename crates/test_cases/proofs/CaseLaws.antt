-- Laws of parts of a file of test cases. Assumes nothing.
use mathlib.Core.Path.{◌≡◌, refl, sym, ap, ◌∙◌}
use mathlib.Core.List.{List, []}
use Prim.Native.Nat.{ℕ, zero, suc, ◌+◌, ◌≤◌, ◌<◌}
use native.Mathlib.Omega.{arith}
use borrow.Author.Tests.{leb-true, leb-false, le-leb, lt-leb}
use lib.Dec.{leb}
use lib.ListN.{length, take, replicate}
use lib.Seq.{take_all}
use Rattle.model.proofs.Cases.{by_cases}
use Rattle.buffers.specs.BigEndian.{be}
use Rattle.buffers.specs.Parts.{part}
use Rattle.buffers.proofs.PartLaws.{part_length}
use Rattle.buffers.proofs.BigEndianLaws.{spells-four}
use mir.Syntax.{w32}
use Rattle.std.specs.Int.{from_be_bytes}
use Rattle.test_cases.specs.Cases.{part_in, bytes_in, number_at}

-- s ends before, and it does not
pub part-missing : (from n : ℕ) (s : List ℕ) → length s < from + n → [] ≡ part_in from n s
unfolding part_in
part-missing from n s l = rw (lt-leb (from + n) (length s) l)

pub part-there : (from n : ℕ) (s : List ℕ) → from + n ≤ length s → part n from s ≡ part_in from n s
unfolding part_in
part-there from n s l = rw (le-leb (from + n) (length s) l)

none-bytes : (at : ℕ) (s : List ℕ) → bytes_in at 0 s ≡ []
unfolding bytes_in
none-bytes at s = by_cases (leb (at + 0) (length s)) (λ e. rw e refl) (λ e. rw e refl)

-- the n bytes of a part that is there, and of one that is not
pub first_bytes : (n at : ℕ) (s : List ℕ) {q bytes : List ℕ} → q ≡ part_in at n s → n ≤ length q → bytes ≡ take n q → bytes ≡ bytes_in at n s
unfolding bytes_in
first_bytes zero at s is l e = e ∙ sym (none-bytes at s)
first_bytes (suc n) at s {q = q} is l e =
    by_cases (leb (at + suc n) (length s))
    (λ t.
    let h = leb-true (at + suc n) (length s) t in
    let there : take (suc n) q ≡ part (suc n) at s =
    ap (take (suc n)) (is ∙ sym (part-there at (suc n) s h)) ∙ take_all (suc n) (part (suc n) at s) (omega (arith, part_length (suc n) at s h)) in
    rw t (e ∙ there))
    (λ f. absurd (omega (arith, l, ap length (is ∙ sym (part-missing at (suc n) s (leb-false (at + suc n) (length s) f))))))

pub no_bytes : (n at : ℕ) (s : List ℕ) {q : List ℕ} → q ≡ part_in at n s → length q < n → replicate n 0 ≡ bytes_in at n s
unfolding bytes_in
no_bytes n at s is l =
    by_cases (leb (at + n) (length s))
    (λ t.
    let h = leb-true (at + n) (length s) t in
    absurd (omega (arith, l, ap length (is ∙ sym (part-there at n s h)), part_length n at s h)))
    (λ f. rw f refl)

-- std's word for the number of the four bytes
pub spells_number : (at : ℕ) (s : List ℕ) → from_be_bytes w32 (bytes_in at 4 s) ≡ number_at at s
unfolding bytes_in number_at part_in be
spells_number at s =
    by_cases (leb (at + 4) (length s))
    (λ e. rw e (spells-four (part 4 at s) (part_length 4 at s (leb-true (at + 4) (length s) e))))
    (λ e. rw e refl)
