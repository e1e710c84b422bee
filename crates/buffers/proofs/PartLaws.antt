-- Parts of a buffer: read byte by byte, cut out, and replaced. Assumes nothing.
use Prim.Native.Nat.{ℕ, zero, suc, ◌+◌, ◌-◌, ◌≤◌, ◌<◌}
use mathlib.Core.Path.{◌≡◌, refl, sym, ap, ◌∙◌}
use mathlib.Core.List.{List, [], ◌∷◌, ◌++◌, append_assoc, append-nil}
use native.Mathlib.Omega.{arith}
use native.Mathlib.Nat.{add-suc}
use lib.ListN.{length, take, drop, get_or, length-append, length-take, length-drop, take-append-drop}
use lib.Seq.{drop-cons, drop-length, take-take, take_at, drop_at, take-add, drop-drop, get_or-drop}
use lib.Seq.{length-take-le, take-append-le, drop-append-le, drop-append-add}
use Rattle.model.specs.Bits.{Bytes}
use Rattle.buffers.specs.Parts.{part, splice}

-- ---- read byte by byte

-- n bytes from `at + k` on, each read by its index: with n and k written out it computes to the list of the reads
abbrev reads : ℕ → ℕ → ℕ → List ℕ → List ℕ
reads zero k at s = []
reads (suc n) k at s = get_or s (at + k) 0 ∷ reads n (suc k) at s

reads-from : (n k at : ℕ) (s : List ℕ) → at + k + n ≤ length s → reads n k at s ≡ part n (at + k) s
reads-from zero k at s h = refl
reads-from (suc n) k at s h =
    rw (drop-cons s (at + k) 0 (omega arith))
    (ap (λ (r : List ℕ). get_or s (at + k) 0 ∷ r) (reads-from n (suc k) at s (omega arith) ∙ ap (λ (i : ℕ). part n i s) (add-suc at k)))

-- the first read has the index `at`, as code writes it
pub reads-part : (n at : ℕ) (s : List ℕ) → at + suc n ≤ length s → get_or s at 0 ∷ reads n 1 at s ≡ part (suc n) at s
reads-part n at s h =
    let e : at + 0 ≡ at = omega arith in
    rw e at (reads-from (suc n) 0 at s (omega arith))

-- ---- cut out

pub part_length : (n at : ℕ) (s : List ℕ) → at + n ≤ length s → length (part n at s) ≡ n
part_length n at s h = simp (length-take, length-drop) (omega arith)

-- a part is its first m bytes and then the others
pub part-split : (m n at : ℕ) (s : List ℕ) → part (m + n) at s ≡ part m at s ++ part n (at + m) s
part-split m n at s = take-add m n (drop at s) ∙ rw (drop-drop m at s)

-- a part of the first k bytes is a part of the whole
part-inner : (n b k : ℕ) (l : List ℕ) → b + n ≤ k → part n b (take k l) ≡ part n b l
part-inner n zero k l h = take-take n k l (omega arith)
part-inner n (suc b) zero l h = absurd (omega arith)
part-inner n (suc b) (suc k) [] h = refl
part-inner n (suc b) (suc k) (x ∷ l) h = part-inner n b k l (omega arith)

-- a part of a part
pub part-part : (n b k at : ℕ) (s : List ℕ) → b + n ≤ k → part n b (part k at s) ≡ part n (at + b) s
part-part n b k at s h = part-inner n b k (drop at s) h ∙ rw (drop-drop b at s)

take-bytes : (n : ℕ) (c : List ℕ) → Bytes c → (i : ℕ) → get_or (take n c) i 0 < 256
take-bytes zero c h i = omega arith
take-bytes (suc n) [] h i = omega arith
take-bytes (suc n) (b ∷ c) h zero = h.byte 0
take-bytes (suc n) (b ∷ c) h (suc i) = take-bytes n c (record { byte = λ j. h.byte (suc j) }) i

pub drop-bytes : (n : ℕ) (c : List ℕ) → Bytes c → Bytes (drop n c)
drop-bytes n c h = record { byte = λ i. rw get_or-drop (h.byte (n + i)) }

pub part_bytes : (n a : ℕ) (c : List ℕ) → Bytes c → Bytes (part n a c)
part_bytes n a c h = record { byte = take-bytes n (drop a c) (drop-bytes a c h) }

-- ---- replaced

module _ (at : ℕ) (xs bs : List ℕ) (fits : at + length xs ≤ length bs) where
  head-length : length (take at bs) ≡ at
  head-length = length-take-le at bs (omega arith)

  pub length-splice : length (splice at xs bs) ≡ length bs
  unfolding splice
  length-splice = simp (length-append, length-take, length-drop) (omega arith)

  -- the part itself
  pub part-of-splice : (n : ℕ) → length xs ≡ n → part n at (splice at xs bs) ≡ xs
  unfolding splice
  part-of-splice n e =
      rw (append_assoc, drop_at (take at bs) (xs ++ drop (at + length xs) bs) at head-length)
      (take_at xs (drop (at + length xs) bs) n e)

  -- a part before it, and one after it
  pub part-before : (n b : ℕ) → b + n ≤ at → part n b (splice at xs bs) ≡ part n b bs
  unfolding splice
  part-before n b h =
      let rest : List ℕ = xs ++ drop (at + length xs) bs in
      rw (
        append_assoc,
        drop-append-le b (take at bs) rest (omega (arith, head-length)),
        take-append-le n (drop b (take at bs)) rest (simp length-drop (omega (arith, head-length))),
      )
      (part-inner n b at bs h)

  pub part-after : (n b : ℕ) → at + length xs ≤ b → part n b (splice at xs bs) ≡ part n b bs
  unfolding splice
  part-after n b h =
      let front : List ℕ = take at bs ++ xs in
      let m : ℕ = b - (at + length xs) in
      let e : b ≡ length front + m = simp length-append (omega (arith, head-length)) in
      let e' : at + length xs + m ≡ b = omega arith in
      ap (take n)
      (ap (λ (k : ℕ). drop k (front ++ drop (at + length xs) bs)) e
      ∙ drop-append-add front (drop (at + length xs) bs) m
      ∙ drop-drop m (at + length xs) bs
      ∙ ap (λ (k : ℕ). drop k bs) e')

-- all of a buffer replaced
pub splice_all : (xs bs : List ℕ) → length xs ≡ length bs → splice 0 xs bs ≡ xs
unfolding splice
splice_all xs bs e =
    let n : 0 + length xs ≡ length bs = omega arith in
    rw (n, drop-length, append-nil xs)

-- one part written right after another is both written at once: how a loop that appends records goes on
pub splice-next : (at k : ℕ) (xs ys bs : List ℕ) → k ≡ at + length xs → k + length ys ≤ length bs
    → splice k ys (splice at xs bs) ≡ splice at (xs ++ ys) bs
unfolding splice
splice-next at k xs ys bs e h =
    let front : List ℕ = take at bs ++ xs in
    let n : length front ≡ k = simp (length-append, length-take) (omega arith) in
    let m : k + length ys ≡ length front + length ys = omega arith in
    let r : at + length xs + length ys ≡ at + length (xs ++ ys) = simp length-append (omega arith) in
    rw (
      take_at front (drop (at + length xs) bs) k n,
      m,
      drop-append-add front (drop (at + length xs) bs) (length ys),
      drop-drop (length ys) (at + length xs) bs,
      r,
      append_assoc (take at bs) xs ys,
    )

-- a part of a buffer with some of its bytes replaced, put back where it was: these bytes alone are replaced
pub splice-part : (n at k : ℕ) (xs bs : List ℕ) → k + length xs ≤ n → at + n ≤ length bs
    → splice at (splice k xs (part n at bs)) bs ≡ splice (at + k) xs bs
unfolding splice
splice-part n at k xs bs h l =
    let c : List ℕ = part n at bs in
    let long : length c ≡ n = part_length n at bs l in
    let after : List ℕ = drop (k + length xs) c in
    let size : at + length (splice k xs c) ≡ at + n = omega (arith, length-splice k xs c (omega arith)) in
    let front : take (at + k) bs ≡ take at bs ++ take k c =
    take-add at k bs ∙ ap (λ (r : List ℕ). take at bs ++ r) (sym (take-take k n (drop at bs) (omega arith)))
    in
    let e : at + (k + length xs) ≡ at + k + length xs = omega arith in
    let whole : c ++ drop (at + n) bs ≡ drop at bs = rw (← drop-drop n at bs) (take-append-drop n (drop at bs)) in
    let back : drop (at + k + length xs) bs ≡ after ++ drop (at + n) bs =
    sym (ap (λ (i : ℕ). drop i bs) e)
    ∙ sym (drop-drop (k + length xs) at bs)
    ∙ ap (drop (k + length xs)) (sym whole)
    ∙ drop-append-le (k + length xs) c (drop (at + n) bs) (omega arith)
    in
    rw (size, front, back, append_assoc (take at bs) (take k c) xs)
    (append_assoc (take at bs) (take k c ++ xs ++ after) (drop (at + n) bs)
    ∙ ap (λ (r : List ℕ). take at bs ++ r) (append_assoc (take k c ++ xs) after (drop (at + n) bs))
    ∙ sym (append_assoc (take at bs) (take k c ++ xs) (after ++ drop (at + n) bs)))

-- four parts written one after the other fill a buffer
pub fill-four : (a b c d s : List ℕ) (i j k : ℕ) → i ≡ length a → j ≡ i + length b → k ≡ j + length c → k + length d ≡ length s
    → splice k d (splice j c (splice i b (splice 0 a s))) ≡ a ++ (b ++ (c ++ d))
fill-four a b c d s i j k p q r h =
    ap (λ (x : List ℕ). splice k d (splice j c x)) (splice-next 0 i a b s (omega arith) (omega arith))
    ∙ ap (splice k d) (splice-next 0 j (a ++ b) c s (simp length-append (omega arith)) (omega arith))
    ∙ splice-next 0 k ((a ++ b) ++ c) d s (simp length-append (omega arith)) (omega arith)
    ∙ splice_all (((a ++ b) ++ c) ++ d) s (simp length-append (omega arith))
    ∙ simp append_assoc
