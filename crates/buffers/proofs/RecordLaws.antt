-- Records of one size in a buffer: one replaced is one set, and the records say every byte. For any size and any reading. Assumes nothing.
use Prim.Native.Nat.{ℕ, zero, suc, ◌+◌, ◌*◌, ◌≤◌, ◌<◌}
use mathlib.Core.Path.{◌≡◌, refl, ap, ◌∙◌}
use mathlib.Core.Logic.{◌≢◌}
use mathlib.Core.List.{List, ◌∷◌}
use native.Mathlib.Omega.{arith}
use native.Mathlib.Nat.{mul-suc, mul-le-mul_left, suc_inj}
use lib.ListN.{length, drop, get_or, set, take-append-drop, length-drop}
use lib.Seq.{drop-drop, take_all}
use Rattle.model.specs.Bits.{Bytes}
use Rattle.model.proofs.Cases.{order-cases}
use Rattle.buffers.specs.Parts.{part, splice, chunk, tab, records_in, spelled}
use Rattle.buffers.proofs.PartLaws.{part-of-splice, part-before, part-after, part_bytes, drop-bytes, part_length}

-- ---- lists by index

cons-both : {A : Type 0} {a b : A} {l m : List A} → a ≡ b → l ≡ m → a ∷ l ≡ b ∷ m
cons-both p q = cc

tab-same : {A : Type 0} (f g : ℕ → A) (n : ℕ) → ((j : ℕ) → j < n → g j ≡ f j) → tab g n ≡ tab f n
tab-same f g zero h = refl
tab-same f g (suc n) h =
    cons-both (h 0 (omega arith)) (tab-same (λ (j : ℕ). f (suc j)) (λ (j : ℕ). g (suc j)) n (λ j l. h (suc j) (omega arith)))

tab-set : {A : Type 0} (f g : ℕ → A) (x : A) (n i : ℕ) → i < n → g i ≡ x → ((j : ℕ) → j ≢ i → g j ≡ f j) → tab g n ≡ set (tab f n) i x
tab-set f g x zero i l e h = absurd (omega arith)
tab-set f g x (suc n) zero l e h =
    cons-both e (tab-same (λ (j : ℕ). f (suc j)) (λ (j : ℕ). g (suc j)) n (λ j _. h (suc j) (λ q. absurd (omega arith))))
tab-set f g x (suc n) (suc i) l e h =
    cons-both (h 0 (λ q. absurd (omega arith)))
    (tab-set (λ (j : ℕ). f (suc j)) (λ (j : ℕ). g (suc j)) x n i (omega arith) e (λ j ne. h (suc j) (λ q. ne (suc_inj q))))

tab-length : {A : Type 0} (f : ℕ → A) (n : ℕ) → length (tab f n) ≡ n
tab-length f zero = refl
tab-length f (suc n) = ap suc (tab-length (λ (j : ℕ). f (suc j)) n)

tab-at : {A : Type 0} (f : ℕ → A) (d : A) (n i : ℕ) → i < n → get_or (tab f n) i d ≡ f i
tab-at f d zero i l = absurd (omega arith)
tab-at f d (suc n) zero l = refl
tab-at f d (suc n) (suc i) l = tab-at (λ (j : ℕ). f (suc j)) d n i (omega arith)

-- ---- one record replaced

apart : (size i j : ℕ) → i < j → size * i + size ≤ size * j
apart size i j h = omega (arith, mul-suc size i, mul-le-mul_left size h)

module _ (size i : ℕ) (xs bs : List ℕ) (whole : length xs ≡ size) (fits : size * i + size ≤ length bs) where
  chunk-put : chunk size (splice (size * i) xs bs) i ≡ xs
  chunk-put = part-of-splice (size * i) xs bs (omega arith) size whole

  -- another record is as it was
  chunk_kept : (j : ℕ) → j ≢ i → chunk size (splice (size * i) xs bs) j ≡ chunk size bs j
  chunk_kept j ne =
      order-cases j i
      (λ l. part-before (size * i) xs bs (omega arith) size (size * j) (apart size j i l))
      (λ e. absurd (ne e))
      (λ l. part-after (size * i) xs bs (omega arith) size (size * j) (omega (arith, apart size i j l)))

-- ---- the records of a buffer

module _ {A : Type 0} (size : ℕ) (decode : List ℕ → A) where
  pub records-count : (n : ℕ) (bs : List ℕ) → length (records_in size decode n bs) ≡ n
  unfolding records_in
  records-count n bs = tab-length (λ (i : ℕ). decode (chunk size bs i)) n

  pub records-at : (d : A) (n : ℕ) (bs : List ℕ) (i : ℕ) → i < n → get_or (records_in size decode n bs) i d ≡ decode (chunk size bs i)
  unfolding records_in
  records-at d n bs i l = tab-at (λ (i : ℕ). decode (chunk size bs i)) d n i l

  -- one replaced is one set
  pub records-put : (n : ℕ) (bs : List ℕ) (i : ℕ) (xs : List ℕ) → i < n → length xs ≡ size → size * i + size ≤ length bs
      → records_in size decode n (splice (size * i) xs bs) ≡ set (records_in size decode n bs) i (decode xs)
  unfolding records_in
  records-put n bs i xs l whole fits =
      tab-set (λ (j : ℕ). decode (chunk size bs j)) (λ (j : ℕ). decode (chunk size (splice (size * i) xs bs) j)) (decode xs) n i l
      (ap decode (chunk-put size i xs bs whole fits))
      (λ j ne. ap decode (chunk_kept size i xs bs whole fits j ne))

  -- the records after the first are those of what follows its bytes
  records-next : (bs : List ℕ) (j : ℕ) → decode (chunk size bs (suc j)) ≡ decode (chunk size (drop size bs) j)
  records-next bs j = rw (mul_next, drop-drop (size * j) size bs)
    where
      mul_next : size * suc j ≡ size + size * j
      mul_next = omega (arith, mul-suc size j)

  -- where a record's bytes are spelled by what they mean, the records of a whole buffer spell the buffer
  pub records-spell : (encode : A → List ℕ) → ((c : List ℕ) → length c ≡ size → Bytes c → encode (decode c) ≡ c)
      → (n : ℕ) (bs : List ℕ) → length bs ≡ size * n → Bytes bs → spelled encode (records_in size decode n bs) ≡ bs
  unfolding records_in spelled
  records-spell encode back zero bs l h = take_all 0 bs (omega (arith, l))
  records-spell encode back (suc n) bs l h =
      let rest : length (drop size bs) ≡ size * n = simp length-drop (omega (arith, mul-suc size n)) in
      let zeroth : size * 0 ≡ 0 = omega arith in
      let whole : size ≤ length bs = omega (arith, mul-suc size n) in
      let first : encode (decode (chunk size bs 0)) ≡ part size 0 bs =
      rw zeroth (back (part size 0 bs) (part_length size 0 bs (omega arith)) (part_bytes size 0 bs h))
      in
      let others : spelled encode (tab (λ (j : ℕ). decode (chunk size bs (suc j))) n) ≡ drop size bs =
      ap (spelled encode)
      (tab-same (λ (j : ℕ). decode (chunk size (drop size bs) j)) (λ (j : ℕ). decode (chunk size bs (suc j))) n (λ j _. records-next bs j))
      ∙ records-spell encode back n (drop size bs) rest (drop-bytes size bs h)
      in
      rw (first, others) (take-append-drop size bs)
