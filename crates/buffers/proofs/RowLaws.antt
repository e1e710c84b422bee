-- Records in a row: their bytes one after the other, the first and the rest, and two rows one after the other. For any size, any spelling and
-- any reading. Assumes nothing.
use mathlib.Core.Path.{◌≡◌, refl, sym, ap, ◌∙◌}
use mathlib.Core.List.{List, [], ◌∷◌, ◌++◌, map, append_assoc, append-nil}
use Prim.Native.Nat.{ℕ, zero, suc, ◌+◌, ◌*◌, ◌<◌}
use native.Mathlib.Nat.{mul-suc, zero-add, suc-add}
use native.Mathlib.Omega.{arith}
use lib.ListN.{length, take, drop, get_or, length-append, length-take, length-drop, take-append-drop}
use lib.Seq.{take_at, drop-append-add, ext_get_or}
use Rattle.buffers.specs.Parts.{chunk, records_in, spelled}
use Rattle.buffers.proofs.RecordLaws.{records-count, records-at}

-- ---- spelled

module _ {A : Type 0} (encode : A → List ℕ) where
  pub spelled-append : (xs ys : List A) → spelled encode (xs ++ ys) ≡ spelled encode xs ++ spelled encode ys
  unfolding spelled
  spelled-append [] ys = refl
  spelled-append (x ∷ xs) ys =
      ap (λ (s : List ℕ). encode x ++ s) (spelled-append xs ys) ∙ sym (append_assoc (encode x) (spelled encode xs) (spelled encode ys))

  pub spelled-more : (xs : List A) (x : A) → spelled encode (xs ++ (x ∷ [])) ≡ spelled encode xs ++ encode x
  unfolding spelled
  spelled-more xs x = spelled-append xs (x ∷ []) ∙ ap (λ (s : List ℕ). spelled encode xs ++ s) (append-nil (encode x))

  pub length-spelled : (size : ℕ) → ((x : A) → length (encode x) ≡ size) → (xs : List A) → length (spelled encode xs) ≡ size * length xs
  unfolding spelled
  length-spelled size long [] = omega arith
  length-spelled size long (x ∷ xs) = simp length-append (omega (arith, long x, length-spelled size long xs, mul-suc size (length xs)))

-- ---- read

module _ {A : Type 0} (size : ℕ) (decode : List ℕ → A) where
  module _ (c rest : List ℕ) (e : length c ≡ size) where
    first_chunk : chunk size (c ++ rest) 0 ≡ c
    first_chunk = let z : size * 0 ≡ 0 = omega arith in rw z (take_at c rest size e)

    next-chunk : (i : ℕ) → chunk size (c ++ rest) (suc i) ≡ chunk size rest i
    next-chunk i =
        let m : size * suc i ≡ length c + size * i = omega (arith, mul-suc size i) in
        rw m (ap (take size) (drop-append-add c rest (size * i)))

    pub records-cons : (n : ℕ) → records_in size decode (suc n) (c ++ rest) ≡ decode c ∷ records_in size decode n rest
    records-cons n =
        ext_get_or (decode []) _ _ (records-count size decode (suc n) (c ++ rest) ∙ ap suc (sym (records-count size decode n rest)))
        (λ i l. same i (omega (arith, records-count size decode (suc n) (c ++ rest))))
      where
        same : (i : ℕ) → i < suc n
            → get_or (records_in size decode (suc n) (c ++ rest)) i (decode []) ≡ get_or (decode c ∷ records_in size decode n rest) i (decode [])
        same zero l = records-at size decode (decode []) (suc n) (c ++ rest) 0 l ∙ ap decode first_chunk
        same (suc i) l =
            records-at size decode (decode []) (suc n) (c ++ rest) (suc i) l
            ∙ ap decode (next-chunk i)
            ∙ sym (records-at size decode (decode []) n rest i (omega arith))

  -- rows one after the other
  pub records-append : (a b : ℕ) (xs ys : List ℕ) → length xs ≡ size * a
      → records_in size decode (a + b) (xs ++ ys) ≡ records_in size decode a xs ++ records_in size decode b ys
  unfolding records_in
  records-append zero b [] ys l = rw (zero-add b)
  records-append zero b (x ∷ xs) ys l = absurd (omega arith)
  records-append (suc a) b xs ys l =
      let long : length (take size xs) ≡ size = simp length-take (omega (arith, mul-suc size a)) in
      let rest : length (drop size xs) ≡ size * a = simp length-drop (omega (arith, mul-suc size a)) in
      let parts : take size xs ++ drop size xs ≡ xs = take-append-drop size xs in
      let whole : xs ++ ys ≡ take size xs ++ (drop size xs ++ ys) =
      ap (λ (s : List ℕ). s ++ ys) (sym parts) ∙ append_assoc (take size xs) (drop size xs) ys
      in
      let first : records_in size decode (suc a) xs ≡ decode (take size xs) ∷ records_in size decode a (drop size xs) =
      ap (records_in size decode (suc a)) (sym parts) ∙ records-cons (take size xs) (drop size xs) long a
      in
      ap (λ (n : ℕ). records_in size decode n (xs ++ ys)) (suc-add a b)
      ∙ ap (records_in size decode (suc (a + b))) whole
      ∙ records-cons (take size xs) (drop size xs ++ ys) long (a + b)
      ∙ ap (λ (l : List A). decode (take size xs) ∷ l) (records-append a b (drop size xs) ys rest)
      ∙ ap (λ (l : List A). l ++ records_in size decode b ys) (sym first)

  -- a row that was spelled is read as it was spelled
  pub records-spelled : {B : Type 0} (encode : B → List ℕ) → ((x : B) → length (encode x) ≡ size) → (xs : List B) (rest : List ℕ)
      → records_in size decode (length xs) (spelled encode xs ++ rest) ≡ map (λ x. decode (encode x)) xs
  unfolding records_in spelled
  records-spelled encode long [] rest = refl
  records-spelled encode long (x ∷ xs) rest =
      ap (records_in size decode (suc (length xs))) (append_assoc (encode x) (spelled encode xs) rest)
      ∙ records-cons (encode x) (spelled encode xs ++ rest) (long x) (length xs)
      ∙ ap (λ (l : List A). decode (encode x) ∷ l) (records-spelled encode long xs rest)
