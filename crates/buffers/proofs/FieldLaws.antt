-- A record as its fields one after the other: what was encoded is decoded, and what was decoded is encoded. Assumes nothing.
use Prim.Native.Nat.{ℕ, ◌+◌, ◌≤◌}
use mathlib.Core.Path.{◌≡◌, sym, ap, ◌∙◌}
use mathlib.Core.List.{List, [], ◌∷◌, ◌++◌}
use native.Mathlib.Omega.{arith}
use lib.ListN.{length, take, drop, get_or, length-drop, take-append-drop}
use lib.Seq.{take_all, take_at, drop_at, drop-drop, get_or-drop}
use Rattle.model.specs.Bits.{Bytes}
use Rattle.buffers.specs.BigEndian.{be, to_be}
use Rattle.buffers.specs.Parts.{part}
use Rattle.buffers.proofs.PartLaws.{reads-part, part_bytes, part_length}
use Rattle.buffers.proofs.BigEndianLaws.{to_be-be}

-- ---- encode, then decode

-- what stands from `a` on
module _ (c : List ℕ) (a : ℕ) {r : List ℕ} (here : drop a c ≡ r) (k : ℕ) where
  pub drop_past : drop (a + k) c ≡ drop k r
  drop_past = sym (drop-drop k a c) ∙ ap (drop k) here

  pub part-past : (n : ℕ) → part n (a + k) c ≡ part n k r
  part-past n = ap (take n) drop_past

  pub byte_past : get_or c (a + k) 0 ≡ get_or r k 0
  byte_past = sym (get_or-drop a c k 0) ∙ ap (λ (s : List ℕ). get_or s k 0) here

-- two rows of w bytes stand from `a` on, and then r
module _ (w a : ℕ) (c v m r : List ℕ) (here : drop a c ≡ v ++ (m ++ r)) (v-long : length v ≡ w) (m-long : length m ≡ w) where
  pub value_there : part w a c ≡ v
  value_there = ap (take w) here ∙ take_at v (m ++ r) w v-long

  from-mask : drop (a + w) c ≡ m ++ r
  from-mask = drop_past c a here w ∙ drop_at v (m ++ r) w v-long

  pub mask-there : part w (a + w) c ≡ m
  mask-there = ap (take w) from-mask ∙ take_at m r w m-long

  pub after-rows : drop (a + w + w) c ≡ r
  after-rows = drop_past c (a + w) from-mask w ∙ drop_at m r w m-long

-- ---- decode, then encode

module _ (c : List ℕ) where
  -- the next n bytes, and then the rest
  pub part_then : (n a : ℕ) {t : List ℕ} → t ≡ drop (a + n) c → part n a c ++ t ≡ drop a c
  part_then n a e = rw (e, ← drop-drop n a c) (take-append-drop n (drop a c))

  -- the same, where the n bytes are those of a number
  pub number-then : (n a : ℕ) {t : List ℕ} → Bytes c → a + n ≤ length c → t ≡ drop (a + n) c → to_be n (be (part n a c)) ++ t ≡ drop a c
  number-then n a h l e = rw (to_be-be n (part n a c) (part_length n a c l) (part_bytes n a c h)) (part_then n a e)

  pub number-last : (n a : ℕ) → Bytes c → a + n ≡ length c → to_be n (be (part n a c)) ≡ drop a c
  number-last n a h l =
      to_be-be n (part n a c) (part_length n a c (omega arith)) (part_bytes n a c h)
      ∙ take_all n (drop a c) (simp length-drop (omega arith))

  -- the same, where they are two bytes that are known
  pub pair_then : (a : ℕ) {x y : ℕ} {t : List ℕ} → get_or c a 0 ≡ x → get_or c (a + 1) 0 ≡ y → a + 2 ≤ length c → t ≡ drop (a + 2) c
      → (x ∷ y ∷ []) ++ t ≡ drop a c
  pair_then a {t} p q l e = rw (← p, ← q) (ap (λ (r : List ℕ). r ++ t) (reads-part 1 a c l) ∙ part_then 2 a e)

  -- the last two
  pub pair-last : (a : ℕ) {x y : ℕ} → get_or c a 0 ≡ x → get_or c (a + 1) 0 ≡ y → a + 2 ≡ length c → x ∷ y ∷ [] ≡ drop a c
  pair-last a p q l = rw (← p, ← q, reads-part 1 a c (omega arith)) (take_all 2 (drop a c) (simp length-drop (omega arith)))

  -- the last three
  pub triple-last : (a : ℕ) {x y z : ℕ} → get_or c a 0 ≡ x → get_or c (a + 1) 0 ≡ y → get_or c (a + 2) 0 ≡ z → a + 3 ≡ length c
      → x ∷ y ∷ z ∷ [] ≡ drop a c
  triple-last a p q r l = rw (← p, ← q, ← r, reads-part 2 a c (omega arith)) (take_all 3 (drop a c) (simp length-drop (omega arith)))
