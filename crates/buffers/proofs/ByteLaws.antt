-- Lists of bytes: built, joined, with a part or a byte replaced; and the numbers that two bytes and four can spell. Assumes nothing.
use mathlib.Core.List.{List, [], ◌∷◌, ◌++◌}
use Prim.Native.Nat.{ℕ, zero, suc, ◌+◌, ◌-◌, ◌/◌, ◌%◌, ◌^◌, ◌≤◌, ◌<◌}
use native.Mathlib.Omega.{arith}
use lib.ListN.{length, take, drop, get_or, set}
use Rattle.model.specs.Bits.{Bytes, put_bit, with_bits}
use Rattle.model.proofs.BitLaws.{put-lt}
use Rattle.buffers.specs.BigEndian.{be, to_be}
use Rattle.buffers.specs.Parts.{part, splice}
use Rattle.buffers.proofs.BigEndianLaws.{be-two, be-halves}
use Rattle.buffers.proofs.PartLaws.{part_bytes, drop-bytes}

pub byte_more : {b : ℕ} {bs : List ℕ} → b < 256 → Bytes bs → Bytes (b ∷ bs)
byte_more {b} {bs} l h = record { byte = go }
  where
    go : (i : ℕ) → get_or (b ∷ bs) i 0 < 256
    go zero = l
    go (suc i) = h.byte i

pub byte-none : Bytes []
byte-none = record { byte = λ i. omega arith }

pub append-bytes : (xs ys : List ℕ) → Bytes xs → Bytes ys → Bytes (xs ++ ys)
append-bytes [] ys h k = k
append-bytes (x ∷ xs) ys h k = byte_more (h.byte 0) (append-bytes xs ys (record { byte = λ i. h.byte (suc i) }) k)

pub splice-bytes : (at : ℕ) (xs bs : List ℕ) → Bytes xs → Bytes bs → Bytes (splice at xs bs)
unfolding splice
splice-bytes at xs bs h k =
    append-bytes (take at bs ++ xs) (drop (at + length xs) bs) (append-bytes (take at bs) xs (part_bytes at 0 bs k) h)
    (drop-bytes (at + length xs) bs k)

set-bytes : (xs : List ℕ) (i v : ℕ) → v < 256 → Bytes xs → Bytes (set xs i v)
set-bytes [] i v l h = h
set-bytes (x ∷ xs) zero v l h = byte_more l (record { byte = λ i. h.byte (suc i) })
set-bytes (x ∷ xs) (suc i) v l h = byte_more (h.byte 0) (set-bytes xs i v l (record { byte = λ i. h.byte (suc i) }))

-- a row with some bits fixed
pub fixed-bytes : (f : ℕ → ℕ) → ((p : ℕ) → f p < 2) → (row ps : List ℕ) → Bytes row → Bytes (with_bits f row ps)
unfolding with_bits put_bit
fixed-bytes f low row [] h = h
fixed-bytes f low row (p ∷ ps) h =
    fixed-bytes f low (put_bit row p (f p)) ps
    (set-bytes row (p / 8) _ (put-lt 8 (get_or row (p / 8) 0) (7 - p % 8) (f p) (h.byte (p / 8)) (omega arith) (low p)) h)

-- ---- numbers

pub to_be-bytes : (k n : ℕ) → Bytes (to_be k n)
to_be-bytes zero n = byte-none
to_be-bytes (suc k) n = append-bytes (to_be k (n / 256)) (n % 256 ∷ []) (to_be-bytes k (n / 256)) (byte_more (omega arith) byte-none)

-- the numbers of two bytes and of four
pub two-below : (at : ℕ) (c : List ℕ) → Bytes c → at + 2 ≤ length c → be (part 2 at c) < 2 ^ 16
two-below at c h l = omega (arith, be-two at c l, h.byte at, h.byte (at + 1))

pub four_below : (at : ℕ) (c : List ℕ) → Bytes c → at + 4 ≤ length c → be (part 4 at c) < 2 ^ 32
four_below at c h l = omega (arith, be-halves at c l, two-below at c h (omega arith), two-below (at + 2) c h (omega arith))
