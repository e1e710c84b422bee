-- Buffers that are all zero mean cleared slots: the model's start. Assumes nothing.
use mathlib.Core.Path.{◌≡◌, sym, ap, ◌∙◌}
use mathlib.Core.List.Memᴰ
use mathlib.Core.List.{List, ◌++◌}
use Prim.Native.Nat.{ℕ, zero, suc, ◌+◌, ◌*◌, ◌-◌, ◌≤◌, ◌<◌}
use native.Mathlib.Omega.{arith}
use lib.ListN.{length, get_or, replicate, length-replicate, get_or-replicate, replicate-append-replicate}
use lib.Seq.{take_at, drop_at, ext_get_or}
use Rattle.ends.specs.Records.{cleared}
use Rattle.ends.specs.World.{start}
use Rattle.ternary.specs.Sizes.{key_size}
use Rattle.buffers.specs.BigEndian.{be}
use Rattle.buffers.specs.Parts.{chunk}
use Rattle.records.specs.Layout.{slot_size, most_slots}
use Rattle.end_records.specs.Slots.{decode_slot, slots}
use Rattle.end_records.proofs.SlotLaws.{slot-count, slot-at}
use Rattle.promises.specs.Calls.{cleared_ends}
use Rattle.promises.proofs.Meaning.{meaning, Formed}

abbrev zeros : ℕ → List ℕ
zeros n = replicate n 0

zeros-long : (n : ℕ) → length (zeros n) ≡ n
zeros-long n = length-replicate {A = ℕ} n 0

zeros-byte : (n i : ℕ) → get_or (zeros n) i 0 < 256
zeros-byte zero i = omega arith
zeros-byte (suc n) zero = omega arith
zeros-byte (suc n) (suc i) = zeros-byte n i

zeros-cut : (m n : ℕ) → zeros m ++ zeros n ≡ zeros (m + n)
zeros-cut m n = replicate-append-replicate {A = ℕ} m n 0

-- the i-th slot's bytes, where j slots follow it
chunk-there : (i j : ℕ) → chunk (slot_size key_size) (zeros (slot_size key_size * (i + suc j))) i ≡ zeros (slot_size key_size)
chunk-there i j =
    let size : ℕ = slot_size key_size in
    let n : size * (i + suc j) ≡ size * i + (size + size * j) = omega arith in
    let cut : zeros (size * (i + suc j)) ≡ zeros (size * i) ++ (zeros size ++ zeros (size * j)) =
    ap zeros n ∙ sym (zeros-cut (size * i) (size + size * j)) ∙ ap (λ (r : List ℕ). zeros (size * i) ++ r) (sym (zeros-cut size (size * j)))
    in
    rw (cut, drop_at (zeros (size * i)) (zeros size ++ zeros (size * j)) (size * i) (zeros-long (size * i)))
    (take_at (zeros size) (zeros (size * j)) size (zeros-long size))

module _ (count : ℕ) where
  abbrev bs : List ℕ
  bs = zeros (slot_size key_size * count)

  slot-there : (i : ℕ) → i < count → decode_slot key_size (chunk (slot_size key_size) bs i) ≡ cleared key_size
  unfolding decode_slot be
  slot-there i l =
      let n : count ≡ i + suc (count - i - 1) = omega arith in
      let here : chunk (slot_size key_size) bs i ≡ zeros (slot_size key_size) =
      ap (λ (k : ℕ). chunk (slot_size key_size) (zeros (slot_size key_size * k)) i) n ∙ chunk-there i (count - i - 1)
      in
      ap (decode_slot key_size) here

  slots-there : slots key_size bs ≡ replicate count (cleared key_size)
  slots-there =
      let long : length (slots key_size bs) ≡ count = omega (arith, slot-count key_size bs, zeros-long (slot_size key_size * count)) in
      ext_get_or (cleared 0) (slots key_size bs) (replicate count (cleared key_size)) (long ∙ sym (length-replicate count (cleared key_size)))
      (λ i l.
      slot-at key_size bs i (omega (arith, slot-count key_size bs))
      ∙ slot-there i (omega arith)
      ∙ sym (get_or-replicate count i (cleared key_size) (cleared 0) (omega arith)))

  pub start-meant : meaning (cleared_ends count) ≡ start key_size count
  unfolding meaning cleared_ends start
  start-meant = rw slots-there

  pub start-formed : 1 ≤ count → count ≤ most_slots → Formed count (cleared_ends count)
  unfolding cleared_ends
  start-formed one few =
      record {
        some-there = one;
        few-there = few;
        keeper-long = zeros-long (slot_size key_size * count);
        keeper-bytes = record { byte = zeros-byte (slot_size key_size * count) };
        table-long = zeros-long (slot_size key_size * count);
        table-bytes = record { byte = zeros-byte (slot_size key_size * count) };
        writes-formed = λ m h. absurd (Memᴰ.not-nil h);
        reports-formed = λ m h. absurd (Memᴰ.not-nil h);
      }
