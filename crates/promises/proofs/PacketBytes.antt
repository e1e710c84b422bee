-- The packets of a run leave slots that bytes can hold at both ends, as many as before. Assumes nothing.
use mathlib.Core.Path.{◌≡◌, refl}
use mathlib.Core.List.{List, [], ◌∷◌}
use Rattle.std.specs.Prelude.{Option, None, Some}
use Prim.Native.Nat.{ℕ, ◌^◌, ◌≤◌, ◌<◌}
use native.Mathlib.Omega.{arith}
use lib.ListN.{set}
use Rattle.model.specs.Bits.{Bytes}
use Rattle.ends.specs.Records.{Slot, Write, Report, entry_in, write_for, written, report_for, slot_at, entry_at}
use Rattle.ends.specs.Ends.{Key, first_for, counted, Miss, no_rule, again, new_entry, used_up, on_miss, miss_keeper, miss_write}
use Rattle.ends.specs.Ends.{write_refusal, is_newer, after_write, write_report, report_refusal, is_current, after_report}
use Rattle.ends.specs.Trace.{Ends, reported_to, written_to, sent_to, packet_ends, one_packet, trace}
use Rattle.model.proofs.Cases.{cond-elim}
use Rattle.ternary.specs.Sizes.{key_size, positions}
use Rattle.end_records.proofs.ByteSlots.{ByteSlot, with_byte, counted-byte, confirmed-byte}
use Rattle.end_records.proofs.SlotBytes.{ByteSlots, set-byte, hits-low}
use Rattle.policy.specs.Refusals.{AcceptedBytes}
use Rattle.miss.specs.Decision.{policy_view}
use Rattle.promises.proofs.MissBytes.{held-inside, MissFits, miss-fits}

-- so many slots at each end, all of which bytes can hold
pub record ByteEnds (count : ℕ) (e : Ends) : Type 0 where
  pub keeper : ByteSlots count e.keeper
  pub table : ByteSlots count e.table

module _ {count : ℕ} where
  -- ---- a message is delivered

  reported-byte : (k : List Slot) (r : Report) (o : Option ℕ) → ByteSlots count k → r.hits < 2 ^ 32 → ByteSlots count (reported_to k r o)
  unfolding after_report
  reported-byte k r (Some refusal) h low = h
  reported-byte k r None h low =
      cond-elim (ByteSlots count) (is_current k r)
      (λ e. set-byte h r.slot _ (λ l. confirmed-byte key_size _ _ (h.each r.slot l) low))
      (λ e. h)

  module _ (k t : List Slot) (x : Write) (h : ByteSlots count k) (g : ByteSlots count t)
      (new : x.slot < count → ByteSlot key_size (written (entry_in x))) where
    after-byte : ByteSlots count (after_write t x)
    unfolding after_write
    after-byte = cond-elim (ByteSlots count) (is_newer t x) (λ e. set-byte g x.slot _ new) (λ e. g)

    written_byte : (o : Option ℕ) → ByteEnds count (written_to k t x o)
    unfolding write_report
    written_byte (Some refusal) = record { keeper = h; table = g }
    written_byte None =
        record {
          keeper = reported-byte k (write_report t x) (report_refusal k (write_report t x)) h (hits-low after-byte x.slot);
          table = after-byte;
        }

  -- ---- a packet

  -- a miss's write goes to the table
  missed-byte : (k t : List Slot) → ByteSlots count k → ByteSlots count t → (m : Miss) → MissFits count m
      → ByteEnds count (sent_to positions (miss_keeper k m) t (miss_write k m))
  missed-byte k t h g no_rule fits = record { keeper = h; table = g }
  missed-byte k t h g (again i) fits =
      let x : Write = write_for i (entry_at k i) in
      let same = with_byte key_size (slot_at k i) 0 0 0 (h.each i fits) (omega arith) (omega arith) (omega arith) in
      written_byte k t x h g (λ l. same) (write_refusal positions t x)
  missed-byte k t h g (new_entry i e) fits =
      let x : Write = write_for i e in
      written_byte (set k i (written e)) t x (set-byte h i (written e) (λ l. fits.1)) g (λ l. fits.1) (write_refusal positions t x)
  missed-byte k t h g (used_up r) fits = record { keeper = h; table = g }

  module _ (policy : List ℕ) (b : Bytes policy) (accepted : AcceptedBytes policy) (one : 1 ≤ count) where
    packet-byte : (e : Ends) (key : Key) → ByteEnds count e → (at : Option ℕ) → first_for positions e.table key ≡ at
        → ByteEnds count (packet_ends positions (policy_view policy) e.keeper e.table key at)
    packet-byte e key h None q =
        missed-byte e.keeper e.table h.keeper h.table (on_miss positions (policy_view policy) e.keeper key)
        (miss-fits policy b accepted e.keeper h.keeper one key)
    packet-byte e key h (Some i) q =
        let l = held-inside h.table key i q in
        let hit = counted-byte key_size (slot_at e.table i) (h.table.each i l) in
        let r : Report = report_for i (counted (slot_at e.table i)) in
        record {
          keeper = reported-byte e.keeper r (report_refusal e.keeper r) h.keeper hit.fits.hits-fits;
          table = set-byte h.table i (counted (slot_at e.table i)) (λ z. hit);
        }

    -- ---- each packet in order

    pub trace-byte : (keys : List Key) (e : Ends) → ByteEnds count e → ByteEnds count (trace positions (policy_view policy) e keys)
    unfolding trace one_packet
    trace-byte [] e h = h
    trace-byte (key ∷ keys) e h =
        trace-byte keys (one_packet positions (policy_view policy) e key) (packet-byte e key h (first_for positions e.table key) refl)
