-- What a state's bytes mean in the model, and what holds of every state that a sequence of calls leads to. Assumes nothing.
use mathlib.Core.Path.{◌≡◌, refl, ◌∙◌}
use mathlib.Core.List.{List, map, Memᴰ}
use Rattle.std.specs.Prelude.{Option}
use Prim.Native.Nat.{ℕ, ◌+◌, ◌*◌, ◌≤◌, ◌<◌}
use native.Mathlib.Omega.{arith}
use lib.ListN.{length}
use Rattle.model.specs.Bits.{Bytes}
use Rattle.ends.specs.Records.{Write, Report}
use Rattle.ends.specs.Ends.{PolicyView}
use Rattle.ends.specs.World.{World, Event, refused, sent, step}
use Rattle.ternary.specs.Sizes.{key_size, positions}
use Rattle.records.specs.Layout.{slot_size, most_slots}
use Rattle.end_records.specs.Slots.{slots}
use Rattle.records.specs.SlotBuffers.{slot_count, WholeSlots}
use Rattle.records.proofs.SlotBufferLaws.{whole-slots}
use Rattle.end_records.proofs.SlotBytes.{ByteSlots, slots-byte}
use Rattle.end_records.specs.Writes.{decode_write}
use Rattle.end_records.specs.Reports.{decode_report}
use Rattle.run.specs.Send.{ends_in}
use Rattle.promises.specs.Calls.{State}
use Rattle.promises.proofs.MessageBytes.{WriteBytes, ReportBytes}
use Rattle.promises.proofs.PacketBytes.{ByteEnds}
use Rattle.promises.proofs.Given.{Gives, sent-formed}

unfoldable pub meaning : State → World
meaning s =
    record {
      keeper = slots key_size s.keeper;
      table = slots key_size s.table;
      writes = map (decode_write key_size) s.writes;
      reports = map decode_report s.reports;
    }

pub same-world : {a b : World} → a.keeper ≡ b.keeper → a.table ≡ b.table → a.writes ≡ b.writes → a.reports ≡ b.reports → a ≡ b
same-world p q r t i = record { keeper = p i; table = q i; writes = r i; reports = t i }

-- two ends of so many slots, and only messages as the ends give them
pub record Formed (count : ℕ) (s : State) : Type 0 where
  pub some-there : 1 ≤ count
  pub few-there : count ≤ most_slots
  pub keeper-long : length s.keeper ≡ slot_size key_size * count
  pub keeper-bytes : Bytes s.keeper
  pub table-long : length s.table ≡ slot_size key_size * count
  pub table-bytes : Bytes s.table
  pub writes-formed : (m : List ℕ) → Memᴰ m s.writes → WriteBytes m
  pub reports-formed : (m : List ℕ) → Memᴰ m s.reports → ReportBytes m

-- bytes of the same length
pub record Replaced (bs bs' : List ℕ) : Type 0 where
  pub long : length bs' ≡ length bs
  pub bytes : Bytes bs'

-- an event leads from what one state means to what the other means, which is formed too
pub record Stepped (p : PolicyView) (count : ℕ) (s s' : State) : Type 0 where
  pub event : Event
  pub meant : meaning s' ≡ step positions p (meaning s) event
  pub formed : Formed count s'

module _ {count : ℕ} {s : State} (f : Formed count s) where
  pub whole_of : (bs : List ℕ) → length bs ≡ slot_size key_size * count → WholeSlots bs
  whole_of bs l = whole-slots bs count l f.some-there f.few-there

  pub keeper-whole : WholeSlots s.keeper
  keeper-whole = whole_of s.keeper f.keeper-long

  pub table-whole : WholeSlots s.table
  table-whole = whole_of s.table f.table-long

  -- a slot of the keeper ends within its bytes
  pub keeper-room : (i : ℕ) → i < slot_count key_size s.keeper → slot_size key_size * i + slot_size key_size ≤ length s.keeper
  keeper-room i l = omega (arith, keeper-whole.whole)

  -- the slots are ones that bytes can hold
  pub keeper-slots : ByteSlots (slot_count key_size s.keeper) (slots key_size s.keeper)
  keeper-slots = slots-byte s.keeper keeper-whole f.keeper-bytes

  pub table-slots : ByteSlots (slot_count key_size s.table) (slots key_size s.table)
  table-slots = slots-byte s.table table-whole f.table-bytes

  -- and each end has so many
  pub both-slots : ByteEnds count (ends_in s.table s.keeper)
  both-slots =
      let k : slot_count key_size s.keeper ≡ count = omega (arith, f.keeper-long) in
      let t : slot_count key_size s.table ≡ count = omega (arith, f.table-long) in
      record { keeper = rw k at keeper-slots; table = rw t at table-slots }

  -- nothing changed
  pub stayed : {p : PolicyView} → Stepped p count s s
  unfolding step
  stayed = record { event = refused; meant = refl; formed = f }

  -- the table's bytes are replaced, and a report may be given
  pub table-formed : {table' : List ℕ} (o : Option (List ℕ)) {g : Option Report} → Replaced s.table table'
      → Gives decode_report ReportBytes o g
      → Formed count (record { keeper = s.keeper; table = table'; writes = s.writes; reports = sent o s.reports })
  table-formed o b is =
      record {
        some-there = f.some-there;
        few-there = f.few-there;
        keeper-long = f.keeper-long;
        keeper-bytes = f.keeper-bytes;
        table-long = b.long ∙ f.table-long;
        table-bytes = b.bytes;
        writes-formed = f.writes-formed;
        reports-formed = sent-formed o s.reports is f.reports-formed;
      }

  -- the keeper's bytes are replaced, and a write may be given
  pub keeper-formed : {keeper' : List ℕ} (o : Option (List ℕ)) {g : Option Write} → Replaced s.keeper keeper'
      → Gives (decode_write key_size) WriteBytes o g
      → Formed count (record { keeper = keeper'; table = s.table; writes = sent o s.writes; reports = s.reports })
  keeper-formed o b is =
      record {
        some-there = f.some-there;
        few-there = f.few-there;
        keeper-long = b.long ∙ f.keeper-long;
        keeper-bytes = b.bytes;
        table-long = f.table-long;
        table-bytes = f.table-bytes;
        writes-formed = sent-formed o s.writes is f.writes-formed;
        reports-formed = f.reports-formed;
      }
