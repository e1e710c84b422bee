-- A miss at the keeper, whose write goes to the table. Assumes nothing.
use mathlib.Core.Path.{◌≡◌, sym, ap, ◌∙◌}
use mathlib.Core.List.{List}
use Rattle.std.specs.Prelude.{Some, option_map}
use Rattle.std.proofs.lemmas.Option.{same_Some}
use Prim.Native.Nat.{ℕ}
use lib.ListN.{set}
use Rattle.ends.specs.Records.{Slot, Write, write_for, entry_in, written}
use Rattle.ends.specs.Ends.{PolicyView, Miss, no_rule, again, new_entry, used_up, miss_keeper, miss_write}
use Rattle.model.proofs.Cases.{none-some}
use Rattle.ternary.specs.Sizes.{key_size}
use Rattle.end_records.specs.Slots.{slots}
use Rattle.end_records.specs.MessageStructs.{as_write}
use Rattle.end_records.specs.declared.write.Write.{Write as WriteStruct}
use Rattle.miss.specs.Decision.{policy_view, DecidedAs}
use Rattle.miss.specs.declared.decision.Decision.{Decision}
use Rattle.miss.specs.Decide.{miss_in}
use Rattle.miss.specs.Carry.{NewEntryPut}
use Rattle.miss.proofs.OutcomeLaws.{again-given, entry-given}
use Rattle.run.specs.Send.{ends_in, sent_ends}
use Rattle.run.specs.Packets.{PacketDone, missed_outcome, missed_ends}

module _ (policy keeper : List ℕ) (d : Decision) where
  abbrev k : List Slot
  k = slots key_size keeper

  abbrev n : ℕ
  n = d.outcome.outcome

  abbrev p : PolicyView
  p = policy_view policy

  -- where a write is given the entry was put, unless it is given again
  entered : {keeper' : List ℕ} {w : Write} (m : Miss) → DecidedAs policy keeper m d → miss_write k m ≡ Some w → NewEntryPut n w keeper keeper'
      → slots key_size keeper' ≡ miss_keeper k m
  entered no_rule is e put = none-some e
  entered (again i) is e put = rw (again-given p k d.outcome i is.outcome).1 at put.meaning
  entered (new_entry i x) is e put =
      rw (entry-given p k d.outcome i x is.outcome).1 at put.meaning
      ∙ ap (λ (w : Write). set k w.slot (written (entry_in w))) (sym (same_Some (write_for i x) _ e))
  entered (used_up r) is e put = none-some e

  module _ (key table : List ℕ) (is : DecidedAs policy keeper (miss_in policy key keeper) d) where
    abbrev Is : List ℕ → List ℕ → Type 0
    Is table' keeper' =
        PacketDone (missed_outcome policy key keeper) (missed_ends policy key table keeper) d.outcome table' keeper'

    pub missed-sent : {w : WriteStruct} {keeper₁ table' keeper' : List ℕ} → d.write ≡ Some w → NewEntryPut n (as_write w) keeper keeper₁
        → ends_in table' keeper' ≡ sent_ends table keeper₁ (as_write w) → Is table' keeper'
    missed-sent {w} t put sent =
        let e : miss_write k (miss_in policy key keeper) ≡ Some (as_write w) = sym is.write ∙ ap (option_map as_write) t in
        record { outcome = is.outcome; ends = rw (← entered (miss_in policy key keeper) is e put, e) sent }
