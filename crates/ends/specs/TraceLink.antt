-- A trace run is one of the sequences of events that demand 3 speaks of, and what an end can refuse within it. Assumes nothing.
use Rattle.std.specs.Prelude.{◌≡◌, List, ◌++◌, ◌⊎◌, ℕ, ◌*◌, ◌≤◌, length, Option, None, Some}
use Rattle.model.specs.Policy.{Rule, Accepted}
use Rattle.ends.specs.Records.{Entry, Write, write_for, report_for, slot_at, entry_at}
use Rattle.ends.specs.Ends.{Key, PolicyView, by_policy, first_for, counted, again, new_entry, on_miss, miss_keeper, miss_write}
use Rattle.ends.specs.Ends.{write_refusal, write_report, report_refusal}
use Rattle.model.specs.Refusals.{bad_record, report_ahead}
use Rattle.ends.specs.World.{World, Event, start, run}
use Rattle.ends.specs.Promise.{Kept, Sound}
use Rattle.ends.specs.Trace.{Ends, trace}

-- the two ends of a world
abbrev pub ends_of : World → Ends
ends_of a = record { keeper = a.keeper; table = a.table }

-- so ends that grew from cleared ones have grown so after the run too: its events follow those that went before
abbrev pub GrownByRun : Type 0
GrownByRun = (n : ℕ) (p : PolicyView) (w slots : ℕ) (events : List Event) (e : Ends) (keys : List Key)
    → e ≡ ends_of (run n p (start w slots) events)
    → (more : List Event) × (trace n p e keys ≡ ends_of (run n p (start w slots) (events ++ more)))

-- and all that is promised is kept after it, of the two ends and of every message that was given before it or in it
abbrev pub KeptByRun : Type 0
KeptByRun = (w most : ℕ) (pol : List Rule) → Accepted w most pol → (slots : ℕ) → 1 ≤ slots
    → (events : List Event) (e : Ends) (keys : List Key) → e ≡ ends_of (run (w * 8) (by_policy (w * 8) pol) (start w slots) events)
    → (more : List Event) × (let a = run (w * 8) (by_policy (w * 8) pol) (start w slots) (events ++ more) in
    (trace (w * 8) (by_policy (w * 8) pol) e keys ≡ ends_of a) × Kept (w * 8) (by_policy (w * 8) pol) a)

-- from such ends neither end refuses within the run: at no packet the report of a hit, nor a miss's write, nor that write's report
pub record NoInnerRefusal (n : ℕ) (p : PolicyView) (e : Ends) (key : Key) : Type 0 where
  pub hit : (i : ℕ) → first_for n e.table key ≡ Some i → report_refusal e.keeper (report_for i (counted (slot_at e.table i))) ≡ None
  pub write : (x : Write) → miss_write e.keeper (on_miss n p e.keeper key) ≡ Some x → write_refusal n e.table x ≡ None
  pub answer : (x : Write) → miss_write e.keeper (on_miss n p e.keeper key) ≡ Some x
      → report_refusal (miss_keeper e.keeper (on_miss n p e.keeper key)) (write_report e.table x) ≡ None

abbrev pub InnerPromise : Type 0
InnerPromise = (w most : ℕ) (pol : List Rule) → Accepted w most pol → (slots : ℕ) → 1 ≤ slots
    → (events : List Event) (e : Ends) → e ≡ ends_of (run (w * 8) (by_policy (w * 8) pol) (start w slots) events)
    → (keys : List Key) (key : Key) → NoInnerRefusal (w * 8) (by_policy (w * 8) pol) (trace (w * 8) (by_policy (w * 8) pol) e keys) key

-- ---- whatever the two ends hold, with as many slots each

-- no refusal, or this one
abbrev pub NoneBut : ℕ → Option ℕ → Type 0
NoneBut r o = (o ≡ None) ⊎ (o ≡ Some r)

-- a new write is taken; a write given again is refused at most for a value bit under a wildcard (3), and a report at most for a sequence
-- larger than the keeper's (11)
pub record InnerRefusals (n : ℕ) (p : PolicyView) (e : Ends) (key : Key) : Type 0 where
  pub new : (i : ℕ) (x : Entry) → on_miss n p e.keeper key ≡ new_entry i x → write_refusal n e.table (write_for i x) ≡ None
  pub resent : (i : ℕ) → on_miss n p e.keeper key ≡ again i → NoneBut bad_record (write_refusal n e.table (write_for i (entry_at e.keeper i)))
  pub hit : (i : ℕ) → first_for n e.table key ≡ Some i
      → NoneBut report_ahead (report_refusal e.keeper (report_for i (counted (slot_at e.table i))))
  pub answer : (x : Write) → miss_write e.keeper (on_miss n p e.keeper key) ≡ Some x → write_refusal n e.table x ≡ None
      → NoneBut report_ahead (report_refusal (miss_keeper e.keeper (on_miss n p e.keeper key)) (write_report e.table x))

abbrev pub InnerRefusalLaw : Type 0
InnerRefusalLaw = (n : ℕ) (p : PolicyView) → Sound n p → (e : Ends) → length e.keeper ≡ length e.table → 1 ≤ length e.table
    → (key : Key) → InnerRefusals n p e key
