-- What a call does to the state: it is one event of the model, or it is a run, which is several. Assumes nothing.
use mathlib.Core.Path.{◌≡◌, ap, sym, ◌∙◌}
use mathlib.Core.List.{List}
use Rattle.std.specs.Prelude.{Option, None, Some}
use Prim.Native.Nat.{ℕ, ◌*◌}
use lib.ListN.{length}
use Rattle.model.specs.Bits.{Bytes}
use Rattle.ends.specs.Records.{Slot, Totals}
use Rattle.ends.specs.Ends.{PolicyView}
use Rattle.ends.specs.Trace.{Ends}
use Rattle.ternary.specs.Sizes.{key_size}
use Rattle.buffers.specs.Parts.{spelled}
use Rattle.records.specs.Layout.{slot_size}
use Rattle.records.specs.Traces.{keys}
use Rattle.checks.specs.declared.refusal.Refusal.{Refusal}
use Rattle.end_records.specs.Slots.{encode_slot}
use Rattle.end_records.proofs.SlotBytes.{ByteSlots, spelled-long, spelled-bytes}
use Rattle.policy.specs.Refusals.{AcceptedBytes}
use Rattle.miss.specs.Decision.{policy_view}
use Rattle.run.specs.Send.{ends_in}
use Rattle.run.specs.Refusals.{run_refusal}
use Rattle.run.specs.Runs.{ends_of, RunResult, run_of, RunIs}
use Rattle.run.specs.declared.Ran.{Ran}
use Rattle.promises.specs.Calls.{State, after, run as run_call}
use Rattle.promises.proofs.PacketBytes.{trace-byte}
use Rattle.promises.proofs.Grown.{Grown, grown-step, grown-run}
use Rattle.promises.proofs.Meaning.{meaning, Formed, Replaced, Stepped, both-slots, stayed}

-- the state after a call is formed, and grown from cleared ends if the one before it was
pub record Next (p : PolicyView) (count : ℕ) (s s' : State) : Type 0 where
  pub formed : Formed count s'
  pub grown : Grown p count (meaning s) → Grown p count (meaning s')

pub by-event : {p : PolicyView} {count : ℕ} {s s' : State} → Stepped p count s s' → Next p count s s'
by-event {p} {count} {s} {s'} is =
    record { formed = is.formed; grown = λ g. rw is.meant (grown-step p count (meaning s) g is.event) }

module _ (policy : List ℕ) (b : Bytes policy) (accepted : AcceptedBytes policy) {count : ℕ} {s : State} (f : Formed count s) where
  module _ {trace out : List ℕ} {t : Totals} {r : Ran} {table' keeper' out' : List ℕ}
      (is : RunIs policy trace s.table s.keeper out t r table' keeper' out')
      (fine : run_refusal policy trace s.table s.keeper (length out) t ≡ None) where
    abbrev ends : Ends
    ends = ends_of policy trace s.table s.keeper

    abbrev next : State
    next = after s (run_call policy trace out t r table' keeper' out')

    -- its events follow those that went before
    run-grown : Grown (policy_view policy) count (meaning s) → Grown (policy_view policy) count (meaning next)
    unfolding meaning
    run-grown g = grown-run (policy_view policy) count (meaning s) g (keys key_size trace) (ends_in table' keeper') (rw fine at is.meaning)

    -- an end's bytes after it spell slots that bytes can hold, as many as before
    spelt-again : (bs bs' : List ℕ) (new : List Slot) → length bs ≡ slot_size key_size * count → bs' ≡ spelled encode_slot new
        → ByteSlots count new → Replaced bs bs'
    spelt-again bs bs' new l e h = rw e (record { long = spelled-long count new h ∙ sym l; bytes = spelled-bytes count new h })

    replaced : Replaced s.keeper keeper' × Replaced s.table table'
    unfolding run_of
    replaced =
        let shown = rw fine at is.whole in
        let bytes = trace-byte policy b accepted f.some-there (keys key_size trace) (ends_in s.table s.keeper) (both-slots f) in (
          spelt-again s.keeper keeper' ends.keeper f.keeper-long (ap (λ (x : RunResult). x.keeper) shown) bytes.keeper,
          spelt-again s.table table' ends.table f.table-long (ap (λ (x : RunResult). x.table) shown) bytes.table,
        )

    run-formed : Formed count next
    run-formed =
        let bytes = replaced in
        record {
          some-there = f.some-there;
          few-there = f.few-there;
          keeper-long = bytes.0.long ∙ f.keeper-long;
          keeper-bytes = bytes.0.bytes;
          table-long = bytes.1.long ∙ f.table-long;
          table-bytes = bytes.1.bytes;
          writes-formed = f.writes-formed;
          reports-formed = f.reports-formed;
        }

  -- a run that is not refused uses the one policy
  pub ran : (policy' : List ℕ) {trace out : List ℕ} {t : Totals} {r : Ran} {table' keeper' out' : List ℕ}
      → RunIs policy' trace s.table s.keeper out t r table' keeper' out'
      → (o : Option Refusal) → run_refusal policy' trace s.table s.keeper (length out) t ≡ o
      → (run_refusal policy' trace s.table s.keeper (length out) t ≡ None → policy' ≡ policy)
      → Next (policy_view policy) count s (after s (run_call policy' trace out t r table' keeper' out'))
  unfolding run_of
  ran policy' is (Some x) e uses =
      let shown = rw e at is.whole in
      rw (ap (λ (x : RunResult). x.table) shown, ap (λ (x : RunResult). x.keeper) shown) (by-event (stayed f))
  ran policy' is None e uses =
      let q : policy' ≡ policy = uses e in
      record { formed = run-formed (rw q at is) (rw q at e); grown = run-grown (rw q at is) (rw q at e) }
