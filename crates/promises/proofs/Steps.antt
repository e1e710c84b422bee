-- Every call of a sequence is one event of the model, or a run; a refused one is the event that changes nothing. Assumes nothing.
use mathlib.Core.Path.{refl}
use mathlib.Core.List.{List}
use Prim.Native.Nat.{ℕ}
use lib.ListN.{length}
use Rattle.model.specs.Bits.{Bytes}
use Rattle.policy.specs.Refusals.{AcceptedBytes}
use Rattle.table.specs.Lookups.{lookup_refusal}
use Rattle.table.specs.Writes.{write_call_refusal}
use Rattle.keeper.specs.Reports.{report_refused}
use Rattle.miss.specs.Decision.{policy_view}
use Rattle.miss.specs.Answers.{miss_refused}
use Rattle.run.specs.Refusals.{run_refusal}
use Rattle.promises.specs.Calls.{State, Call, lookup, write, miss, report, open_slots, run, Promised, Linked, after}
use Rattle.promises.proofs.Meaning.{Formed, stayed}
use Rattle.promises.proofs.TableSteps.{looked, wrote}
use Rattle.promises.proofs.KeeperSteps.{missed, reported}
use Rattle.promises.proofs.RunSteps.{Next, by-event, ran}

module _ (policy : List ℕ) (b : Bytes policy) (accepted : AcceptedBytes policy) {count : ℕ} {s : State} (f : Formed count s) where
  pub stepped : (c : Call) → Promised s c → Linked policy s c → Next (policy_view policy) count s (after s c)
  stepped (lookup key out r table' out') is linked = by-event (looked (policy_view policy) f is (lookup_refusal key s.table (length out)) refl)
  stepped (write m out r table' out') is linked =
      by-event (wrote (policy_view policy) f is (write_call_refusal s.table m (length out)) refl linked)
  stepped (miss used key out r keeper' out') is linked =
      by-event (missed f policy b accepted key used is (miss_refused used key s.keeper (length out)) refl linked)
  stepped (report m r keeper') is linked = by-event (reported f (policy_view policy) is (report_refused s.keeper m) refl linked)
  stepped (open_slots out r out') is linked = by-event (stayed f)
  stepped (run used trace out t r table' keeper' out') is linked =
      ran policy b accepted f used is (run_refusal used trace s.table s.keeper (length out) t) refl linked
