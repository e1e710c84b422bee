-- A run's packets: one step, and as many as the trace has. Assumes nothing.
use mathlib.Core.Path.{◌≡◌, refl, sym, ap, ◌∙◌}
use mathlib.Core.List.{List, [], ◌∷◌, ◌++◌}
use Prim.Native.Nat.{ℕ, ◌+◌, ◌*◌, ◌≤◌, ◌<◌}
use native.Mathlib.Numerals.{add-one}
use native.Mathlib.Omega.{arith}
use lib.ListN.{length, take, length-take}
use lib.Seq.{take-suc, take_all}
use Rattle.ends.specs.Records.{Outcome, Totals}
use Rattle.ends.specs.Ends.{Key, PolicyView}
use Rattle.ends.specs.Trace.{Ends, one_packet, trace, one_outcome, outcomes}
use Rattle.ends.specs.Totals.{totals_after}
use Rattle.ends.proofs.Totals.{length-outcomes, cut-law, totals-none, totals-append}
use Rattle.ternary.specs.Sizes.{key_size, positions}
use Rattle.buffers.specs.Parts.{splice, chunk, spelled}
use Rattle.buffers.proofs.PartLaws.{part_length, splice-next}
use Rattle.buffers.proofs.RowLaws.{spelled-more, length-spelled}
use Rattle.records.specs.Layout.{outcome_size, trace_size, most_packets}
use Rattle.records.specs.Traces.{packet_count, key_in, keys, decode_trace}
use Rattle.records.proofs.TraceLaws.{packet-count, key-at}
use Rattle.records.proofs.SlotBufferLaws.{as-whole}
use Rattle.records.specs.Outcomes.{encode_outcome, as_outcome}
use Rattle.records.proofs.OutcomeLaws.{length-outcome, as-outcome-struct}
use Rattle.records.specs.declared.outcome.Outcome.{Outcome as OutcomeStruct}
use Rattle.totals.specs.Sums.{most_total, AtMost}
use Rattle.totals.proofs.SumLaws.{after-most}
use Rattle.miss.specs.Decision.{policy_view}
use Rattle.run.specs.Send.{ends_in}
use Rattle.run.specs.Packets.{FinePacket, PacketDone, packet_outcome, packet_ends}
use Rattle.run.specs.Steps.{RunFits, Stepped, told_by, ends_after, RanOver}

-- ---- a step

-- the key of a record is 13 bytes
key-long : (bs : List ℕ) (i : ℕ) → i < packet_count key_size bs → length (key_in key_size bs i) ≡ key_size
unfolding decode_trace
key-long bs i l =
    let whole = part_length (trace_size key_size) (trace_size key_size * i) bs (omega arith) in
    part_length key_size 0 (chunk (trace_size key_size) bs i) (omega arith)

module _ {policy bs table keeper out key : List ℕ} {i : ℕ}
    (fits : RunFits policy bs table keeper out) (l : i < packet_count key_size bs) (e : key ≡ key_in key_size bs i) where
  pub step-fine : FinePacket policy key table keeper
  step-fine =
      record {
        fine = record { few = fits.few; long = rw e (key-long bs i l); whole = fits.keeper-whole };
        table-whole = fits.table-whole;
      }

  pub stepped : {x : OutcomeStruct} {t t' : Totals} {table' keeper' out' : List ℕ}
      → PacketDone (packet_outcome policy key table keeper) (packet_ends policy key table keeper) x table' keeper'
      → out' ≡ splice (outcome_size * i) (encode_outcome (as_outcome x)) out → t' ≡ totals_after t (as_outcome x ∷ [])
      → Stepped policy (key_in key_size bs i) i table keeper out t table' keeper' out' t'
  stepped {x} did told sums =
      let same : as_outcome x ≡ packet_outcome policy key table keeper = ap as_outcome did.outcome ∙ as-outcome-struct _ in
      rw (← e) (record { ends = did.ends; out-after = rw (← same) told; sums = rw (← same) sums })

-- ---- all steps

module _ (n : ℕ) (p : PolicyView) (key : Key) (e : Ends) where
  one-trace : one_packet n p e key ≡ trace n p e (key ∷ [])
  unfolding trace
  one-trace = refl

  one_told : outcomes n p e (key ∷ []) ≡ one_outcome n p e key ∷ []
  unfolding outcomes
  one_told = refl

-- nothing was run
ran-none : (policy table keeper out : List ℕ) (t : Totals) → RanOver policy [] table keeper out t table keeper out t
unfolding trace outcomes spelled splice
ran-none policy table keeper out t = record { ends = refl; out-after = refl; sums = sym (totals-none t) }

-- the first i packets of a trace were run, and no buffer's length has changed
pub record SoFar (policy bs : List ℕ) (i : ℕ) (table keeper out : List ℕ) (t : Totals) (table₁ keeper₁ out₁ : List ℕ) (t₁ : Totals) : Type 0 where
  pub below : i ≤ packet_count key_size bs
  pub ran : RanOver policy (take i (keys key_size bs)) table keeper out t table₁ keeper₁ out₁ t₁
  pub table-long : length table₁ ≡ length table
  pub keeper-long : length keeper₁ ≡ length keeper
  pub out-long : length out₁ ≡ length out

pub far_none : (policy bs table keeper out : List ℕ) (t : Totals) → SoFar policy bs 0 table keeper out t table keeper out t
far_none policy bs table keeper out t =
    record { below = omega arith; ran = ran-none policy table keeper out t; table-long = refl; keeper-long = refl; out-long = refl }

module _ {policy bs table keeper out table₁ keeper₁ out₁ : List ℕ} {t t₁ : Totals} {i : ℕ}
    (is : SoFar policy bs i table keeper out t table₁ keeper₁ out₁ t₁) where
  -- as many outcomes as keys
  many : length (told_by policy table keeper (take i (keys key_size bs))) ≡ i
  many =
      length-outcomes positions (policy_view policy) (take i (keys key_size bs)) (ends_in table keeper)
      ∙ simp length-take (omega (arith, is.below, packet-count key_size bs))

  -- the totals stay small
  far-most : packet_count key_size bs ≤ most_packets → AtMost most_total t → AtMost (most_total + most_packets) t₁
  far-most few h =
      let m = after-most most_total t (told_by policy table keeper (take i (keys key_size bs))) h in
      rw is.ran.sums
      (record {
        packets = omega (arith, m.packets, many, is.below);
        hits = omega (arith, m.hits, many, is.below);
        misses = omega (arith, m.misses, many, is.below);
        no_rule = omega (arith, m.no_rule, many, is.below);
        evictions = omega (arith, m.evictions, many, is.below);
      })

  -- so the next step may be taken
  pub far-ready : RunFits policy bs table keeper out → AtMost most_total t
      → RunFits policy bs table₁ keeper₁ out₁ × AtMost (most_total + most_packets) t₁
  far-ready h m = (
    record {
      few = h.few;
      short = h.short;
      table-whole = as-whole is.table-long h.table-whole;
      keeper-whole = as-whole is.keeper-long h.keeper-whole;
      room = omega (arith, h.room, is.out-long);
    },
    far-most h.short m,
  )

  module _ {table₂ keeper₂ out₂ : List ℕ} {t₂ : Totals} (l : i < packet_count key_size bs)
      (room : outcome_size * packet_count key_size bs ≤ length out)
      (did : Stepped policy (key_in key_size bs i) i table₁ keeper₁ out₁ t₁ table₂ keeper₂ out₂ t₂) where
    abbrev key : Key
    key = key_in key_size bs i

    abbrev ks : List Key
    ks = take i (keys key_size bs)

    abbrev os : List Outcome
    os = told_by policy table keeper ks

    abbrev o : Outcome
    o = packet_outcome policy key table₁ keeper₁

    next : take (i + 1) (keys key_size bs) ≡ ks ++ (key ∷ [])
    next =
        rw add-one
        (take-suc (keys key_size bs) i [] (omega (arith, l, packet-count key_size bs)) ∙ ap (λ (k : Key). ks ++ (k ∷ [])) (key-at key_size bs i l))

    next-ends : ends_in table₂ keeper₂ ≡ ends_after policy table keeper (ks ++ (key ∷ []))
    next-ends =
        did.ends
        ∙ ap (λ (e : Ends). one_packet positions (policy_view policy) e key) is.ran.ends
        ∙ one-trace positions (policy_view policy) key (ends_after policy table keeper ks)
        ∙ sym (cut-law positions (policy_view policy) (ends_in table keeper) t ks (key ∷ [])).ends

    next-told : told_by policy table keeper (ks ++ (key ∷ [])) ≡ os ++ (o ∷ [])
    next-told =
        (cut-law positions (policy_view policy) (ends_in table keeper) t ks (key ∷ [])).answers
        ∙ ap (λ (e : Ends). os ++ outcomes positions (policy_view policy) e (key ∷ [])) (sym is.ran.ends)
        ∙ ap (λ (qs : List Outcome). os ++ qs) (one_told positions (policy_view policy) key (ends_in table₁ keeper₁))

    next-out : out₂ ≡ splice 0 (spelled encode_outcome (os ++ (o ∷ []))) out
    next-out =
        did.out-after
        ∙ ap (splice (outcome_size * i) (encode_outcome o)) is.ran.out-after
        ∙ splice-next 0 (outcome_size * i) (spelled encode_outcome os) (encode_outcome o) out
        (omega (arith, length-spelled encode_outcome outcome_size length-outcome os, many)) (omega (arith, length-outcome o, l, room))
        ∙ ap (λ (s : List ℕ). splice 0 s out) (sym (spelled-more encode_outcome os o))

    next-sums : t₂ ≡ totals_after t (os ++ (o ∷ []))
    next-sums = did.sums ∙ ap (λ (x : Totals). totals_after x (o ∷ [])) is.ran.sums ∙ sym (totals-append t os (o ∷ []))

    -- one packet more
    pub far-more : length table₂ ≡ length table₁ → length keeper₂ ≡ length keeper₁ → length out₂ ≡ length out₁
        → SoFar policy bs (i + 1) table keeper out t table₂ keeper₂ out₂ t₂
    far-more a b c =
        record {
          below = omega (arith, l);
          ran = rw next (record { ends = next-ends; out-after = rw next-told next-out; sums = rw next-told next-sums });
          table-long = a ∙ is.table-long;
          keeper-long = b ∙ is.keeper-long;
          out-long = c ∙ is.out-long;
        }

  -- all of them
  pub far-all : packet_count key_size bs ≤ i → RanOver policy (keys key_size bs) table keeper out t table₁ keeper₁ out₁ t₁
  far-all h = rw (take_all i (keys key_size bs) (omega (arith, packet-count key_size bs))) at is.ran
