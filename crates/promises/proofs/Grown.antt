-- Worlds grown from cleared ends: the ends are those of the model after some events, and each message is one that those events gave. So it is
-- after one event more, and after a run, whose own messages may be forgotten. Assumes nothing.
use mathlib.Core.Path.{◌≡◌, refl, sym, ◌∙◌, subst}
use mathlib.Core.Logic.{⊎_elim}
use mathlib.Core.List.Memᴰ
use mathlib.Core.List.{List, [], ◌∷◌, ◌++◌, Memᴰ}
use Rattle.std.specs.Prelude.{Option, None, Some}
use Prim.Native.Nat.{ℕ}
use Rattle.std.specs.Prelude.{slice_get}
use Rattle.ends.specs.Records.{Write, Report}
use Rattle.ends.specs.Ends.{Key, PolicyView, lookup, on_miss, miss_write, write_refusal, write_report, report_refusal}
use Rattle.ends.specs.World.{World, Event, miss, write_arrives, report_arrives, packet, refused, start, step, run}
use Rattle.ends.specs.World.{sent, hit_report, unless, table_takes, keeper_takes, deliver_write, deliver_report}
use Rattle.ends.specs.Promise.{Kept}
use Rattle.ends.specs.Trace.{Ends, trace}
use Rattle.ends.specs.TraceLink.{ends_of}
use Rattle.ends.proofs.Events.{arrived}
use Rattle.ends.proofs.TraceLink.{run-append, grown-by-run}
use Rattle.ternary.specs.Sizes.{key_size, positions}
use Rattle.promises.proofs.Given.{member-place}

-- ---- messages among others

abbrev Within : {A : Type 0} → List A → List A → Type 0
Within {A} xs ys = (x : A) → Memᴰ x xs → Memᴰ x ys

module _ {A : Type 0} where
  sent-within : (o : Option A) (xs ys : List A) → Within xs ys → Within (sent o xs) (sent o ys)
  sent-within None xs ys h x m = h x m
  sent-within (Some y) xs ys h x m = ⊎_elim Memᴰ.head (λ t. Memᴰ.tail (h x t)) (Memᴰ.cases_cons m)

  within-sent : (o : Option A) (xs : List A) → Within xs (sent o xs)
  within-sent None xs x m = m
  within-sent (Some y) xs x m = Memᴰ.tail m

-- the same ends, and every message of the first is one of the second's
pub record Among (a b : World) : Type 0 where
  pub ends : ends_of a ≡ ends_of b
  pub writes : Within a.writes b.writes
  pub reports : Within a.reports b.reports

-- the same ends with other messages
abbrev with_messages : World → List Write → List Report → World
with_messages b ws rs = record { keeper = b.keeper; table = b.table; writes = ws; reports = rs }

as-ends : {a b : World} → Among a b → with_messages b a.writes a.reports ≡ a
as-ends {a} h i = let e = sym h.ends i in record { keeper = e.keeper; table = e.table; writes = a.writes; reports = a.reports }

module _ (n : ℕ) (p : PolicyView) where
  -- ---- what one event does, an event does where there are more messages

  module _ (b : World) (ws : List Write) (rs : List Report) (w : Within ws b.writes) (r : Within rs b.reports) where
    abbrev a : World
    a = with_messages b ws rs

    same : Among a b
    same = record { ends = refl; writes = w; reports = r }

    unless-among : {x y : World} (o : Option ℕ) → Among x y → Among (unless o a x) (unless o b y)
    unless-among (Some refusal) h = same
    unless-among None h = h

    write-among : (j : ℕ) (o : Option Write) → slice_get ws j ≡ o → (e : Event) × Among (deliver_write n a o) (step n p b e)
    unfolding step
    write-among j None q = (refused, same)
    write-among j (Some x) q =
        let at = member-place b.writes x (w x (arrived ws j x q)) in
        let taken : Among (table_takes a x) (table_takes b x) =
        record { ends = refl; writes = w; reports = sent-within (Some (write_report b.table x)) rs b.reports r }
        in
        (write_arrives at.0, rw at.1 (unless-among (write_refusal n b.table x) taken))

    report-among : (j : ℕ) (o : Option Report) → slice_get rs j ≡ o → (e : Event) × Among (deliver_report a o) (step n p b e)
    unfolding step
    report-among j None q = (refused, same)
    report-among j (Some x) q =
        let at = member-place b.reports x (r x (arrived rs j x q)) in
        let taken : Among (keeper_takes a x) (keeper_takes b x) = record { ends = refl; writes = w; reports = r } in
        (report_arrives at.0, rw at.1 (unless-among (report_refusal b.keeper x) taken))

    event-among : (e : Event) → (e' : Event) × Among (step n p a e) (step n p b e')
    unfolding step
    event-among (miss key) =
        let given = sent-within (miss_write b.keeper (on_miss n p b.keeper key)) ws b.writes w in
        (miss key, record { ends = refl; writes = given; reports = r })
    event-among (write_arrives j) = write-among j (slice_get ws j) refl
    event-among (report_arrives j) = report-among j (slice_get rs j) refl
    event-among (packet key) =
        let given = sent-within (hit_report (lookup n b.table key)) rs b.reports r in
        (packet key, record { ends = refl; writes = w; reports = given })
    event-among refused = (refused, same)

  step-among : (a b : World) → Among a b → (e : Event) → (e' : Event) × Among (step n p a e) (step n p b e')
  step-among a b h e =
      subst (λ (x : World). (e' : Event) × Among (step n p x e) (step n p b e')) (as-ends h)
      (event-among b a.writes a.reports h.writes h.reports e)

  -- ---- a message that was given stays

  record More (a b : World) : Type 0 where
    writes : Within a.writes b.writes
    reports : Within a.reports b.reports

  no_more : (a : World) → More a a
  no_more a = record { writes = λ x m. m; reports = λ x m. m }

  unless-more : {a b : World} (o : Option ℕ) → More a b → More a (unless o a b)
  unless-more {a} (Some refusal) h = no_more a
  unless-more None h = h

  write-more : (a : World) (o : Option Write) → More a (deliver_write n a o)
  write-more a None = no_more a
  write-more a (Some x) =
      unless-more (write_refusal n a.table x)
      (record { writes = λ y m. m; reports = within-sent (Some (write_report a.table x)) a.reports })

  report-more : (a : World) (o : Option Report) → More a (deliver_report a o)
  report-more a None = no_more a
  report-more a (Some x) = unless-more (report_refusal a.keeper x) (record { writes = λ y m. m; reports = λ y m. m })

  step-more : (a : World) (e : Event) → More a (step n p a e)
  unfolding step
  step-more a (miss key) = record { writes = within-sent (miss_write a.keeper (on_miss n p a.keeper key)) a.writes; reports = λ x m. m }
  step-more a (write_arrives j) = write-more a (slice_get a.writes j)
  step-more a (report_arrives j) = report-more a (slice_get a.reports j)
  step-more a (packet key) = record { writes = λ x m. m; reports = within-sent (hit_report (lookup n a.table key)) a.reports }
  step-more a refused = no_more a

  run_more : (es : List Event) (a : World) → More a (run n p a es)
  unfolding run
  run_more [] a = no_more a
  run_more (e ∷ es) a =
      let first = step-more a e in
      let later = run_more es (step n p a e) in
      record { writes = λ x m. later.writes x (first.writes x m); reports = λ x m. later.reports x (first.reports x m) }

  -- what is promised speaks of the ends, and of each message
  pub kept-among : {a b : World} → Among a b → Kept n p b → Kept n p a
  kept-among {a} {b} h kept =
      subst (Kept n p) (as-ends h)
      (record {
        rule = kept.rule;
        action = kept.action;
        told = kept.told;
        differs = kept.differs;
        same = kept.same;
        writes_taken = λ x m. kept.writes_taken x (h.writes x m);
        reports_taken = λ x m. kept.reports_taken x (h.reports x m);
      })

-- ---- grown from cleared ends of so many slots

pub record Grown (p : PolicyView) (count : ℕ) (a : World) : Type 0 where
  pub events : List Event
  pub among : Among a (run positions p (start key_size count) events)

pub grown-start : (p : PolicyView) (count : ℕ) → Grown p count (start key_size count)
unfolding run
grown-start p count = record { events = []; among = record { ends = refl; writes = λ x m. m; reports = λ x m. m } }

module _ (p : PolicyView) (count : ℕ) (a : World) (g : Grown p count a) where
  abbrev b : World
  b = run positions p (start key_size count) g.events

  -- after one event more
  pub grown-step : (e : Event) → Grown p count (step positions p a e)
  unfolding run
  grown-step e =
      let next = step-among positions p a b g.among e in
      record {
        events = g.events ++ (next.0 ∷ []);
        among = rw (run-append positions p g.events (next.0 ∷ []) (start key_size count)) next.1;
      }

  -- after a run, without the messages that were delivered in it
  pub grown-run : (keys : List Key) (e : Ends) → e ≡ trace positions p (ends_of a) keys
      → Grown p count (record { keeper = e.keeper; table = e.table; writes = a.writes; reports = a.reports })
  grown-run keys e q =
      let r = grown-by-run positions p key_size count g.events (ends_of a) keys g.among.ends in
      let whole = run-append positions p g.events r.0 (start key_size count) in
      let more = run_more positions p r.0 b in
      record {
        events = g.events ++ r.0;
        among = record {
          ends = q ∙ r.1;
          writes = rw whole (λ x m. more.writes x (g.among.writes x m));
          reports = rw whole (λ x m. more.reports x (g.among.reports x m));
        };
      }
