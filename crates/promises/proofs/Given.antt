-- What a call gave, as bytes and in the model; and a message that was given, by its place in the list. Assumes nothing.
use mathlib.Core.Path.{◌≡◌, refl, sym, ap, subst}
use mathlib.Core.Logic.{⊎_elim}
use mathlib.Core.List.Memᴰ
use mathlib.Core.List.{List, [], ◌∷◌, map, Memᴰ}
use Rattle.std.specs.Prelude.{Option, None, Some, option_map}
use Prim.Native.Nat.{ℕ, suc, ◌≤◌}
use native.Mathlib.Omega.{arith}
use lib.ListN.{length, take}
use Rattle.std.specs.Prelude.{slice_get}
use Rattle.ends.specs.Records.{Write, Report}
use Rattle.ends.specs.World.{sent}
use Rattle.ternary.specs.Sizes.{key_size}
use Rattle.buffers.specs.Parts.{splice}
use Rattle.records.specs.Layout.{write_size, report_size}
use Rattle.end_records.specs.Writes.{decode_write, encode_write}
use Rattle.end_records.specs.Reports.{decode_report, encode_report, ReportFits}
use Rattle.promises.proofs.MessageBytes.{WriteBytes, ByteWrite, encoded-write, given-write, meant-write}
use Rattle.promises.proofs.MessageBytes.{ReportBytes, encoded-report, given-report, meant-report}

-- the bytes o that were given are formed, and mean g
pub record Gives {A : Type 0} (decode : List ℕ → A) (IsFormed : List ℕ → Type 0) (o : Option (List ℕ)) (g : Option A) : Type 0 where
  pub meant : option_map decode o ≡ g
  pub formed : (m : List ℕ) → o ≡ Some m → IsFormed m

module _ {A : Type 0} {decode : List ℕ → A} {IsFormed : List ℕ → Type 0} where
  pub gives_none : Gives decode IsFormed None None
  gives_none = record { meant = refl; formed = λ m e. let z : ◌≡◌ {A = ℕ} 0 1 = cc in absurd (omega arith) }

  gives-some : {bs : List ℕ} {x : A} → decode bs ≡ x → IsFormed bs → Gives decode IsFormed (Some bs) (Some x)
  gives-some {bs} e h = record { meant = ap Some e; formed = λ m t. let q : bs ≡ m = cc in subst IsFormed q h }

  -- one message more
  pub sent-meant : {o : Option (List ℕ)} {g : Option A} (l : List (List ℕ)) → Gives decode IsFormed o g
      → map decode (sent o l) ≡ sent g (map decode l)
  sent-meant {o} {g} l is = go o g is.meant
    where
      go : (o : Option (List ℕ)) (g : Option A) → option_map decode o ≡ g → map decode (sent o l) ≡ sent g (map decode l)
      go None g e = rw (← e)
      go (Some m) g e = rw (← e)

  pub sent-formed : (o : Option (List ℕ)) {g : Option A} (l : List (List ℕ)) → Gives decode IsFormed o g
      → ((m : List ℕ) → Memᴰ m l → IsFormed m) → (m : List ℕ) → Memᴰ m (sent o l) → IsFormed m
  sent-formed None l is old m h = old m h
  sent-formed (Some x) l is old m h = ⊎_elim (λ e. subst IsFormed (sym e) (is.formed x refl)) (old m) (Memᴰ.cases_cons h)

-- a member stands somewhere in the list
pub member-place : {A : Type 0} (l : List A) (x : A) → Memᴰ x l → (j : ℕ) × (slice_get l j ≡ Some x)
member-place [] x h = absurd (Memᴰ.not-nil h)
member-place (y ∷ l) x h =
    ⊎_elim
    (λ e. (0, ap Some (sym e)))
    (λ t. let r = member-place l x t in (suc r.0, r.1))
    (Memᴰ.cases_cons h)

-- and so does what a message that was given means
pub place_of : {A : Type 0} (decode : List ℕ → A) (l : List (List ℕ)) (m : List ℕ) → Memᴰ m l
    → (j : ℕ) × (slice_get (map decode l) j ≡ Some (decode m))
place_of decode l m h = member-place (map decode l) (decode m) (Memᴰ.map decode h)

-- ---- at the start of an output

pub gives-write : (x : Write) → ByteWrite x → (out : List ℕ) → write_size key_size ≤ length out
    → Gives (decode_write key_size) WriteBytes (Some (take (write_size key_size) (splice 0 (encode_write x) out))) (Some x)
gives-write x b out room = rw (given-write x b out room) (gives-some (meant-write x b) (encoded-write x b))

pub gives-report : (x : Report) → ReportFits x → (out : List ℕ) → report_size ≤ length out
    → Gives decode_report ReportBytes (Some (take report_size (splice 0 (encode_report x) out))) (Some x)
gives-report x f out room = rw (given-report x out room) (gives-some (meant-report x f) (encoded-report x))
