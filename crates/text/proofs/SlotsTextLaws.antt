-- What slots.txt says is what the library's `parse` gives of what stands before its newline. Assumes nothing.
use mathlib.Core.Path.{◌≡◌, refl, sym, ap, subst, ◌∙◌}
use mathlib.Core.Bool.{true, false}
use mathlib.Core.List.{List, [], ◌∷◌, ◌++◌}
use Prim.Native.Nat.{ℕ, zero, suc, ◌+◌, ◌-◌, ◌^◌, ◌≤◌, ◌<◌}
use native.Mathlib.Omega.{arith}
use borrow.Author.Tests.{leb-true, le-leb}
use lib.Dec.{leb, eqb}
use lib.ListN.{length, take, drop, get_or, length-append}
use lib.Pointwise.{pointwise}
use Rattle.std.proofs.Common.{Option, None, Some, Result, Ok, Err, Bor, slice_get}
use Rattle.std.proofs.lemmas.Option.{unwrap_or-slice_get}
use Rattle.std.specs.Result.{result_ok}
use Rattle.std.specs.Option.{MatchOption, option_copied, unwrap_or}
use Rattle.std.proofs.lemmas.Fmt.{length-decimal-le, parse-decimal, decimal_is_IsNumeral}
use Rattle.std.proofs.lemmas.Fmt.{decimal_injective, decimal-digits_value, first_decimal, IsAscii-decimal}
use Rattle.std.proofs.lemmas.List.{append_cancel_right}
use Rattle.std.proofs.lemmas.Bool.Decides.{Decides-eqb}
use Rattle.std.proofs.lemmas.Slice.Eq.{bytes_eq-Decides, strip_suffix_is}
use Rattle.std.proofs.lemmas.Str.{IsUtf8-from_ascii}
use Rattle.std.proofs.lemmas.Str.Parse.{numerals_by_value, tells_digits, digit_at, without_leading_plus_none}
use Rattle.std.specs.Fmt.{decimal as printed}
use Rattle.std.specs.Str.{IsUtf8, bytes_eq}
use Rattle.std.specs.Str.Parse.{AllDigits, digits_value, ParsesUnsigned}
use Rattle.model.specs.Below.{first_below}
use Rattle.model.proofs.Cases.{clash, and_left, and_right, both}
use Rattle.model.proofs.OrderLaws.{first-at, foremost-none}
use Rattle.records.specs.Layout.{most_slots}
use Rattle.text.specs.Decimal.{decimal_in, decimal}
use Rattle.text.specs.Words.{newline, line_of}
use Rattle.text.proofs.DecimalLaws.{decimal_is_printed}
use Rattle.text.specs.SlotsText.{says_slots, slots_in}

-- a number from 1 to 256 and the text that says it
record Said (text : List ℕ) (n : ℕ) : Type 0 where
  pub some : 1 ≤ n
  pub few : n ≤ most_slots
  pub line : text ≡ line_of (decimal n ∷ [])

module _ (text : List ℕ) where
  said-test : (n : ℕ) → Said text n → says_slots text n ≡ true
  unfolding says_slots
  said-test n s = both (le-leb 1 n s.some) ((bytes_eq-Decides text (line_of (decimal n ∷ []))).1 s.line)

  test-said : (n : ℕ) → n < suc most_slots → says_slots text n ≡ true → Said text n
  unfolding says_slots
  test-said n l h =
      record {
        some = leb-true 1 n (and_left (leb 1 n) (bytes_eq text (line_of (decimal n ∷ []))) h);
        few = omega arith;
        line =
            (bytes_eq-Decides text (line_of (decimal n ∷ []))).0 (and_right (leb 1 n) (bytes_eq text (line_of (decimal n ∷ []))) h);
      }

  -- the line of one number is not that of another
  said-once : (m n : ℕ) → Said text m → Said text n → m ≡ n
  said-once m n s t =
      let e : decimal m ≡ decimal n = append_cancel_right (decimal m) (decimal n) (newline ∷ []) (sym s.line ∙ t.line) in
      let a : m < 2 ^ 64 = omega (arith, s.few) in
      let b : n < 2 ^ 64 = omega (arith, t.few) in
      decimal_injective m n a b (sym (decimal_is_printed m a) ∙ e ∙ decimal_is_printed n b)

  slots-said : (n : ℕ) → slots_in text ≡ Some n → Said text n
  unfolding slots_in
  slots-said n = go (first_below (says_slots text) (suc most_slots)) refl
    where
      go : (o : Option ℕ) → first_below (says_slots text) (suc most_slots) ≡ o → o ≡ Some n → Said text n
      go None e h = cc
      go (Some m) e h =
          let f = first-at (says_slots text) (suc most_slots) m e in
          let i : m ≡ n = cc in
          rw i at (test-said m f.0 f.1)

  said-slots : (n : ℕ) → Said text n → Some n ≡ slots_in text
  unfolding slots_in
  said-slots n s = go (first_below (says_slots text) (suc most_slots)) refl
    where
      go : (o : Option ℕ) → first_below (says_slots text) (suc most_slots) ≡ o → Some n ≡ o
      go None e =
          clash (said-test n s) (foremost-none (says_slots text) _ (suc most_slots) e n (omega (arith, s.few)))
      go (Some m) e =
          let f = first-at (says_slots text) (suc most_slots) m e in
          ap Some (said-once n m s (test-said m f.0 f.1))

  none-said : ((n : ℕ) → Said text n → ⊥) → None ≡ slots_in text
  none-said other = go (slots_in text) refl
    where
      go : (o : Option ℕ) → slots_in text ≡ o → None ≡ o
      go None e = refl
      go (Some n) e = absurd (other n (slots-said n e))

  pub slots-some : (n : ℕ) → slots_in text ≡ Some n → 1 ≤ n
  slots-some n e = (slots-said n e).some

  pub slots-few : (n : ℕ) → slots_in text ≡ Some n → n ≤ most_slots
  slots-few n e = (slots-said n e).few

  -- a text of more bytes than the largest number's line
  pub too-long : 4 < length text → None ≡ slots_in text
  too-long l = none-said (λ n s.
      let small : n < 2 ^ 64 = omega (arith, s.few) in
      let digits : length (printed n) ≤ 3 = length-decimal-le 3 n (omega arith) (omega (arith, s.few)) small in
      let same : length (decimal n) ≡ length (printed n) = ap length (decimal_is_printed n small) in
      let long : length text ≡ length (decimal n) + 1 = ap length s.line ∙ length-append (decimal n) (newline ∷ []) in
      omega arith)

-- ---- what is read, test by test

-- what `strip_suffix` answers of a newline at the text's end
abbrev pub Stripping : List ℕ → Option (Bor (List ℕ)) → Type 0
Stripping text r =
    let ends = pointwise eqb (drop (length text - 1) text) (newline ∷ []) in
    MatchOption r (ends ≡ false) (λ (x : Bor (List ℕ)). (ends ≡ true) × (x.now ≡ take (length text - 1) text) × (length x.now + 1 ≡ length text))

module _ (text : List ℕ) {r : Option (Bor (List ℕ))} (cases : Stripping text r) where
  pub no-newline : r ≡ None → None ≡ slots_in text
  no-newline e =
      let other = rw e at (strip_suffix_is Decides-eqb text (newline ∷ []) r cases) in
      none-said text (λ n s. other (decimal n) s.line)

  pub stripped : {x : Bor (List ℕ)} → r ≡ Some x → text ≡ x.now ++ (newline ∷ [])
  stripped e = rw e at (strip_suffix_is Decides-eqb text (newline ∷ []) r cases)

-- what `first` says of the first byte
pub first-byte : (digits : List ℕ) (r : Option (Bor ℕ)) → option_copied r ≡ slice_get digits 0 → unwrap_or (option_copied r) 0 ≡ get_or digits 0 0
first-byte digits r e = ap (λ (o : Option ℕ). unwrap_or o 0) e ∙ unwrap_or-slice_get digits 0 0

-- what `ok` says of a result
pub value-of : {T E : Type 0} (r : Result T E) (x : T) → Some x ≡ result_ok r → r ≡ Ok x
value-of (Ok y) x e = cc
value-of (Err y) x e = cc

pub fault-of : {T E : Type 0} (r : Result T E) → None ≡ result_ok r → (e : E) × (r ≡ Err e)
fault-of (Ok y) e = cc
fault-of (Err y) e = (y, refl)

-- a decimal that begins with another digit than 0 is not that of 0
not-zero : (n : ℕ) (digits : List ℕ) → decimal n ≡ digits → 49 ≤ get_or digits 0 0 → 1 ≤ n
unfolding decimal_in
not-zero zero digits e l =
    let h : 48 ≡ get_or digits 0 0 = ap (λ (ds : List ℕ). get_or ds 0 0) e in
    absurd (omega arith)
not-zero (suc n) digits e l = omega arith

module _ (text digits : List ℕ) (cut : text ≡ digits ++ (newline ∷ [])) where
  -- the digits are what the library prints of the number
  spelt : (n : ℕ) → Said text n → digits ≡ printed n
  spelt n s =
      append_cancel_right digits (decimal n) (newline ∷ []) (sym cut ∙ s.line) ∙ decimal_is_printed n (omega (arith, s.few))

  pub no-digit : (49 ≤ get_or digits 0 0 → 58 ≤ get_or digits 0 0) → None ≡ slots_in text
  no-digit other = none-said text (λ n s.
      let e = spelt n s in
      let small : n < 2 ^ 64 = omega (arith, s.few) in
      let d = decimal_is_IsNumeral n small in
      let low : 48 < get_or digits 0 0 = rw e (first_decimal n s.some small) in
      let in_range = digit_at (printed n) 0 d.0.1 d.0.0 in
      let high : get_or digits 0 0 ≤ 57 = rw e (omega (arith, in_range)) in
      omega (arith, other low))

  pub no-text : (IsUtf8 digits → ⊥) → None ≡ slots_in text
  no-text other = none-said text (λ n s.
      let small : n < 2 ^ 64 = omega (arith, s.few) in
      other (rw (spelt n s) (IsUtf8-from_ascii (printed n) (IsAscii-decimal n small))))

  module _ {parsed : List ℕ} {E : Type 0} (r : Result ℕ E) (same : parsed ≡ digits) (parses : ParsesUnsigned 64 10 parsed r) where
    read : ParsesUnsigned 64 10 digits r
    read = subst (λ (ds : List ℕ). ParsesUnsigned 64 10 ds r) same parses

    -- a line of n is read as n
    line-read : (n : ℕ) → Said text n → r ≡ Ok n
    line-read n s = let small : n < 2 ^ 64 = omega (arith, s.few) in parse-decimal 64 n digits r small small (spelt n s) read

    pub no-number : (e : E) → r ≡ Err e → None ≡ slots_in text
    no-number e is = none-said text (λ n s. let h = line-read n s in cc)

    pub too-large : (m : ℕ) → r ≡ Ok m → most_slots < m → None ≡ slots_in text
    too-large m is l = none-said text (λ n s. let h = line-read n s in let i : n ≡ m = cc in omega (arith, s.few, i))

    pub a-number : (m : ℕ) → r ≡ Ok m → 49 ≤ get_or digits 0 0 → get_or digits 0 0 ≤ 57 → m ≤ most_slots → Some m ≡ slots_in text
    a-number m is low high few =
        let plain = without_leading_plus_none digits (λ e. omega (arith, e)) in
        let got = rw (is, plain) at read in
        let small : digits_value 10 digits < 2 ^ 64 = got.0.1 in
        let own = numerals_by_value (AllDigits 10) tells_digits in
        let printed-is : printed (digits_value 10 digits) ≡ digits =
        decimal-digits_value own digits got.0.0.1 got.0.0.0 (λ e. absurd (omega arith)) small
        in
        let printed-same : printed m ≡ digits = subst (λ (j : ℕ). printed j ≡ digits) (sym got.1) printed-is in
        let spelt-is : decimal m ≡ digits = decimal_is_printed m (omega arith) ∙ printed-same in
        said-slots text m (record { some = not-zero m digits spelt-is low; few = few; line = cut ∙ rw spelt-is })
