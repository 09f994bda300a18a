-- A word as a number, digit by digit.
use Prim.Native.Nat.{ℕ, ◌+◌, ◌*◌, ◌-◌, ◌≤◌, ◌<◌}
use mathlib.Core.Path.{◌≡◌, refl, ap, ◌∙◌, sym}
use mathlib.Core.Bool.{Bool, true, false, ◌||◌, and-false}
use mathlib.Core.List.{List, [], ◌∷◌}
use mathlib.Core.Logic.{◌≢◌}
use native.Mathlib.Omega.{arith}
use lib.Dec.{ltb}
use lib.ListN.{length, drop, get_or, drop_of_length-le}
use borrow.Author.Tests.{ne_eqb, le-leb, lt-leb}
use Rattle.lists.proofs.Cuts.{within_in, within_below, within_above, drop_next}
use Rattle.model.specs.Text.{digits, digit?}
use Rattle.program_laws.proofs.Digits.{digits_on, digits_off}
use Rattle.std.specs.Prelude.{Some, None}
use Rattle.script.specs.Reading.{whole, number_of}

-- digits only raise what there is
digits_rise : (n : ℕ) (cs : List ℕ) → n ≤ (digits n cs).0
unfolding digits
digits_rise n [] = omega arith
digits_rise n (c ∷ cs) = go (digit? c) refl (digits_rise (n * 10 + (c - 48)) cs)
  where
    go : (b : Bool) → digit? c ≡ b → n * 10 + (c - 48) ≤ (digits (n * 10 + (c - 48)) cs).0 → n ≤ (digits n (c ∷ cs)).0
    go true t ih = let e = ap (λ (d : ℕ × List ℕ). d.0) (digits_on n c cs t) in omega (arith, e, ih)
    go false t ih = let e = ap (λ (d : ℕ × List ℕ). d.0) (digits_off n c cs t) in omega (arith, e)

too_great : (d : ℕ × List ℕ) → 4294967295 < d.0 → whole d ≡ None
unfolding whole
too_great d h = simp (lt-leb _ _ h, and-false)

-- the number is the one whose digits so far make `value` and which goes on at i
pub record Reading (word : List ℕ) (value i : ℕ) : Type 0 where
  pub inside : i ≤ length word
  pub small : value ≤ 4294967295
  pub so_far : number_of word ≡ whole (digits value (drop i word))

module _ (word : List ℕ) where
  pub none : length word ≡ 0 → None ≡ number_of word
  unfolding number_of
  none = at word
    where
      at : (l : List ℕ) → length l ≡ 0 → None ≡ number_of l
      at [] h = refl
      at (c ∷ cs) h = absurd (omega arith)

  pub zero_alone : get_or word 0 0 ≡ 48 → length word ≡ 1 → Some 0 ≡ number_of word
  unfolding number_of
  zero_alone = at word
    where
      at : (l : List ℕ) → get_or l 0 0 ≡ 48 → length l ≡ 1 → Some 0 ≡ number_of l
      at [] e h = absurd (omega arith)
      at (c ∷ []) e h = rw e
      at (c ∷ x ∷ cs) e h = absurd (omega arith)

  pub zero_leads : get_or word 0 0 ≡ 48 → length word ≢ 1 → None ≡ number_of word
  unfolding number_of
  zero_leads = at word
    where
      at : (l : List ℕ) → get_or l 0 0 ≡ 48 → length l ≢ 1 → None ≡ number_of l
      at [] e h = refl
      at (c ∷ []) e h = absurd (h refl)
      at (c ∷ x ∷ cs) e h = rw e

  pub begin : length word ≢ 0 → get_or word 0 0 ≢ 48 → Reading word 0 0
  unfolding number_of
  begin h k = record { inside = omega arith; small = omega arith; so_far = at word h k }
    where
      at : (l : List ℕ) → length l ≢ 0 → get_or l 0 0 ≢ 48 → number_of l ≡ whole (digits 0 l)
      at [] h k = absurd (h refl)
      at (c ∷ cs) h k = rw (ne_eqb c 48 k)

module _ {word : List ℕ} {v i : ℕ} (w : Reading word v i) where
  abbrev d : ℕ
  d = get_or word i 0

  not_digit : ltb d 48 || ltb 57 d ≡ true → digit? d ≡ false
  not_digit e = grind arith

  is_digit : ltb d 48 || ltb 57 d ≡ false → digit? d ≡ true
  is_digit e = grind arith

  pub no_digit : i < length word → ltb d 48 || ltb 57 d ≡ true → None ≡ number_of word
  unfolding whole
  no_digit k e = sym (w.so_far ∙ rw (drop_next 0 word i k, digits_off v d (drop (i + 1) word) (not_digit e)))

  goes_on : i < length word → ltb d 48 || ltb 57 d ≡ false → number_of word ≡ whole (digits (v * 10 + (d - 48)) (drop (i + 1) word))
  goes_on k e = w.so_far ∙ rw (drop_next 0 word i k, digits_on v d (drop (i + 1) word) (is_digit e))

  pub over : i < length word → ltb d 48 || ltb 57 d ≡ false → 4294967295 < v * 10 + (d - 48) → None ≡ number_of word
  over k e m =
      let r = digits_rise (v * 10 + (d - 48)) (drop (i + 1) word) in
      sym (goes_on k e ∙ too_great _ (omega (arith, r, m)))

  pub more : i < length word → ltb d 48 || ltb 57 d ≡ false → (n : ℕ) → n ≡ v * 10 + (d - 48) → n ≤ 4294967295 → Reading word n (i + 1)
  more k e n q m = record { inside = omega arith; small = m; so_far = goes_on k e ∙ ap (λ (x : ℕ). whole (digits x (drop (i + 1) word))) (sym q) }

  pub all_read : length word ≤ i → Some v ≡ number_of word
  unfolding whole digits
  all_read h = sym (w.so_far ∙ rw (drop_of_length-le word h, le-leb _ _ w.small))
