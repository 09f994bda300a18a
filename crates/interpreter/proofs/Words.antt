-- The first call that words are, and the list of their calls.
use Rattle.std.specs.Prelude.{Option, if◌then◌else◌}
use Rattle.std.specs.Bool.{then_some}
use mathlib.Core.Path.{◌≡◌, refl, sym, ap, ◌∙◌, subst}
use mathlib.Core.Bool.{Bool, true, false, ◌&&◌}
use mathlib.Core.Logic.{◌≢◌}
use mathlib.Core.List.{List, [], ◌∷◌}
use Prim.Native.Nat.{ℕ, zero, suc, ◌+◌, ◌-◌, ◌≤◌, ◌<◌}
use native.Mathlib.Omega.{arith}
use lib.Dec.{eqb, leb}
use lib.ListN.{length, take, drop, length-drop}
use borrow.Author.Tests.{eq-eqb, ne_eqb, eqb-false, leb-true, lt-leb}
use Rattle.lists.specs.Lists.{within}
use Rattle.model.specs.declared.Row.{Row}
use Rattle.model.specs.Claims.{Call, to_sense, to_step, to_answer, to_delete}
use Rattle.in_place.specs.Given.{given_rows, readings_of}
use Rattle.interpreter.specs.Playing.{kind, own, operand, program_end, call_end, call_size, SizeOf, program_in, call_by, first_call, calls_in, calls_of}

-- what the readings take is at most what their number says
pub at_most : (b : Bool) (n : ℕ) → (if b then n else 0) ≤ n
at_most true n = omega arith
at_most false n = omega arith

-- THE FIRST CALL
module _ (words : List ℕ) where
  abbrev sized_by : ℕ → Bool
  sized_by n = within 1 4 (kind words) && leb n (length words)

  pub size_is : (n : ℕ) (b : Bool) → n ≡ call_end words → sized_by n ≡ b → (if b then n else 0) ≡ call_size words
  unfolding call_size
  size_is n b e t = ap (λ (x : Bool). if x then n else 0) (sym t) ∙ ap (λ (m : ℕ). if sized_by m then m else 0) e

  pub too_few : length words < 3 → 0 ≡ call_size words
  too_few h = size_is (call_end words) false refl (rw (lt-leb (call_end words) (length words) (omega arith)) (at (within 1 4 (kind words))))
    where
      at : (b : Bool) → (b && false) ≡ false
      at true = refl
      at false = refl

  pub size_told : (n : ℕ) (r : Option ℕ) → n ≡ call_end words → r ≡ then_some (sized_by n) n → SizeOf (call_size words) r
  size_told n r e q = rw q (at (sized_by n) refl)
    where
      at : (b : Bool) → sized_by n ≡ b → SizeOf (call_size words) (then_some b n)
      at true t = let s = size_is n true e t in (sym s, λ z. omega arith)
      at false t = sym (size_is n false e t)

  pub record Sized : Type 0 where
    pub size : call_size words ≡ call_end words
    pub fits : call_end words ≤ length words

  pub sized : call_size words ≢ 0 → Sized
  unfolding call_size
  sized h = at (within 1 4 (kind words)) (leb (call_end words) (length words)) refl refl
    where
      at : (a b : Bool) → within 1 4 (kind words) ≡ a → leb (call_end words) (length words) ≡ b → Sized
      at true true d e = record { size = rw (d, e); fits = leb-true _ _ e }
      at true false d e = absurd (h (rw (d, e)))
      at false b d e = absurd (h (rw d))

  -- its parts: its own program ends at m, and the rest stands behind it
  module _ {m : ℕ} (e : m ≡ program_end words) {rest : List ℕ} (r : rest ≡ drop m words) where
    pub readings_fit : Sized → kind words ≡ 1 → operand words ≤ length rest
    readings_fit s k =
        let f : program_end words + operand words ≤ length words = subst (λ (b : Bool). program_end words + (if b then operand words else 0) ≤ length words) (eq-eqb (kind words) 1 k) s.fits in
        omega (arith, ap length r, length-drop m words)

    pub with_loaded : (program : List Row) → own words ≡ 0 → first_call program words ≡ call_by program (kind words) (operand words) rest
    unfolding first_call program_in
    with_loaded program z = rw (eq-eqb (own words) 0 z, r, e)

    pub with_own : (program : List Row) → own words ≢ 0 → first_call program words ≡ call_by (given_rows (take (m - 3) (drop 3 words))) (kind words) (operand words) rest
    unfolding first_call program_in
    with_own program z =
        let d : own words - 1 ≡ m - 3 = omega arith in
        rw (ne_eqb (own words) 0 z, r) (λ i. call_by (given_rows (take (d i) (drop 3 words))) (kind words) (operand words) (drop (sym e i) words))

-- by its kind
module _ (program : List Row) (k n : ℕ) (rest : List ℕ) where
  pub of_sense : k ≡ 1 → call_by program k n rest ≡ to_sense program (readings_of (take n rest))
  unfolding call_by
  of_sense e = rw e

  pub of_step : k ≡ 2 → call_by program k n rest ≡ to_step program
  unfolding call_by
  of_step e = rw e

  pub of_answer : k ≡ 3 → call_by program k n rest ≡ to_answer program n
  unfolding call_by
  of_answer e = rw e

  pub of_delete : k ≢ 1 → k ≢ 2 → k ≢ 3 → call_by program k n rest ≡ to_delete program n
  unfolding call_by
  of_delete e f g = rw (ne_eqb k 1 e, ne_eqb k 2 f, ne_eqb k 3 g)

-- ALL CALLS: more than enough changes nothing, so that the list is its first call and the list of the rest
module _ (program : List Row) where
  behind : (words : List ℕ) (n : ℕ) → call_size words ≢ 0 → length words ≤ suc n → length (drop (call_size words) words) ≤ n
  behind words n h f = let s = sized words h in omega (arith, length-drop (call_size words) words, s.size)

  enough : (n m : ℕ) (words : List ℕ) → length words ≤ n → length words ≤ m → calls_in n program words ≡ calls_in m program words
  unfolding calls_in
  enough zero zero words f g = refl
  enough zero (suc m) words f g = rw (sym (too_few words (omega arith)))
  enough (suc n) zero words f g = rw (sym (too_few words (omega arith)))
  enough (suc n) (suc m) words f g = at (eqb (call_size words) 0) refl (λ h. enough n m (drop (call_size words) words) (behind words n h f) (behind words m h g))
    where
      at : (b : Bool) → eqb (call_size words) 0 ≡ b → (call_size words ≢ 0 → calls_in n program (drop (call_size words) words) ≡ calls_in m program (drop (call_size words) words)) →
          calls_in (suc n) program words ≡ calls_in (suc m) program words
      at true e r = rw e
      at false e r = rw e (ap (λ (ks : List Call). first_call program words ∷ ks) (r (eqb-false (call_size words) 0 e)))

  pub no_calls : (words : List ℕ) → call_size words ≡ 0 → calls_of program words ≡ []
  unfolding calls_of calls_in
  no_calls [] e = refl
  no_calls (x ∷ words) e = rw e

  pub more_calls : (words : List ℕ) → call_size words ≢ 0 → calls_of program words ≡ first_call program words ∷ calls_of program (drop (call_size words) words)
  unfolding calls_of calls_in
  more_calls [] h = absurd (h (sym (too_few [] (omega arith))))
  more_calls (x ∷ words) h =
      let rest = drop (call_size (x ∷ words)) (x ∷ words) in
      rw (ne_eqb (call_size (x ∷ words)) 0 h) (ap (λ (ks : List Call). first_call program (x ∷ words) ∷ ks) (enough (length words) (length rest) rest (behind (x ∷ words) (length words) h (omega arith)) (omega arith)))
