-- A check, test by test.
use Rattle.std.specs.Prelude.{if◌then◌else◌}
use mathlib.Core.Path.{◌≡◌, sym, ap, ◌∙◌}
use mathlib.Core.Bool.{Bool, true, false, ◌&&◌, and-false}
use mathlib.Core.Logic.{◌≢◌}
use mathlib.Core.List.{List}
use Prim.Native.Nat.{ℕ}
use lib.Dec.{eqb}
use lib.ListN.{length}
use borrow.Author.Tests.{eq-eqb, ne_eqb}
use Rattle.model.specs.WellFormed.{given_well}
use Rattle.state.specs.View.{config_of}
use Rattle.in_place.specs.Given.{given_rows, admitted}
use Rattle.host.specs.Layout.{scalars_of}
use Rattle.host.specs.Calls.{checked}

module _ (program words scalars : List ℕ) where
  abbrev number : Bool → ℕ
  number b = if b then 0 else 1

  pub check_words : length words ≢ 2432 → 1 ≡ checked program words scalars
  unfolding checked
  check_words n = rw (ne_eqb (length words) 2432 n)

  pub check_scalars : length words ≡ 2432 → length scalars ≢ 6 → 1 ≡ checked program words scalars
  unfolding checked
  check_scalars l n = rw (eq-eqb (length words) 2432 l, ne_eqb (length scalars) 6 n)

  pub check_pair : admitted program (config_of words (scalars_of scalars)) ≡ false → 1 ≡ checked program words scalars
  unfolding checked admitted
  check_pair e =
      let sizes = eqb (length words) 2432 && eqb (length scalars) 6 in
      sym (ap (λ (b : Bool). number (sizes && b)) e ∙ ap number (and-false sizes))

  pub check_well : length words ≡ 2432 → length scalars ≡ 6 → admitted program (config_of words (scalars_of scalars)) ≡ true → 0 ≡ checked program words scalars
  unfolding checked admitted
  check_well l m e =
      let pair = given_well (given_rows program) (config_of words (scalars_of scalars)) in
      sym (ap (λ (b : Bool). number ((b && eqb (length scalars) 6) && pair)) (eq-eqb (length words) 2432 l)
      ∙ ap (λ (b : Bool). number (b && pair)) (eq-eqb (length scalars) 6 m) ∙ ap number e)
