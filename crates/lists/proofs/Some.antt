-- Tests of some element, and what stands first.
use mathlib.Core.Path.{◌≡◌, refl, sym, ap, ◌∙◌}
use mathlib.Core.Bool.{Bool, true, false≢true}
use mathlib.Core.Logic.{⊎_elim}
use mathlib.Core.List.{List, [], ◌∷◌}
use Rattle.lists.specs.Lists.{In, first, later, some, first_of}
use Rattle.lists.proofs.Lists.{in_nil, in_one, or_cases, or_right}
use Rattle.lists.proofs.Tests.{or_left}

module _ {A : Type 0} where
  pub some_in : (f : A → Bool) (l : List A) → some f l ≡ true → (x : A) × In x l × (f x ≡ true)
  unfolding some
  some_in f [] e = absurd (false≢true e)
  some_in f (y ∷ l) e = ⊎_elim (λ p. (y, first refl, p)) (λ p. let r = some_in f l p in (r.0, later r.1, r.2)) (or_cases (f y) (some f l) e)

  pub in_some : (f : A → Bool) {x : A} {l : List A} → In x l → f x ≡ true → some f l ≡ true
  unfolding some
  in_some f (first {y = y} {l = l} e) p = or_left (some f l) (ap f (sym e) ∙ p)
  in_some f (later {y = y} i) p = or_right (f y) (in_some f i p)

  pub first_in : (l : List A) {x : A} → In x (first_of l) → (m : List A) × (l ≡ x ∷ m)
  first_in [] h = in_nil h
  first_in (y ∷ l) h = (l, ap {B = List A} (λ z. z ∷ l) (sym (in_one h)))
