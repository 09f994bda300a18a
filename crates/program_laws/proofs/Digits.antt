-- `digits` and `counting`, clause by clause.
use Prim.Native.Nat.{ℕ, ◌+◌, ◌*◌, ◌-◌}
use mathlib.Core.Path.{◌≡◌}
use mathlib.Core.Bool.{true, false}
use mathlib.Core.List.{List, ◌∷◌}
use Rattle.lists.specs.Lists.{within}
use Rattle.model.specs.Text.{digits, counting, digit?}

module _ (n c : ℕ) (cs : List ℕ) where
  pub digits_on : digit? c ≡ true → digits n (c ∷ cs) ≡ digits (n * 10 + (c - 48)) cs
  unfolding digits
  digits_on e = rw (e, digits)

  pub digits_off : digit? c ≡ false → digits n (c ∷ cs) ≡ (n, c ∷ cs)
  unfolding digits
  digits_off e = rw (e, digits)

  pub counting_on : within 49 57 c ≡ true → counting (c ∷ cs) ≡ digits (c - 48) cs
  unfolding counting
  counting_on e = rw e

  pub counting_off : within 49 57 c ≡ false → counting (c ∷ cs) ≡ (0, c ∷ cs)
  unfolding counting
  counting_off e = rw e
