-- What an operand stands for, and where a new id goes.
use mathlib.Core.Path.{◌≡◌, sym}
use mathlib.Core.Logic.{◌⊎◌, inl, inr}
use mathlib.Core.List.{List}
use Prim.Native.Nat.{ℕ, ◌-◌, ◌<◌, ◌≤◌}
use native.Mathlib.Omega.{arith}
use lib.ListN.{length, get_or, set, get_or-eq_default}
use borrow.Author.Tests.{le-leb, lt-leb}
use Rattle.lists.proofs.Tables.{get_within}
use Rattle.model.specs.Configuration.{no_value, operand}
use Rattle.acting.specs.Actions.{with_value}

module _ (values : List ℕ) (x : ℕ) where
  pub operand_constant : 9 ≤ x → operand values x ≡ x - 9
  unfolding operand
  operand_constant h = rw (le-leb 9 x h)

  pub operand_any : x ≡ 0 → length values ≡ 8 → operand values x ≡ no_value
  unfolding operand
  operand_any e h = rw e (get_or-eq_default values no_value (omega arith))

  pub operand_variable : 1 ≤ x → x ≤ 8 → length values ≡ 8 → operand values x ≡ get_or values (8 - x) 0
  unfolding operand
  operand_variable l h e = rw (lt-leb 9 x (omega arith)) (sym (get_within values (8 - x) 0 no_value (omega arith)))

  pub value_taken : (id : ℕ) → 1 ≤ x → x ≤ 8 → with_value values x id ≡ set values (8 - x) id
  unfolding with_value
  value_taken id l h = rw (le-leb 1 x l, le-leb x 8 h)

  pub value_left : (id : ℕ) → (x < 1) ⊎ (8 < x) → with_value values x id ≡ values
  unfolding with_value
  value_left id (inl l) = rw (lt-leb 1 x l)
  value_left id (inr h) = rw (le-leb 1 x (omega arith), lt-leb x 8 h)
