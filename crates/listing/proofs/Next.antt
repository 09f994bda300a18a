-- The test which instance comes next, case by case, and what its answers say.
use mathlib.Core.Path.{◌≡◌, sym, ◌∙◌}
use mathlib.Core.Bool.{true, false}
use mathlib.Core.Logic.{◌⊎◌, ⊎_elim, inl, inr}
use mathlib.Core.List.{List}
use Prim.Native.Nat.{ℕ, ◌+◌, ◌<◌, ◌≤◌}
use native.Mathlib.Omega.{arith}
use lib.Dec.{leb, ltb}
use borrow.Author.Tests.{leb-true, leb-false, ltb-true, ltb-false, le-leb, lt-leb}
use Rattle.lists.proofs.Lists.{test, clash}
use Rattle.state.specs.declared.Scalars.{Scalars}
use Rattle.state.specs.View.{atom_at, plan_at}
use Rattle.listing.specs.Listing.{is_atom_next}

pub le_or_lt : (m n : ℕ) → (m ≤ n) ⊎ (n < m)
le_or_lt m n = ⊎_elim (λ e. inl (leb-true m n e)) (λ e. inr (leb-false m n e)) (test (leb m n))

module _ (words : List ℕ) (s : Scalars) (i j : ℕ) where
  pub next_no_atom : s.atoms ≤ i → false ≡ is_atom_next words s i j
  unfolding is_atom_next
  next_no_atom h = rw (le-leb s.atoms i h)

  pub next_no_plan : i < s.atoms → s.plans ≤ j → true ≡ is_atom_next words s i j
  unfolding is_atom_next
  next_no_plan h k = rw (lt-leb s.atoms i h, le-leb s.plans j k)

  pub next_by_id : i < s.atoms → j < s.plans → ltb (atom_at words i).id (plan_at words j).id ≡ is_atom_next words s i j
  unfolding is_atom_next
  next_by_id h k = rw (lt-leb s.atoms i h, lt-leb s.plans j k)

  pub next_atom : is_atom_next words s i j ≡ true → (i < s.atoms) × (j < s.plans → (atom_at words i).id < (plan_at words j).id)
  next_atom t = ⊎_elim
      (λ (h : s.atoms ≤ i). clash t (sym (next_no_atom h)))
      (λ (h : i < s.atoms). (h, λ k. ltb-true _ _ (next_by_id h k ∙ t)))
      (le_or_lt s.atoms i)

  pub next_plan : is_atom_next words s i j ≡ false → i + j < s.atoms + s.plans → j ≤ s.plans → i ≤ s.atoms → (j < s.plans) × (i < s.atoms → (plan_at words j).id ≤ (atom_at words i).id)
  next_plan t n h k = ⊎_elim
      (λ (l : s.plans ≤ j). clash (sym (next_no_plan (omega arith) l)) t)
      (λ (l : j < s.plans). (l, λ m. ltb-false _ _ (next_by_id m l ∙ t)))
      (le_or_lt s.plans j)
