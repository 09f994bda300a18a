-- Whether one more atom, one more plan may be made.
use Rattle.std.specs.Prelude.{if◌then◌else◌, Option, Some, None, is_some}
use mathlib.Core.Path.{◌≡◌, refl, ap}
use mathlib.Core.Bool.{Bool, true, false}
use mathlib.Core.Logic.{◌≢◌}
use mathlib.Core.List.{List}
use Prim.Native.Nat.{ℕ, ◌<◌}
use native.Mathlib.Omega.{arith}
use lib.Dec.{eqb, leb, ltb}
use lib.ListN.{length}
use borrow.Author.Tests.{eqb-false, leb-false, lt-ltb, le-ltb}
use Rattle.lists.specs.Tables.{PlaceOf, index_of}
use Rattle.model.specs.declared.refusal.Refusal.{Refusal}
use Rattle.model.specs.declared.refusal.Refusal.TheVariants.{NotWellFormed, Layout, Row, Valueless, TooMany, OutOfTurn, OutOfRange, IdsSpent, AtomsFull, PlansFull, CyclesSpent, NotAlive}
use Rattle.model.specs.Refusals.{number_of}
use Rattle.model.specs.Configuration.{most_atoms, most_plans, last_next}
use Rattle.state.specs.declared.Scalars.{Scalars}
use Rattle.state.specs.View.{config_of, atom_bar, plan_bar}
use Rattle.state.proofs.Live.{atoms_counted, plans_counted}

pub atoms_of_bar : (words : List ℕ) (s : Scalars) → atom_bar (config_of words s).next (length (config_of words s).atoms) ≡ atom_bar s.next s.atoms
atoms_of_bar words s = ap (atom_bar s.next) (atoms_counted words s)

pub plans_of_bar : (words : List ℕ) (s : Scalars) → plan_bar (config_of words s).next (length (config_of words s).plans) ≡ plan_bar s.next s.plans
plans_of_bar words s = ap (plan_bar s.next) (plans_counted words s)

-- a place is found where the number stands
pub found : (n x : ℕ) (l : List ℕ) (r : Option ℕ) → PlaceOf n x l r → ltb (index_of x l) n ≡ is_some r
found n x l None e = le-ltb (index_of x l) n (omega arith)
found n x l (Some k) f = lt-ltb (index_of x l) n (omega arith)

-- no bar: there is room
free : (most n m bar : ℕ) → 0 < bar → ◌≡◌ {A = ℕ} (if eqb n last_next then 8 else if leb most m then bar else 0) 0 → (n ≢ last_next) × (m < most)
free most n m bar h = at (eqb n last_next) (leb most m) refl refl
  where
    at : (x y : Bool) → eqb n last_next ≡ x → leb most m ≡ y → ◌≡◌ {A = ℕ} (if x then 8 else if y then bar else 0) 0 → (n ≢ last_next) × (m < most)
    at true y p q e = absurd (omega arith)
    at false true p q e = absurd (omega arith)
    at false false p q e = (eqb-false n last_next p, leb-false most m q)

pub bar_free : (n m : ℕ) → atom_bar n m ≡ 0 → (n ≢ last_next) × (m < most_atoms)
bar_free n m = free most_atoms n m 9 (omega arith)

pub plan_bar_free : (n m : ℕ) → plan_bar n m ≡ 0 → (n ≢ last_next) × (m < most_plans)
plan_bar_free n m = free most_plans n m 10 (omega arith)

-- no refusal has number 0
pub numbered : (e : Refusal) → number_of e ≢ 0
numbered NotWellFormed h = absurd (omega arith)
numbered Layout h = absurd (omega arith)
numbered Row h = absurd (omega arith)
numbered Valueless h = absurd (omega arith)
numbered TooMany h = absurd (omega arith)
numbered OutOfTurn h = absurd (omega arith)
numbered OutOfRange h = absurd (omega arith)
numbered IdsSpent h = absurd (omega arith)
numbered AtomsFull h = absurd (omega arith)
numbered PlansFull h = absurd (omega arith)
numbered CyclesSpent h = absurd (omega arith)
numbered NotAlive h = absurd (omega arith)
