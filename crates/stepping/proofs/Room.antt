-- A work that needs one more atom, one more plan: refused where there is a bar, done where there is none.
use Rattle.std.specs.Prelude.{if◌then◌else◌}
use mathlib.Core.Path.{◌≡◌, refl, sym, ap}
use mathlib.Core.Bool.{Bool, true, false}
use mathlib.Core.Logic.{◌≢◌}
use Prim.Native.Nat.{ℕ}
use lib.Dec.{eqb, leb}
use lib.ListN.{length}
use native.Mathlib.Omega.{arith}
use Rattle.model.specs.Configuration.{most_atoms, most_plans, last_next}
use Rattle.model.specs.Log.{Log, Outcome, refused, unless}
use Rattle.model.specs.Calls.{room_for_atom, room_for_plan}
use Rattle.model.specs.declared.refusal.Refusal.{Refusal}
use Rattle.model.specs.Refusals.{number_of}
use Rattle.state.specs.View.{atom_bar, plan_bar}
use Rattle.state.proofs.Room.{numbered}

module _ (o : Outcome) (bar : ℕ) where
  barred_by : (x y : Bool) (n : ℕ) → (if x then 8 else if y then bar else 0) ≡ n → n ≢ 0 → unless x 8 (unless y bar o) ≡ refused n
  unfolding unless
  barred_by true y n e h = ap refused e
  barred_by false true n e h = ap refused e
  barred_by false false n e h = absurd (h (sym e))

  free_of : (x y : Bool) → bar ≢ 0 → (if x then 8 else if y then bar else 0) ≡ 0 → unless x 8 (unless y bar o) ≡ o
  unfolding unless
  free_of true y b e = absurd (omega arith)
  free_of false true b e = absurd (b e)
  free_of false false b e = refl

module _ (L : Log) (o : Outcome) where
  pub atom_barred : (e : Refusal) → atom_bar L.config.next (length L.config.atoms) ≡ number_of e → room_for_atom L o ≡ refused (number_of e)
  unfolding room_for_atom
  atom_barred e b = barred_by o 9 (eqb L.config.next last_next) (leb most_atoms (length L.config.atoms)) _ b (numbered e)

  pub atom_free : atom_bar L.config.next (length L.config.atoms) ≡ 0 → room_for_atom L o ≡ o
  unfolding room_for_atom
  atom_free e = free_of o 9 (eqb L.config.next last_next) (leb most_atoms (length L.config.atoms)) (omega arith) e

  pub plan_barred : (e : Refusal) → plan_bar L.config.next (length L.config.plans) ≡ number_of e → room_for_plan L o ≡ refused (number_of e)
  unfolding room_for_plan
  plan_barred e b = barred_by o 10 (eqb L.config.next last_next) (leb most_plans (length L.config.plans)) _ b (numbered e)

  pub plan_free : plan_bar L.config.next (length L.config.plans) ≡ 0 → room_for_plan L o ≡ o
  unfolding room_for_plan
  plan_free e = free_of o 10 (eqb L.config.next last_next) (leb most_plans (length L.config.plans)) (omega arith) e
