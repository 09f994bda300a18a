-- What each function of the code tests, in the model's own tests.
use Rattle.std.specs.Prelude.{◌≡◌, Bool, true, ◌&&◌, ◌||◌, not, ◌≢◌, List, ◌∷◌, map, ℕ, ◌<◌, leb, ltb, eqb}
use Rattle.lists.specs.Lists.{every, in_pairs, rises, member}
use Rattle.model.specs.declared.Atom.{Atom}
use Rattle.model.specs.Configuration.{Plan, most_atoms, most_plans, last_next}
use Rattle.model.specs.Graph.{Node}
use Rattle.model.specs.WellFormed.{atom_formed}
use Rattle.state.specs.declared.Scalars.{Scalars}
use Rattle.state.specs.View.{plan_at, atom_ids_of}

module _ {A : Type 0} where
  -- the ids rise from 1 on, and each element passes the test
  unfoldable pub in_order : (A → ℕ) → (A → Bool) → List A → Bool
  in_order id f l = rises (0 ∷ map id l) && every f l

abbrev pub atom_id : Atom → ℕ
atom_id x = x.id

abbrev pub plan_id : Plan → ℕ
plan_id q = q.id

-- an atom below the next id, within its limits
abbrev pub atom_fits : ℕ → Atom → Bool
atom_fits next x = ltb x.id next && atom_formed x

-- every subgoal is alive
abbrev pub SubgoalsAlive : ℕ → ℕ → List ℕ → Type 0
SubgoalsAlive atoms plans words = (k : ℕ) → k < plans → (plan_at words k).subgoal ≢ 0 → member (plan_at words k).subgoal (atom_ids_of atoms words) ≡ true

-- "no atom is the subgoal of two plans"
abbrev pub subgoals_differ : List Node → Bool
subgoals_differ qs = in_pairs (λ p q. eqb p.subgoal 0 || not (eqb p.subgoal q.subgoal)) qs

-- "all limits above hold", where exec is the last phase
abbrev pub limits_hold : ℕ → Scalars → Bool
limits_hold exec s = leb s.atoms most_atoms && (leb s.plans most_plans && (leb s.phase exec && (leb s.cycle 65535 && (leb 1 s.next && leb s.next last_next))))
