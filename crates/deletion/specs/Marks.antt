-- Marks on the places of both tables: true for what is left. Those of the atoms stand from 0 on, those of the plans from 256 on.
use Rattle.std.specs.Prelude.{◌≡◌, Bool, false, not, ◌&&◌, ◌||◌, List, [], ◌∷◌, map, ℕ, ◌+◌, ◌<◌, leb, ltb, eqb, get_or, set, if◌then◌else◌}
use Rattle.lists.specs.Tables.{index_of}
use Rattle.model.specs.Graph.{survives}
use Rattle.model.specs.Configuration.{Plan, step_removed, with_subgoal}
use Rattle.model.specs.Deletion.{node}
use Rattle.graph_laws.specs.Pass.{pass}
use Rattle.state.specs.declared.Scalars.{Scalars}
use Rattle.state.specs.View.{atom_at, plan_at, atom_ids_of, plan_ids_of, plans_of}

-- n marks, each where `place` says, tell what is left of n ids once D is gone
abbrev pub MarkedAt : (ℕ → ℕ) → ℕ → (ℕ → ℕ) → List ℕ → List Bool → Type 0
MarkedAt place n ids D left = (k : ℕ) → k < n → get_or left (place k) false ≡ survives D (ids k)

-- the marks tell what is left of the configuration once D is gone
pub record Marked (words : List ℕ) (s : Scalars) (D : List ℕ) (left : List Bool) : Type 0 where
  pub atoms : MarkedAt (λ k. k) s.atoms (λ k. (atom_at words k).id) D left
  pub plans : MarkedAt (λ k. 256 + k) s.plans (λ k. (plan_at words k).id) D left

-- the atom x, the plan x, if there is one, is left no more
unfoldable pub without_atom : List ℕ → ℕ → ℕ → List Bool → List Bool
without_atom words n x left = let k = index_of x (atom_ids_of n words) in if ltb k n then set left k false else left

unfoldable pub without_plan : List ℕ → ℕ → ℕ → List Bool → List Bool
without_plan words n x left = let k = index_of x (plan_ids_of n words) in if ltb k n then set left (256 + k) false else left

-- by the marks, the atom x is gone once t is deleted; nothing made before t is
unfoldable pub atom_gone : List ℕ → ℕ → ℕ → List Bool → ℕ → Bool
atom_gone words n t left x = let k = index_of x (atom_ids_of n words) in leb t x && (ltb k n && not (get_or left k false))

-- by the marks, justification j of plan i is gone; plan i goes with t
abbrev pub justification_gone : List ℕ → ℕ → ℕ → List Bool → ℕ → ℕ → Bool
justification_gone words n t left i j = atom_gone words n t left (get_or (plan_at words i).justifications j 0)

unfoldable pub plan_goes : List ℕ → ℕ → ℕ → List Bool → ℕ → Bool
plan_goes words n t left i =
    leb t (plan_at words i).id && (not (get_or left (256 + i) false) ||
    (justification_gone words n t left i 0 || (justification_gone words n t left i 1 || (justification_gone words n t left i 2 || justification_gone words n t left i 3))))

-- the marks after plan i: if it goes, its subgoal goes with it
unfoldable pub visited : List ℕ → ℕ → ℕ → ℕ → List Bool → List Bool
visited words n t i left = if plan_goes words n t left i then without_atom words n (plan_at words i).subgoal (set left (256 + i) false) else left

-- what is gone after the first i plans
unfoldable pub gone_after : List ℕ → ℕ → ℕ → List ℕ
gone_after words t i = pass (map node (plans_of i words)) (t ∷ [])

-- "a surviving plan that loses its subgoal loses its first step too"
abbrev pub subgoal_lost : Plan → Plan
subgoal_lost q = with_subgoal 0 (step_removed q)

-- the plan whose subgoal is t loses it
unfoldable pub unlinked_from : ℕ → Plan → Plan
unlinked_from t q = if not (eqb t 0) && eqb q.subgoal t then subgoal_lost q else q

-- the subgoals of the first n plans
abbrev pub subgoals_of : ℕ → List ℕ → List ℕ
subgoals_of n words = map (λ (q : Plan). q.subgoal) (plans_of n words)
