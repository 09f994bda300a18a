-- The pass over the links plan by plan, as a loop over the plans in rising id makes it.
use Rattle.std.specs.Prelude.{Bool, true, false, ◌||◌, List, [], ◌∷◌, ℕ, zero, suc}
use Rattle.lists.specs.Lists.{member}
use Rattle.model.specs.Graph.{Node}

-- some number of the list is in D
abbrev pub touched : List ℕ → List ℕ → Bool
touched [] D = false
touched (j ∷ js) D = member j D || touched js D

abbrev pub and_subgoal : ℕ → List ℕ → List ℕ
and_subgoal zero D = D
and_subgoal (suc s) D = suc s ∷ D

-- a plan goes if it is in D or one of its justifications is; its subgoal goes with it
abbrev pub visit_if : Bool → Node → List ℕ → List ℕ
visit_if true q D = and_subgoal q.subgoal (q.id ∷ D)
visit_if false q D = D

abbrev pub pass : List Node → List ℕ → List ℕ
pass [] D = D
pass (q ∷ qs) D = pass qs (visit_if (member q.id D || touched q.justifications D) q D)
