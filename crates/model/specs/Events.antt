-- The events that a call's work emits, and what each does to the graph. The journal is fed with these alone.
use Rattle.std.specs.Prelude.{◌≡◌, List, [], ◌∷◌, ◌++◌, map, ℕ, suc, ◌+◌, ◌≤◌, ◌<◌, eqb, length}
use Rattle.lists.specs.Lists.{In, keep, Pairs, member, rising_set}
use Rattle.model.specs.Graph.{Node, Graph, node_ids, links, reached, choose, delete_from}

-- "an atom made (an add, 21, 34, 36), a plan made, a deletion with its target (an atom withdrawn, 22, 25, 35, delete)";
-- the atom of 36 is made for a plan
pub data Event : Type 0 where
  atom_made : Event
  plan_made : List ℕ → Event
  subgoal_made : ℕ → Event
  deletion : ℕ → Event

-- plan k gets the subgoal s
abbrev pub linked : ℕ → ℕ → Node → Node
linked k s q = record { id = q.id; justifications = q.justifications; subgoal = choose (eqb q.id k) s q.subgoal }

abbrev pub change : Graph → Event → Graph
change g atom_made = record { atoms = g.atoms ++ (g.next ∷ []); plans = g.plans; next = suc g.next }
change g (plan_made js) = record { atoms = g.atoms; plans = g.plans ++ (record { id = g.next; justifications = rising_set js; subgoal = 0 } ∷ []); next = suc g.next }
change g (subgoal_made k) = record { atoms = g.atoms ++ (g.next ∷ []); plans = map (linked k g.next) g.plans; next = suc g.next }
change g (deletion t) = delete_from t g

abbrev pub changes : Graph → List Event → Graph
changes g [] = g
changes g (e ∷ es) = changes (change g e) es

-- what the rules see to: a plan's justifications are live atoms, 1 to 4, rising; a subgoal is made for a live plan that has none
abbrev pub Fits : Graph → Event → Type 0
Fits g atom_made = Unit {0}
Fits g (plan_made js) = (1 ≤ length (rising_set js)) × (length (rising_set js) ≤ 4) × Pairs (λ (i j : ℕ). i < j) (rising_set js) × ((j : ℕ) → In j js → In j g.atoms)
Fits g (subgoal_made k) = (q : Node) × In q g.plans × (q.id ≡ k) × (q.subgoal ≡ 0)
Fits g (deletion t) = Unit {0}

abbrev pub AllFit : Graph → List Event → Type 0
AllFit g [] = Unit {0}
AllFit g (e ∷ es) = Fits g e × AllFit (change g e) es

-- how many instances an event makes, and how many a deletion removes
abbrev pub made_by : Event → ℕ
made_by atom_made = 1
made_by (plan_made js) = 1
made_by (subgoal_made k) = 1
made_by (deletion t) = 0

abbrev pub how_many : List ℕ → List ℕ → ℕ
how_many D l = length (keep (λ (x : ℕ). member x D) l)

abbrev pub gone_by : Graph → Event → ℕ
gone_by g atom_made = 0
gone_by g (plan_made js) = 0
gone_by g (subgoal_made k) = 0
gone_by g (deletion t) = how_many (reached (links g.plans) t) g.atoms + how_many (reached (links g.plans) t) (node_ids g.plans)

abbrev pub all_made : List Event → ℕ
all_made [] = 0
all_made (e ∷ es) = made_by e + all_made es

abbrev pub all_gone : Graph → List Event → ℕ
all_gone g [] = 0
all_gone g (e ∷ es) = gone_by g e + all_gone (change g e) es
