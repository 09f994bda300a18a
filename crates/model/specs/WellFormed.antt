-- "A configuration is [well formed] when ..": one test for each clause of the paper. Otherwise a call is refused with 1.
use Rattle.std.specs.Prelude.{ℕ, ◌+◌, Bool, ◌&&◌, ◌||◌, not, List, [], ◌∷◌, leb, ltb, eqb, length}
use Rattle.lists.specs.Lists.{all_true, every, some, in_pairs, rises, member, first_of}
use Rattle.model.specs.Program.{Row, variable?, sets, is_object, body}
use Rattle.model.specs.Configuration.{Atom, Plan, Config, most_atoms, most_plans, last_next, no_value, value_of, operand, remainder, equal_to}
use Rattle.model.specs.Graph.{Node, Graph, node_ids}
use Rattle.model.specs.Deletion.{graph}
use Rattle.model.specs.Render.{well_formed}

-- "a plan's justifications are distinct"; "ids in use are distinct, 1 or more and below next id"; "every link ends at a live
-- instance and its id order rises"
unfoldable pub node_formed : Graph → Node → Bool
node_formed g q = all_true (
    leb 1 q.id ∷
    ltb q.id g.next ∷
    not (member q.id g.atoms) ∷
    leb 1 (length q.justifications) ∷
    leb (length q.justifications) 4 ∷
    rises q.justifications ∷
    every (λ j. member j g.atoms && ltb j q.id) q.justifications ∷
    (eqb q.subgoal 0 || (member q.subgoal g.atoms && ltb q.id q.subgoal)) ∷ [])

-- "no atom is the subgoal of two plans"
unfoldable pub graph_formed : Graph → Bool
graph_formed g = all_true (
    rises g.atoms ∷
    rises (node_ids g.plans) ∷
    leb 1 g.next ∷
    every (λ x. leb 1 x && ltb x g.next) g.atoms ∷
    every (node_formed g) g.plans ∷
    in_pairs (λ p q. eqb p.subgoal 0 || not (eqb p.subgoal q.subgoal)) g.plans ∷ [])

-- "Atom instance: id, predicate p (1 to 255), arguments a and b (0 to 65,535), cycle in which it was made."
unfoldable pub atom_formed : Atom → Bool
atom_formed x = all_true (leb 1 x.p ∷ leb x.p 255 ∷ leb x.a 65535 ∷ leb x.b 65535 ∷ leb x.cycle 65535 ∷ [])

-- "each variable of its body has a value"
abbrev pub has_value : List ℕ → ℕ → Bool
has_value values x = not (variable? x) || not (eqb (value_of values x) no_value)

unfoldable pub row_has_values : List ℕ → Row → Bool
row_has_values values r = has_value values r.i && (has_value values r.a && has_value values r.b)

-- "a subgoal step equal to that atom"
unfoldable pub makes_atom : List ℕ → Row → Atom → Bool
makes_atom values r = equal_to r.p (operand values r.a) (operand values r.b)

unfoldable pub is_subgoal_step : Config → Plan → Row → Bool
is_subgoal_step c q r = eqb r.op 36 && some (λ x. eqb x.id q.subgoal && makes_atom q.values r x) c.atoms

-- "each plan's rule is an object rule of the program given; a plan with a subgoal has as first step a subgoal step equal to that atom"
unfoldable pub plan_formed : List Row → Config → Plan → Bool
plan_formed program c q = all_true (
    is_object program q.set q.rule ∷
    leb q.left (length (body program q.set q.rule)) ∷
    eqb (length q.values) 8 ∷
    every (λ v. leb v no_value) q.values ∷
    every (row_has_values q.values) (body program q.set q.rule) ∷
    leb q.flags 65535 ∷
    (eqb q.subgoal 0 || some (is_subgoal_step c q) (first_of (remainder program q))) ∷ [])

-- "a waiting plan is alive, in exec phase, with an external action first"
abbrev pub is_waiting : List Row → ℕ → Plan → Bool
is_waiting program n q = eqb q.id n && some (λ r. eqb r.op 31) (first_of (remainder program q))

unfoldable pub waiting_formed : List Row → Config → Bool
waiting_formed program c = eqb c.waiting 0 || (eqb c.phase (sets program + 1) && some (is_waiting program c.waiting) c.plans)

-- "all limits above hold" and the clauses above
unfoldable pub config_formed : List Row → Config → Bool
config_formed program c = all_true (
    leb (length c.atoms) most_atoms ∷
    leb (length c.plans) most_plans ∷
    leb c.phase (sets program + 1) ∷
    leb c.cycle 65535 ∷
    leb c.next last_next ∷
    graph_formed (graph c) ∷
    every atom_formed c.atoms ∷
    every (plan_formed program c) c.plans ∷
    waiting_formed program c ∷ [])

-- refusal 1: "program or configuration not well formed"
unfoldable pub given_well : List Row → Config → Bool
given_well program c = well_formed program && config_formed program c

unfoldable pub opened : Unit {0}
unfolding node_formed graph_formed atom_formed row_has_values makes_atom is_subgoal_step plan_formed waiting_formed config_formed given_well
opened = tt
