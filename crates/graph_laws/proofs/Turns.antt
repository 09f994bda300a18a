-- Each change of a configuration is an event on its graph, or none; lists of events join.
use Rattle.std.specs.Prelude.{if◌then◌else◌}
use mathlib.Core.Path.{◌≡◌, refl, sym, ap, ◌∙◌}
use mathlib.Core.Bool.{Bool, true, false}
use mathlib.Core.List.{List, [], ◌∷◌, ◌++◌, map}
use Prim.Native.Nat.{ℕ, ◌+◌}
use native.Mathlib.Omega.{arith}
use lib.Dec.{eqb}
use Rattle.lists.specs.Lists.{rising_set, keep}
use Rattle.lists.proofs.Lists.{map_append, map_map, map_keep}
use Rattle.model.specs.Graph.{Node, Graph, links, reached, survives, choose, unlinked}
use Rattle.model.specs.Events.{linked, Event, atom_made, plan_made, subgoal_made, deletion, change, changes, AllFit, all_made, all_gone}
use Rattle.model.specs.declared.Atom.{Atom}
use Rattle.model.specs.Configuration.{Plan, Config, with_instances, new_atom, add_atom, add_plan, add_subgoal, with_subgoal, at_plan, change_plan}
use Rattle.model.specs.Deletion.{node, graph, plan_without, remove}

graph_path : {xs ys : List ℕ} {ps qs : List Node} {k : ℕ} → xs ≡ ys → ps ≡ qs →
    ◌≡◌ {A = Graph} (record { atoms = xs; plans = ps; next = k }) (record { atoms = ys; plans = qs; next = k })
graph_path {k = k} p q = λ i. record { atoms = p i; plans = q i; next = k }

pub turns_atom : (p a b : ℕ) (c : Config) → graph (add_atom p a b c) ≡ change (graph c) atom_made
turns_atom p a b c = graph_path (map_append (λ (x : Atom). x.id) c.atoms (new_atom c p a b ∷ [])) refl

pub turns_plan : (s n : ℕ) (values : List ℕ) (left : ℕ) (js : List ℕ) (c : Config) → graph (add_plan s n values left (rising_set js) c) ≡ change (graph c) (plan_made js)
turns_plan s n values left js c = graph_path refl (map_append node c.plans (_ ∷ []))

-- the plan k gets the subgoal m, on the configuration and on the graph
node_linked : (k m : ℕ) (q : Plan) → node (at_plan k (with_subgoal m) q) ≡ linked k m (node q)
node_linked k m q = at (eqb q.id k)
  where
    at : (b : Bool) → node (if b then with_subgoal m q else q) ≡ record { id = q.id; justifications = q.justifications; subgoal = choose b m q.subgoal }
    at true = refl
    at false = refl

nodes_linked : (k m : ℕ) (qs : List Plan) → map node (map (at_plan k (with_subgoal m)) qs) ≡ map (linked k m) (map node qs)
nodes_linked k m [] = refl
nodes_linked k m (q ∷ qs) = cc (node_linked k m q, nodes_linked k m qs)

pub turns_subgoal : (k p a b : ℕ) (c : Config) → graph (add_subgoal k p a b c) ≡ change (graph c) (subgoal_made k)
turns_subgoal k p a b c = graph_path (map_append (λ (x : Atom). x.id) c.atoms (new_atom c p a b ∷ [])) (nodes_linked k c.next c.plans)

pub turns_remove : (t : ℕ) (c : Config) → graph (remove t c) ≡ change (graph c) (deletion t)
turns_remove t c =
    let D : List ℕ = reached (links (map node c.plans)) t in
    graph_path (map_keep (λ (x : Atom). x.id) (survives D) c.atoms)
    (map_map (plan_without D) node (keep (λ (p : Plan). survives D p.id) c.plans)
    ∙ sym (map_map node (unlinked D) (keep (λ (p : Plan). survives D p.id) c.plans))
    ∙ ap (map (unlinked D)) (map_keep node (λ (p : Node). survives D p.id) c.plans))

-- a change of the plans that keeps ids, justifications and subgoals is no event
nodes_kept : (f : Plan → Plan) → ((q : Plan) → node (f q) ≡ node q) → (qs : List Plan) → map node (map f qs) ≡ map node qs
nodes_kept f h [] = refl
nodes_kept f h (q ∷ qs) = rw (h q, nodes_kept f h qs)

pub turns_not : (f : Plan → Plan) → ((q : Plan) → node (f q) ≡ node q) → (c : Config) →
    graph (with_instances c c.atoms (map f c.plans) c.next) ≡ graph c
turns_not f h c = graph_path refl (nodes_kept f h c.plans)

node_kept_at : (k : ℕ) (f : Plan → Plan) → ((q : Plan) → node (f q) ≡ node q) → (q : Plan) → node (at_plan k f q) ≡ node q
node_kept_at k f h q = at (eqb q.id k)
  where
    at : (b : Bool) → node (if b then f q else q) ≡ node q
    at true = h q
    at false = refl

pub change_plan_turns_not : (k : ℕ) (f : Plan → Plan) → ((q : Plan) → node (f q) ≡ node q) → (c : Config) → graph (change_plan k f c) ≡ graph c
change_plan_turns_not k f h c = turns_not (at_plan k f) (node_kept_at k f h) c

-- lists of events join
pub changes_append : (g : Graph) (es fs : List Event) → changes g (es ++ fs) ≡ changes (changes g es) fs
changes_append g [] fs = refl
changes_append g (e ∷ es) fs = changes_append (change g e) es fs

pub fit_append : (g : Graph) (es fs : List Event) → AllFit g es → AllFit (changes g es) fs → AllFit g (es ++ fs)
fit_append g [] fs h k = k
fit_append g (e ∷ es) fs h k = (h.0, fit_append (change g e) es fs h.1 k)

pub made_append : (es fs : List Event) → all_made (es ++ fs) ≡ all_made es + all_made fs
made_append [] fs = omega arith
made_append (e ∷ es) fs = let h = made_append es fs in omega arith

pub gone_append : (g : Graph) (es fs : List Event) → all_gone g (es ++ fs) ≡ all_gone g es + all_gone (changes g es) fs
gone_append g [] fs = omega arith
gone_append g (e ∷ es) fs = let h = gone_append (change g e) es fs in omega arith
