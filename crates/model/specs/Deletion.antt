-- "Deletion (001)": on a configuration, by the links of its graph.
use Rattle.std.specs.Prelude.{◌≡◌, ◌⊎◌, ◌↔◌, ◌≢◌, List, map, ℕ, ◌-◌}
use Rattle.lists.specs.Lists.{In, keep, bit}
use Rattle.model.specs.Graph.{Link, Node, Graph, links, Reach, reached, survives, loses_subgoal, choose}
use Rattle.model.specs.Configuration.{Atom, Plan, Config, SameScalars, atom_ids, plan_ids, with_instances, with_subgoal, step_removed}

abbrev pub node : Plan → Node
node q = record { id = q.id; justifications = q.justifications; subgoal = q.subgoal }

abbrev pub graph : Config → Graph
graph c = record { atoms = atom_ids c; plans = map node c.plans; next = c.next }

abbrev pub links_in : Config → List Link
links_in c = links (map node c.plans)

-- "a surviving plan that loses its subgoal loses its first step too"
abbrev pub plan_without : List ℕ → Plan → Plan
plan_without D q = record {
  id = q.id;
  set = q.set;
  rule = q.rule;
  values = q.values;
  left = q.left - bit (loses_subgoal D q.subgoal);
  justifications = q.justifications;
  subgoal = choose (loses_subgoal D q.subgoal) 0 q.subgoal;
  flags = q.flags;
}

-- "Deleting a target removes exactly the instances reached from it by zero or more links"
abbrev pub remove : ℕ → Config → Config
remove t c =
    let D : List ℕ = reached (links_in c) t in
    with_instances c
    (keep (λ (x : Atom). survives D x.id) c.atoms)
    (map (plan_without D) (keep (λ (q : Plan). survives D q.id) c.plans))
    c.next

-- the same in the paper's words
abbrev pub LeadsTo : Config → ℕ → ℕ → Type 0
LeadsTo c t x = Reach (links_in c) t x

pub record Deleted (t : ℕ) (c d : Config) : Type 0 where
  pub atoms_left : (x : Atom) → In x d.atoms ↔ (In x c.atoms × (¬ LeadsTo c t x.id))
  pub plans_left : (k : ℕ) → In k (plan_ids d) ↔ (In k (plan_ids c) × (¬ LeadsTo c t k))
  pub links_left : (l : Link) → In l (links_in d) ↔ (In l (links_in c) × (¬ LeadsTo c t l.from) × (¬ LeadsTo c t l.to))
  pub plan_kept : (q : Plan) → In q c.plans → ¬ LeadsTo c t q.id → (q.subgoal ≡ 0) ⊎ (¬ LeadsTo c t q.subgoal) → In q d.plans
  pub plan_shortened : (q : Plan) → In q c.plans → ¬ LeadsTo c t q.id → q.subgoal ≢ 0 → LeadsTo c t q.subgoal → In (with_subgoal 0 (step_removed q)) d.plans
  pub next_kept : d.next ≡ c.next
  pub scalars_kept : SameScalars c d
