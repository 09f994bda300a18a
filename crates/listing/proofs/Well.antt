-- Words that hold a well-formed configuration can be listed.
use mathlib.Core.Path.{subst}
use mathlib.Core.List.{List}
use Prim.Native.Nat.{ℕ, ◌<◌}
use native.Mathlib.Omega.{arith}
use Rattle.lists.specs.Lists.{In}
use Rattle.lists.proofs.Lists.{in_map}
use Rattle.lists.proofs.Tables.{get_in, tabulate_at}
use Rattle.model.specs.declared.Atom.{Atom}
use Rattle.model.specs.Deletion.{node, graph}
use Rattle.state.specs.declared.Scalars.{Scalars}
use Rattle.state.specs.View.{atom_at, plan_at, config_of}
use Rattle.state.proofs.Live.{atoms_counted, sound_plans_rise}
use Rattle.stepping.specs.Steps.{WellWords}
use Rattle.stepping.proofs.Standing.{live_plan, sound_graph, whole}
use Rattle.listing.specs.Listing.{Listable}

-- atom k is one of the live atoms
live_atom : (words : List ℕ) (s : Scalars) (k : ℕ) → k < s.atoms → In (atom_at words k) (config_of words s).atoms
live_atom words s k h =
    let n = atoms_counted words s in
    let x = atom_at words k in
    subst (λ (y : Atom). In y (config_of words s).atoms) (tabulate_at s.atoms (atom_at words) k x h) (get_in (config_of words s).atoms k x (omega arith))

module _ (program words : List ℕ) (s : Scalars) (w : WellWords program words s) where
  alive_atom : (k : ℕ) → k < s.atoms → In (atom_at words k).id (graph (config_of words s)).atoms
  alive_atom k h = in_map (λ (x : Atom). x.id) (live_atom words s k h)

  alive_plan : (k : ℕ) → k < s.plans → In (node (plan_at words k)) (graph (config_of words s)).plans
  alive_plan k h = in_map node (live_plan words s k h)

  pub listable : Listable words s
  listable = record {
    few_atoms = (whole program words s w).few_atoms;
    few_plans = (whole program words s w).few_plans;
    plans_rise = sound_plans_rise words s (sound_graph program words s w);
    apart = λ i j h k. (sound_graph program words s w).apart (node (plan_at words j)) (alive_plan j k) (atom_at words i).id (alive_atom i h);
  }
