-- Words that hold a sound configuration hold one after each change that an event tells, and after one that no link sees.
use mathlib.Core.Path.{◌≡◌, sym, ap, ◌∙◌, subst}
use mathlib.Core.List.{List, map}
use Prim.Native.Nat.{ℕ, ◌+◌, ◌<◌}
use native.Mathlib.Omega.{arith}
use lib.ListN.{length, length-map}
use Rattle.lists.proofs.Tables.{tabulate_length}
use Rattle.model.specs.declared.Atom.{Atom}
use Rattle.model.specs.Graph.{Graph, Sound}
use Rattle.model.specs.Deletion.{node, graph, remove}
use Rattle.model.specs.Events.{atom_made, deletion, change, gone_by}
use Rattle.model.specs.Configuration.{Config, add_atom}
use Rattle.graph_laws.proofs.Keeps.{keeps}
use Rattle.graph_laws.proofs.Turns.{turns_atom, turns_remove}
use Rattle.graph_laws.proofs.Count.{change_size}
use Rattle.state.specs.declared.Scalars.{Scalars}
use Rattle.state.specs.View.{atom_at, plan_at, config_of, SoundWords, atom_counted}

module _ (words words' : List ℕ) (s s' : Scalars) (r : SoundWords words s) where
  -- an atom was made
  pub sound_added : (p a b : ℕ) → s.atoms < 256 → s' ≡ atom_counted s → config_of words' s' ≡ add_atom p a b (config_of words s) → SoundWords words' s'
  sound_added p a b h q e = record {
    few_atoms = let z : s'.atoms ≡ s.atoms + 1 = ap (λ (x : Scalars). x.atoms) q in omega arith;
    few_plans = let z : s'.plans ≡ s.plans = ap (λ (x : Scalars). x.plans) q in omega (arith, r.few_plans);
    sound = subst Sound (sym (ap graph e ∙ turns_atom p a b (config_of words s))) (keeps (graph (config_of words s)) atom_made r.sound tt);
  }

  -- the graph is what it was
  pub sound_still : s'.atoms ≡ s.atoms → s'.plans ≡ s.plans → graph (config_of words' s') ≡ graph (config_of words s) → SoundWords words' s'
  sound_still h k e = record { few_atoms = omega (arith, r.few_atoms); few_plans = omega (arith, r.few_plans); sound = subst Sound (sym e) r.sound }

-- an instance was deleted: nothing but what went is missing
module _ (words words' : List ℕ) (s s' : Scalars) (t : ℕ) (e : config_of words' s' ≡ remove t (config_of words s)) where
  abbrev C : Config
  C = config_of words s

  abbrev C' : Config
  C' = config_of words' s'

  sizes : length C'.atoms + length (map node C'.plans) + gone_by (graph C) (deletion t) ≡ length C.atoms + length (map node C.plans)
  sizes =
      let h = change_size (graph C) (deletion t) in
      let g : graph C' ≡ change (graph C) (deletion t) = ap graph e ∙ turns_remove t C in
      let i : length (graph C').atoms ≡ length (change (graph C) (deletion t)).atoms = ap (λ (x : Graph). length x.atoms) g in
      let j : length (graph C').plans ≡ length (change (graph C) (deletion t)).plans = ap (λ (x : Graph). length x.plans) g in
      let m : length (graph C').atoms ≡ length C'.atoms = length-map C'.atoms (λ (x : Atom). x.id) in
      let n : length (graph C).atoms ≡ length C.atoms = length-map C.atoms (λ (x : Atom). x.id) in
      omega arith

  pub counts_after : s'.atoms + s'.plans + gone_by (graph C) (deletion t) ≡ s.atoms + s.plans
  counts_after =
      let h = sizes in
      let i : length C'.atoms ≡ s'.atoms = tabulate_length s'.atoms (atom_at words') in
      let j : length C.atoms ≡ s.atoms = tabulate_length s.atoms (atom_at words) in
      let m : length (map node C'.plans) ≡ s'.plans = length-map C'.plans node ∙ tabulate_length s'.plans (plan_at words') in
      let n : length (map node C.plans) ≡ s.plans = length-map C.plans node ∙ tabulate_length s.plans (plan_at words) in
      omega arith
