-- What a caller has of a sound configuration: ids rise, counts are lengths, a plan is found again after a change.
use mathlib.Core.Path.{◌≡◌, refl, ap, sym, ◌∙◌}
use mathlib.Core.List.{List, map}
use mathlib.Core.Logic.{◌≢◌}
use Prim.Native.Nat.{ℕ, ◌<◌, ◌≤◌}
use lib.Dec.{ltb}
use lib.ListN.{length, get_or, length-map}
use borrow.Author.Tests.{eq-eqb}
use Rattle.lists.specs.Tables.{tabulate, index_of}
use Rattle.lists.proofs.Tests.{map_pairs}
use Rattle.lists.proofs.Tables.{tabulate_length, tabulate_at, tabulate_map, index_tabulated, index_missing, index_member}
use Rattle.model.specs.Graph.{Node, Sound}
use Rattle.model.specs.Deletion.{node, graph}
use Rattle.model.specs.declared.Atom.{Atom}
use Rattle.model.specs.Configuration.{Plan, Config, atom_alive, plan_alive, at_plan, change_plan}
use Rattle.state.specs.declared.Scalars.{Scalars}
use Rattle.state.specs.View.{atom_at, plan_at, atoms_of, plans_of, config_of, atom_ids_of, plan_ids_of, AtomsRise, PlansRise, SoundWords, LivePlan}

module _ (W : List ℕ) (s : Scalars) where
  pub atoms_counted : length (config_of W s).atoms ≡ s.atoms
  atoms_counted = tabulate_length s.atoms (atom_at W)

  pub plans_counted : length (config_of W s).plans ≡ s.plans
  plans_counted = tabulate_length s.plans (plan_at W)

  module _ (sound : Sound (graph (config_of W s))) where
    pub sound_atoms_rise : AtomsRise s.atoms W
    sound_atoms_rise = map_pairs (λ (x y : ℕ). x < y) (λ (x : Atom). x.id) (atoms_of s.atoms W) sound.atoms_rise

    pub sound_plans_rise : PlansRise s.plans W
    sound_plans_rise = map_pairs (λ (p q : Node). p.id < q.id) node (plans_of s.plans W) sound.plans_rise

-- what a caller needs to change plan k
pub sound_live : (W : List ℕ) (s : Scalars) (k : ℕ) → SoundWords W s → k < s.plans → LivePlan W s k
sound_live W s k h there = record { few_atoms = h.few_atoms; few_plans = h.few_plans; there = there; rise = sound_plans_rise W s h.sound }

-- an id is found where it stands, or stands nowhere
module _ (n : ℕ) (W : List ℕ) (x : ℕ) where
  atom_ids_are : tabulate n (λ (k : ℕ). (atom_at W k).id) ≡ atom_ids_of n W
  atom_ids_are = tabulate_map (λ (a : Atom). a.id) n (atom_at W)

  plan_ids_are : tabulate n (λ (k : ℕ). (plan_at W k).id) ≡ plan_ids_of n W
  plan_ids_are = tabulate_map (λ (q : Plan). q.id) n (plan_at W)

  pub found_atom : index_of x (atom_ids_of n W) < n → (atom_at W (index_of x (atom_ids_of n W))).id ≡ x
  found_atom = rw (← atom_ids_are) (index_tabulated n (λ (k : ℕ). (atom_at W k).id) x)

  pub missing_atom : n ≤ index_of x (atom_ids_of n W) → (k : ℕ) → k < n → (atom_at W k).id ≢ x
  missing_atom = rw (← atom_ids_are) (index_missing n (λ (k : ℕ). (atom_at W k).id) x)

  pub found_plan : index_of x (plan_ids_of n W) < n → (plan_at W (index_of x (plan_ids_of n W))).id ≡ x
  found_plan = rw (← plan_ids_are) (index_tabulated n (λ (k : ℕ). (plan_at W k).id) x)

  pub missing_plan : n ≤ index_of x (plan_ids_of n W) → (k : ℕ) → k < n → (plan_at W k).id ≢ x
  missing_plan = rw (← plan_ids_are) (index_missing n (λ (k : ℕ). (plan_at W k).id) x)

-- an id is alive exactly if it is found
module _ (W : List ℕ) (s : Scalars) (x : ℕ) where
  pub found_atom_alive : ltb (index_of x (atom_ids_of s.atoms W)) s.atoms ≡ atom_alive (config_of W s) x
  unfolding atom_alive
  found_atom_alive =
      let ids : List ℕ = atom_ids_of s.atoms W in
      ap (ltb (index_of x ids)) (sym (length-map (atoms_of s.atoms W) (λ (a : Atom). a.id) ∙ atoms_counted W s)) ∙ index_member x ids

  pub found_plan_alive : ltb (index_of x (plan_ids_of s.plans W)) s.plans ≡ plan_alive (config_of W s) x
  unfolding plan_alive
  found_plan_alive =
      let ids : List ℕ = plan_ids_of s.plans W in
      ap (ltb (index_of x ids)) (sym (length-map (plans_of s.plans W) (λ (q : Plan). q.id) ∙ plans_counted W s)) ∙ index_member x ids

-- the plan that was changed
pub plan_after : (W X : List ℕ) (s : Scalars) (k : ℕ) (f : Plan → Plan) → k < s.plans → config_of X s ≡ change_plan (plan_at W k).id f (config_of W s) → plan_at X k ≡ f (plan_at W k)
plan_after W X s k f h e =
    let n = s.plans in
    let g : Plan → Plan = at_plan (plan_at W k).id f in
    let ps : plans_of n X ≡ map g (plans_of n W) = ap (λ (c : Config). c.plans) e in
    sym (tabulate_at n (plan_at X) k (plan_at X 0) h)
    ∙ ap (λ (l : List Plan). get_or l k (plan_at X 0)) (ps ∙ sym (tabulate_map g n (plan_at W)))
    ∙ tabulate_at n (λ (i : ℕ). g (plan_at W i)) k (plan_at X 0) h
    ∙ rw (eq-eqb (plan_at W k).id (plan_at W k).id refl)
