-- What is known of words that hold a well-formed configuration.
use mathlib.Core.Path.{◌≡◌, subst}
use mathlib.Core.Bool.{true, and-eq-true_iff}
use mathlib.Core.List.{List}
use Prim.Native.Nat.{ℕ, ◌<◌, ◌≤◌}
use native.Mathlib.Omega.{arith}
use Rattle.lists.specs.Lists.{In}
use Rattle.lists.proofs.Tables.{get_in, tabulate_at}
use Rattle.model.specs.Graph.{Sound}
use Rattle.model.specs.Deletion.{graph}
use Rattle.model.specs.Render.{well_formed}
use Rattle.model.specs.WellFormed.{config_formed, given_well}
use Rattle.model.specs.Configuration.{Plan, Config}
use Rattle.program.specs.Rows.{rows_of}
use Rattle.program_laws.specs.Lawful.{Lawful}
use Rattle.program_laws.proofs.Lawful.{lawful}
use Rattle.demands.proofs.Shape.{Shaped, formed_shaped}
use Rattle.state.specs.declared.Scalars.{Scalars}
use Rattle.state.specs.View.{plan_at, config_of, SoundWords}
use Rattle.state.proofs.Live.{atoms_counted, plans_counted}
use Rattle.stepping.specs.Steps.{WellWords}

-- plan k is one of the live plans
pub live_plan : (words : List ℕ) (s : Scalars) (k : ℕ) → k < s.plans → In (plan_at words k) (config_of words s).plans
live_plan words s k h =
    let n = plans_counted words s in
    let q = plan_at words k in
    subst (λ (p : Plan). In p (config_of words s).plans) (tabulate_at s.plans (plan_at words) k q h) (get_in (config_of words s).plans k q (omega arith))

module _ (program words : List ℕ) (s : Scalars) (w : WellWords program words s) where
  abbrev C : Config
  C = config_of words s

  formed : (well_formed (rows_of program) ≡ true) × (config_formed (rows_of program) C ≡ true)
  unfolding given_well
  formed = (and-eq-true_iff (well_formed (rows_of program)) (config_formed (rows_of program) C)).0 w

  pub lawful_rows : Lawful (rows_of program)
  lawful_rows = lawful (rows_of program) formed.0

  pub sound_graph : Sound (graph C)
  sound_graph = (formed_shaped (rows_of program) C formed.1).0

  pub shaped : Shaped (rows_of program) C
  shaped = (formed_shaped (rows_of program) C formed.1).1

  pub whole : SoundWords words s
  whole = record {
    few_atoms = let h = atoms_counted words s in omega (arith, shaped.few_atoms);
    few_plans = let h = plans_counted words s in omega (arith, shaped.few_plans);
    sound = sound_graph;
  }

  pub flags_fit : (k : ℕ) → k < s.plans → (plan_at words k).flags ≤ 65535
  flags_fit k h = (shaped.plans_formed (plan_at words k) (live_plan words s k h)).flags_fit
