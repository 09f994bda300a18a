-- A step past its tests, by its phase.
use Rattle.std.specs.Prelude.{if◌then◌else◌}
use mathlib.Core.Path.{◌≡◌, ap, ◌∙◌}
use mathlib.Core.Bool.{Bool, not, ◌||◌}
use mathlib.Core.List.{List}
use Prim.Native.Nat.{ℕ, ◌≤◌, ◌<◌}
use lib.Dec.{eqb, leb}
use borrow.Author.Tests.{eq-eqb, ne_eqb, le-leb, lt-leb}
use Rattle.lists.specs.Lists.{Pairs, keep}
use Rattle.model.specs.declared.Row.{Row}
use Rattle.model.specs.Program.{sets}
use Rattle.model.specs.Configuration.{Config}
use Rattle.model.specs.WellFormed.{given_well}
use Rattle.model.specs.Matching.{firing}
use Rattle.model.specs.Log.{Outcome}
use Rattle.model.specs.Calls.{fire_first, is_due, execute, step}
use Rattle.program.specs.Rows.{rows_of}
use Rattle.program_laws.specs.Lawful.{NotLater}
use Rattle.demands.proofs.Outcomes.{unless_false}
use Rattle.state.specs.declared.Scalars.{Scalars}
use Rattle.state.specs.View.{config_of}
use Rattle.stepping.proofs.Standing.{lawful_rows}
use Rattle.running.specs.Running.{InTurn}

module _ (program words : List ℕ) (s : Scalars) (t : InTurn program words s) where
  abbrev P : List Row
  P = rows_of program

  abbrev C : Config
  C = config_of words s

  abbrev by_phase : Bool → Outcome
  by_phase b = if b then fire_first P C (firing P C s.phase) else execute P C (keep is_due C.plans)

  past_tests : step P C ≡ by_phase (leb s.phase (sets P))
  unfolding step
  past_tests =
      unless_false (not (given_well P C)) 1 _ (ap not t.well)
      ∙ unless_false (eqb s.phase 0 || not (eqb s.waiting 0)) 6 _ (ap (λ (b : Bool). b || not (eqb s.waiting 0)) (ne_eqb s.phase 0 t.outside) ∙ ap not (eq-eqb s.waiting 0 t.idle))

  pub rows_ordered : Pairs NotLater P
  rows_ordered = (lawful_rows program words s t.well).ordered

  pub fires_step : s.phase ≤ sets P → step P C ≡ fire_first P C (firing P C s.phase)
  fires_step h = past_tests ∙ ap by_phase (le-leb s.phase (sets P) h)

  pub executes_step : sets P < s.phase → step P C ≡ execute P C (keep is_due C.plans)
  executes_step h = past_tests ∙ ap by_phase (lt-leb s.phase (sets P) h)

pub ruleset by_its_phase = (rows_ordered, fires_step, executes_step)
