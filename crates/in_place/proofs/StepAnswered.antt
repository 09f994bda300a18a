-- step, test by test.
use mathlib.Core.Path.{◌≡◌, sym, ap, ◌∙◌}
use mathlib.Core.Bool.{Bool, true, not, ◌||◌}
use mathlib.Core.Logic.{◌≢◌}
use mathlib.Core.List.{List}
use Prim.Native.Nat.{ℕ}
use lib.Dec.{eqb}
use borrow.Author.Tests.{eq-eqb, ne_eqb}
use Rattle.lists.proofs.Lists.{or_right}
use Rattle.model.specs.declared.Row.{Row}
use Rattle.model.specs.Configuration.{Config}
use Rattle.model.specs.declared.refusal.Refusal.TheVariants.{OutOfTurn}
use Rattle.model.specs.Log.{answer_of}
use Rattle.model.specs.Calls.{step, Call, to_step, work, reply}
use Rattle.program.specs.Rows.{rows_of}
use Rattle.demands.proofs.Outcomes.{unless_true}
use Rattle.state.specs.declared.Scalars.{Scalars}
use Rattle.state.specs.View.{config_of}
use Rattle.running.specs.Running.{InTurn}
use Rattle.in_place.specs.Given.{given_rows, admitted, Admitted}
use Rattle.in_place.specs.Answers.{refused_with}
use Rattle.in_place.proofs.Outcomes.{is_admitted, rows_admitted, given_admitted, refuses}

module _ (program : List ℕ) (c : Config) (a : admitted program c ≡ true) where
  abbrev call : Call
  call = to_step (given_rows program)

  pub step_phase : c.phase ≡ 0 → refused_with c OutOfTurn ≡ reply call c
  unfolding work step
  step_phase z = refuses call c OutOfTurn (is_admitted program c _ a ∙ unless_true _ 6 _ (ap (λ (b : Bool). b || not (eqb c.waiting 0)) (eq-eqb c.phase 0 z)))

  pub step_waiting : c.waiting ≢ 0 → refused_with c OutOfTurn ≡ reply call c
  unfolding work step
  step_waiting z = refuses call c OutOfTurn (is_admitted program c _ a ∙ unless_true _ 6 _ (or_right (eqb c.phase 0) (ap not (ne_eqb c.waiting 0 z))))

  -- the rows are the program's
  pub step_rows : answer_of c (step (rows_of program) c) ≡ reply call c
  unfolding work
  step_rows = ap (λ (rows : List Row). answer_of c (step rows c)) (sym (rows_admitted program c a))

-- what is admitted outside phase 0, and does not wait, can take steps
pub in_turn : (program words : List ℕ) (s : Scalars) → Admitted program words s → s.phase ≢ 0 → s.waiting ≡ 0 → InTurn program words s
in_turn program words s a p w = record { well = given_admitted program (config_of words s) a; outside = p; idle = w }

pub ruleset stepping = (step_phase, step_waiting, step_rows, in_turn)
