-- What a run leaves, in the paper's terms.
use Rattle.std.specs.Prelude.{◌≡◌, ◌≢◌, List, ℕ}
use Rattle.model.specs.Refusals.{number_of}
use Rattle.model.specs.Run as Run
use Rattle.state.specs.declared.Scalars.{Scalars}
use Rattle.state.specs.View.{config_of}
use Rattle.stepping.specs.Steps.{WellWords}
use Rattle.running.specs.declared.Stop.{Stop}
use Rattle.running.specs.declared.Stop.TheVariants.{Phase0, Waiting, Limit, Refused}
use Rattle.running.specs.declared.Course.{Course}

-- "outside phase 0 and not waiting"
pub record InTurn (program words : List ℕ) (s : Scalars) : Type 0 where
  pub well : WellWords program words s
  pub outside : s.phase ≢ 0
  pub idle : s.waiting ≡ 0

-- "phase 0, waiting, the limit, or a next step that would be refused", "with the refusal's number"
abbrev pub stop_of : Stop → Run.Stop
stop_of Phase0 = Run.at-phase-0
stop_of Waiting = Run.at-waiting
stop_of Limit = Run.at-limit
stop_of (Refused e) = Run.next_refused (number_of e)

-- "it returns the steps taken, their made and gone summed, and which"
abbrev pub run_of : List ℕ → Course → Run.Run
run_of words r = record { config = config_of words r.scalars; steps = r.steps; made = r.made; gone = r.gone; stop = stop_of r.stop }
