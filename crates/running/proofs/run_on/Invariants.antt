-- What is left of the run is a run of the steps that are left.
use Rattle.running.proofs.Turns.{Running}
use Rattle.running.proofs.run_on.Given as goal

abbrev pub invariant-loop-steps : goal.invariant-loop-steps
invariant-loop-steps l = Running l.program l.initial.words l.initial.s l.limit l.words l.s l.steps l.made l.gone
