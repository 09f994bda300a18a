-- Within the limits so far, and with values for the variables of the rows from j on (`Limiting`).
use Rattle.formed_plans.proofs.Within.{Limiting}
use Rattle.formed_plans.proofs.limits_of.Given as goal

abbrev pub invariant-loop-j : goal.invariant-loop-j
invariant-loop-j l = Limiting l.program l.from l.to l.j l.limits
