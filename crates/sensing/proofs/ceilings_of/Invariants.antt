-- The first k rows have been looked at (`Looked`).
use Rattle.sensing.proofs.Ceilings.{Looked}
use Rattle.sensing.proofs.ceilings_of.Given as goal

abbrev pub invariant-loop-k : goal.invariant-loop-k
invariant-loop-k l = Looked l.program l.from l.to l.k
