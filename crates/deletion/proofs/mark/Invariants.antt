-- After i plans the marks tell what is left once the ids found so far are gone (`Passed`).
use Rattle.deletion.proofs.Pass.{Passed}
use Rattle.deletion.proofs.mark.Given as goal

abbrev pub invariant-loop-i : goal.invariant-loop-i
invariant-loop-i l = Passed l.words l.scalars l.target l.i l.left
