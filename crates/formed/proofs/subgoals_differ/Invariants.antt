-- The marks are those of the first k plans (`Marked`).
use Rattle.formed.proofs.Apart.{Marked}
use Rattle.formed.proofs.subgoals_differ.Given as goal

abbrev pub invariant-loop-k : goal.invariant-loop-k
invariant-loop-k l = Marked l.words l.atoms l.marks l.k
