-- The first k plans are cleared.
use Rattle.executing.proofs.Cleared.{Clearing}
use Rattle.executing.proofs.clear_flags.Given as goal

abbrev pub invariant-loop-k : goal.invariant-loop-k
invariant-loop-k l = Clearing l.initial.words l.words l.k
