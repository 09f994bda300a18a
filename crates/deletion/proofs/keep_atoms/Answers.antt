-- A run that is left goes down behind what was kept before it.
use borrow.Author.Rules.{rules}
use Rattle.deletion.proofs.Moves.{compacted_run}
use Rattle.deletion.proofs.keep_atoms.Goals as goal

pub loop-i-preserved : goal.loop-i-preserved
loop-i-preserved c = search (rules, compacted_run)
