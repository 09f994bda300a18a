use borrow.Author.Rules.{rules}
use Rattle.deletion.proofs.Moves.{five_moved}
use Rattle.deletion.proofs.move_atoms.Goals as goal

pub returns : goal.returns
returns c = search (rules, five_moved)
