-- The loop's invariant: the variables before j that are in the set have the nogood's values.
use Rattle.table.specs.Rows.{row}
use Rattle.nogoods.proofs.Laws.{SameBelow}
use Rattle.nogoods.proofs.same_values.Given as goal

abbrev pub invariant-loop-j : goal.invariant-loop-j
invariant-loop-j l = SameBelow (row 15 l.nogoods l.at) l.values l.set l.j
