-- The loop's invariant: the first places are done, and what is carried goes into the rest, which is as it was.
use lib.ListN.{take}
use Rattle.matching.proofs.Plans.{Inserting}
use Rattle.matching.proofs.insert.Given as goal

abbrev pub invariant-loop-j : goal.invariant-loop-j
invariant-loop-j l = Inserting l.n (take l.count l.initial.ids) l.count l.ids l.carried l.j
