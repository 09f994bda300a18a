-- The loop's invariant: the ids matched from place j on are put into rising order.
use Rattle.matching.proofs.Plans.{Sorted}
use Rattle.matching.proofs.rising_set.Given as goal

abbrev pub invariant-loop-j : goal.invariant-loop-j
invariant-loop-j l = Sorted l.matched l.count l.l l.j
