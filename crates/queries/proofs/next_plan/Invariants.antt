-- The loop's invariant: none of the plans before c fits.
use Rattle.queries.proofs.Seeking.{Seeking}
use Rattle.queries.proofs.next_plan.Given as goal

abbrev pub invariant-loop-c : goal.invariant-loop-c
invariant-loop-c l = Seeking l.words l.fn.s l.r l.before l.initial.matched l.count l.from l.values l.matched l.c
