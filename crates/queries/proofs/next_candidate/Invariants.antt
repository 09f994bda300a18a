-- The loop's invariant: none of the candidates before c fits.
use Prim.Native.Nat.{◌-◌}
use Rattle.queries.proofs.Seeking.{Seeking}
use Rattle.queries.proofs.next_candidate.Given as goal

abbrev pub invariant-loop-c : goal.invariant-loop-c
invariant-loop-c l = Seeking l.words l.s l.r l.before l.initial.matched l.count l.fn.from l.values l.matched l.c

abbrev pub decreases-loop-c : goal.decreases-loop-c
decreases-loop-c l = l.n - l.c
