-- The loop's invariant: no atom before stands so.
use Rattle.queries.specs.View.{Without}
use Rattle.queries.proofs.candidates.pass_ones.Given as goal

abbrev pub invariant-loop-c : goal.invariant-loop-c
invariant-loop-c l = Without l.words l.p l.y l.v l.z l.w l.from l.c
