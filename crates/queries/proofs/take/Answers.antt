-- A candidate that is not there or does not fit gives nothing; a reason adds its id, any other row does not.
use borrow.Author.Tests.{eq-eqb}
use mathlib.Core.Path.{◌∙◌}
use native.Mathlib.Omega.{arith}
use Prim.Native.Nat.{◌+◌, ◌≤◌, ◌<◌}
use lib.ListN.{length}
use Rattle.queries.proofs.Laws.{taken_none, taken_plain, taken_reason, tried_there, reason_more, none_more}
use Rattle.queries.proofs.take.Goals as goal

pub returns-then-not-fit-clause-is : goal.returns-then-not-fit-clause-is
returns-then-not-fit-clause-is c = rw c.in-Some.is (taken_none c.fit.result _ _ _ _ c.fit.ensures c.if-not-fit.true ∙ tried_there _ _ _)

pub returns-then-r-eq1-clause-is : goal.returns-then-r-eq1-clause-is
returns-then-r-eq1-clause-is c =
    let h : c.args.count + 1 ≤ 4 = simp (eq-eqb _ _ c.if-r-eq1.true) at c.requires in
    let g : c.args.count < length c.args.matched.now = omega arith in
    rw c.in-Some.is (taken_reason c.fit.result _ _ _ _ c.fit.ensures c.if-not-fit.false c.if-r-eq1.true _ (reason_more c.args.r _ _ c.if-r-eq1.true _ g) ∙ tried_there _ _ _)

pub returns-clause-is : goal.returns-clause-is
returns-clause-is c = rw c.in-Some.is (taken_plain c.fit.result _ _ _ _ c.fit.ensures c.if-not-fit.false c.if-r-eq1.false _ (none_more c.args.r _ _ c.if-r-eq1.false) ∙ tried_there _ _ _)
