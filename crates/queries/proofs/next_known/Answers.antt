-- No other candidate fits: what is behind the one is nothing.
use native.Mathlib.Omega.{arith}
use Rattle.queries.specs.View.{found_in}
use Rattle.queries.proofs.Halves.{alone_none, alone_past, alone_fits, alone_fails}
use Rattle.queries.proofs.next_known.Goals as goal

pub returns-in_err-c-clause-is : goal.returns-in_err-c-clause-is
returns-in_err-c-clause-is c =
    let a = c.args in
    rw c.from_residual.ensures (record { is = alone_none a.words.now a.s a.r (found_in a.before a.matched.now a.count) _ c.requires.3 c.in_err-c.ensures a.from; further = tt })

pub returns-then-c-from-clause-is : goal.returns-then-c-from-clause-is
returns-then-c-from-clause-is c =
    let a = c.args in
    record { is = alone_past a.words.now a.s a.r (found_in a.before a.matched.now a.count) _ _ c.requires.3 c.in_ok-c.ensures a.from c.if-c-from.true; further = tt }

pub returns-then-take-clause-is : goal.returns-then-take-clause-is
returns-then-take-clause-is c =
    let a = c.args in
    let h = c.if-c-from.false in
    let low = c.in_ok-c.ensures.inside in
    record {
      is = alone_fits a.words.now a.s a.r (found_in a.before a.matched.now a.count) _ _ c.requires.3 c.in_ok-c.ensures a.from h c.candidate_at-x.result c.candidate_at-x.ensures c.take.result _
          (rw c.requires.2 at c.take.ensures.is) c.if-take.true;
      further = (omega arith, omega arith);
    }

pub returns-clause-is : goal.returns-clause-is
returns-clause-is c =
    let a = c.args in
    let h = c.if-c-from.false in
    record {
      is = alone_fails a.words.now a.s a.r (found_in a.before a.matched.now a.count) _ _ c.requires.3 c.in_ok-c.ensures a.from h c.candidate_at-x.result c.candidate_at-x.ensures c.take.result _
          (rw c.requires.2 at c.take.ensures.is) c.if-take.false;
      further = tt;
    }
