-- The candidates that are passed over give nothing.
use native.Mathlib.Omega.{arith}
use Rattle.queries.proofs.Skips.{hits_skipped}
use Rattle.queries.proofs.Seeking.{seeking_first, seeking_on, seeking_ends, seeking_hits, seeking_misses}
use Rattle.queries.proofs.next_candidate.Goals as goal

pub loop-c-init : goal.loop-c-init
loop-c-init c =
    let p = c.requires in
    let k = c.skip-c.ensures in
    seeking_on (seeking_first p.2) _ k.on (hits_skipped _ _ _ _ _ _ _ _ _ c.wanted_by-i.ensures.wants c.wanted_by-a.ensures.wants c.wanted_by-b.ensures.wants k)

pub candidate_at-x-requires : goal.candidate_at-x-requires
candidate_at-x-requires c = let n = c.count-n.ensures in let h = c.loop-c-test.true in (c.requires.0, omega arith)

pub returns-then-take-clause-is : goal.returns-then-take-clause-is
returns-then-take-clause-is c =
    let n = c.count-n.ensures in
    let k = c.loop-c-test.true in
    seeking_hits c.loop-c.invariant (omega arith) c.candidate_at-x.result c.candidate_at-x.ensures c.take.result _ _ c.take.ensures.is c.if-take.true

pub loop-c-smaller : goal.loop-c-smaller
loop-c-smaller c = let h = c.loop-c-test.true in let on = c.skip-c-in-loop-c.ensures.on in omega arith

pub loop-c-preserved : goal.loop-c-preserved
loop-c-preserved c =
    let n = c.count-n.ensures in
    let h = c.loop-c-test.true in
    let k = c.skip-c-in-loop-c.ensures in
    seeking_on
    (seeking_misses c.loop-c.invariant (omega arith) c.candidate_at-x.result c.candidate_at-x.ensures c.take.result _ _ c.take.ensures.is c.if-take.false c.take.ensures.kept)
    _ k.on (hits_skipped _ _ _ _ _ _ _ _ _ c.wanted_by-i.ensures.wants c.wanted_by-a.ensures.wants c.wanted_by-b.ensures.wants k)

pub returns-clause-is : goal.returns-clause-is
returns-clause-is c =
    let n = c.count-n.ensures in
    let h = c.loop-c-test.false in
    seeking_ends c.loop-c.invariant (omega arith)
