use mathlib.Core.List.{[]}
use native.Mathlib.Omega.{arith}
use Rattle.table.proofs.Parts.{rest_is}
use Rattle.interpreter.proofs.Totals.{ends, moved, small, goes_on}
use Rattle.interpreter.proofs.play_calls.Goals as goal

pub and-worked-requires : goal.and-worked-requires
and-worked-requires c =
    let at = c.loop-size in
    let f = rest_is at.at c.args.calls.now [] in
    let m = moved at.invariant f c.in-Some.ensures in
    let g = small at.invariant f c.in-Some.ensures _ _ c.play_call-r.ensures c.unwrap_or.ensures c.requires in
    (omega (arith, m, at.invariant.few), g.0, g.1)

pub overflow_add-at : goal.overflow_add-at
overflow_add-at c =
    let at = c.loop-size in
    let m = moved at.invariant (rest_is at.at c.args.calls.now []) c.in-Some.ensures in
    omega (arith, m, c.well_formed)

pub loop-size-smaller : goal.loop-size-smaller
loop-size-smaller c =
    let at = c.loop-size in
    let m = moved at.invariant (rest_is at.at c.args.calls.now []) c.in-Some.ensures in
    omega (arith, m)

pub loop-size-preserved : goal.loop-size-preserved
loop-size-preserved c =
    let at = c.loop-size in
    goes_on at.invariant (rest_is at.at c.args.calls.now []) c.in-Some.ensures _ _ c.play_call-r.ensures c.unwrap_or.ensures c.and-worked.ensures

pub returns : goal.returns
returns c =
    let at = c.loop-size in
    ends at.invariant (rest_is at.at c.args.calls.now []) c.in_default.ensures
