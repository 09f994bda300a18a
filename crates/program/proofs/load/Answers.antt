use mathlib.Core.Path.{refl}
use native.Mathlib.Omega.{arith}
use borrow.Author.Rules.{rules}
use Rattle.std.proofs.lemmas.Result.{err_from_is_err_and}
use Rattle.program.proofs.Loads.{refused_as, refused_layout, no_line, wrong_names, loading_begins, done_lacking, done, unended_line, unread_line, row_range, row_refused, row_room, row_taken}
use Rattle.program.proofs.load.Goals as goal
use Rattle.program.proofs.load.Goals.{then-text-first-via-then-text-first, then-text-first-via-else-text-first+then-not-is_names}

pub returns-then-text-first : goal.returns-then-text-first
returns-then-text-first c =
    let first = c.newline-first.ensures in
    refused_layout _ _ _
    (elim c.then-text-first.branch [
      | then-text-first-via-then-text-first w ↦ no_line _ first w.if-text-first.true
      | then-text-first-via-else-text-first+then-not-is_names w ↦ wrong_names _ first w.if-text-first.false w.is_names.ensures w.if-not-is_names.true
    ])
    c.unreadable.ensures

pub loop-at-init : goal.loop-at-init
loop-at-init c =
    (loading_begins _ c.newline-first.ensures _ _ (search rules) refl c.if-text-first.false c.is_names.ensures c.if-not-is_names.false c.at_first-scan.ensures, refl)

pub returns-then-text-end : goal.returns-then-text-end
returns-then-text-end c = refused_layout _ _ _ (unended_line c.loop-at.invariant.0 c.loop-at-test.true c.newline-end.ensures c.if-text-end.true) c.unreadable-then-text-end.ensures

pub returns-in_default : goal.returns-in_default
returns-in_default c =
    refused_layout _ _ _ (unread_line c.loop-at.invariant.0 c.loop-at-test.true c.newline-end.ensures c.if-text-end.false c.in_default.ensures)
    c.unreadable-in_default.ensures

pub take_row-requires : goal.take_row-requires
take_row-requires c =
    let at = c.loop-at.invariant in
    (at.0.small, (row_range at.0 c.loop-at-test.true c.newline-end.ensures c.if-text-end.false c.in-Some.ensures).p)

pub returns-in_err-next : goal.returns-in_err-next
returns-in_err-next c =
    let p = err_from_is_err_and c.from_residual.result c.from_residual.ensures.1 in
    rw (p.1, p.2) (refused_as _ _ _ (row_refused c.loop-at.invariant.0 c.loop-at-test.true c.newline-end.ensures c.if-text-end.false c.in-Some.ensures _ _ c.in_err-next.ensures))

pub put_row-requires : goal.put_row-requires
put_row-requires c =
    omega (arith, row_room c.loop-at.invariant.0 c.loop-at-test.true c.newline-end.ensures c.if-text-end.false c.in-Some.ensures _ _ c.in_ok-next.ensures)

pub loop-at-preserved : goal.loop-at-preserved
loop-at-preserved c =
    (row_taken c.loop-at.invariant.0 c.loop-at-test.true c.newline-end.ensures c.if-text-end.false c.in-Some.ensures _ _ c.in_ok-next.ensures c.put_row.ensures, search rules)

pub returns-then-lacking : goal.returns-then-lacking
returns-then-lacking c = refused_as _ _ _ (done_lacking c.loop-at.invariant.0 c.loop-at-test.false c.lacking.ensures c.if-lacking.true)

pub returns : goal.returns
returns c = done c.loop-at.invariant.0 c.loop-at-test.false c.lacking.ensures c.if-lacking.false
