use borrow.Author.Rules.{rules}
use mathlib.Core.Path.{refl, sym, ap, ◌∙◌, subst}
use Rattle.model.specs.declared.Scan.{Scan}
use Rattle.model.specs.Load.{take_row}
use Rattle.causes.specs.Causes.{Lacks}
use Rattle.causes.specs.Checking.{InSetZero}
use Rattle.program_laws.proofs.Places.{comes_set_0}
use Rattle.explain.specs.Explaining.{OfRow}
use Rattle.explain.proofs.Comings.{names_missing, names_wrong, standing_first, told_lacking, told_loads, told_unended, told_misread, told_row, row_taken, refusal_of, unread_line, whole_line, row_range}
use Rattle.explain.proofs.explain.Goals as goal
use Rattle.explain.proofs.explain.Goals.{then-text-first-via-then-text-first, then-text-first-via-else-text-first+then-not-is_names}

pub returns-then-text-first : goal.returns-then-text-first
returns-then-text-first c =
    elim c.then-text-first.branch [
      | then-text-first-via-then-text-first w ↦ names_missing _ c.newline-first.ensures w.if-text-first.true
      | then-text-first-via-else-text-first+then-not-is_names w ↦ names_wrong _ c.newline-first.ensures w.if-text-first.false w.is_names.ensures w.if-not-is_names.true
    ]

pub loop-at-init : goal.loop-at-init
loop-at-init c =
    (standing_first _ c.newline-first.ensures _ c.if-text-first.false c.is_names.ensures c.if-not-is_names.false c.at_first-s.ensures, refl)

pub returns-then-text-end : goal.returns-then-text-end
returns-then-text-end c = told_unended c.loop-at.invariant.0 c.loop-at-test.true c.newline-end.ensures c.if-text-end.true

pub layout_of-requires : goal.layout_of-requires
layout_of-requires c = unread_line _ (sym c.in_default.is ∙ c.read_row.ensures)

pub returns-in_default : goal.returns-in_default
returns-in_default c =
    let unread = unread_line _ (sym c.in_default.is ∙ c.read_row.ensures) in
    told_misread c.loop-at.invariant.0 c.loop-at-test.true c.newline-end.ensures c.if-text-end.false unread c.layout_of.ensures

pub take_row-requires : goal.take_row-requires
take_row-requires c =
    let turn = c.loop-at in
    (turn.invariant.0.small, (row_range _ (whole_line _ c.in-Some.ensures)).p)

pub of_row-requires-clause-in_set_zero : goal.of_row-requires-clause-in_set_zero
of_row-requires-clause-in_set_zero c =
    subst InSetZero (sym c.whole-before.ensures) (comes_set_0 c.loop-at.invariant.0.comes)

pub of_row-requires-clause-p_bound : goal.of_row-requires-clause-p_bound
of_row-requires-clause-p_bound c =
    (row_range _ (whole_line _ c.in-Some.ensures)).p

pub of_row-requires-clause-refused : goal.of_row-requires-clause-refused
of_row-requires-clause-refused c =
    ap (λ (x : Scan). take_row x c.in-Some.row) c.whole-before.ensures ∙ refusal_of _ _ c.in-Err.e _ c.in-Err.ensures

pub returns-in-Err : goal.returns-in-Err
returns-in-Err c =
    let read = whole_line _ c.in-Some.ensures in
    let cause = subst (λ (x : Scan). OfRow x c.in-Some.row c.of_row.result) c.whole-before.ensures c.of_row.ensures in
    told_row c.loop-at.invariant.0 c.loop-at-test.true c.newline-end.ensures c.if-text-end.false read c.in-Err.e _ (refusal_of _ _ c.in-Err.e _ c.in-Err.ensures) cause

pub loop-at-preserved : goal.loop-at-preserved
loop-at-preserved c =
    let turn = c.loop-at in
    let read = whole_line _ c.in-Some.ensures in
    (row_taken turn.invariant.0 c.loop-at-test.true c.newline-end.ensures c.if-text-end.false read c.in-Ok.scan c.take_row.new.ceilings c.in-Ok.ensures, search rules)

pub returns-then-lacking : goal.returns-then-lacking
returns-then-lacking c =
    let lacks = subst (λ (x : Scan). Lacks x c.lack_of.result) c.whole.ensures c.lack_of.ensures in
    told_lacking c.loop-at.invariant.0 c.loop-at-test.false (sym c.lacking.ensures ∙ c.if-lacking.true) lacks

pub returns : goal.returns
returns c =
    told_loads c.loop-at.invariant.0 c.loop-at-test.false (sym c.lacking.ensures ∙ c.if-lacking.false)
