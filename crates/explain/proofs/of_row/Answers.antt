-- Each way through the tests on a refused row, by the laws of proofs/Verdicts.
use mathlib.Core.Path.{sym, ap, ◌∙◌}
use Rattle.model.specs.declared.Scan.{Scan}
use Rattle.model.specs.Load.{lacking, begun}
use Rattle.explain.proofs.Verdicts.{told_lack, many_is, told_limit, valueless_is, told_unvalued, breaks_is, told_breach}
use Rattle.explain.proofs.of_row.Goals as goal

pub returns-then-left_lacking : goal.returns-then-left_lacking
returns-then-left_lacking c =
    let a = c.args in
    told_lack a.s a.r a.e.refusal a.e.line c.requires.refused (c.lacking.ensures ∙ ap lacking (sym c.requires.s_value)) _ c.if-left_lacking.true c.lack_of.ensures

pub limit_of-requires : goal.limit_of-requires
limit_of-requires c =
    let a = c.args in
    many_is a.s a.r a.e.refusal a.e.line c.requires.refused (c.lacking.ensures ∙ ap lacking (sym c.requires.s_value)) c.if-left_lacking.false c.in-TooMany.is

pub returns-in-TooMany : goal.returns-in-TooMany
returns-in-TooMany c =
    let a = c.args in
    told_limit a.s a.r a.e.refusal a.e.line c.requires.refused (c.lacking.ensures ∙ ap lacking (sym c.requires.s_value)) c.if-left_lacking.false _ c.in-TooMany.is c.limit_of.ensures

pub unvalued_of-requires : goal.unvalued_of-requires
unvalued_of-requires c =
    let a = c.args in
    let lacks = c.lacking.ensures ∙ ap lacking (sym c.requires.s_value) in
    let same = c.whole-t.ensures ∙ c.begun.ensures a.s.ceilings ∙ ap (λ (x : Scan). begun x a.r) (sym c.requires.s_value) in
    valueless_is a.s a.r a.e.refusal a.e.line c.requires.refused lacks c.if-left_lacking.false c.whole-t.result same c.in-Valueless.is

pub returns-in-Valueless : goal.returns-in-Valueless
returns-in-Valueless c =
    let a = c.args in
    let lacks = c.lacking.ensures ∙ ap lacking (sym c.requires.s_value) in
    let same = c.whole-t.ensures ∙ c.begun.ensures a.s.ceilings ∙ ap (λ (x : Scan). begun x a.r) (sym c.requires.s_value) in
    told_unvalued a.s a.r a.e.refusal a.e.line c.requires.refused lacks c.if-left_lacking.false c.whole-t.result same _ c.in-Valueless.is c.unvalued_of.ensures

pub breach_of-requires : goal.breach_of-requires
breach_of-requires c =
    let a = c.args in
    let lacks = c.lacking.ensures ∙ ap lacking (sym c.requires.s_value) in
    let same = c.whole-t.ensures ∙ c.begun.ensures a.s.ceilings ∙ ap (λ (x : Scan). begun x a.r) (sym c.requires.s_value) in
    let broken = breaks_is a.s a.r a.e.refusal a.e.line c.requires.refused lacks c.if-left_lacking.false c.whole-t.result same c.in_default.not-TooMany c.in_default.not-Valueless in
    record { small = c.requires.small; in_set_zero = c.requires.in_set_zero; p_bound = c.requires.p_bound; r_value = broken }

pub returns-in_default : goal.returns-in_default
returns-in_default c =
    let a = c.args in
    let lacks = c.lacking.ensures ∙ ap lacking (sym c.requires.s_value) in
    let same = c.whole-t.ensures ∙ c.begun.ensures a.s.ceilings ∙ ap (λ (x : Scan). begun x a.r) (sym c.requires.s_value) in
    told_breach a.s a.r a.e.refusal a.e.line c.requires.refused lacks c.if-left_lacking.false c.whole-t.result same c.in_default.not-TooMany c.in_default.not-Valueless _ c.breach_of.ensures
