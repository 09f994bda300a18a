-- The parts stand one behind the other, and the rows between two bounds are the part.
use mathlib.Core.Path.{refl}
use Rattle.spans.proofs.Spans.{bounds_rise, span_is}
use Rattle.formed_plans.proofs.clauses_of.Goals as goal

pub returns : goal.returns
returns c =
    let a = c.args in
    let P = a.program.now in
    let reasons = span_is P a.set a.rule 1 c.first_from-start.result c.part_end-context.result c.first_from-start.ensures c.part_end-context.ensures in
    let body = span_is P a.set a.rule 3 c.part_end-from.result c.part_end-to.result c.part_end-from.ensures c.part_end-to.ensures in
    let rise = bounds_rise P a.set a.rule 3 c.part_end-from.result c.part_end-to.result c.part_end-from.ensures c.part_end-to.ensures in
    (record { reasons = reasons; bounded = (rise, c.part_end-to.ensures.inside); body = body; limits = rw body at c.limits_of-limits.ensures }, refl, refl)
