-- The rows between the bounds of the part and of the next one are the part.
use Rattle.spans.proofs.Spans.{bounds_rise, span_is}
use Rattle.spans.proofs.span_of.Goals as goal

pub returns : goal.returns
returns c =
    let first = c.first_from-from in
    let a = c.args in
    let x = first.ensures in
    let y = c.part_end-to.ensures in record {
      bounded = (bounds_rise a.program.now a.set a.rule a.part first.result c.part_end-to.result x y, y.inside);
      from_value = span_is a.program.now a.set a.rule a.part first.result c.part_end-to.result x y;
    }
