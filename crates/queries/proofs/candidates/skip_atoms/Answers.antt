use mathlib.Core.Path.{sym, ◌∙◌}
use Rattle.queries.proofs.Eights.{skipped_chain}
use Rattle.queries.proofs.candidates.skip_atoms.Goals as goal

pub returns : goal.returns
returns c =
    let a = c.args in
    λ i. skipped_chain a.words.now a.p i a.a a.b a.from c.pass_eights-c.result c.pass_ones.result c.column-y.result c.sought-v.result c.column-z.result c.sought-w.result c.column-y.ensures.0 c.sought-v.ensures c.column-z.ensures.0 c.sought-w.ensures
    (sym c.stands.ensures ∙ c.if-stands.false) c.pass_eights-c.ensures.0 c.pass_ones.ensures.0
