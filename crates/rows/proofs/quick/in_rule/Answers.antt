use Rattle.rows.proofs.Fitting.{rule_fits}
use Rattle.rows.proofs.quick.in_rule.Goals as goal

pub returns : goal.returns
returns c =
    λ k d. rule_fits c.args.t c.counted.result c.args.r k c.args.valued.now c.gives.new.valued d c.requires.1 (c.fits_rule.ensures c.if-not-fits_rule.false k d) c.gives.ensures (c.counted.ensures k _ d)
