use mathlib.Core.Path.{refl, sym}
use Rattle.program.proofs.Checks.{checks_begin, checks_end, outside, row_refused}
use Rattle.program.proofs.passes.Goals as goal

pub loop-k-init : goal.loop-k-init
loop-k-init c = (checks_begin _ _ c.requires c.at_first-scan.ensures, refl)

pub returns-then-not-in_range : goal.returns-then-not-in_range
returns-then-not-in_range c = outside c.loop-k.invariant.0 c.loop-k-test.true c.row_at-r.ensures (sym c.if-not-in_range.ensures)

pub returns-in_default : goal.returns-in_default
returns-in_default c = row_refused c.loop-k.invariant.0 c.loop-k-test.true c.row_at-r.ensures _ _ c.in_default.ensures

pub returns : goal.returns
returns c = checks_end c.loop-k.invariant.0 c.loop-k-test.false c.lacking.ensures
