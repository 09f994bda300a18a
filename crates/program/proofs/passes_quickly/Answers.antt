use mathlib.Core.Path.{refl, sym, ◌∙◌}
use native.Mathlib.Omega.{arith}
use borrow.Author.Rules.{rules}
use Rattle.program.proofs.Checks.{checks_begin, checks_end, row_sure}
use Rattle.program.proofs.passes_quickly.Goals as goal

pub loop-k-init : goal.loop-k-init
loop-k-init c = (checks_begin _ _ c.requires c.at_first-place.ensures, refl, refl)

pub loop-k-preserved : goal.loop-k-preserved
loop-k-preserved c =
    let sure = c.in-Some.ensures.passed in
    (row_sure c.loop-k.invariant.0 c.loop-k-test.true c.row_at-r.ensures _ sure.0 (sure.1 c.loop-k.k (omega arith)), search rules, search rules)

pub returns : goal.returns
returns c = λ e. sym (checks_end c.loop-k.invariant.0 c.loop-k-test.false c.lacking.ensures) ∙ e
