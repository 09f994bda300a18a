use borrow.Author.Rules.{rules}
use Rattle.formed_plans.proofs.Within.{limiting_starts, limiting_more, limiting_done}
use Rattle.formed_plans.proofs.limits_of.Goals as goal

pub loop-j-init : goal.loop-j-init
loop-j-init c = limiting_starts _ _ _

pub loop-j-preserved : goal.loop-j-preserved
loop-j-preserved c = search (rules, limiting_more)

pub returns : goal.returns
returns c = search (rules, limiting_done)
