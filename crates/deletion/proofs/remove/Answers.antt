use mathlib.Core.Path.{◌≡◌}
use native.Mathlib.Omega.{arith}
use borrow.Author.Rules.{rules}
use lib.ListN.{get_or-replicate}
use Rattle.model.specs.Deletion.{remove}
use Rattle.state.specs.View.{config_of, counts_put}
use Rattle.deletion.proofs.Removed.{removed}
use Rattle.deletion.proofs.Sound.{counts_after}
use Rattle.deletion.proofs.remove.Goals as goal

pub mark-requires : goal.mark-requires
mark-requires c = search (rules, get_or-replicate)

pub returns-clause-counted : goal.returns-clause-counted
returns-clause-counted c =
    let a = c.args in
    let X = c.keep_plans-plans.new.words in
    let r = counts_put c.keep_atoms-atoms.result c.keep_plans-plans.result a.scalars in
    let e : config_of X r ≡ remove a.target (config_of a.words.now a.scalars) = grind (arith, removed) in
    omega (arith, counts_after a.words.now X a.scalars r a.target e)
