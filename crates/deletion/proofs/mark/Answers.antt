use borrow.Author.Rules.{rules}
use Rattle.deletion.proofs.Pass.{passed_all}
use Rattle.deletion.proofs.mark.Goals as goal

pub returns : goal.returns
returns c = search (rules, passed_all)
