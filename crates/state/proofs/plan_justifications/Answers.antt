-- Four words are the list that they hold, with zeros behind.
use Prim.Native.Nat.{ℕ}
use lib.ListN.{get_or}
use borrow.Author.Rules.{rules}
use Rattle.state.specs.View.{plan_at}
use Rattle.state.proofs.Arrays.{made_by}
use Rattle.state.proofs.View.{justification_words}
use Rattle.state.proofs.plan_justifications.Goals as goal

pub returns : goal.returns
returns c =
    let a = c.args in
    rw (made_by _ _ (λ (j : ℕ). get_or (plan_at a.words.now a.k).justifications j 0) (λ i y q e. search rules) c.from_fn.result 4 c.from_fn.ensures.items) (justification_words a.words.now a.k (search rules) c.requires)
