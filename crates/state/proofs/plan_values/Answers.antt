-- There are eight values.
use mathlib.Core.Path.{◌∙◌}
use Prim.Native.Nat.{ℕ}
use lib.ListN.{get_or}
use borrow.Author.Rules.{rules}
use Rattle.model.specs.Configuration.{no_value}
use Rattle.state.specs.View.{plan_at}
use Rattle.state.proofs.Arrays.{made_by}
use Rattle.state.proofs.View.{value_words}
use Rattle.state.proofs.plan_values.Goals as goal

pub returns : goal.returns
returns c =
    let a = c.args in
    made_by _ _ (λ (j : ℕ). get_or (plan_at a.words.now a.k).values j no_value) (λ i y q e. search rules) c.from_fn.result 8 c.from_fn.ensures.items ∙ value_words a.words.now a.k (search rules) c.requires
