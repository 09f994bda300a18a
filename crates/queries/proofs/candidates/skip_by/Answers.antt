use mathlib.Core.Path.{sym, ◌∙◌}
use borrow.Author.Count.{below_more}
use native.Mathlib.Omega.{arith}
use Rattle.queries.proofs.candidates.skip_by.Goals as goal

pub loop-c-preserved : goal.loop-c-preserved
loop-c-preserved g c = below_more _ _ c.loop-c.invariant (λ _. (c.candidate.result, c.candidate.ensures, sym c.is_like.ensures ∙ c.if-is_like.false))

pub returns-clause-missed : goal.returns-clause-missed
returns-clause-missed g c = λ k p q. c.loop-c.invariant k (omega arith) q
