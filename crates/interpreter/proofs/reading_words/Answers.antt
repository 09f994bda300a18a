use borrow.Author.Tests.{eq-eqb, ne_eqb}
use Rattle.interpreter.proofs.reading_words.Goals as goal

pub returns-then-kind-eq1 : goal.returns-then-kind-eq1
returns-then-kind-eq1 c = rw (eq-eqb c.args.kind 1 c.if-kind-eq1.true)

pub returns-else-kind-eq1 : goal.returns-else-kind-eq1
returns-else-kind-eq1 c = rw (ne_eqb c.args.kind 1 c.if-kind-eq1.false)
