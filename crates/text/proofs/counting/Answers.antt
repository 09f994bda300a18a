use mathlib.Core.Path.{sym}
use borrow.Author.Rules.{rules}
use Rattle.text.proofs.Numbers.{stop_at_end, stop_here}
use Rattle.text.proofs.counting.Goals as goal

pub returns-then-not-is_ascii_digit : goal.returns-then-not-is_ascii_digit
returns-then-not-is_ascii_digit c = stop_here c.loop-at.invariant c.loop-at-test.true (sym c.if-not-is_ascii_digit.ensures.value)

pub returns : goal.returns
returns c = stop_at_end c.loop-at.invariant c.loop-at-test.false (search rules)
