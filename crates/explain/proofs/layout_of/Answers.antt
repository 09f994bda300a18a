use mathlib.Core.Path.{sym, ◌∙◌}
use native.Mathlib.Omega.{arith}
use Rattle.explain.specs.Explaining.{at_column, cut, doubled, unread, far, more, few}
use Rattle.explain.proofs.Layouts.{before_first, before_next, few_columns, ninth}
use Rattle.explain.proofs.layout_of.Goals as goal
use Rattle.explain.proofs.layout_of.Goals.{then-line-at-via-then-line-at, then-line-at-via-else-line-at+then-line-at-eq32}

pub loop-column-init : goal.loop-column-init
loop-column-init c = before_first _

-- the columns end, or one is empty
pub returns-then-line-at : goal.returns-then-line-at
returns-then-line-at c =
    elim c.then-line-at.branch [
      | then-line-at-via-then-line-at w ↦ at_column (omega arith) c.loop-column.invariant.begins (cut w.if-line-at.true)
      | then-line-at-via-else-line-at+then-line-at-eq32 w ↦ at_column (omega arith) c.loop-column.invariant.begins (doubled w.if-line-at-eq32.true)
    ]

-- no integer, or one out of range
pub returns-in_default : goal.returns-in_default
returns-in_default c =
    let none = sym c.read_int.ensures ∙ c.in_default.is in
    at_column (omega arith) c.loop-column.invariant.begins (unread c.if-line-at.false c.if-line-at-eq32.false none c.word_end-to.ensures)

pub returns-then-outside : goal.returns-then-outside
returns-then-outside c =
    let number = sym c.in-Some.ensures in
    at_column (omega arith) c.loop-column.invariant.begins (far number (sym c.outside.ensures ∙ c.if-outside.true) c.word_end-to.ensures)

-- too few columns
pub returns-then-line-n : goal.returns-then-line-n
returns-then-line-n c =
    let turn = c.loop-column in
    let number = sym c.in-Some.ensures in
    let inside = sym c.outside.ensures ∙ c.if-outside.false in
    let less = few_columns turn.invariant (omega arith) number inside c.if-line-n.true c.requires in
    at_column (omega arith) turn.invariant.begins (few less number inside c.if-line-n.true)

-- more than an integer
pub returns-then-line-n-ne32 : goal.returns-then-line-n-ne32
returns-then-line-n-ne32 c =
    let number = sym c.in-Some.ensures in
    at_column (omega arith) c.loop-column.invariant.begins (more number c.if-line-n.false c.if-line-n-ne32.true c.word_end-to.ensures)

pub loop-column-preserved : goal.loop-column-preserved
loop-column-preserved c =
    let turn = c.loop-column in
    let number = sym c.in-Some.ensures in
    let inside = sym c.outside.ensures ∙ c.if-outside.false in
    before_next turn.invariant (omega arith) number inside c.if-line-n.false c.if-line-n-ne32.false

pub returns : goal.returns
returns c = ninth c.loop-column.invariant (omega arith)
