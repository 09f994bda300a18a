use native.Mathlib.Omega.{arith}
use borrow.Author.Rules.{rules}
use Rattle.script.proofs.Digits.{none, zero_alone, zero_leads, begin, no_digit, over, more, all_read}
use Rattle.script.proofs.read_number.Goals as goal

pub returns-then-word-eq0 : goal.returns-then-word-eq0
returns-then-word-eq0 c = search (rules, none)

pub returns-then-word-eq1 : goal.returns-then-word-eq1
returns-then-word-eq1 c = search (rules, zero_alone)

pub returns-else-word-eq1 : goal.returns-else-word-eq1
returns-else-word-eq1 c = search (rules, zero_leads)

pub loop-d-init : goal.loop-d-init
loop-d-init c = search (rules, begin)

pub returns-then-d : goal.returns-then-d
returns-then-d c = no_digit c.loop-d.invariant c.loop-d-test.true c.if-d.true

pub returns-in_err-checked_mul : goal.returns-in_err-checked_mul
returns-in_err-checked_mul c = rw c.from_residual.ensures (over c.loop-d.invariant c.loop-d-test.true c.if-d.false (let h = c.in_err-checked_mul.ensures in omega (arith, h)))

pub returns-in_err-value : goal.returns-in_err-value
returns-in_err-value c = rw c.from_residual-in_err-value.ensures (over c.loop-d.invariant c.loop-d-test.true c.if-d.false (let h = c.in_err-value.ensures in let k = c.in_ok-checked_mul.ensures in omega (arith, h, k)))

pub loop-d-preserved : goal.loop-d-preserved
loop-d-preserved c =
    let h = c.in_ok-value.ensures in
    let k = c.in_ok-checked_mul.ensures in
    more c.loop-d.invariant c.loop-d-test.true c.if-d.false c.in_ok-value.value (omega (arith, h, k)) (omega (arith, h, k))

pub returns : goal.returns
returns c = search (rules, all_read)
