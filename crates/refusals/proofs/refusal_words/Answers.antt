-- Each arm's words are those of its number.
use mathlib.Core.Path.{◌≡◌, ap, sym}
use mathlib.Core.Logic.{◌≢◌}
use Prim.Native.Nat.{ℕ}
use native.Mathlib.Omega.{arith}
use Rattle.model.specs.Text.{bytes}
use Rattle.refusals.specs.Table.{words, cause}
use Rattle.refusals.proofs.refusal_words.Goals as goal

-- a number that the table does not have
not_in_table : (n : ℕ) → n ≢ 1 → n ≢ 2 → n ≢ 3 → n ≢ 4 → n ≢ 5 → n ≢ 6 → n ≢ 7 → n ≢ 8 → n ≢ 9 → n ≢ 10 → n ≢ 11 → n ≢ 12 → cause n ≡ "unknown"
unfolding cause
not_in_table n h1 h2 h3 h4 h5 h6 h7 h8 h9 h10 h11 h12 = grind arith

pub returns-in-1 : goal.returns-in-1
unfolding cause bytes
returns-in-1 c = sym (ap words c.in-1.is)

pub returns-in-2 : goal.returns-in-2
unfolding cause bytes
returns-in-2 c = sym (ap words c.in-2.is)

pub returns-in-3 : goal.returns-in-3
unfolding cause bytes
returns-in-3 c = sym (ap words c.in-3.is)

pub returns-in-4 : goal.returns-in-4
unfolding cause bytes
returns-in-4 c = sym (ap words c.in-4.is)

pub returns-in-5 : goal.returns-in-5
unfolding cause bytes
returns-in-5 c = sym (ap words c.in-5.is)

pub returns-in-6 : goal.returns-in-6
unfolding cause bytes
returns-in-6 c = sym (ap words c.in-6.is)

pub returns-in-7 : goal.returns-in-7
unfolding cause bytes
returns-in-7 c = sym (ap words c.in-7.is)

pub returns-in-8 : goal.returns-in-8
unfolding cause bytes
returns-in-8 c = sym (ap words c.in-8.is)

pub returns-in-9 : goal.returns-in-9
unfolding cause bytes
returns-in-9 c = sym (ap words c.in-9.is)

pub returns-in-10 : goal.returns-in-10
unfolding cause bytes
returns-in-10 c = sym (ap words c.in-10.is)

pub returns-in-11 : goal.returns-in-11
unfolding cause bytes
returns-in-11 c = sym (ap words c.in-11.is)

pub returns-in-12 : goal.returns-in-12
unfolding cause bytes
returns-in-12 c = sym (ap words c.in-12.is)

pub returns-in_default : goal.returns-in_default
unfolding cause bytes
returns-in_default c = ap bytes (sym (not_in_table c.args.number (omega arith) (omega arith) (omega arith) (omega arith) (omega arith) (omega arith) (omega arith) (omega arith) (omega arith) (omega arith) (omega arith) (omega arith)))
