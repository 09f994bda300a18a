-- The number from `from` on is the one whose digits so far make `value` and which goes on at `at`, numbers over 65,535 taken as 65,536.
use Rattle.text.proofs.Numbers.{Counting}
use Rattle.text.proofs.counting.Given as goal

abbrev pub invariant-loop-at : goal.invariant-loop-at
invariant-loop-at l = Counting l.s l.from l.value l.at
