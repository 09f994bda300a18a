use lib.ListN.{drop}
use Rattle.script.proofs.Digits.{Reading}
use Rattle.script.proofs.read_number.Given as goal

abbrev pub invariant-loop-d : goal.invariant-loop-d
invariant-loop-d l = Reading l.word l.value l.d-index
