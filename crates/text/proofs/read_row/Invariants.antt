-- k integers are read into v, and the line's columns are those and what stands at `at`.
use Rattle.text.proofs.Columns.{Columns}
use Rattle.text.proofs.read_row.Given as goal

abbrev pub invariant-loop-k : goal.invariant-loop-k
invariant-loop-k l = Columns l.line l.v l.at l.k
