-- The columns so far read as integers in range with a space behind each (`Before`). A line that ended with column 8 would read as a row.
use Rattle.explain.proofs.Layouts.{Before}
use Rattle.explain.proofs.layout_of.Given as goal

abbrev pub invariant-loop-column : goal.invariant-loop-column
invariant-loop-column l = Before l.line l.column l.at
