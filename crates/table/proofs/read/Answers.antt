-- A number of the words is a number of the record that it stands in.
use mathlib.Core.Path.{sym}
use Rattle.table.proofs.Rows.{row_at}
use Rattle.table.proofs.read.Goals as goal

pub returns : goal.returns
returns c = let a = c.args in sym (row_at a.width a.words.now a.k a.column c.requires.0)
