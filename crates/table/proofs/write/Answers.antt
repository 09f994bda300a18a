use mathlib.Core.Path.{sym}
use native.Mathlib.Omega.{arith}
use Rattle.std.proofs.lemmas.Slice.{put_mid-paste}
use Rattle.table.specs.Rows.{placed}
use Rattle.table.proofs.write.Goals as goal

pub returns : goal.returns
unfolding placed
returns c = put_mid-paste _ _ _ _ c.args.numbers.now c.args.width c.copy_from_slice.ensures.after (omega arith) (sym c.requires.0)
