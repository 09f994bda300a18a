use mathlib.Core.Path.{sym, ◌∙◌}
use native.Mathlib.Omega.{arith}
use Rattle.sensing.specs.Sensing.{reading_of}
use Rattle.sensing.proofs.Ceilings.{bare_first, bare_last}
use Rattle.sensing.proofs.taken_as.Goals as goal

pub loop-k-init : goal.loop-k-init
loop-k-init c = bare_first _ _ _ _ c.requires

pub returns : goal.returns
returns c = let l = c.loop-k in let a = c.args in let o = c.requires.ordered in sym (l.invariant ∙ bare_last a.program.now (reading_of a.reading) _ _ l.k c.requires (omega arith) (omega arith))
