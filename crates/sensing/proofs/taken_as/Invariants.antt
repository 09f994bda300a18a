-- No ceiling that was passed applies: what is left to look at decides.
use mathlib.Core.Path.{◌≡◌}
use Prim.Native.Nat.{◌/◌}
use lib.ListN.{length}
use Rattle.model.specs.Calls.{taken_as}
use Rattle.program.specs.Rows.{rows_of}
use Rattle.sensing.specs.Sensing.{reading_of}
use Rattle.sensing.proofs.Ceilings.{left_of}
use Rattle.sensing.proofs.taken_as.Given as goal

abbrev pub invariant-loop-k : goal.invariant-loop-k
invariant-loop-k l = taken_as (rows_of l.program) (reading_of l.reading) ≡ left_of l.program (reading_of l.reading) l.k (length l.program / 8)
