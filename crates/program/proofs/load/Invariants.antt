use Prim.Native.Nat.{◌-◌}
use mathlib.Core.Path.{◌≡◌}
use lib.ListN.{length}
use Rattle.program.proofs.Loads.{Loading}
use Rattle.rows.specs.Scanning.{whole as scanned}
use Rattle.program.proofs.load.Given as goal

abbrev pub invariant-loop-at : goal.invariant-loop-at
invariant-loop-at l = Loading l.text l.program l.words (scanned l.scan l.ceilings) l.at × (length l.ceilings ≡ 256)

abbrev pub decreases-loop-at : goal.decreases-loop-at
decreases-loop-at l = length l.text - l.at
