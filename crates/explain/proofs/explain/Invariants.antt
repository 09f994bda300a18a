-- The load comes to the place where the loop stands (`Standing`). The measure is what is left of the text.
use mathlib.Core.Path.{◌≡◌}
use Prim.Native.Nat.{◌-◌}
use lib.ListN.{length}
use Rattle.rows.specs.Scanning.{whole as scanned}
use Rattle.explain.proofs.Comings.{Standing}
use Rattle.explain.proofs.explain.Given as goal

abbrev pub invariant-loop-at : goal.invariant-loop-at
invariant-loop-at l = Standing l.text (scanned l.s l.ceilings) l.at × (length l.ceilings ≡ 256)

abbrev pub decreases-loop-at : goal.decreases-loop-at
decreases-loop-at l = length l.text - l.at
