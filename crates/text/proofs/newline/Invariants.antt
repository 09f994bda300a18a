-- No byte 10 stands from `from` up to i.
use mathlib.Core.Logic.{◌≢◌}
use Prim.Native.Nat.{ℕ, ◌<◌, ◌≤◌}
use lib.ListN.{get_or}
use Rattle.text.proofs.newline.Given as goal

abbrev pub invariant-loop-i : goal.invariant-loop-i
invariant-loop-i l = (l.from ≤ l.i) × ((k : ℕ) → l.from ≤ k → k < l.i → get_or l.text k 0 ≢ 10)
