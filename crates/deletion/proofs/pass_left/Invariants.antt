-- The marks before k are true, and whole eights are to come.
use mathlib.Core.Path.{◌≡◌}
use mathlib.Core.Bool.{true, false}
use Prim.Native.Nat.{ℕ, ◌-◌, ◌<◌, ◌≤◌, ◌%◌}
use lib.ListN.{get_or}
use Rattle.deletion.proofs.pass_left.Given as goal

abbrev pub invariant-loop-k : goal.invariant-loop-k
invariant-loop-k l = ((l.end - l.k) % 8 ≡ 0) × ((i : ℕ) → l.from ≤ i → i < l.k → get_or l.left i false ≡ true)
