-- Every record before `low` has a lower first number, every record from `high` on has none that is lower.
use Prim.Native.Nat.{ℕ, ◌*◌, ◌≤◌, ◌<◌, ◌-◌}
use lib.ListN.{get_or}
use Rattle.table.proofs.find.Given as goal

abbrev pub invariant-loop-low : goal.invariant-loop-low
invariant-loop-low l = (l.low ≤ l.high) × (l.high ≤ l.n) × ((k : ℕ) → k < l.low → get_or l.words (k * l.width) 0 < l.id) × ((k : ℕ) → l.high ≤ k → k < l.n → l.id ≤ get_or l.words (k * l.width) 0)

abbrev pub decreases-loop-low : goal.decreases-loop-low
decreases-loop-low l = l.high - l.low
