-- The loop's invariant: the set has the ids, and the operands of the rows before j.
use Prim.Native.Nat.{ℕ, ◌<◌, ◌≤◌}
use Rattle.program.specs.Rows.{row_at}
use Rattle.nogoods.specs.Nogoods.{all_sets}
use Rattle.matching.specs.Sets.{HasIds, OfRow}
use Rattle.matching.proofs.sets.of_body.Given as goal

abbrev pub invariant-loop-j : goal.invariant-loop-j
invariant-loop-j l = (l.set < all_sets) × HasIds l.set × ((i : ℕ) → l.from ≤ i → i < l.j → OfRow (row_at l.program i) l.set)
