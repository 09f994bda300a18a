use mathlib.Core.Path.{◌≡◌}
use mathlib.Core.Bool.{false}
use Prim.Native.Nat.{ℕ, ◌<◌, ◌≤◌}
use Rattle.model.specs.Configuration.{equal_to}
use Rattle.state.specs.View.{atom_at}
use Rattle.state.proofs.any_equal.Given as goal

abbrev pub invariant-loop-i : goal.invariant-loop-i
invariant-loop-i l = l.any ≡ false → (j : ℕ) → l.k ≤ j → j < l.i → equal_to l.p l.a l.b (atom_at l.words j) ≡ false
