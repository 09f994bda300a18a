use mathlib.Core.Path.{◌≡◌}
use mathlib.Core.Bool.{false}
use Prim.Native.Nat.{ℕ, ◌<◌, ◌≤◌}
use Rattle.model.specs.Configuration.{equal_to}
use Rattle.state.specs.View.{atom_at}
use Rattle.state.proofs.pass_unequal.Given as goal

abbrev pub invariant-loop-k : goal.invariant-loop-k
invariant-loop-k l = (i : ℕ) → l.from ≤ i → i < l.k → equal_to l.p l.a l.b (atom_at l.words i) ≡ false
