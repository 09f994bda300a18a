-- The loop's invariant: where they are the same so far, the values before i are these.
use mathlib.Core.Path.{◌≡◌}
use mathlib.Core.Bool.{true}
use Prim.Native.Nat.{ℕ, ◌<◌}
use lib.ListN.{get_or}
use Rattle.model.specs.Configuration.{no_value}
use Rattle.state.specs.View.{plan_at}
use Rattle.matching.proofs.values_agree.Given as goal

abbrev pub invariant-loop-i : goal.invariant-loop-i
invariant-loop-i l = l.same ≡ true → (i : ℕ) → i < l.i → get_or (plan_at l.words l.k).values i no_value ≡ get_or l.values i 0
