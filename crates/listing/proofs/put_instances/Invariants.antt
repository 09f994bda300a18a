-- What is written, then the text of the atoms from i on and of the plans that follow, is the whole listing.
use Prim.Native.Nat.{◌-◌, ◌≤◌}
use Rattle.listing.proofs.Listed.{Listed}
use Rattle.listing.proofs.put_instances.Given as goal

abbrev pub invariant-loop-k : goal.invariant-loop-k
invariant-loop-k l = Listed l.words l.scalars l.initial.out.items l.out.items l.i (l.k - l.i) × (l.i ≤ l.k)
