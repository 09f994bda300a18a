-- The loop's invariant: the first k numbers are written, each with a space behind it.
use mathlib.Core.Path.{◌≡◌}
use mathlib.Core.List.{◌++◌}
use Prim.Native.Nat.{◌+◌, ◌*◌, ◌≤◌}
use lib.ListN.{length}
use Rattle.listing.proofs.Lines.{front}
use Rattle.listing.proofs.put_line.Given as goal

abbrev pub invariant-loop-k : goal.invariant-loop-k
invariant-loop-k l = (l.out.items ≡ l.initial.out.items ++ front l.k l.numbers) × (length l.out.items ≤ length l.initial.out.items + 6 * l.k)
