-- The loop's invariant: the first k atoms are marked.
use mathlib.Core.Path.{◌≡◌}
use lib.ListN.{length}
use Rattle.filters.specs.Filters.{size, Marked}
use Rattle.filters.proofs.of_atoms.Given as goal

abbrev pub invariant-loop-k : goal.invariant-loop-k
invariant-loop-k l = (length l.filter ≡ size) × Marked l.words l.k l.filter
