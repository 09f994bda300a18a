-- As in `passes`, with the scan of the place, the count and what is lent; only that all rows pass is said.
use mathlib.Core.Path.{◌≡◌}
use lib.ListN.{length}
use Rattle.rows.specs.Quickly.{scan_at}
use Rattle.program.proofs.Checks.{Checking}
use Rattle.program.proofs.passes_quickly.Given as goal

abbrev pub invariant-loop-k : goal.invariant-loop-k
invariant-loop-k l =
    Checking l.program (scan_at l.place l.k l.valued l.ceilings) l.k × (length l.valued ≡ 9) × (length l.ceilings ≡ 256)
