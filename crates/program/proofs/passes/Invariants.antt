-- Before row k the words are well formed if the rows from k on are in range and pass: `Checking`.
use mathlib.Core.Path.{◌≡◌}
use lib.ListN.{length}
use Rattle.rows.specs.Scanning.{whole as scanned}
use Rattle.program.proofs.Checks.{Checking}
use Rattle.program.proofs.passes.Given as goal

abbrev pub invariant-loop-k : goal.invariant-loop-k
invariant-loop-k l = Checking l.program (scanned l.scan l.ceilings) l.k × (length l.ceilings ≡ 256)
