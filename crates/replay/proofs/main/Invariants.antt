-- The script stands within its buffer.
use Rattle.std.proofs.Common.{◌≡◌, ◌≤◌, length}
use Rattle.replay.proofs.main.Given as goal

abbrev pub invariant-loop-line : goal.invariant-loop-line
invariant-loop-line l = (l.from ≤ l.to) × (l.to ≤ 65536) × (length l.script ≡ 65536)
