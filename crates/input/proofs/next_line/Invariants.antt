-- The bytes that are held stand within the buffer. Each time the loop goes round more of them are, and with more than 4,096 it ends.
use Rattle.std.proofs.Common.{◌≡◌, ◌-◌, ◌≤◌, length}
use Rattle.input.proofs.next_line.Given as goal

abbrev pub invariant-loop-begin : goal.invariant-loop-begin
invariant-loop-begin g l = (l.begin ≤ l.held) × (l.held ≤ length l.buffer) × (length l.buffer ≡ length l.initial.buffer)

abbrev pub decreases-loop-begin : goal.decreases-loop-begin
decreases-loop-begin g l = 4097 - (l.held - l.begin)
