-- What is left of sense is the rows from k on, after a log that the words show.
use Prim.Native.Nat.{◌*◌, ◌/◌, ◌≤◌}
use lib.ListN.{length}
use Rattle.program.specs.Rows.{rows_of}
use Rattle.state.specs.View.{config_of}
use Rattle.sensing.proofs.Readings.{SensingAt}
use Rattle.sensing.proofs.sense_rows.Given as goal

abbrev pub invariant-loop-k : goal.invariant-loop-k
invariant-loop-k l = SensingAt (rows_of l.program) l.rows (length l.rows / 4) (config_of l.initial.words l.initial.s) l.k l.words l.s l.gone × (l.gone ≤ l.k * 320)
