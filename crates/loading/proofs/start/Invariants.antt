-- The loop's invariant: with the initial atoms of the rows from k on the configuration is the fresh one.
use Rattle.loading.proofs.Initial.{Starting}
use Rattle.loading.proofs.start.Given as goal

abbrev pub invariant-loop-k : goal.invariant-loop-k
invariant-loop-k l = Starting l.program l.rows l.config.words l.config.scalars l.k
