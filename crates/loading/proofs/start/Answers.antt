use Rattle.loading.proofs.Initial.{starting_begins, starting_ends, row_room, row_taken}
use Rattle.loading.proofs.start.Goals as goal

pub loop-k-init : goal.loop-k-init
loop-k-init c = starting_begins _ _ c.requires.1 c.fresh-config.ensures

pub take_initial-config-requires : goal.take_initial-config-requires
take_initial-config-requires c = row_room c.loop-k.invariant c.loop-k-test.true c.row_at-row.ensures

pub loop-k-preserved : goal.loop-k-preserved
loop-k-preserved c = row_taken c.loop-k.invariant c.loop-k-test.true c.row_at-row.ensures c.take_initial-config.ensures

pub returns : goal.returns
returns c = starting_ends c.loop-k.invariant c.loop-k-test.false
