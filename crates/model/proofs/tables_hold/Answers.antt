-- `tables_hold` promises what proofs/Rows computes.
use Rattle.model.proofs.Rows.{keys_hold, cases_hold}
use Rattle.model.proofs.tables_hold.Goals as goal

pub returns : goal.returns
returns c = record { keys = keys_hold; cases = cases_hold }
