-- `program_laws::loads_exactly` promises what proofs/WellFormed and proofs/Places prove.
use Rattle.program_laws.proofs.WellFormed.{well_formed_loads}
use Rattle.program_laws.proofs.Places.{loads_rightly}
use Rattle.program_laws.proofs.loads_exactly.Goals as goal

pub returns : goal.returns
returns c = record { well_formed = well_formed_loads; places = loads_rightly }
