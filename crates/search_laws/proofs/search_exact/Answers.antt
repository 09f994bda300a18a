-- `search_exact` promises what proofs/Exact proves.
use Rattle.search_laws.proofs.Exact as Exact
use Rattle.search_laws.proofs.search_exact.Goals as goal

pub returns : goal.returns
returns c = Exact.search_exact
