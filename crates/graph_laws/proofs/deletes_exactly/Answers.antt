-- `deletes_exactly` returns what it is given; the two claims that it promises are theorems of proofs/Deletion.
use mathlib.Core.Path.{refl}
use Rattle.graph_laws.proofs.Deletion.{reached_exactly, deletes_exactly}
use Rattle.graph_laws.proofs.deletes_exactly.Goals as goal

pub returns : goal.returns
returns c = record { unchanged = refl; reached = reached_exactly; deleted = deletes_exactly }
