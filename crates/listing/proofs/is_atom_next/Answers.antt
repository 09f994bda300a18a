-- Each `return` is a case of the test.
use native.Mathlib.Omega.{arith}
use Rattle.listing.proofs.Next.{next_no_atom, next_no_plan, next_by_id}
use Rattle.listing.proofs.is_atom_next.Goals as goal

pub returns-then-scalars-i : goal.returns-then-scalars-i
returns-then-scalars-i c = let a = c.args in next_no_atom a.words.now a.scalars a.i a.j (omega arith)

pub returns-then-scalars-j : goal.returns-then-scalars-j
returns-then-scalars-j c = let a = c.args in next_no_plan a.words.now a.scalars a.i a.j (omega arith) (omega arith)

pub returns : goal.returns
returns c = let a = c.args in rw (c.atom_at-x.ensures, c.plan_id-plan.ensures) (next_by_id a.words.now a.scalars a.i a.j (omega arith) (omega arith))
