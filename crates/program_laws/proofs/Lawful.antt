-- The rows of a well-formed program obey every law of a program.
use mathlib.Core.Path.{◌≡◌}
use mathlib.Core.Bool.{true, ◌&&◌}
use mathlib.Core.List.{List}
use native.Mathlib.Omega.{arith}
use lib.Dec.{eqb}
use borrow.Author.Tests.{eqb-true}
use Rattle.lists.specs.Lists.{In, every}
use Rattle.lists.proofs.Lists.{keep_in}
use Rattle.model.specs.declared.Row.{Row}
use Rattle.model.specs.declared.Scan.{Scan}
use Rattle.model.specs.Program.{is_object, initial_atoms}
use Rattle.model.specs.Render.{in_range, well_formed}
use Rattle.program_laws.specs.Lawful.{Lawful}
use Rattle.program_laws.proofs.Tests.{and_left, and_right}
use Rattle.program_laws.proofs.Range.{of_in_range, all_in_range, range_in}
use Rattle.program_laws.proofs.Scanned.{Scanned, scanned}

lawful_of : (program : List Row) (s : Scan) → ((r : Row) → In r program → in_range r ≡ true) → Scanned program s → Lawful program
unfolding is_object initial_atoms
lawful_of program s ranges w = record {
  ranges = ranges;
  ordered = w.ordered;
  few_rows = let c = w.count in let h = w.few_rows in omega arith;
  set_0_rows = λ r i e. let h = (w.rows r i).in_set_0 e in (h.rule, h.part);
  rule_rows = λ r i. (w.rows r i).in_rule;
  few_reasons = λ m n. (w.rules m n).few_reasons;
  few_context = λ m n. (w.rules m n).few_context;
  short_body = λ m n. (w.rules m n).short_body;
  reason_rows = λ m n. (w.rules m n).reason_rows;
  context_rows = λ m n. (w.rules m n).context_rows;
  object_context = λ m n. (w.rules m n).object_context;
  object_body = λ m n. (w.rules m n).object_body;
  meta_body = λ m n. (w.rules m n).meta_body;
  valued = λ m n. (w.rules m n).valued;
  few_initial = let c = w.atom_count in let h = w.few_atoms in omega arith;
  initial_rows = λ r i. let h = keep_in (λ (r : Row). eqb r.set 0 && eqb r.op 41) program i in
      ((w.rows r h.0).in_set_0 (eqb-true _ _ (and_left _ _ h.1))).initial (eqb-true _ _ (and_right (eqb r.set 0) _ h.1));
  ceilings = λ r i e o. (((w.rows r i).in_set_0 e).ceiling o).1;
  ceiling_marks = λ r i e o. (((w.rows r i).in_set_0 e).ceiling o).0;
}

pub lawful : (program : List Row) → well_formed program ≡ true → Lawful program
unfolding well_formed
lawful program e =
    let w = scanned program (and_right (every in_range program) _ e) in
    lawful_of program w.0 (λ r i. of_in_range r (range_in program (all_in_range program (and_left _ _ e)) r i)) w.1
