use Rattle.std.specs.Prelude.{Some, None}
use mathlib.Core.Path.{◌∙◌, subst}
use mathlib.Core.Logic.{inl}
use Prim.Native.Nat.{ℕ}
use native.Mathlib.Omega.{arith}
use Rattle.model.specs.Program.{constant}
use Rattle.model.specs.Configuration.{operand, with_flag, without_flag}
use Rattle.demands.proofs.Flags.{with_flag_fits, without_flag_fits}
use Rattle.state.specs.View.{config_of}
use Rattle.acting.specs.Actions.{Deletes}
use Rattle.acting.proofs.Actions.{stops_atom, stops_plan, deletes_atom, deletes_plan, sets_flag, clears_flag}
use Rattle.acting.proofs.Workable.{atom_lives, plan_lives, plan_flagged, flag_number, workable_flags}
use Rattle.acting.proofs.act.Goals as goal

pub returns-then-is_none-clause-acts : goal.returns-then-is_none-clause-acts
returns-then-is_none-clause-acts c =
    let a = c.args in
    let x = c.operand-id in
    stops_atom a.row a.values a.made a.scalars a.words.now c.if-op-eq22.true (atom_lives a.words.now a.scalars x.result _ x.ensures c.find_atom.result c.find_atom.ensures ∙ c.if-is_none.ensures)

pub returns-then-op-eq22-clause-acts : goal.returns-then-op-eq22-clause-acts
returns-then-op-eq22-clause-acts c =
    let a = c.args in
    let x = c.operand-id in
    let r = c.delete in
    deletes_atom a.row a.values a.made a.scalars a.words.now r.new.words r.result c.if-op-eq22.true (atom_lives a.words.now a.scalars x.result _ x.ensures c.find_atom.result c.find_atom.ensures ∙ c.if-is_none.ensures)
    (subst (λ (i : ℕ). Deletes i a.values a.made (config_of a.words.now a.scalars) (config_of r.new.words r.result.scalars) r.result) x.ensures r.ensures.deletes)

pub returns-in_default-clause-acts : goal.returns-in_default-clause-acts
returns-in_default-clause-acts c =
    let a = c.args in
    let x = c.operand-id in
    stops_plan a.row a.values a.made a.scalars a.words.now c.if-op-eq21.false c.if-op-eq22.false (plan_lives a.words.now a.scalars x.result _ x.ensures None c.in_default.ensures)

pub returns-in-23 : goal.returns-in-23
returns-in-23 c =
    let a = c.args in
    let x = c.operand-id in
    let n = constant a.row.a in
    let q = flag_number a.row c.requires.1 (inl c.in-23.is) in
    let e = plan_flagged a.words.now a.scalars x.result (operand a.values a.row.i) x.ensures c.set_flag.new.words c.in-Some.k c.in-Some.ensures with_flag _ n c.constant.ensures c.set_flag.ensures in record {
      acts = sets_flag a.row a.values a.made a.scalars a.words.now c.set_flag.new.words c.in-23.is (plan_lives a.words.now a.scalars x.result _ x.ensures (Some c.in-Some.k) c.in-Some.ensures) e;
      workable = (workable_flags a.words.now c.set_flag.new.words a.scalars c.requires.0 (operand a.values a.row.i) (with_flag n) (λ m. with_flag_fits n m q.0 q.1) e, omega arith);
    }

pub returns-in-24 : goal.returns-in-24
returns-in-24 c =
    let a = c.args in
    let x = c.operand-id in
    let n = constant a.row.a in
    let e = plan_flagged a.words.now a.scalars x.result (operand a.values a.row.i) x.ensures c.clear_flag.new.words c.in-Some.k c.in-Some.ensures without_flag _ n c.constant-in-24.ensures c.clear_flag.ensures in record {
      acts = clears_flag a.row a.values a.made a.scalars a.words.now c.clear_flag.new.words c.in-24.is (plan_lives a.words.now a.scalars x.result _ x.ensures (Some c.in-Some.k) c.in-Some.ensures) e;
      workable = (workable_flags a.words.now c.clear_flag.new.words a.scalars c.requires.0 (operand a.values a.row.i) (without_flag n) (λ m. without_flag_fits n m) e, omega arith);
    }

pub returns-in_default-op-clause-acts : goal.returns-in_default-op-clause-acts
returns-in_default-op-clause-acts c =
    let a = c.args in
    let x = c.operand-id in
    let r = c.delete-in_default-op in
    deletes_plan a.row a.values a.made a.scalars a.words.now r.new.words r.result c.if-op-eq21.false c.if-op-eq22.false (λ z. let h = c.in_default-op in omega arith) (λ z. let h = c.in_default-op in omega arith) (plan_lives a.words.now a.scalars x.result _ x.ensures (Some c.in-Some.k) c.in-Some.ensures)
    (subst (λ (i : ℕ). Deletes i a.values a.made (config_of a.words.now a.scalars) (config_of r.new.words r.result.scalars) r.result) x.ensures r.ensures.deletes)
