use mathlib.Core.Path.{sym, ◌∙◌}
use mathlib.Core.Bool.{and-eq-true_iff}
use lib.Dec.{leb}
use borrow.Author.Tests.{leb-true}
use Rattle.acting.proofs.Answers.{answers_done, answers_barred, no_limit, no_refusal}
use Rattle.acting.proofs.fire_meta.Goals as goal

pub returns-then-scalars : goal.returns-then-scalars
returns-then-scalars c =
    let a = c.args in
    let r = c.act_all in
    let t = (and-eq-true_iff (leb a.scalars.next 65528) (leb a.scalars.atoms 248)).0 c.if-scalars.true in
    let z = no_limit a.program.now a.words.now r.new.words a.scalars a.rule a.values r.result c.requires (leb-true a.scalars.next 65528 t.0) (leb-true a.scalars.atoms 248 t.1) r.ensures in record {
      result_after = answers_done a.words.now a.scalars r.new.words r.result _ z r.ensures;
      untouched = no_refusal _ r.result z;
    }

pub returns-then-is_err-clause-result_after : goal.returns-then-is_err-clause-result_after
returns-then-is_err-clause-result_after c =
    let r = c.act_all-result in
    answers_barred c.args.words.now c.args.scalars r.new.words r.result _ (sym c.if-is_err.ensures.value) r.ensures

pub returns-else-is_err : goal.returns-else-is_err
returns-else-is_err c =
    let r = c.act_all-result in
    let z = sym c.is_err.ensures.value ∙ c.if-is_err.false in record {
      result_after = answers_done c.args.words.now c.args.scalars r.new.words r.result _ z r.ensures;
      untouched = no_refusal _ r.result z;
    }
