-- The answers of a rule's first row are tried one after the other, and the rules of the set one after the other.
use borrow.Author.Rules.{rules}
use mathlib.Core.Path.{◌≡◌, refl, sym, ap, ◌∙◌, subst}
use mathlib.Core.Bool.{false≢true}
use mathlib.Core.List.{[], ◌∷◌}
use Prim.Native.Nat.{ℕ, ◌+◌}
use native.Mathlib.Omega.{arith}
use Rattle.lists.specs.Lists.{first_of}
use Rattle.lists.proofs.Search.{Only, spent, reached, backed, pruned}
use Rattle.model.specs.declared.Row.{Row}
use Rattle.model.specs.Matching.{Found, nothing_found}
use Rattle.queries.specs.View.{found_in}
use Rattle.queries.specs.Answers.{answers, given_ids}
use Rattle.queries.proofs.Answers.{only_answers, ids_few}
use Rattle.matching.specs.Rules.{match_in}
use Rattle.matching.proofs.Rows.{reasons_next, given_none, given_one}
use Rattle.matching.proofs.Rules.{fired, fires_all, next_rule, rule_there, rule_small}
use Rattle.matching.proofs.Firing.{parts, parts_rise, located, chosen_here, reasons_few, fires_as_it_is, fires_by_answers, rest_none, rest_one, firing_first, choice_ends}
use Rattle.matching.proofs.choose.Goals as goal
use Rattle.matching.proofs.choose.Goals.{in-Some+in-Err+in_default-search_on, in-Some+in-Ok-None+then-once, in_default}

pub rules-init : goal.rules-init
rules-init c = (record { positive = omega arith; bound = c.first_from-start.ensures; is = fires_all _ _ _ }, refl, refl)

pub returns-then-r-set-clause-is : goal.returns-then-r-set-clause-is
returns-then-r-set-clause-is c = rw c.rules.invariant.2 (choice_ends _ _ _ _ _ _ c.rules.invariant.0 c.requires.0 (λ h q. c.if-r-set.true (ap (λ (r : Row). r.set) c.row_at-r.ensures ∙ q)))

pub returns-then-body-start-clause-is : goal.returns-then-body-start-clause-is
returns-then-body-start-clause-is c =
    let a = c.args in
    let p = parts c.rules.invariant.0.bound c.part_end-context.ensures c.part_end-body.ensures c.part_end-end.ensures in
    sym (c.rules.invariant.0.is
    ∙ fires_as_it_is a.program.now a.set c.rules.number c.rules.start c.part_end-context.result c.part_end-body.result c.part_end-end.result p a.words.now a.s (rule_there a.program.now c.requires.0 a.set c.rules.number c.rules.start c.rules.invariant.0.bound c.rules-test.true (ap (λ (r : Row). r.set) (sym c.row_at-r.ensures) ∙ c.if-r-set.false)) c.if-body-start.true
    ∙ ap (λ (f : Found). fired c.rules.number f ∷ []) (sym c.nothing-f.ensures.0))

pub returns-then-body-start-clause-chosen : goal.returns-then-body-start-clause-chosen
returns-then-body-start-clause-chosen c =
    let z = c.nothing-f.ensures.1 in
    chosen_here _ _ _ _ _ _ _ (parts c.rules.invariant.0.bound c.part_end-context.ensures c.part_end-body.ensures c.part_end-end.ensures) c.nothing-f.result (omega arith)

pub candidates-init : goal.candidates-init
candidates-init c =
    let a = c.args in
    let p = parts c.rules.invariant.0.bound c.part_end-context.ensures c.part_end-body.ensures c.part_end-end.ensures in
    let z : found_in c.nothing-f.result.values [] 0 ≡ nothing_found = sym (ap (λ (n : ℕ). found_in c.nothing-f.result.values c.nothing-f.result.matched n) c.nothing-f.ensures.1) ∙ c.nothing-f.ensures.0 in (
      record {
        at_first = λ _. refl;
        is = c.rules.invariant.0.is
            ∙ ap first_of (fires_by_answers a.program.now a.set c.rules.number c.rules.start c.part_end-context.result c.part_end-body.result c.part_end-end.result p a.words.now a.s
            (rule_there a.program.now c.requires.0 a.set c.rules.number c.rules.start c.rules.invariant.0.bound c.rules-test.true (ap (λ (r : Row). r.set) (sym c.row_at-r.ensures) ∙ c.if-r-set.false)) c.if-body-start.false c.row_at-r.result c.row_at-r.ensures (found_in c.nothing-f.result.values [] 0) z);
      },
      c.rules.invariant.1,
      c.rules.invariant.2,
    )

pub next_answer-requires : goal.next_answer-requires
next_answer-requires c =
    let a = c.args in
    let p = parts c.rules.invariant.0.bound c.part_end-context.ensures c.part_end-body.ensures c.part_end-end.ensures in
    let n = reasons_next a.program.now c.rules.start c.part_end-body.result c.if-body-start.false c.row_at-r.result c.row_at-r.ensures in
    let m = reasons_few _ _ _ _ _ _ _ p c.requires.0 in
    (c.requires.1, omega arith, c.candidates.invariant.1)

pub search-requires : goal.search-requires
search-requires c =
    let a = c.args in
    let p = parts c.rules.invariant.0.bound c.part_end-context.ensures c.part_end-body.ensures c.part_end-end.ensures in
    let n = reasons_next a.program.now c.rules.start c.part_end-body.result c.if-body-start.false c.row_at-r.result c.row_at-r.ensures in
    let m = reasons_few _ _ _ _ _ _ _ p c.requires.0 in
    let k = ids_few c.row_at-r.result in
    let e = c.given_ids-ids.ensures in
    (located _ _ _ _ _ _ _ p, c.requires.1, omega arith)

pub returns-in-Ok-Some-clause-is : goal.returns-in-Ok-Some-clause-is
returns-in-Ok-Some-clause-is c =
    let a = c.args in
    let g : c.given_ids-ids.result ≡ 0 + given_ids c.row_at-r.result = omega (arith, c.given_ids-ids.ensures) in
    let one = given_one a.words.now a.s c.row_at-r.result c.nothing-f.result.values [] c.candidates.matched _ _ 0 c.candidates.from _ refl _ c.in-Some.ensures.is c.given_ids-ids.result g in
    let found = ap (match_in _ _) (sym c.in-Ok-Some.field-0-is) ∙ c.in-Ok-Some.ensures.is.is in
    reached _ _ _ c.candidates.invariant.0.is _ _ one _ (firing_first _ _ _ _ _ _ _ found) refl

pub returns-in-Ok-Some-clause-chosen : goal.returns-in-Ok-Some-clause-chosen
returns-in-Ok-Some-clause-chosen c =
    chosen_here _ _ _ _ _ _ _ (parts c.rules.invariant.0.bound c.part_end-context.ensures c.part_end-body.ensures c.part_end-end.ensures) _
    (rw c.in-Ok-Some.field-0-is at c.in-Ok-Some.ensures.is.few)

pub search_on-requires : goal.search_on-requires
search_on-requires c =
    let p = parts c.rules.invariant.0.bound c.part_end-context.ensures c.part_end-body.ensures c.part_end-end.ensures in
    let v = c.candidates.invariant in
    (located _ _ _ _ _ _ _ p, c.requires.1, c.if-body-start.false, reasons_few _ _ _ _ _ _ _ p c.requires.0)

pub returns-in-Some-search_on-clause-is : goal.returns-in-Some-search_on-clause-is
returns-in-Some-search_on-clause-is c = rest_one c.candidates.invariant.0 c.row_at-r.ensures _ c.in-Some-search_on.ensures.is.is refl

pub returns-in-Some-search_on-clause-chosen : goal.returns-in-Some-search_on-clause-chosen
returns-in-Some-search_on-clause-chosen c =
    chosen_here _ _ _ _ _ _ _ (parts c.rules.invariant.0.bound c.part_end-context.ensures c.part_end-body.ensures c.part_end-end.ensures) _ c.in-Some-search_on.ensures.is.few

pub candidates-preserved : goal.candidates-preserved
candidates-preserved c =
    let a = c.args in
    let v = c.candidates.invariant in
    let g : c.given_ids-ids.result ≡ 0 + given_ids c.row_at-r.result = omega (arith, c.given_ids-ids.ensures) in
    let one = given_one a.words.now a.s c.row_at-r.result c.nothing-f.result.values [] c.candidates.matched _ _ 0 c.candidates.from _ refl _ c.in-Some.ensures.is c.given_ids-ids.result g in
    let none = ap (match_in _ _) (sym c.in-Ok-None.field-0-is) ∙ c.in-Ok-None.ensures.is.is in (
      record {
        at_first = λ o. absurd (false≢true (sym c.if-once.false ∙ o));
        is = backed _ _ _ v.0.is _ _ one _ (firing_first _ _ _ _ _ _ _ none) refl;
      },
      refl,
      v.2,
    )

pub overflow_add-number : goal.overflow_add-number
overflow_add-number c =
    let h = rule_small c.args.program.now c.requires.0 c.args.set c.rules.number c.rules.start c.rules.invariant.0.bound c.rules-test.true (ap (λ (r : Row). r.set) (sym c.row_at-r.ensures) ∙ c.if-r-set.false) c.rules.invariant.0.positive in
    omega arith

pub rules-smaller : goal.rules-smaller
rules-smaller c =
    let p = parts c.rules.invariant.0.bound c.part_end-context.ensures c.part_end-body.ensures c.part_end-end.ensures in
    let r = (parts_rise _ _ _ _ _ _ _ p).2 in
    let h = c.if-body-start.false in
    let l = c.rules-test.true in
    omega arith

pub rules-preserved : goal.rules-preserved
rules-preserved c =
    let a = c.args in
    let r = c.row_at-r.result in
    let f : Found = found_in c.nothing-f.result.values [] 0 in
    let v = c.candidates.invariant in
    let n = c.next_answer.ensures in (
      record {
        positive = omega arith;
        bound = next_rule a.program.now c.requires.0 a.set c.rules.number c.part_end-end.result c.part_end-end.ensures;
        is = elim c.match-next_answer.branch [
          | in-Some+in-Err+in_default-search_on w ↦ rest_none v.0 c.row_at-r.ensures [] w.in_default-search_on.ensures.is.is refl
          | in-Some+in-Ok-None+then-once w ↦
              let g : w.given_ids-ids.result ≡ 0 + given_ids r = omega (arith, w.given_ids-ids.ensures) in
              pruned f _ _ _ v.0.is
              (subst (λ (k : ℕ). Only f (answers a.words.now a.s r f k)) (sym (v.0.at_first w.if-once.true))
              (only_answers _ _ _ _ (sym c.closes-once.ensures ∙ w.if-once.true)))
              _ _ (given_one a.words.now a.s r c.nothing-f.result.values [] c.candidates.matched _ _ 0 c.candidates.from _ refl _ w.in-Some.ensures.is w.given_ids-ids.result g)
              _ (firing_first _ _ _ _ _ _ _ (ap (match_in _ _) (sym w.in-Ok-None.field-0-is) ∙ w.in-Ok-None.ensures.is.is)) refl
          | in_default w ↦ spent _ _ _ v.0.is (given_none a.words.now a.s r c.nothing-f.result.values [] c.candidates.matched _ _ 0 c.candidates.from _ refl w.in_default.ensures.is)
        ];
      },
      elim c.match-next_answer.branch [
        | in-Some+in-Err+in_default-search_on w ↦ w.values-is ∙ w.in_default-search_on.ensures.back refl
        | in-Some+in-Ok-None+then-once w ↦ w.values-is
        | in_default w ↦ w.values-is ∙ w.in_default.ensures.back refl
      ],
      v.2,
    )

pub returns-after-rules-clause-is : goal.returns-after-rules-clause-is
returns-after-rules-clause-is c = rw c.rules.invariant.2 (choice_ends _ _ _ _ _ _ c.rules.invariant.0 c.requires.0 (λ h. absurd (omega (arith, c.rules-test.false))))
