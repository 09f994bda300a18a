-- One answer of the row after the other; with no fuel it gives up and says nothing.
use Prim.Native.Nat.{ℕ, ◌+◌}
use native.Mathlib.Omega.{arith}
use mathlib.Core.Path.{◌≡◌, refl, sym, ap, ◌∙◌, subst}
use mathlib.Core.Bool.{Bool, false≢true}
use mathlib.Core.List.{[]}
use Rattle.lists.specs.Lists.{when, first_of}
use Rattle.lists.proofs.Bind.{append-nil}
use Rattle.lists.proofs.Search.{Only, first_when, backed, pruned}
use Rattle.model.specs.Matching.{Found, counts}
use Rattle.program.specs.Rows.{rows_of}
use Rattle.state.specs.View.{config_of}
use Rattle.queries.specs.View.{found_in}
use Rattle.queries.specs.Answers.{answers, given_ids}
use Rattle.queries.proofs.Answers.{only_answers, ids_few}
use Rattle.matching.specs.Rules.{match_in}
use Rattle.matching.proofs.Rows.{reasons_next, counted_end, counted_next, given_one, kept_on}
use Rattle.matching.proofs.+search.Goals as goal

pub returns-then-counts-clause-is : goal.returns-then-counts-clause-is
returns-then-counts-clause-is t c =
    let a = c.args in
    let g : Found = found_in a.values.now a.matched.now a.count in
    let few = c.requires.2 in
    record {
      is = ap (λ (b : Bool). when b g) (sym c.if-counts.true ∙ c.counts.ensures)
          ∙ sym (ap first_of (counted_end a.program.now a.words.now a.s a.rule a.k g c.if-rule-k.true) ∙ first_when (counts (rows_of a.program.now) (config_of a.words.now a.s) a.rule.set a.rule.number g) g);
      few = omega arith;
    }

pub returns-then-rule-k-clause-is : goal.returns-then-rule-k-clause-is
returns-then-rule-k-clause-is t c =
    let a = c.args in
    let g : Found = found_in a.values.now a.matched.now a.count in
    record {
      is = ap (λ (b : Bool). when b g) (sym c.if-counts.false ∙ c.counts.ensures)
          ∙ sym (ap first_of (counted_end a.program.now a.words.now a.s a.rule a.k g c.if-rule-k.true) ∙ first_when (counts (rows_of a.program.now) (config_of a.words.now a.s) a.rule.set a.rule.number g) g);
      few = tt;
    }

pub loop-next-init : goal.loop-next-init
loop-next-init t c =
    let a = c.args in (
      refl,
      refl,
      ap first_of (counted_next a.program.now a.words.now a.s a.rule a.k (found_in a.values.now a.matched.now a.count) c.if-rule-k.false c.row_at-r.result c.row_at-r.ensures ∙ sym (append-nil _)),
      λ _. refl,
    )

pub next_answer-requires : goal.next_answer-requires
next_answer-requires t c =
    let a = c.args in
    let n = reasons_next a.program.now a.k a.rule.body c.if-rule-k.false c.row_at-r.result c.row_at-r.ensures in
    let q = c.requires.2 in
    (c.requires.1, omega arith, c.loop-next.invariant.0)

pub overflow_add-n : goal.overflow_add-n
overflow_add-n t c =
    let a = c.args in
    let n = reasons_next a.program.now a.k a.rule.body c.if-rule-k.false c.row_at-r.result c.row_at-r.ensures in
    let q = c.requires.2 in
    let i = ids_few c.row_at-r.result in
    let e = c.given_ids.ensures in
    omega arith

pub search-requires : goal.search-requires
search-requires t c =
    let a = c.args in
    let n = reasons_next a.program.now a.k a.rule.body c.if-rule-k.false c.row_at-r.result c.row_at-r.ensures in
    let q = c.requires.2 in
    let i = ids_few c.row_at-r.result in
    let e = c.given_ids.ensures in
    let h = c.if-rule-k.false in
    (omega arith, (c.requires.0, c.requires.1, omega arith))

pub returns-in_err-m-clause-kept : goal.returns-in_err-m-clause-kept
returns-in_err-m-clause-kept t c = kept_on _ _ _ _ _ _ c.loop-next.invariant.1 c.next_answer.ensures.kept c.search.ensures.kept

pub returns-in-Some-m-clause-kept : goal.returns-in-Some-m-clause-kept
returns-in-Some-m-clause-kept t c = kept_on _ _ _ _ _ _ c.loop-next.invariant.1 c.next_answer.ensures.kept c.search.ensures.kept

pub returns-then-closes-clause-is : goal.returns-then-closes-clause-is
returns-then-closes-clause-is t c =
    let a = c.args in
    let i = c.loop-next.invariant in
    let r = c.row_at-r.result in
    let f : Found = found_in a.values.now a.matched.now a.count in
    let h = sym c.closes.ensures ∙ c.if-closes.true in
    let n : a.count + c.given_ids.result ≡ a.count + given_ids r = ap (λ (g : ℕ). a.count + g) c.given_ids.ensures in
    let one = given_one a.words.now a.s r a.values.now a.matched.now c.loop-next.matched _ _ a.count c.loop-next.c _ i.1 _ c.in-Some.ensures.is _ n in
    record {
      is = sym (pruned f _ _ [] i.2
          (subst (λ (n : ℕ). Only f (answers a.words.now a.s r f n)) (sym (i.3 h)) (only_answers _ _ _ _ h))
          _ _ one _ (ap (match_in _ _) (sym c.in_default-m.is) ∙ c.in_ok-m.ensures.is.is) refl);
      few = tt;
    }

pub returns-then-closes-clause-kept : goal.returns-then-closes-clause-kept
returns-then-closes-clause-kept t c = kept_on _ _ _ _ _ _ c.loop-next.invariant.1 c.next_answer.ensures.kept c.search.ensures.kept

pub loop-next-preserved : goal.loop-next-preserved
loop-next-preserved t c =
    let a = c.args in
    let i = c.loop-next.invariant in
    let e = c.search.ensures in
    let n : a.count + c.given_ids.result ≡ a.count + given_ids c.row_at-r.result = ap (λ (g : ℕ). a.count + g) c.given_ids.ensures in
    let one = given_one a.words.now a.s c.row_at-r.result a.values.now a.matched.now c.loop-next.matched _ _ a.count c.loop-next.c _ i.1 _ c.in-Some.ensures.is _ n in (
      refl,
      kept_on _ _ _ _ _ _ i.1 c.next_answer.ensures.kept e.kept,
      backed _ _ [] i.2 _ _ one _ (ap (match_in _ _) (sym c.in_default-m.is) ∙ c.in_ok-m.ensures.is.is) refl,
      λ h. absurd (false≢true (sym c.if-closes.false ∙ c.closes.ensures ∙ h)),
    )
