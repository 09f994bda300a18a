-- A failure is noted where it may be met again, and the nogoods stay true.
use Prim.Native.Nat.{ℕ, ◌+◌}
use native.Mathlib.Omega.{arith}
use borrow.Author.Rules.{rules}
use mathlib.Core.Path.{◌≡◌, refl, sym, ap, ◌∙◌, subst}
use mathlib.Core.Bool.{Bool}
use mathlib.Core.List.{[]}
use lib.ListN.{length, take}
use Rattle.lists.specs.Lists.{when, first_of}
use Rattle.lists.proofs.Bind.{append-nil}
use Rattle.lists.proofs.Search.{first_when, backed}
use Rattle.model.specs.Matching.{Found, counts}
use Rattle.program.specs.Rows.{rows_of}
use Rattle.state.specs.View.{config_of}
use Rattle.queries.specs.View.{found_in}
use Rattle.queries.specs.Answers.{given_ids}
use Rattle.queries.proofs.Answers.{ids_few}
use Rattle.filters.proofs.Laws.{barred_none}
use Rattle.matching.specs.Sets.{Barren}
use Rattle.matching.proofs.Rows.{reasons_next, counted_end, counted_next, given_none, given_one, kept_on}
use Rattle.matching.proofs.Bits.{of_row_more, apart_of}
use Rattle.matching.proofs.Failing.{passed_none, passed_one, passed_all, barren_none, barren_leaf, barren_apart}
use Rattle.matching.proofs.Remembering.{noted}
use Rattle.matching.proofs.long.+search_long.Goals as goal
use Rattle.matching.proofs.long.+search_long.Goals.{in-Some+in_default-glance, in_default}

pub returns-then-counts-clause-is : goal.returns-then-counts-clause-is
returns-then-counts-clause-is t c =
    let a = c.args in
    let g : Found = found_in a.values.now a.matched.now a.count in
    let few = c.requires.2 in
    record {
      is = ap (λ (b : Bool). when b g) (sym c.if-counts.true ∙ c.counts.ensures)
          ∙ sym (ap first_of (counted_end a.program.now a.words.now a.s a.rule a.k g c.if-rule-k.true) ∙ first_when (counts (rows_of a.program.now) (config_of a.words.now a.s) a.rule.set a.rule.number g) g);
      few = omega arith;
    }

pub returns-then-rule-k-clause-is : goal.returns-then-rule-k-clause-is
returns-then-rule-k-clause-is t c =
    let a = c.args in
    barren_leaf a.program.now a.words.now a.s a.rule a.k (found_in a.values.now a.matched.now a.count) a.body c.requires.0 c.if-rule-k.true c.requires.3 (sym c.counts.ensures ∙ c.if-counts.false)

-- no atom fits the row
pub returns-then-is_barred-clause-is : goal.returns-then-is_barred-clause-is
returns-then-is_barred-clause-is t c =
    let a = c.args in
    let r = c.row_at-r.result in
    let f : Found = found_in a.values.now a.matched.now a.count in
    let set = c.operands-blame.result in
    let none = barred_none a.words.now a.s a.filter.now c.requires.5 r f (c.is_barred.ensures c.if-is_barred.true) 0 in
    subst (Barren a.program.now a.words.now a.s a.rule a.k f) (sym c.learn.ensures.is)
    (passed_all a.program.now a.words.now a.s a.rule a.k r f c.if-rule-k.false c.row_at-r.ensures 0 set (passed_none a.program.now a.words.now a.s a.rule a.k r f set) c.operands-blame.ensures none)

pub returns-then-is_barred-clause-learnt : goal.returns-then-is_barred-clause-learnt
returns-then-is_barred-clause-learnt t c =
    let a = c.args in
    let n = a.count in
    let r = c.row_at-r.result in
    let f : Found = found_in a.values.now a.matched.now n in
    let set = c.operands-blame.result in
    let none = barred_none a.words.now a.s a.filter.now c.requires.5 r f (c.is_barred.ensures c.if-is_barred.true) 0 in
    let b = passed_all a.program.now a.words.now a.s a.rule a.k r f c.if-rule-k.false c.row_at-r.ensures 0 set (passed_none a.program.now a.words.now a.s a.rule a.k r f set) c.operands-blame.ensures none in
    let kept : take n c.match-hint.matched ≡ take n a.matched.now =
    elim c.match-hint.branch [
      | in-Some+in_default-glance w ↦ ap (take n) w.matched-is ∙ w.glance.ensures.kept
      | in_default w ↦ ap (take n) w.matched-is
    ] in
    let long : length c.match-hint.matched ≡ 4 = search rules in
    noted a.program.now a.words.now a.s a.rule a.k c.if-rule-k.false _ _ set a.values.now a.matched.now c.match-hint.matched n (search rules) (search rules) long kept c.requires.4 b c.learn.ensures.noted

pub loop-next-init : goal.loop-next-init
loop-next-init t c =
    let a = c.args in
    let n = a.count in
    let r = c.row_at-r.result in
    let f : Found = found_in a.values.now a.matched.now n in (
      elim c.match-hint.branch [
        | in-Some+in_default-glance w ↦ w.values-is ∙ w.glance.ensures.back
        | in_default w ↦ w.values-is
      ],
      elim c.match-hint.branch [
        | in-Some+in_default-glance w ↦ ap (take n) w.matched-is ∙ w.glance.ensures.kept
        | in_default w ↦ ap (take n) w.matched-is
      ],
      ap first_of (counted_next a.program.now a.words.now a.s a.rule a.k f c.if-rule-k.false r c.row_at-r.ensures ∙ sym (append-nil _)),
      passed_none a.program.now a.words.now a.s a.rule a.k r f c.operands-blame.result,
      c.operands-blame.ensures,
      tt,
      c.requires.4,
      search rules,
    )

pub next_answer-requires : goal.next_answer-requires
next_answer-requires t c =
    let a = c.args in
    let n = reasons_next a.program.now a.k a.rule.body c.if-rule-k.false c.row_at-r.result c.row_at-r.ensures in
    let q = c.requires.2 in
    (c.requires.1, omega arith, c.loop-next.invariant.0)

pub returns-clause-is : goal.returns-clause-is
returns-clause-is t c =
    let a = c.args in
    let i = c.loop-next.invariant in
    let r = c.row_at-r.result in
    let f : Found = found_in a.values.now a.matched.now a.count in
    subst (Barren a.program.now a.words.now a.s a.rule a.k f) (sym c.learn-2.ensures.is)
    (passed_all a.program.now a.words.now a.s a.rule a.k r f c.if-rule-k.false c.row_at-r.ensures c.loop-next.c c.loop-next.blame i.3 i.4
    (given_none a.words.now a.s r a.values.now a.matched.now c.loop-next.matched _ _ a.count c.loop-next.c _ i.1 c.in_default-next_answer.ensures.is))

pub returns-clause-learnt : goal.returns-clause-learnt
returns-clause-learnt t c =
    let a = c.args in
    let i = c.loop-next.invariant in
    let r = c.row_at-r.result in
    let f : Found = found_in a.values.now a.matched.now a.count in
    let b = passed_all a.program.now a.words.now a.s a.rule a.k r f c.if-rule-k.false c.row_at-r.ensures c.loop-next.c c.loop-next.blame i.3 i.4
    (given_none a.words.now a.s r a.values.now a.matched.now c.loop-next.matched _ _ a.count c.loop-next.c _ i.1 c.in_default-next_answer.ensures.is) in
    noted a.program.now a.words.now a.s a.rule a.k c.if-rule-k.false c.loop-next.known _ c.loop-next.blame a.values.now a.matched.now c.next_answer.new.matched a.count i.7 (search rules) (search rules) (c.next_answer.ensures.kept ∙ i.1) i.6 b c.learn-2.ensures.noted

pub overflow_add-n : goal.overflow_add-n
overflow_add-n t c =
    let a = c.args in
    let n = reasons_next a.program.now a.k a.rule.body c.if-rule-k.false c.row_at-r.result c.row_at-r.ensures in
    let q = c.requires.2 in
    let i = ids_few c.row_at-r.result in
    let e = c.given_ids.ensures in
    omega arith

pub search_long-requires : goal.search_long-requires
search_long-requires t c =
    let a = c.args in
    let n = reasons_next a.program.now a.k a.rule.body c.if-rule-k.false c.row_at-r.result c.row_at-r.ensures in
    let q = c.requires.2 in
    let i = ids_few c.row_at-r.result in
    let e = c.given_ids.ensures in
    let h = c.if-rule-k.false in
    (omega arith, (c.requires.0, c.requires.1, omega arith, c.requires.3, c.loop-next.invariant.6, c.requires.5))

pub returns-in-Ok-clause-kept : goal.returns-in-Ok-clause-kept
returns-in-Ok-clause-kept t c = kept_on _ _ _ _ _ _ c.loop-next.invariant.1 c.next_answer.ensures.kept c.search_long.ensures.kept

pub returns-then-are_apart-clause-is : goal.returns-then-are_apart-clause-is
returns-then-are_apart-clause-is t c =
    let a = c.args in
    let i = c.loop-next.invariant in
    let r = c.row_at-r.result in
    let f : Found = found_in a.values.now a.matched.now a.count in
    let n : a.count + c.given_ids.result ≡ a.count + given_ids r = ap (λ (g : ℕ). a.count + g) c.given_ids.ensures in
    let one = given_one a.words.now a.s r a.values.now a.matched.now c.loop-next.matched _ _ a.count c.loop-next.c _ i.1 _ c.in-Some-next_answer.ensures.is _ n in
    subst (Barren a.program.now a.words.now a.s a.rule a.k f) (sym c.learn-then-are_apart.ensures.is)
    (barren_apart a.program.now a.words.now a.s a.rule a.k r f c.if-rule-k.false c.row_at-r.ensures (search rules) c.loop-next.c _ _ c.in-Err.set one
    (apart_of c.in-Err.set c.asked-given.result r a.values.now c.asked-given.ensures (c.are_apart.ensures c.if-are_apart.true)) c.in-Err.ensures.is)

pub returns-then-are_apart-clause-kept : goal.returns-then-are_apart-clause-kept
returns-then-are_apart-clause-kept t c = kept_on _ _ _ _ _ _ c.loop-next.invariant.1 c.next_answer.ensures.kept c.search_long.ensures.kept

pub returns-then-are_apart-clause-learnt : goal.returns-then-are_apart-clause-learnt
returns-then-are_apart-clause-learnt t c =
    let a = c.args in
    let i = c.loop-next.invariant in
    let r = c.row_at-r.result in
    let f : Found = found_in a.values.now a.matched.now a.count in
    let e = c.search_long.ensures in
    let n : a.count + c.given_ids.result ≡ a.count + given_ids r = ap (λ (g : ℕ). a.count + g) c.given_ids.ensures in
    let one = given_one a.words.now a.s r a.values.now a.matched.now c.loop-next.matched _ _ a.count c.loop-next.c _ i.1 _ c.in-Some-next_answer.ensures.is _ n in
    let b = barren_apart a.program.now a.words.now a.s a.rule a.k r f c.if-rule-k.false c.row_at-r.ensures (search rules) c.loop-next.c _ _ c.in-Err.set one
    (apart_of c.in-Err.set c.asked-given.result r a.values.now c.asked-given.ensures (c.are_apart.ensures c.if-are_apart.true)) c.in-Err.ensures.is in
    noted a.program.now a.words.now a.s a.rule a.k c.if-rule-k.false _ _ c.in-Err.set a.values.now a.matched.now c.search_long.new.matched a.count (search rules) (search rules) (search rules)
    (kept_on _ _ _ _ _ _ i.1 c.next_answer.ensures.kept e.kept) e.learnt b c.learn-then-are_apart.ensures.noted

pub union-blame-requires : goal.union-blame-requires
union-blame-requires t c = (c.loop-next.invariant.4.small, c.in-Err.ensures.is.small)

pub loop-next-preserved : goal.loop-next-preserved
loop-next-preserved t c =
    let a = c.args in
    let i = c.loop-next.invariant in
    let r = c.row_at-r.result in
    let f : Found = found_in a.values.now a.matched.now a.count in
    let v : Found = found_in c.next_answer.new.values c.next_answer.new.matched (a.count + c.given_ids.result) in
    let e = c.search_long.ensures in
    let m = c.in-Err.set in
    let n : a.count + c.given_ids.result ≡ a.count + given_ids r = ap (λ (g : ℕ). a.count + g) c.given_ids.ensures in
    let one = given_one a.words.now a.s r a.values.now a.matched.now c.loop-next.matched _ _ a.count c.loop-next.c _ i.1 _ c.in-Some-next_answer.ensures.is _ n in
    let barren = c.in-Err.ensures.is in
    let none = barren_none a.program.now a.words.now a.s a.rule (a.k + 1) v m (search rules) barren in (
      refl,
      kept_on _ _ _ _ _ _ i.1 c.next_answer.ensures.kept e.kept,
      backed _ _ [] i.2 _ _ one [] (sym (ap first_of none)) refl,
      passed_one a.program.now a.words.now a.s a.rule a.k r f c.loop-next.c c.in-Some-next_answer.next v c.loop-next.blame m c.union-blame.result i.3 one barren c.union-blame.ensures,
      of_row_more r c.loop-next.blame m c.union-blame.result i.4 c.union-blame.ensures,
      c.asked-given.ensures,
      e.learnt,
      search rules,
    )
