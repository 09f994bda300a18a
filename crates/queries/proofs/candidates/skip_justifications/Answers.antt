-- A plan's four numbers are passed over at once, or one after the other up to its last justification.
use mathlib.Core.Path.{sym, ◌∙◌}
use native.Mathlib.Omega.{arith}
use Rattle.queries.proofs.Laws.{justifications_few}
use Rattle.queries.proofs.Skips.{other_plan, no_such_atom, other_atom, past_last, skip_none, skip_to}
use Rattle.queries.proofs.candidates.skip_justifications.Goals as goal

pub loop-k-init : goal.loop-k-init
loop-k-init c = (omega arith, λ b. skip_to _ _ _ _ _ _ _ (skip_none _ _ _ _ c.args.from) (omega arith) (λ n p q. absurd (omega arith)))

pub loop-k-preserved-then-is_unlike : goal.loop-k-preserved-then-is_unlike
loop-k-preserved-then-is_unlike c =
    let a = c.args in
    let h = c.loop-k-test.true in (
      omega arith,
      λ b. skip_to _ _ _ _ _ _ _ (c.loop-k.invariant.1 b) (omega arith)
          (λ n p q. other_plan a.words.now a.i a.a b c.loop-k.k c.plan_id-id.result c.plan_id-id.ensures (sym c.is_unlike.ensures ∙ c.if-is_unlike.true) n (omega arith) (omega arith)),
    )

pub loop-k-preserved-then-is_lacking : goal.loop-k-preserved-then-is_lacking
loop-k-preserved-then-is_lacking c =
    let a = c.args in
    let h = c.loop-k-test.true in (
      omega arith,
      λ b. skip_to _ _ _ _ _ _ _ (c.loop-k.invariant.1 b) (omega arith)
          (λ n p q. no_such_atom a.words.now a.i a.a b c.loop-k.k c.is_lacking.result c.is_lacking.ensures c.if-is_lacking.true n (omega arith) (omega arith)),
    )

pub loop-j-init : goal.loop-j-init
loop-j-init c =
    let e = c.saturating_sub-j.ensures in
    (omega arith, λ b. skip_to _ _ _ _ _ _ _ (c.loop-k.invariant.1 b) (omega arith) (λ n p q. absurd (omega arith)))

pub plan_justification-atom-requires : goal.plan_justification-atom-requires
plan_justification-atom-requires c =
    let few = justifications_few c.args.words.now c.loop-k.k in
    let e = c.justification_count-j-end.ensures in
    (omega arith, omega arith)

pub loop-j-preserved : goal.loop-j-preserved
loop-j-preserved c =
    let a = c.args in
    let few = justifications_few a.words.now c.loop-k.k in
    let e = c.justification_count-j-end.ensures in (
      omega arith,
      λ b. skip_to _ _ _ _ _ _ _ (c.loop-j.invariant.1 b) (omega arith)
          (λ n p q. other_atom a.words.now a.i a.a b c.loop-k.k c.loop-j.j c.plan_justification-atom.result (omega arith) c.plan_justification-atom.ensures (sym c.is_unlike-in-loop-j.ensures ∙ c.if-is_unlike-2.true) n p (omega arith)),
    )

pub overflow_add-result : goal.overflow_add-result
overflow_add-result c =
    let few = justifications_few c.args.words.now c.loop-k.k in
    let e = c.justification_count-j-end.ensures in
    omega arith

pub loop-k-preserved : goal.loop-k-preserved
loop-k-preserved c =
    let a = c.args in
    let few = justifications_few a.words.now c.loop-k.k in
    let e = c.justification_count-j-end.ensures in
    let h = c.loop-j-test.false in
    let k = c.loop-k-test.true in
    let i = c.loop-j.invariant.0 in (
      omega arith,
      λ b. skip_to _ _ _ _ _ _ _ (c.loop-j.invariant.1 b) (omega arith) (λ n p q. past_last a.words.now a.i a.a b c.loop-k.k c.justification_count-j-end.result e n (omega arith) (omega arith)),
    )

pub returns-in-loop-j : goal.returns-in-loop-j
returns-in-loop-j c = c.loop-j.invariant.1

pub returns : goal.returns
returns c =
    let e = c.max.ensures in
    let h = c.loop-k-test.false in
    let i = c.loop-k.invariant.0 in
    λ b. skip_to _ _ _ _ _ _ _ (c.loop-k.invariant.1 b) (omega arith) (λ n p q. absurd (omega arith))
