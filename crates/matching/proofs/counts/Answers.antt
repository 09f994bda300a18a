-- A plan with other justifications is not equal, and one after the other is compared with the match.
use borrow.Author.Rules.{rules}
use mathlib.Core.Path.{◌≡◌, sym, ap, ◌∙◌}
use native.Mathlib.Omega.{arith}
use lib.ListN.{length}
use Rattle.lists.specs.Lists.{same}
use Rattle.model.specs.Configuration.{Plan}
use Rattle.model.specs.Matching.{justifications_of}
use Rattle.program.specs.Rows.{rows_of}
use Rattle.state.specs.View.{plan_at}
use Rattle.queries.specs.View.{found_of}
use Rattle.matching.proofs.Plans.{some_next, not_same, other_justified}
use Rattle.matching.proofs.counts.Goals as goal

-- plan k has other justifications
pub loop-k-preserved-then-not-words_agree : goal.loop-k-preserved-then-not-words_agree
unfolding justifications_of
loop-k-preserved-then-not-words_agree c =
    let a = c.args in
    let e = c.rising_set-l.ensures in
    let few = c.requires.2 in
    let four : length c.rising_set-l.result.ids ≡ 4 = search rules in
    let q : Plan = plan_at c.args.words.now c.loop-k.k in
    let other = not_same c.rising_set-l.result q.justifications four (omega (arith, e.few)) e.padded (sym c.words_agree.ensures ∙ c.if-not-words_agree.true) in
    c.loop-k.invariant ∙ some_next _ _ _ _ c.loop-k-test.true (other_justified (rows_of c.args.program.now) c.args.rule.set c.args.rule.number (found_of c.args.f) q (ap (same q.justifications) (sym e.is) ∙ other))

pub equal_plan-requires : goal.equal_plan-requires
unfolding justifications_of
equal_plan-requires c =
    let k = c.requires.1 in
    let a = k.plans in
    let e = c.rising_set-l.ensures in
    let p = c.requires.2 in
    (c.requires.0, omega arith, omega (arith, e.few), e.is)
