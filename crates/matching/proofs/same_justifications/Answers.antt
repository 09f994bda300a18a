-- Place by place, where the lists are as long.
use borrow.Author.Rules.{rules}
use mathlib.Core.Path.{◌≡◌, sym, ◌∙◌}
use native.Mathlib.Omega.{arith}
use lib.ListN.{length, take}
use lib.Seq.{length-take-le}
use Rattle.state.specs.View.{plan_at}
use Rattle.matching.proofs.Plans.{same_longer, same_end}
use Rattle.matching.proofs.same_justifications.Goals as goal

pub returns-then-n-count : goal.returns-then-n-count
returns-then-n-count c =
    let four : length c.args.l.ids ≡ 4 = search rules in
    let l : length (take c.args.l.count c.args.l.ids) ≡ c.args.l.count = length-take-le c.args.l.count c.args.l.ids (omega (arith, c.requires.1)) in
    let n = c.justification_count-n.ensures in
    same_longer _ _ (λ (e : length (plan_at c.args.words.now c.args.k).justifications ≡ length (take c.args.l.count c.args.l.ids)). c.if-n-count.true (n ∙ e ∙ l))

pub returns : goal.returns
returns c =
    let n = c.justification_count-n.ensures in
    let four : length c.args.l.ids ≡ 4 = search rules in
    let l : length (take c.args.l.count c.args.l.ids) ≡ c.args.l.count = length-take-le c.args.l.count c.args.l.ids (omega (arith, c.requires.1)) in
    same_end (plan_at c.args.words.now c.args.k).justifications (take c.args.l.count c.args.l.ids) c.loop-j.j (omega (arith, c.if-n-count.false)) (omega arith) ∙ sym c.loop-j.invariant
