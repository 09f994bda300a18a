-- What a nogood says of the present values and ids holds of them.
use native.Mathlib.Omega.{arith}
use borrow.Author.Rules.{rules}
use Prim.Native.Nat.{ℕ, ◌-◌}
use mathlib.Core.Path.{◌≡◌, subst}
use Rattle.queries.specs.View.{found_in}
use Rattle.matching.specs.Sets.{Barren}
use Rattle.matching.proofs.Remembering.{remembered_says}
use Rattle.matching.proofs.long.glance.Goals as goal

pub returns-in-Some-clause-is : goal.returns-in-Some-clause-is
returns-in-Some-clause-is c =
    let a = c.args in
    let p = c.requires in
    let low = p.2 in
    let set = c.in-Some.set in
    let e : a.rule.body - (a.rule.body - a.k) ≡ a.k = omega arith in
    subst (λ (k : ℕ). Barren a.program.now a.words.now a.s a.rule k (found_in a.values.now a.matched.now a.count) set) e
    (remembered_says a.program.now a.words.now a.s a.rule a.known.now (a.rule.body - a.k) set a.values.now a.count a.matched.now (search rules) (search rules) (λ (z : _ ≡ 0). omega arith) p.4 c.in-Some.ensures)
