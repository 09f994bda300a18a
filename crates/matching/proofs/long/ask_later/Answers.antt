-- A settled row that has no answer now has none when its turn comes.
use native.Mathlib.Omega.{arith}
use Prim.Native.Nat.{ℕ}
use mathlib.Core.Path.{◌≡◌, subst}
use mathlib.Core.List.{List, []}
use Rattle.model.specs.Matching.{Found}
use Rattle.queries.specs.View.{found_in}
use Rattle.queries.specs.Answers.{answers}
use Rattle.queries.proofs.Answers.{none_is}
use Rattle.matching.proofs.Ahead.{barren_ahead}
use Rattle.matching.proofs.long.ask_later.Goals as goal

pub returns-then-is_none-clause-is : goal.returns-then-is_none-clause-is
returns-then-is_none-clause-is c =
    let a = c.args in
    let i = c.loop-left.invariant in
    let r = c.row_at-r.result in
    let v = a.values.now in
    let f : Found = found_in v a.matched.now a.count in
    let e = c.next_answer.ensures.is.is in
    let none : answers a.words.now a.s r f 0 ≡ [] =
    subst (λ (m : List ℕ). answers a.words.now a.s r (record { values = v; matched = m }) 0 ≡ []) i.1 (rw (none_is _ c.if-is_none.ensures) at e) in
    let near = c.if-body-k.false in
    let far = c.if-j-eq0.false in
    barren_ahead a.program.now a.words.now a.s a.rule _ (omega arith) r c.row_at-r.ensures f (c.is_settled.ensures c.if-is_settled.true) none a.k c.operands.result (omega arith) c.operands.ensures
