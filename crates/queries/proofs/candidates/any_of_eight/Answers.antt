use Prim.Native.Nat.{ℕ}
use Rattle.queries.specs.View.{stands_at}
use Rattle.lists.proofs.Eights.{eight_false}
use Rattle.queries.proofs.candidates.any_of_eight.Goals as goal

pub returns : goal.returns
returns c =
    let a = c.args in
    eight_false (λ (k : ℕ). stands_at a.words.now a.p a.y a.v a.z a.w k) a.c _ _ _ _ _ _ _ _
    c.stands.ensures
    c.stands-2.ensures
    c.stands-3.ensures
    c.stands-4.ensures
    c.stands-5.ensures
    c.stands-6.ensures
    c.stands-7.ensures
    c.stands-8.ensures
