-- A negation has one answer at most, numbered 0.
use mathlib.Core.Path.{◌≡◌, ap, ◌∙◌}
use mathlib.Core.List.{List, ◌∷◌}
use Prim.Native.Nat.{ℕ, ◌%◌}
use native.Mathlib.Omega.{arith}
use Rattle.model.specs.Matching.{Found}
use Rattle.queries.specs.View.{found_in}
use Rattle.queries.specs.Answers.{answers}
use Rattle.queries.proofs.Answers.{query_next, none_is, one_wide, found_still, negation_later, negation_holds, negation_fails}
use Rattle.queries.proofs.next_answer.Goals as goal

pub returns-then-r-eq1-clause-is : goal.returns-then-r-eq1-clause-is
returns-then-r-eq1-clause-is c = query_next _ c.if-r-eq1.true _ _ _ _ _ _ _ _ c.next_fit.ensures.is

pub returns-then-c-gt0-clause-is : goal.returns-then-c-gt0-clause-is
returns-then-c-gt0-clause-is c =
    let z : c.args.r.op % 2 ≡ 0 = let h = c.if-r-eq1.false in omega (arith, h) in
    let h = c.if-c-gt0.true in
    record { is = negation_later _ _ _ _ z _ (λ q. omega (arith, q)); further = tt }

pub returns-then-is_none-clause-is : goal.returns-then-is_none-clause-is
returns-then-is_none-clause-is c =
    let a = c.args in
    let z : a.r.op % 2 ≡ 0 = let h = c.if-r-eq1.false in omega (arith, h) in
    let f : Found = found_in a.before a.matched.now a.count in
    let e = c.next_fit-2.ensures in
    let first : a.c ≡ 0 = let h = c.if-c-gt0.false in omega arith in
    let w = one_wide a.r z a.s in
    record {
      is = ap (λ (n : ℕ). answers a.words.now a.s a.r f n) first ∙ negation_holds _ _ _ _ z _ _ e.is.is c.if-is_none.ensures
          ∙ ap {B = List Found} (λ (g : Found). g ∷ answers a.words.now a.s a.r f 1) (found_still a.r z _ _ _ _ _ (e.back (none_is _ c.if-is_none.ensures)) e.kept);
      further = (omega arith, omega arith);
    }

pub returns-clause-is : goal.returns-clause-is
returns-clause-is c =
    let a = c.args in
    let z : a.r.op % 2 ≡ 0 = let h = c.if-r-eq1.false in omega (arith, h) in
    let f : Found = found_in a.before a.matched.now a.count in
    let e = c.next_fit-2.ensures in
    let first : a.c ≡ 0 = let h = c.if-c-gt0.false in omega arith in
    record { is = ap (λ (n : ℕ). answers a.words.now a.s a.r f n) first ∙ negation_fails _ _ _ _ z _ _ e.is.is c.if-is_none.ensures; further = tt }
