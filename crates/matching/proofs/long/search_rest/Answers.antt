-- One answer of the first row after the other; one that fails of nothing that the row changes is the last.
use native.Mathlib.Omega.{arith}
use Prim.Native.Nat.{◌+◌}
use mathlib.Core.Path.{◌≡◌, refl, sym, ap, ◌∙◌}
use mathlib.Core.List.{List, [], ◌++◌}
use borrow.Author.Rules.{rules}
use Rattle.lists.specs.Lists.{first_of, bind}
use Rattle.lists.proofs.Bind.{append-nil}
use Rattle.model.specs.declared.Row.{Row}
use Rattle.model.specs.Matching.{Found}
use Rattle.queries.specs.View.{found_in}
use Rattle.queries.specs.Answers.{answers, given_ids}
use Rattle.queries.proofs.Answers.{ids_few}
use Rattle.matching.specs.Rules.{counted}
use Rattle.matching.proofs.Rows.{reasons_next, given_one}
use Rattle.matching.proofs.Bits.{apart_of}
use Rattle.matching.proofs.Failing.{rest_apart}
use Rattle.matching.proofs.Remembering.{remembered_empty}
use Rattle.matching.proofs.long.search_rest.Goals as goal

pub loop-next-init : goal.loop-next-init
loop-next-init c =
    let a = c.args in
    let M : Found → List Found = counted a.program.now a.words.now a.s a.rule (a.k + 1) in
    let L : Row → List Found = λ r. bind (answers a.words.now a.s r (found_in a.values.now [] 0) a.from) M in (
      refl,
      ap (λ (r : Row). first_of (L r)) (sym c.row_at-r.ensures) ∙ ap {B = List Found} first_of (sym (append-nil (L c.row_at-r.result))),
      remembered_empty a.program.now a.words.now a.s a.rule,
    )

pub search_long-requires : goal.search_long-requires
search_long-requires c =
    let a = c.args in
    let p = c.requires in
    let n = reasons_next a.program.now a.k a.rule.body p.2 c.row_at-r.result c.row_at-r.ensures in
    let q = p.3 in
    let k = ids_few c.row_at-r.result in
    let e = c.given_ids-n.ensures in
    (p.0, p.1, omega arith, c.of_body-body.ensures, c.loop-next.invariant.2, c.of_atoms-filter.ensures)

pub returns-then-are_apart-clause-is : goal.returns-then-are_apart-clause-is
returns-then-are_apart-clause-is c =
    let a = c.args in
    let r = c.row_at-r.result in
    let m = c.in-Err.set in
    let n : c.given_ids-n.result ≡ 0 + given_ids r = omega (arith, c.given_ids-n.ensures) in
    let one = given_one a.words.now a.s r a.values.now [] c.loop-next.matched _ _ 0 c.loop-next.c _ refl _ c.in-Some.ensures.is c.given_ids-n.result n in
    let none = rest_apart a.program.now a.words.now a.s a.rule a.k r (found_in a.values.now [] 0) (search rules) c.loop-next.c _ _ m one
    (apart_of m c.changed-gives.result r a.values.now c.changed-gives.ensures (c.are_apart.ensures c.if-are_apart.true)) c.in-Err.ensures.is in
    record { is = sym (c.loop-next.invariant.1 ∙ ap (λ (k : List Found). first_of (k ++ [])) none); few = tt }
