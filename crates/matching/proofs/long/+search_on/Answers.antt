-- All answers of a row that leaves everything as it was are what was found before it, so the first match that counts is that of the rows behind it.
use Prim.Native.Nat.{ℕ, ◌+◌}
use native.Mathlib.Omega.{arith}
use mathlib.Core.Path.{◌≡◌, refl, sym, ap, ◌∙◌, subst}
use mathlib.Core.List.{List, [], ◌∷◌, ◌++◌}
use Rattle.lists.specs.Lists.{first_of, bind}
use Rattle.lists.proofs.Bind.{append-nil}
use Rattle.lists.proofs.Search.{Only, only_more, reached, pruned}
use Rattle.model.specs.declared.Row.{Row}
use Rattle.model.specs.Matching.{Found}
use Rattle.program.specs.Rows.{row_at}
use Rattle.queries.specs.View.{found_in}
use Rattle.queries.specs.Answers.{answers, given_ids}
use Rattle.queries.proofs.Answers.{only_answers}
use Rattle.matching.specs.Rules.{counted}
use Rattle.matching.proofs.Rows.{reasons_next, counted_next, given_one}
use Rattle.matching.proofs.long.+search_on.Goals as goal

only_first : {A : Type 0} (e v : A) (l r : List A) → Only e l → l ≡ v ∷ r → v ≡ e
only_first e v l r o n = at (subst (Only e) n o)
  where
    at : Only e (v ∷ r) → v ≡ e
    at (only_more p a) = p

-- where all elements are one, the first of what they lead to is the first of what that leads to
first_alike : {A B : Type 0} {t : List B} (e : A) (l : List A) (M : A → List B) → t ≡ first_of (bind l M ++ []) → Only e l → (v : A) (r : List A) → l ≡ v ∷ r →
    (a : List B) → a ≡ first_of (M v) → a ≡ t
first_alike e l M is o v r n [] s = sym (pruned e l M [] is o v r n [] s refl)
first_alike e l M is o v r n (x ∷ a) s = reached l M [] is v r n (x ∷ a) s refl

pub search_on-requires : goal.search_on-requires
search_on-requires t c =
    let a = c.args in
    let p = c.requires in
    let more = c.if-rule-k.false in
    let n = reasons_next a.program.now a.k a.rule.body p.2 c.row_at-r.result c.row_at-r.ensures in
    let q = p.3 in
    (omega arith, (p.0, p.1, omega arith, omega arith))

pub returns-clause-is : goal.returns-clause-is
returns-clause-is t c =
    let a = c.args in
    let r = c.row_at-r.result in
    let f : Found = found_in a.values.now [] 0 in
    let M : Found → List Found = counted a.program.now a.words.now a.s a.rule (a.k + 1) in
    let L : Row → ℕ → List Found = λ r n. bind (answers a.words.now a.s r f n) M in
    let v : Found = found_in c.next_answer.new.values c.next_answer.new.matched (0 + given_ids r) in
    let rest = answers a.words.now a.s r f c.in_ok-next_answer.field-0 in
    let begins : first_of (L (row_at a.program.now a.k) a.from) ≡ first_of (L r 0 ++ []) =
    ap (λ (n : ℕ). first_of (L (row_at a.program.now a.k) n)) c.if-from-ne0.false
    ∙ ap (λ (r : Row). first_of (L r 0)) (sym c.row_at-r.ensures) ∙ ap {B = List Found} first_of (sym (append-nil (L r 0))) in
    let one : answers a.words.now a.s r f 0 ≡ v ∷ rest = given_one a.words.now a.s r a.values.now [] a.matched.now _ _ 0 0 _ refl _ c.in_ok-next_answer.ensures.is _ refl in
    let only = only_answers a.words.now a.s r f (sym c.closes.ensures ∙ c.if-not-closes.false) in
    let more = c.if-rule-k.false in
    let next = counted_next a.program.now a.words.now a.s a.rule (a.k + 1) f (omega (arith, more)) (row_at a.program.now (a.k + 1)) refl in
    let same : M v ≡ _ = ap M (only_first f v (answers a.words.now a.s r f 0) rest only one) ∙ next in
    let e = c.search_on.ensures in
    record { is = first_alike f _ M begins only v rest one _ (e.is.is ∙ ap first_of (sym same)); few = e.is.few }
