-- A later row all of whose operands have values answers now as it will when its turn comes: the rows before it only give values to variables
-- that have none. So where it has no answer now, no match counts, and that hangs on its operands alone.
use mathlib.Core.Path.{◌≡◌, refl, sym, ap, ◌∙◌, subst}
use mathlib.Core.Bool.{true}
use mathlib.Core.Logic.{◌⊎◌, inl, inr, ◌≢◌}
use mathlib.Core.List.{List, []}
use Prim.Native.Nat.{ℕ, zero, suc, ◌+◌, ◌-◌, ◌≤◌, ◌<◌}
use native.Mathlib.Omega.{arith}
use Rattle.lists.specs.Lists.{bind, is_empty}
use Rattle.lists.proofs.Lists.{clash}
use Rattle.model.specs.declared.Row.{Row}
use Rattle.model.specs.Configuration.{no_value, value_of}
use Rattle.model.specs.Matching.{Found, after_row}
use Rattle.program.specs.Rows.{row_at}
use Rattle.state.specs.declared.Scalars.{Scalars}
use Rattle.state.specs.View.{config_of}
use Rattle.search_laws.specs.Agree.{Agree, Alike}
use Rattle.search_laws.proofs.Alike.{Both, both_none, both_more, row_alike}
use Rattle.queries.specs.Answers.{settled, answers}
use Rattle.queries.proofs.Answers.{answers_all}
use Rattle.matching.specs.declared.Rule.{Rule}
use Rattle.matching.specs.Rules.{counted}
use Rattle.matching.specs.Sets.{Member, OfRow, Barren, Settled}
use Rattle.matching.proofs.Bits.{settled_valued}
use Rattle.matching.proofs.Rows.{counted_next}
use Rattle.matching.proofs.Failing.{each_nil, answers_idle}

both_nothing : {A : Type 0} {R : A → A → Type 0} {l m : List A} → Both R l m → l ≡ [] → m ≡ []
both_nothing both_none e = refl
both_nothing (both_more h b) e = clash refl (sym (ap is_empty e))

module _ (program words : List ℕ) (s : Scalars) (rule : Rule) (j : ℕ) (low : j < rule.body) (r : Row) (is : r ≡ row_at program j)
    (f : Found) (z : Settled r f.values) (none : answers words s r f 0 ≡ []) where
  -- the row's operands
  abbrev X : ℕ → Type 0
  X x = (x ≡ r.i) ⊎ ((x ≡ r.a) ⊎ (x ≡ r.b))

  valued : (g : Found) → Agree X f.values g.values → (x : ℕ) → X x → 1 ≤ x → x ≤ 8 → value_of g.values x ≢ no_value
  valued g a x i h l e = settled_valued f.values x (has i) h l (a.agrees x i h l ∙ e)
    where
      has : X x → settled f.values x ≡ true
      has (inl p) = ap (settled f.values) p ∙ z.at_i
      has (inr (inl p)) = ap (settled f.values) p ∙ z.at_a
      has (inr (inr p)) = ap (settled f.values) p ∙ z.at_b

  -- it has no answer either under values that agree on its operands
  still_none : (g : Found) → Agree X f.values g.values → answers words s r g 0 ≡ []
  still_none g a =
      let M : List ℕ → List ℕ → Type 0 = λ a b. Unit {0} in
      let C = config_of words s in
      let b : Both (Alike X M) (answers words s r f 0) (answers words s r g 0) = subst (λ (l : List Found). Both (Alike X M) l (answers words s r g 0)) (answers_all words s r f)
      (subst (λ (l : List Found). Both (Alike X M) (after_row C r f) l) (answers_all words s r g) (row_alike X M (λ x y n m. tt) C r f g (inl refl, inr (inl refl), inr (inr refl)) (a, tt))) in
      both_nothing b none

  agree_on : (g h : Found) → Agree X f.values g.values → Agree X g.values h.values → Agree X f.values h.values
  agree_on g h a b = record { long_left = a.long_left; long_right = b.long_right; agrees = λ x i p q. a.agrees x i p q ∙ b.agrees x i p q }

  -- so the rows from k on fail, n of them before it
  fails_from : (n k : ℕ) → k + n ≡ j → (g : Found) → Agree X f.values g.values → counted program words s rule k g ≡ []
  fails_from zero k e g a =
      let p : j ≡ k = omega arith in
      counted_next program words s rule k g (omega arith) r (is ∙ ap (row_at program) p) ∙ ap (λ (l : List Found). bind l (counted program words s rule (k + 1))) (still_none g a)
  fails_from (suc n) k e g a =
      let q = row_at program k in
      counted_next program words s rule k g (omega arith) q refl
      ∙ each_nil (counted program words s rule (k + 1)) (λ h b. fails_from n (k + 1) (omega arith) h (agree_on g h a b.0)) (answers words s q g 0)
      (answers_idle X ⊥ words s q g a.long_right (valued g a q.i) (valued g a q.a) (valued g a q.b) (λ i. absurd i) 0)

  pub barren_ahead : (k set : ℕ) → k ≤ j → OfRow r set → Barren program words s rule k f set
  barren_ahead k set h o = record {
    small = o.small;
    none = λ g e. from g (record {
      long_left = e.0.long_left;
      long_right = e.0.long_right;
      agrees = λ x i p q. e.0.agrees x (member x i) p q;
    });
  }
    where
      member : (x : ℕ) → X x → Member set x
      member x (inl p) = subst (Member set) (sym p) o.at_i
      member x (inr (inl p)) = subst (Member set) (sym p) o.at_a
      member x (inr (inr p)) = subst (Member set) (sym p) o.at_b

      from : (g : Found) → Agree X f.values g.values → counted program words s rule k g ≡ []
      from g a = fails_from (j - k) k (omega arith) g a
