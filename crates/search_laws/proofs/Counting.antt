-- The test for an equal plan says what the paper says of one.
use Rattle.std.specs.Prelude.{if◌then◌else◌}
use mathlib.Core.Path.{◌≡◌, refl, sym, ◌∙◌, subst}
use mathlib.Core.Bool.{Bool, true, false, ◌||◌, not, and-eq-true_iff}
use mathlib.Core.Logic.{◌⊎◌, inl, inr, ⊎_elim, ◌↔◌}
use mathlib.Core.List.{List, [], ◌∷◌}
use Prim.Native.Nat.{ℕ, ◌<◌}
use native.Mathlib.Omega.{arith}
use lib.Dec.{eqb}
use borrow.Author.Tests.{eqb-true, eq-eqb, not-true}
use Rattle.lists.specs.Lists.{In, first, later, Pairs, rising_set, same, some}
use Rattle.lists.proofs.Lists.{clash, in_nil, in_cons, in_one, in_map, or_cases}
use Rattle.lists.proofs.Tests.{and2, same_equal, same_self}
use Rattle.lists.proofs.Some.{some_in, in_some}
use Rattle.lists.proofs.RisingSet.{rising_set_rises, rising_set_in, in_rising_set}
use Rattle.model.specs.declared.Row.{Row}
use Rattle.model.specs.Program.{variable?, body, is_object}
use Rattle.model.specs.Configuration.{Plan, Config, no_value, value_of}
use Rattle.model.specs.Graph.{Sound}
use Rattle.model.specs.Deletion.{node, graph}
use Rattle.model.specs.Matching.{Found, justifications_of, body_value, body_values, equal_plan, counts}
use Rattle.model.specs.Meaning.{SamePlan, Counts}

-- rising lists with the same members are equal
abbrev Rising : List ℕ → Type 0
Rising l = Pairs (λ (x y : ℕ). x < y) l

rising_once : (l m : List ℕ) → Rising l → Rising m → ((x : ℕ) → In x l ↔ In x m) → l ≡ m
rising_once [] [] r t h = refl
rising_once [] (y ∷ m) r t h = in_nil ((h y).1 (first refl))
rising_once (x ∷ l) [] r t h = in_nil ((h x).0 (first refl))
rising_once (x ∷ l) (y ∷ m) r t h =
    let e : x ≡ y = heads (in_cons ((h x).0 (first refl))) (in_cons ((h y).1 (first refl))) in
    let k = rising_once l m r.1 t.1 (λ z. (
      λ i. ⊎_elim (λ q. let a = r.0 z i in absurd (omega arith)) (λ q. q) (in_cons ((h z).0 (later i))),
      λ i. ⊎_elim (λ q. let a = t.0 z i in absurd (omega arith)) (λ q. q) (in_cons ((h z).1 (later i))),
    )) in
    λ i. e i ∷ k i
  where
    heads : (x ≡ y) ⊎ In x m → (y ≡ x) ⊎ In y l → x ≡ y
    heads (inl e) d = e
    heads (inr i) (inl e) = sym e
    heads (inr i) (inr j) = let a = t.0 x i in let b = r.0 y j in absurd (omega arith)

-- the values of the variables in a body, row by row
abbrev Agree : List ℕ → List ℕ → Row → Type 0
Agree v w r = (x : ℕ) → In x (r.i ∷ r.a ∷ r.b ∷ []) → variable? x ≡ true → value_of v x ≡ value_of w x

value_is : (v : List ℕ) (x : ℕ) → variable? x ≡ true → body_value v x ≡ value_of v x
unfolding body_value
value_is v x e = rw e

no_variable : (v w : List ℕ) (x : ℕ) → (variable? x ≡ true → value_of v x ≡ value_of w x) → body_value v x ≡ body_value w x
unfolding body_value
no_variable v w x h = at (variable? x) refl
  where
    at : (b : Bool) → variable? x ≡ b → (if b then value_of v x else no_value) ≡ (if b then value_of w x else no_value)
    at true e = h e
    at false e = refl

module _ (v w : List ℕ) where
  bodies_agree : (rs : List Row) → same (body_values rs v) (body_values rs w) ≡ true → (r : Row) → In r rs → Agree v w r
  unfolding same body_values
  bodies_agree [] e r h = in_nil h
  bodies_agree (q ∷ rs) e r h =
      let a = (and-eq-true_iff (eqb (body_value v q.i) (body_value w q.i)) _).0 e in
      let b = (and-eq-true_iff (eqb (body_value v q.a) (body_value w q.a)) _).0 a.1 in
      let d = (and-eq-true_iff (eqb (body_value v q.b) (body_value w q.b)) _).0 b.1 in
      ⊎_elim (λ z. subst (Agree v w) (sym z) (three (eqb-true _ _ a.0) (eqb-true _ _ b.0) (eqb-true _ _ d.0))) (λ z. bodies_agree rs d.1 r z) (in_cons h)
    where
      value : (x : ℕ) → body_value v x ≡ body_value w x → variable? x ≡ true → value_of v x ≡ value_of w x
      value x e u = sym (value_is v x u) ∙ e ∙ value_is w x u

      three : body_value v q.i ≡ body_value w q.i → body_value v q.a ≡ body_value w q.a → body_value v q.b ≡ body_value w q.b → Agree v w q
      three e f g x h u = ⊎_elim (λ z. at q.i e z) (λ y. ⊎_elim (λ z. at q.a f z) (λ z. at q.b g (in_one z)) (in_cons y)) (in_cons h)
        where
          at : (y : ℕ) → body_value v y ≡ body_value w y → x ≡ y → value_of v x ≡ value_of w x
          at y d z = subst (λ (k : ℕ). value_of v k ≡ value_of w k) (sym z) (value y d (subst (λ (k : ℕ). variable? k ≡ true) z u))

  agree_bodies : (rs : List Row) → ((r : Row) → In r rs → Agree v w r) → same (body_values rs v) (body_values rs w) ≡ true
  unfolding same body_values
  agree_bodies [] h = refl
  agree_bodies (q ∷ rs) h =
      let a = h q (first refl) in
      and2 (equal q.i (a q.i (first refl))) (and2 (equal q.a (a q.a (later (first refl)))) (and2 (equal q.b (a q.b (later (later (first refl))))) (agree_bodies rs (λ r i. h r (later i)))))
    where
      equal : (x : ℕ) → (variable? x ≡ true → value_of v x ≡ value_of w x) → eqb (body_value v x) (body_value w x) ≡ true
      equal x k = eq-eqb (body_value v x) (body_value w x) (no_variable v w x k)

module _ (program : List Row) (c : Config) (s n : ℕ) (g : Found) where
  test_same : (q : Plan) → equal_plan program s n g q ≡ true → SamePlan program s n g q
  unfolding equal_plan justifications_of
  test_same q e =
      let a = (and-eq-true_iff (eqb q.set s) _).0 e in
      let b = (and-eq-true_iff (eqb q.rule n) _).0 a.1 in
      let d = (and-eq-true_iff (same q.justifications (rising_set g.matched)) _).0 b.1 in
      let js = same_equal q.justifications (rising_set g.matched) d.0 in
      record {
        same_set = eqb-true q.set s a.0;
        same_rule = eqb-true q.rule n b.0;
        same_justifications = λ j. (λ i. rising_set_in g.matched j (subst (In j) js i), λ i. subst (In j) (sym js) (in_rising_set g.matched j i));
        same_values = bodies_agree q.values g.values (body program s n) d.1;
      }

  same_test : Sound (graph c) → (q : Plan) → In q c.plans → SamePlan program s n g q → equal_plan program s n g q ≡ true
  unfolding equal_plan justifications_of
  same_test z q i e =
      let js = rising_once q.justifications (rising_set g.matched) (z.just_fine (node q) (in_map node i)).2 (rising_set_rises g.matched) (λ j. (
        λ h. in_rising_set g.matched j ((e.same_justifications j).0 h),
        λ h. (e.same_justifications j).1 (rising_set_in g.matched j h),
      )) in
      and2 (eq-eqb q.set s e.same_set) (and2 (eq-eqb q.rule n e.same_rule)
      (and2 (subst (λ (l : List ℕ). same l (rising_set g.matched) ≡ true) (sym js) (same_self (rising_set g.matched))) (agree_bodies q.values g.values (body program s n) e.same_values)))

  -- a match that counts by the test counts by the paper, and the other way round
  pub counted : Sound (graph c) → counts program c s n g ≡ true → Counts program c s n g
  unfolding counts
  counted z e o q i d = ⊎_elim
      (λ h. clash o (not-true _ h))
      (λ h. clash (in_some (equal_plan program s n g) i (same_test z q i d)) (not-true _ h))
      (or_cases (not (is_object program s n)) (not (some (equal_plan program s n g) c.plans)) e)

  pub counts_so : Counts program c s n g → counts program c s n g ≡ true
  unfolding counts
  counts_so h = at (is_object program s n) (some (equal_plan program s n g) c.plans) refl refl
    where
      at : (a b : Bool) → is_object program s n ≡ a → some (equal_plan program s n g) c.plans ≡ b → (not a || not b) ≡ true
      at false b o e = refl
      at true false o e = refl
      at true true o e = let k = some_in (equal_plan program s n g) c.plans e in absurd (h o k.0 k.1 (test_same k.0 k.2))
