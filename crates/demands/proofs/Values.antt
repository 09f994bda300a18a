-- The values along a match: eight of them, each 16 bits or none, and each variable that a query names has one afterwards.
use mathlib.Core.Path.{◌≡◌, refl, sym, ap, ◌∙◌, subst}
use mathlib.Core.Bool.{true, false, and-eq-true_iff}
use mathlib.Core.Logic.{◌⊎◌, inl, inr, ⊎_elim, ◌≢◌}
use mathlib.Core.List.{List, [], ◌∷◌, ◌++◌}
use Prim.Native.Nat.{ℕ, zero, suc, ◌+◌, ◌≤◌}
use native.Mathlib.Omega.{arith}
use lib.Dec.{leb, eqb}
use lib.ListN.{length, get_or, set, length-set, length-append}
use lib.Seq.{get_or-set_same, get_or-set_other}
use borrow.Author.Tests.{eqb-true, eqb-false, leb-true}
use Rattle.lists.specs.Lists.{In, first, later}
use Rattle.lists.proofs.Lists.{test, clash, in_nil, in_cons, in_one, in_append}
use Rattle.model.specs.declared.Row.{Row}
use Rattle.model.specs.Program.{variable?}
use Rattle.model.specs.Configuration.{Config, no_value, place, value_of}
use Rattle.model.specs.Matching.{Candidate, candidates, Found, negation}
use Rattle.search_laws.proofs.Shown.{in_shown}
use Rattle.model.specs.Meaning.{Meets, by_any, by_constant, by_taking, by_value, Fits, Solves}

abbrev pub Valued : List ℕ → ℕ → Type 0
Valued v x = value_of v x ≢ no_value

pub record Values (v : List ℕ) : Type 0 where
  pub long : length v ≡ 8
  pub fit : (n : ℕ) → In n v → n ≤ no_value

abbrev pub Grows : List ℕ → List ℕ → Type 0
Grows v w = (y : ℕ) → Valued v y → Valued w y

pub set_in : (v : List ℕ) (p n m : ℕ) → In m (set v p n) → (m ≡ n) ⊎ In m v
set_in [] p n m h = in_nil h
set_in (x ∷ v) zero n m h = ⊎_elim (λ e. inl e) (λ i. inr (later i)) (in_cons h)
set_in (x ∷ v) (suc p) n m h = ⊎_elim (λ e. inr (first e)) (λ i. ⊎_elim (λ e. inl e) (λ j. inr (later j)) (set_in v p n m i)) (in_cons h)

pub variable_bounds : (x : ℕ) → variable? x ≡ true → (1 ≤ x) × (x ≤ 8)
variable_bounds x e = let a = (and-eq-true_iff (leb 1 x) (leb x 8)).0 e in (leb-true 1 x a.0, leb-true x 8 a.1)

-- a value put in: what has one keeps one
pub set_grows : (v : List ℕ) (x n : ℕ) → length v ≡ 8 → 1 ≤ x → n ≤ 65535 → Grows v (set v (place x) n)
set_grows v x n l h b y k e = ⊎_elim
    (λ q. let g = get_or-set_same v (place x) n no_value (omega arith) in
    let p = eqb-true (place y) (place x) q in
    let z : n ≡ no_value = sym g ∙ ap (λ (i : ℕ). get_or (set v (place x) n) i no_value) (sym p) ∙ e in
    absurd (omega arith))
    (λ q. k (sym (get_or-set_other v (place x) (place y) n no_value (eqb-false (place y) (place x) q)) ∙ e))
    (test (eqb (place y) (place x)))

pub set_valued : (v : List ℕ) (x n : ℕ) → length v ≡ 8 → 1 ≤ x → n ≤ 65535 → Valued (set v (place x) n) x
set_valued v x n l h b e = let g = get_or-set_same v (place x) n no_value (omega arith) in let z : n ≡ no_value = sym g ∙ e in absurd (omega arith)

pub set_values : (v : List ℕ) (p n : ℕ) → n ≤ 65535 → Values v → Values (set v p n)
set_values v p n b w = record { long = length-set v p n ∙ w.long; fit = λ m i. ⊎_elim (λ e. omega arith) (λ j. w.fit m j) (set_in v p n m i) }

-- one column
module _ (x n : ℕ) (v w : List ℕ) (b : n ≤ 65535) (g : Values v) where
  pub meets_values : Meets x n v w → Values w
  meets_values (by_any p e) = subst Values (sym e) g
  meets_values (by_constant p q e) = subst Values (sym e) g
  meets_values (by_taking p q e) = subst Values (sym e) (set_values v (place x) n b g)
  meets_values (by_value p q r e) = subst Values (sym e) g

  pub meets_grows : Meets x n v w → Grows v w
  meets_grows (by_any p e) = subst (Grows v) (sym e) (λ y h. h)
  meets_grows (by_constant p q e) = subst (Grows v) (sym e) (λ y h. h)
  meets_grows (by_taking p q e) = subst (Grows v) (sym e) (set_grows v x n g.long (variable_bounds x p).0 b)
  meets_grows (by_value p q r e) = subst (Grows v) (sym e) (λ y h. h)

  pub meets_valued : variable? x ≡ true → Meets x n v w → Valued w x
  meets_valued o (by_any p e) = let h = variable_bounds x o in let k = eqb-true x 0 p in absurd (omega arith)
  meets_valued o (by_constant p q e) = let h = variable_bounds x o in let k = leb-true 9 x p in absurd (omega arith)
  meets_valued o (by_taking p q e) = subst (λ (u : List ℕ). Valued u x) (sym e) (set_valued v x n g.long (variable_bounds x p).0 b)
  meets_valued o (by_value p q r e) = subst (λ (u : List ℕ). Valued u x) (sym e) q

-- one row
abbrev pub Bounded : Candidate → Type 0
Bounded k = (k.i ≤ 65535) × (k.a ≤ 65535) × (k.b ≤ 65535)

abbrev pub Names : Row → ℕ → Type 0
Names r x = (x ≡ r.i) ⊎ ((x ≡ r.a) ⊎ (x ≡ r.b))

module _ (r : Row) (k : Candidate) (v w : List ℕ) (b : Bounded k) (g : Values v) (f : Fits r k v w) where
  after_i_values : Values f.after_i
  after_i_values = meets_values r.i k.i v f.after_i b.0 g f.meets_i

  after_a_values : Values f.after_a
  after_a_values = meets_values r.a k.a f.after_i f.after_a b.1 after_i_values f.meets_a

  grows_i : Grows v f.after_i
  grows_i = meets_grows r.i k.i v f.after_i b.0 g f.meets_i

  grows_a : Grows f.after_i f.after_a
  grows_a = meets_grows r.a k.a f.after_i f.after_a b.1 after_i_values f.meets_a

  grows_b : Grows f.after_a w
  grows_b = meets_grows r.b k.b f.after_a w b.2 after_a_values f.meets_b

  pub fits_values : Values w
  fits_values = meets_values r.b k.b f.after_a w b.2 after_a_values f.meets_b

  pub fits_grows : Grows v w
  fits_grows y h = grows_b y (grows_a y (grows_i y h))

  pub fits_valued : (x : ℕ) → variable? x ≡ true → Names r x → Valued w x
  fits_valued x o (inl e) = subst (Valued w) (sym e) (grows_b r.i (grows_a r.i (meets_valued r.i k.i v f.after_i b.0 g (subst (λ (y : ℕ). variable? y ≡ true) e o) f.meets_i)))
  fits_valued x o (inr (inl e)) = subst (Valued w) (sym e) (grows_b r.a (meets_valued r.a k.a f.after_i f.after_a b.1 after_i_values (subst (λ (y : ℕ). variable? y ≡ true) e o) f.meets_a))
  fits_valued x o (inr (inr e)) = subst (Valued w) (sym e) (meets_valued r.b k.b f.after_a w b.2 after_a_values (subst (λ (y : ℕ). variable? y ≡ true) e o) f.meets_b)

-- the rows of a rule
module _ (c : Config) where
  -- what holds of the values after rows whose candidates are bounded
  pub record Solved (rs : List Row) (f g : Found) : Type 0 where
    pub values : Values g.values
    pub grows : Grows f.values g.values
    pub valued : (x : ℕ) → variable? x ≡ true → (r : Row) → In r rs → negation r ≡ false → Names r x → Valued g.values x

  pub solves_values : (rs : List Row) (f : Found) (ks : List Candidate) (g : Found) → ((r : Row) → In r rs → (k : Candidate) → In k (candidates c r) → Bounded k) → Values f.values → Solves c rs f ks g → Solved rs f g
  solves_values [] f ks g b v s = record { values = subst (λ (h : Found). Values h.values) (sym s.1) v; grows = subst (λ (h : Found). Grows f.values h.values) (sym s.1) (λ y h. h); valued = λ x o r i. in_nil i }
  solves_values (r ∷ rs) f ks g b v (inl (e, n, s)) =
      let h = solves_values rs f ks g (λ q i. b q (later i)) v s in
      record { values = h.values; grows = h.grows; valued = λ x o q i m w. ⊎_elim (λ z. clash e (subst (λ (u : Row). negation u ≡ false) z m)) (λ z. h.valued x o q z m w) (in_cons i) }
  solves_values (r ∷ rs) f ks g b v (inr (e, (k, h, ls, p, t, s))) =
      let d : Bounded k = b r (first refl) k (in_shown c r k t.among) in
      let a = solves_values rs h ls g (λ q i. b q (later i)) (fits_values r k f.values h.values d v t.fits) s in
      record {
        values = a.values;
        grows = λ y m. a.grows y (fits_grows r k f.values h.values d v t.fits y m);
        valued = λ x o q i m w. ⊎_elim (λ z. a.grows x (fits_valued r k f.values h.values d v t.fits x o (subst (λ (u : Row). Names u x) z w))) (λ z. a.valued x o q z m w) (in_cons i);
      }

  -- rows in two parts
  pub solves_split : (rs ts : List Row) (f : Found) (ks : List Candidate) (g : Found) → Solves c (rs ++ ts) f ks g → (h : Found) × ((ls : List Candidate) × Solves c rs f ls h) × ((ms : List Candidate) × Solves c ts h ms g)
  solves_split [] ts f ks g s = (f, ([], (refl, refl)), (ks, s))
  solves_split (r ∷ rs) ts f ks g (inl (e, n, s)) = let a = solves_split rs ts f ks g s in (a.0, (a.1.0, inl (e, n, a.1.1)), a.2)
  solves_split (r ∷ rs) ts f ks g (inr (e, (k, h, ls, p, t, s))) = let a = solves_split rs ts h ls g s in (a.0, (k ∷ a.1.0, inr (e, (k, h, a.1.0, refl, t, a.1.1))), a.2)

  -- the ids that reasons match are their candidates', one for each; other rows match none
  pub reasons_match : (P : ℕ → Type 0) (rs : List Row) (f : Found) (ks : List Candidate) (g : Found) →
      ((r : Row) → In r rs → (r.part ≡ 1) × (negation r ≡ false) × ((k : Candidate) → In k (candidates c r) → P k.i)) → ((n : ℕ) → In n f.matched → P n) →
      Solves c rs f ks g → (length g.matched ≡ length f.matched + length rs) × ((n : ℕ) → In n g.matched → P n)
  reasons_match P [] f ks g h p s = (ap (λ (u : Found). length u.matched) s.1 ∙ omega arith, λ n i. p n (subst (λ (u : Found). In n u.matched) s.1 i))
  reasons_match P (r ∷ rs) f ks g h p (inl (e, n, s)) = clash e (h r (first refl)).1
  reasons_match P (r ∷ rs) f ks g h p (inr (e, (k, u, ls, q, t, s))) =
      let o = h r (first refl) in
      let m : u.matched ≡ f.matched ++ (k.i ∷ []) = ⊎_elim (λ d. d.1) (λ d. absurd (d.0 o.0)) t.notes in
      let a = reasons_match P rs u ls g (λ w i. h w (later i))
      (λ n i. ⊎_elim (p n) (λ j. subst P (sym (in_one j)) (o.2 k (in_shown c r k t.among))) (in_append f.matched (k.i ∷ []) (subst (In n) m i))) s in
      let l : length u.matched ≡ length f.matched + 1 = ap length m ∙ length-append f.matched (k.i ∷ []) in
      (omega (arith, a.0), a.1)

  pub context_matches : (rs : List Row) (f : Found) (ks : List Candidate) (g : Found) → ((r : Row) → In r rs → r.part ≢ 1) → Solves c rs f ks g → g.matched ≡ f.matched
  context_matches [] f ks g h s = ap (λ (u : Found). u.matched) s.1
  context_matches (r ∷ rs) f ks g h (inl (e, n, s)) = context_matches rs f ks g (λ w i. h w (later i)) s
  context_matches (r ∷ rs) f ks g h (inr (e, (k, u, ls, q, t, s))) =
      context_matches rs u ls g (λ w i. h w (later i)) s ∙ ⊎_elim (λ d. absurd (h r (first refl) d.0)) (λ d. d.1) t.notes
