-- One row: what the search tries of it is what the relation says.
use Rattle.std.specs.Prelude.{if◌then◌else◌}
use mathlib.Core.Path.{◌≡◌, refl, sym, ◌∙◌, subst}
use mathlib.Core.Bool.{Bool, true, false, and-eq-true_iff}
use mathlib.Core.Logic.{inl, inr, ⊎_elim}
use mathlib.Core.List.{List, [], ◌∷◌, ◌++◌}
use Prim.Native.Nat.{ℕ, ◌<◌}
use native.Mathlib.Omega.{arith}
use lib.Dec.{eqb, leb}
use lib.ListN.{set}
use borrow.Author.Tests.{eqb-true, eqb-false, eq-eqb, ne_eqb, leb-true, leb-false, le-leb}
use Rattle.lists.specs.Lists.{In, first, when, bind, is_empty}
use Rattle.lists.proofs.Lists.{test, clash, in_nil, in_one, in_map, map_in, in_cast}
use Rattle.lists.proofs.Bind.{append-nil, bind_in, in_bind}
use Rattle.model.specs.declared.Row.{Row}
use Rattle.model.specs.Program.{any?, variable?, constant?, constant}
use Rattle.model.specs.Configuration.{Config, no_value, place, value_of}
use Rattle.model.specs.Matching.{Candidate, candidates, meet, fit, Found, found, query_row}
use Rattle.model.specs.Meaning.{Meets, by_any, by_constant, by_taking, by_value, Fits, NoneFits, Notes, Takes}
use Rattle.search_laws.proofs.Shown.{shown, in_shown}

-- a test that is false, as the other operand's kinds
not_kinds : (x : ℕ) → any? x ≡ false → constant? x ≡ false → variable? x ≡ true
not_kinds x p q = let a = eqb-false x 0 p in let b = leb-false 9 x q in (and-eq-true_iff (leb 1 x) (leb x 8)).1 (le-leb 1 x (omega arith), le-leb x 8 (omega arith))

variable_not_any : (x : ℕ) → variable? x ≡ true → any? x ≡ false
variable_not_any x e = let h = leb-true 1 x ((and-eq-true_iff (leb 1 x) (leb x 8)).0 e).0 in ne_eqb x 0 (omega arith)

variable_not_constant : (x : ℕ) → variable? x ≡ true → constant? x ≡ false
variable_not_constant x e = let h = leb-true x 8 ((and-eq-true_iff (leb 1 x) (leb x 8)).0 e).1 in lt_not x (omega arith)
  where
    lt_not : (x : ℕ) → x < 9 → leb 9 x ≡ false
    lt_not x h = ⊎_elim (λ e. let g = leb-true 9 x e in absurd (omega arith)) (λ e. e) (test (leb 9 x))

constant_not_any : (x : ℕ) → constant? x ≡ true → any? x ≡ false
constant_not_any x e = let h = leb-true 9 x e in ne_eqb x 0 (omega arith)

module _ (x n : ℕ) (v : List ℕ) where
  when_in : {A : Type 0} (b : Bool) {w y : A} → In w (when b y) → (b ≡ true) × (w ≡ y)
  when_in true h = (refl, in_one h)
  when_in false h = in_nil h

  in_when : {A : Type 0} (b : Bool) {w y : A} → b ≡ true → w ≡ y → In w (when b y)
  in_when true e p = first p
  in_when false e p = clash e refl

  pub meets_in : (w : List ℕ) → In w (meet x n v) → Meets x n v w
  unfolding meet
  meets_in w h = at (any? x) (constant? x) (eqb (value_of v x) no_value) refl refl refl h
    where
      at : (a b d : Bool) → any? x ≡ a → constant? x ≡ b → eqb (value_of v x) no_value ≡ d →
          In w (if a then v ∷ [] else if b then when (eqb (constant x) n) v else if d then set v (place x) n ∷ [] else when (eqb (value_of v x) n) v) → Meets x n v w
      at true b d p q e i = by_any p (in_one i)
      at false true d p q e i = let r = when_in (eqb (constant x) n) i in by_constant q (eqb-true (constant x) n r.0) r.1
      at false false true p q e i = by_taking (not_kinds x p q) (eqb-true (value_of v x) no_value e) (in_one i)
      at false false false p q e i = let r = when_in (eqb (value_of v x) n) i in by_value (not_kinds x p q) (eqb-false (value_of v x) no_value e) (eqb-true (value_of v x) n r.0) r.1

  pub in_meets : (w : List ℕ) → Meets x n v w → In w (meet x n v)
  unfolding meet
  in_meets w (by_any p e) = rw p (first e)
  in_meets w (by_constant p q e) = rw (constant_not_any x p, p) (in_when (eqb (constant x) n) (eq-eqb (constant x) n q) e)
  in_meets w (by_taking p q e) = rw (variable_not_any x p, variable_not_constant x p, eq-eqb (value_of v x) no_value q) (first e)
  in_meets w (by_value p q r e) = rw (variable_not_any x p, variable_not_constant x p, ne_eqb (value_of v x) no_value q) (in_when (eqb (value_of v x) n) (eq-eqb (value_of v x) n r) e)

-- a candidate fits in one way at most
pub meets_one : (x n : ℕ) (v w u : List ℕ) → Meets x n v w → Meets x n v u → w ≡ u
meets_one x n v w u (by_any p e) (by_any q f) = e ∙ sym f
meets_one x n v w u (by_any p e) (by_constant q r f) = e ∙ sym f
meets_one x n v w u (by_any p e) (by_taking q r f) = clash p (variable_not_any x q)
meets_one x n v w u (by_any p e) (by_value q r s f) = e ∙ sym f
meets_one x n v w u (by_constant p s e) (by_any q f) = e ∙ sym f
meets_one x n v w u (by_constant p s e) (by_constant q r f) = e ∙ sym f
meets_one x n v w u (by_constant p s e) (by_taking q r f) = clash p (variable_not_constant x q)
meets_one x n v w u (by_constant p s e) (by_value q r t f) = e ∙ sym f
meets_one x n v w u (by_taking p s e) (by_any q f) = clash q (variable_not_any x p)
meets_one x n v w u (by_taking p s e) (by_constant q r f) = clash q (variable_not_constant x p)
meets_one x n v w u (by_taking p s e) (by_taking q r f) = e ∙ sym f
meets_one x n v w u (by_taking p s e) (by_value q r t f) = absurd (r s)
meets_one x n v w u (by_value p s t e) (by_any q f) = e ∙ sym f
meets_one x n v w u (by_value p s t e) (by_constant q r f) = e ∙ sym f
meets_one x n v w u (by_value p s t e) (by_taking q r f) = absurd (s r)
meets_one x n v w u (by_value p s t e) (by_value q r h f) = e ∙ sym f

module _ (r : Row) (k : Candidate) (v : List ℕ) where
  pub fits_in : (w : List ℕ) → In w (fit r k v) → Fits r k v w
  unfolding fit
  fits_in w h =
      let x = bind_in _ (meet r.i k.i v) h in
      let y = bind_in _ (meet r.a k.a x.0) x.2 in
      record {
        after_i = x.0;
        after_a = y.0;
        meets_i = meets_in r.i k.i v x.0 x.1;
        meets_a = meets_in r.a k.a x.0 y.0 y.1;
        meets_b = meets_in r.b k.b y.0 w y.2;
      }

  pub in_fits : (w : List ℕ) → Fits r k v w → In w (fit r k v)
  unfolding fit
  in_fits w f = in_bind _ (in_meets r.i k.i v f.after_i f.meets_i) (in_bind _ (in_meets r.a k.a f.after_i f.after_a f.meets_a) (in_meets r.b k.b f.after_a w f.meets_b))

module _ (c : Config) (r : Row) (f : Found) where
  -- a reason notes its id, and no other row notes one
  noted : (k : Candidate) (w : List ℕ) → Notes r k.i f.matched (found r k f w).matched
  unfolding found
  noted k w = at (eqb r.part 1) refl
    where
      at : (b : Bool) → eqb r.part 1 ≡ b → Notes r k.i f.matched (if b then f.matched ++ (k.i ∷ []) else f.matched)
      at true e = inl (eqb-true r.part 1 e, refl)
      at false e = inr (eqb-false r.part 1 e, refl)

  pub is_found : (k : Candidate) (g : Found) → Notes r k.i f.matched g.matched → g ≡ found r k f g.values
  unfolding found
  is_found k g (inl (e, m)) = rw (eq-eqb r.part 1 e) (λ i. record { values = g.values; matched = m i })
  is_found k g (inr (e, m)) = rw (ne_eqb r.part 1 e) (λ i. record { values = g.values; matched = m i })

  pub takes : (k : Candidate) → In k (candidates c r) → (w : List ℕ) → Fits r k f.values w → Takes c r k f (found r k f w)
  unfolding found
  takes k i w h = record { among = shown c r k i; fits = h; notes = noted k w }

  pub takes_in : (g : Found) → In g (query_row c r f) → (k : Candidate) × Takes c r k f g
  unfolding query_row
  takes_in g h =
      let x = bind_in _ (candidates c r) h in
      let y = map_in (found r x.0 f) (fit r x.0 f.values) x.2 in
      (x.0, subst (Takes c r x.0 f) (sym y.2) (takes x.0 x.1 y.0 (fits_in r x.0 f.values y.0 y.1)))

  pub in_takes : (k : Candidate) (g : Found) → Takes c r k f g → In g (query_row c r f)
  unfolding query_row
  in_takes k g t = in_bind _ (in_shown c r k t.among) (in_cast (is_found k g t.notes) (in_map (found r k f) (in_fits r k f.values g.values t.fits)))

  -- the query has no answer exactly where no candidate fits
  pub none_empty : NoneFits c r f.values → is_empty (query_row c r f) ≡ true
  none_empty n = empty_when (query_row c r f) (λ g h. let t = takes_in g h in n t.0 t.1.among g.values t.1.fits)
    where
      empty_when : (l : List Found) → ((g : Found) → In g l → ⊥) → is_empty l ≡ true
      empty_when [] h = refl
      empty_when (g ∷ l) h = absurd (h g (first refl))

  pub empty_none : is_empty (query_row c r f) ≡ true → NoneFits c r f.values
  empty_none e k i w h = no (query_row c r f) e (in_takes k (found r k f w) (takes k (in_shown c r k i) w h))
    where
      no : {g : Found} (l : List Found) → is_empty l ≡ true → In g l → ⊥
      no [] e i = in_nil i
      no (g ∷ l) e i = clash e refl

-- a list of one element at most
pub data Short {A : Type 0} (l : List A) : Type 0 where
  empty : l ≡ [] → Short l
  single : (x : A) → l ≡ x ∷ [] → Short l

short_when : {A : Type 0} (b : Bool) (x : A) → Short (when b x)
short_when true x = single x refl
short_when false x = empty refl

short_bind : {A B : Type 0} (f : A → List B) (l : List A) → Short l → ((x : A) → Short (f x)) → Short (bind l f)
short_bind f l (empty e) h = rw e (empty refl)
short_bind f l (single x e) h = rw e (rw (append-nil (f x)) (h x))

short_meet : (x n : ℕ) (v : List ℕ) → Short (meet x n v)
unfolding meet
short_meet x n v = at (any? x) (constant? x) (eqb (value_of v x) no_value)
  where
    at : (a b d : Bool) → Short (if a then v ∷ [] else if b then when (eqb (constant x) n) v else if d then set v (place x) n ∷ [] else when (eqb (value_of v x) n) v)
    at true b d = single v refl
    at false true d = short_when (eqb (constant x) n) v
    at false false true = single (set v (place x) n) refl
    at false false false = short_when (eqb (value_of v x) n) v

pub short_fit : (r : Row) (k : Candidate) (v : List ℕ) → Short (fit r k v)
unfolding fit
short_fit r k v = short_bind _ (meet r.i k.i v) (short_meet r.i k.i v) (λ w. short_bind _ (meet r.a k.a w) (short_meet r.a k.a w) (λ u. short_meet r.b k.b u))
