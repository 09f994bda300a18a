-- The number that a body operand stands for is of 16 bits, where its variable has a value.
use Rattle.std.specs.Prelude.{if◌then◌else◌}
use mathlib.Core.Path.{◌≡◌, refl, sym, ap, ◌∙◌, subst}
use mathlib.Core.Bool.{Bool, true, false, not, and-eq-true_iff, true≢false}
use mathlib.Core.Logic.{⊎_elim}
use mathlib.Core.List.{List, [], ◌∷◌, ◌++◌}
use Prim.Native.Nat.{ℕ, zero, suc, ◌-◌, ◌≤◌, ◌<◌}
use native.Mathlib.Omega.{arith}
use lib.Dec.{leb}
use lib.ListN.{length, get_or, drop, replicate}
use borrow.Author.Tests.{eqb-false, ne_eqb, leb-false, le-leb, not-true}
use Rattle.lists.specs.Lists.{In, first, later}
use Rattle.lists.proofs.Lists.{test, in_nil, in_cons, or_cases, or_right}
use Rattle.lists.proofs.Tests.{and2, or_left, false_not}
use Rattle.model.specs.declared.Row.{Row}
use Rattle.model.specs.Program.{any?, variable?, constant?, constant, body}
use Rattle.model.specs.Configuration.{Plan, no_value, no_values, place, value_of, operand, remainder}
use Rattle.model.specs.WellFormed.{has_value, row_has_values}
use Rattle.demands.proofs.Values.{Valued, Values}

-- reading a list gives one of its elements, or the default
read_in : (l : List ℕ) (i d : ℕ) → i < length l → In (get_or l i d) l
read_in [] i d h = absurd (omega arith)
read_in (x ∷ l) zero d h = first refl
read_in (x ∷ l) (suc i) d h = later (read_in l i d (omega arith))

pub operand_fits : (v : List ℕ) (x : ℕ) → Values v → x ≤ 65544 → any? x ≡ false → (variable? x ≡ true → Valued v x) → operand v x ≤ 65535
unfolding operand
operand_fits v x w h a f = at (constant? x) refl
  where
    at : (b : Bool) → constant? x ≡ b → (if b then constant x else value_of v x) ≤ 65535
    at true e = omega arith
    at false e =
        let n = eqb-false x 0 a in
        let m = leb-false 9 x e in
        let o : variable? x ≡ true = (and-eq-true_iff (leb 1 x) (leb x 8)).1 (le-leb 1 x (omega arith), le-leb x 8 (omega arith)) in
        let k = w.fit (value_of v x) (read_in v (place x) no_value (omega (arith, w.long))) in
        let z = f o in
        omega arith

pub no_values_fit : Values no_values
unfolding no_values
no_values_fit = record { long = refl; fit = λ n i. all 8 n i }
  where
    all : (k n : ℕ) → In n (replicate k no_value) → n ≤ no_value
    all zero n i = in_nil i
    all (suc k) n i = ⊎_elim (λ e. omega arith) (λ j. all k n j) (in_cons i)

-- a row's variables have values
pub value_there : (v : List ℕ) (x : ℕ) → has_value v x ≡ true → variable? x ≡ true → Valued v x
value_there v x e o = ⊎_elim (λ h. absurd (no (not-true _ h) o)) (λ h. eqb-false (value_of v x) no_value (not-true _ h)) (or_cases _ _ e)
  where
    no : {b : Bool} → b ≡ false → b ≡ true → ⊥
    no p q = true≢false (sym q ∙ p)

pub there_value : (v : List ℕ) (x : ℕ) → (variable? x ≡ true → Valued v x) → has_value v x ≡ true
there_value v x h = ⊎_elim (λ o. or_right (not (variable? x)) (false_not _ (ne_eqb (value_of v x) no_value (h o)))) (λ o. or_left _ (false_not (variable? x) o)) (test (variable? x))

pub row_values : (v : List ℕ) (r : Row) → row_has_values v r ≡ true → (has_value v r.i ≡ true) × (has_value v r.a ≡ true) × (has_value v r.b ≡ true)
unfolding row_has_values
row_values v r e = let a = (and-eq-true_iff _ _).0 e in let b = (and-eq-true_iff _ _).0 a.1 in (a.0, b.0, b.1)

pub values_row : (v : List ℕ) (r : Row) → has_value v r.i ≡ true → has_value v r.a ≡ true → has_value v r.b ≡ true → row_has_values v r ≡ true
unfolding row_has_values
values_row v r a b d = and2 a (and2 b d)

-- a plan's next step is a row of its rule's body
drop_in : (n : ℕ) (l : List Row) {r : Row} → In r (drop n l) → In r l
drop_in zero l h = h
drop_in (suc n) [] h = h
drop_in (suc n) (x ∷ l) h = later (drop_in n l h)

pub remainder_in : (program : List Row) (q : Plan) (r : Row) (rs : List Row) → remainder program q ≡ r ∷ rs → In r (body program q.set q.rule)
unfolding remainder
remainder_in program q r rs e = drop_in (length (body program q.set q.rule) - q.left) (body program q.set q.rule) (subst (In r) (sym e) (first refl))

-- an element of a list, with what stands before and after it
pub in_split : {A : Type 0} {x : A} {l : List A} → In x l → (before : List A) × (after : List A) × (l ≡ before ++ (x ∷ after))
in_split {A} {x} (first {y = y} {l = l} e) = ([], l, ap (λ (z : A). z ∷ l) (sym e))
in_split {A} {x} (later {y = y} {l = l} i) = let r = in_split i in (y ∷ r.0, r.1, ap {B = List A} (λ (m : List A). y ∷ m) r.2)
