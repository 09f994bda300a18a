-- Laws of nogoods: where their parts stand in their numbers, and what is in a table when one of them is replaced.
use mathlib.Core.Path.{◌≡◌, refl, sym, ap, subst, ◌∙◌}
use mathlib.Core.Bool.{Bool, true, false, not, ◌&&◌, false≢true}
use mathlib.Core.List.{List, [], ◌∷◌, ◌++◌}
use mathlib.Core.Logic.{◌⊎◌, inl, inr, ⊎_elim, ◌≢◌}
use Prim.Native.Nat.{ℕ, ◌+◌, ◌*◌, ◌/◌, ◌%◌, ◌^◌, ◌<◌, ◌≤◌}
use native.Mathlib.Omega.{arith}
use lib.ListN.{length, take, drop, get_or, length-append}
use lib.Pointwise.{pointwise}
use Rattle.std.proofs.lemmas.List.{drop-take, drop-drop}
use Rattle.std.specs.Cmp.Lexicographic.{same_text}
use lib.Seq.{get_or-take, get_or-drop, get_or_at, take_at, drop-append-add}
use lib.Dec.{eqb}
use borrow.Author.Tests.{eqb-true, not-false}
use Rattle.lists.proofs.Tables.{equal_or_not, less_or_more}
use Rattle.table.specs.Rows.{row, placed}
use Rattle.table.proofs.Rows.{placed_same, placed_before, placed_after}
use Rattle.nogoods.specs.Nogoods.{has, nogood, values_in, count_in, ids_in, Replaced}

-- a value of a nogood among its numbers
value_at : (e : List ℕ) (j : ℕ) → j < 8 → get_or (values_in e) j 0 ≡ get_or e (j + 2) 0
value_at e j h = get_or-take 8 (drop 2 e) j 0 h ∙ get_or-drop 2 e j 0 ∙ ap (λ (x : ℕ). get_or e x 0) (omega arith)

-- the test of a difference that was not taken
then_same : (a b : Bool) → (a && not b) ≡ false → a ≡ true → b ≡ true
then_same true b t e = not-false b t
then_same false b t e = absurd (false≢true e)

-- of the first j variables those in the set have the nogood's values
abbrev pub SameBelow : List ℕ → List ℕ → ℕ → ℕ → Type 0
SameBelow e values set j = (i : ℕ) → i < j → has set i ≡ true → get_or (values_in e) i 0 ≡ get_or values i 0

-- one variable more; x is the nogood's value of it
pub same_more : (e values : List ℕ) (set j x : ℕ) → j < 8 → x ≡ get_or e (j + 2) 0 → (eqb (set / 2 ^ j % 2) 1 && not (eqb x (get_or values j 0))) ≡ false →
    SameBelow e values set j → SameBelow e values set (j + 1)
unfolding has
same_more e values set j x h r t s i b m = ⊎_elim
    (λ (q : i ≡ j). subst (λ (k : ℕ). has set k ≡ true → get_or (values_in e) k 0 ≡ get_or values k 0) (sym q) here m)
    (λ (q : i ≢ j). s i (omega arith) m)
    (equal_or_not i j)
  where
    here : has set j ≡ true → get_or (values_in e) j 0 ≡ get_or values j 0
    here odd = value_at e j h ∙ sym r ∙ eqb-true x (get_or values j 0) (then_same (eqb (set / 2 ^ j % 2) 1) (eqb x (get_or values j 0)) t odd)

-- a set without the ids
pub no_ids : (set : ℕ) → set / 256 % 2 ≡ 0 → has set 8 ≡ true → ⊥
unfolding has
no_ids set z m = let o : set / 256 % 2 ≡ 1 = eqb-true (set / 256 % 2) 1 m in omega arith

-- the ids of a nogood stand last in its row
pub ids_at : (l ids : List ℕ) (k n : ℕ) → n ≡ 4 → pointwise eqb (take n (drop (k * 15 + 11) l)) ids ≡ true → ids_in (row 15 l k) ≡ ids
unfolding row
ids_at l ids k n e t =
    drop-take 11 4 (drop (k * 15) l) ∙ ap (take 4) (drop-drop 11 (k * 15) l)
    ∙ same_text _ ids (sym t ∙ ap (λ (m : ℕ). pointwise eqb (take m (drop (k * 15 + 11) l)) ids) e)

-- the parts of a nogood are what it was made of
module _ (rest set : ℕ) (values : List ℕ) (count : ℕ) (ids : List ℕ) (v : length values ≡ 8) where
  pub nogood_values : values_in (nogood rest set values count ids) ≡ values
  nogood_values = take_at values (count ∷ ids) 8 v

  pub nogood_count : count_in (nogood rest set values count ids) ≡ count
  nogood_count = get_or_at values count ids 0 8 v

  pub nogood_ids : ids_in (nogood rest set values count ids) ≡ ids
  nogood_ids = ap (λ (n : ℕ). drop (n + 1) (values ++ (count ∷ ids))) (sym v) ∙ drop-append-add values (count ∷ ids) 1

  pub nogood_long : length ids ≡ 4 → length (nogood rest set values count ids) ≡ 15
  nogood_long n = let a = length-append values (count ∷ ids) in omega arith

-- a list of four, number by number
four : (l : List ℕ) → length l ≡ 4 → get_or l 0 0 ∷ get_or l 1 0 ∷ get_or l 2 0 ∷ get_or l 3 0 ∷ [] ≡ l
four [] e = absurd (omega arith)
four (a ∷ []) e = absurd (omega arith)
four (a ∷ b ∷ []) e = absurd (omega arith)
four (a ∷ b ∷ c ∷ []) e = absurd (omega arith)
four (a ∷ b ∷ c ∷ d ∷ []) e = refl
four (a ∷ b ∷ c ∷ d ∷ x ∷ l) e = absurd (omega arith)

-- a list of eight in front of others, number by number
eight : (l m : List ℕ) → length l ≡ 8 →
    get_or l 0 0 ∷ get_or l 1 0 ∷ get_or l 2 0 ∷ get_or l 3 0 ∷ get_or l 4 0 ∷ get_or l 5 0 ∷ get_or l 6 0 ∷ get_or l 7 0 ∷ m ≡ l ++ m
eight [] m e = absurd (omega arith)
eight (a ∷ []) m e = absurd (omega arith)
eight (a ∷ b ∷ []) m e = absurd (omega arith)
eight (a ∷ b ∷ c ∷ []) m e = absurd (omega arith)
eight (a ∷ b ∷ c ∷ d ∷ l) m e = ap {B = List ℕ} (λ (k : List ℕ). a ∷ b ∷ c ∷ d ∷ (k ++ m)) (four l (omega arith))

-- a nogood number by number
pub numbers_are : (rest set : ℕ) (values : List ℕ) (count : ℕ) (ids : List ℕ) → length values ≡ 8 → length ids ≡ 4 →
    rest ∷ set ∷ get_or values 0 0 ∷ get_or values 1 0 ∷ get_or values 2 0 ∷ get_or values 3 0 ∷ get_or values 4 0 ∷ get_or values 5 0 ∷ get_or values 6 0 ∷
    get_or values 7 0 ∷ count ∷ get_or ids 0 0 ∷ get_or ids 1 0 ∷ get_or ids 2 0 ∷ get_or ids 3 0 ∷ [] ≡ nogood rest set values count ids
numbers_are rest set values count ids v n =
    ap {B = List ℕ} (λ (m : List ℕ). rest ∷ set ∷ m) (eight values _ v ∙ ap {B = List ℕ} (λ (m : List ℕ). values ++ (count ∷ m)) (four ids n))

-- one of the 512 is replaced
module _ (before after e : List ℕ) (b : length before ≡ 7680) (l : length e ≡ 15) (p : Replaced before after e) where
  pub row_replaced : (i : ℕ) → i < 512 → (row 15 after i ≡ e) ⊎ (row 15 after i ≡ row 15 before i)
  row_replaced i h =
      let k = p.place in
      let low = p.low in
      let fits : k * 15 + 15 ≤ length before = omega arith in
      let is = ap (λ (x : List ℕ). row 15 x i) p.is in
      ⊎_elim
      (λ (q : i ≡ k). inl (is ∙ ap (row 15 (placed 15 before k e)) q ∙ placed_same 15 before k e l fits))
      (λ (q : i ≢ k). inr (is ∙ ⊎_elim (placed_before 15 before k e l fits i) (placed_after 15 before k e l fits i) (less_or_more i k q)))
      (equal_or_not i k)
