-- In a program whose rows stand in order the rows of a part are those between two bounds.
use mathlib.Core.Path.{◌≡◌, refl, sym, ap, ◌∙◌}
use mathlib.Core.Bool.{Bool, true, false, ◌&&◌, and-eq-true_iff}
use mathlib.Core.Logic.{⊎_elim}
use mathlib.Core.List.{List, [], ◌∷◌, ◌++◌, map}
use Prim.Native.Nat.{ℕ, zero, suc, ◌+◌, ◌-◌, ◌/◌, ◌<◌, ◌≤◌}
use native.Mathlib.Omega.{arith}
use lib.Dec.{leb, ltb, eqb}
use lib.ListN.{length}
use borrow.Author.Tests.{leb-true, leb-false, ltb-true, ltb-false, lt-ltb, le-ltb, eqb-true, eqb-false, eq-eqb}
use Rattle.lists.specs.Lists.{Pairs, keep, count_up}
use Rattle.lists.proofs.Search.{in_count_up}
use Rattle.lists.proofs.Lists.{test, clash, map_append, or_cases}
use Rattle.lists.proofs.Tests.{map_pairs, count_up_append}
use Rattle.lists.proofs.Bind.{append-nil, keep_append}
use Rattle.model.specs.declared.Row.{Row}
use Rattle.model.specs.Program.{part_of}
use Rattle.program.specs.Rows.{row_at, rows_of, rows_from}
use Rattle.program_laws.specs.Lawful.{NotLater}
use Rattle.spans.specs.Spans.{before, Bound}

-- the order, as a test and as a fact
pub data Before (s n p : ℕ) (r : Row) : Type 0 where
  by_set : r.set < s → Before s n p r
  by_rule : r.set ≡ s → r.rule < n → Before s n p r
  by_part : r.set ≡ s → r.rule ≡ n → r.part < p → Before s n p r

pub before_of : (s n p : ℕ) (r : Row) → before s n p r ≡ true → Before s n p r
before_of s n p r e = ⊎_elim (λ h. by_set (ltb-true r.set s h))
    (λ h. let a = (and-eq-true_iff _ _).0 h in ⊎_elim (λ k. by_rule (eqb-true r.set s a.0) (ltb-true r.rule n k))
    (λ k. let b = (and-eq-true_iff _ _).0 k in by_part (eqb-true r.set s a.0) (eqb-true r.rule n b.0) (ltb-true r.part p b.1)) (or_cases _ _ a.1)) (or_cases _ _ e)

pub of_before : (s n p : ℕ) (r : Row) → Before s n p r → before s n p r ≡ true
of_before s n p r (by_set h) = rw (lt-ltb r.set s h)
of_before s n p r (by_rule e h) = let f : ltb r.set s ≡ false = le-ltb r.set s (omega arith) in rw (f, eq-eqb r.set s e, lt-ltb r.rule n h)
of_before s n p r (by_part e d h) =
    let f : ltb r.set s ≡ false = le-ltb r.set s (omega arith) in
    let g : ltb r.rule n ≡ false = le-ltb r.rule n (omega arith) in
    rw (f, eq-eqb r.set s e, g, eq-eqb r.rule n d, lt-ltb r.part p h)

-- a row before which stands one that is not before, is not before; one that stands before one that is, is
pub carried : (s n p : ℕ) (r q : Row) → NotLater r q → Before s n p q → Before s n p r
carried s n p r q o (by_set h) = by_set (let a = o.sets in omega arith)
carried s n p r q o (by_rule e h) = at (ltb r.set s) refl
  where
    at : (b : Bool) → ltb r.set s ≡ b → Before s n p r
    at true d = by_set (ltb-true r.set s d)
    at false d = let a = o.sets in let f = ltb-false r.set s d in let z : r.set ≡ q.set = omega arith in let g = o.rules z in by_rule (z ∙ e) (omega arith)
carried s n p r q o (by_part e d h) = at (ltb r.set s) refl (ltb r.rule n) refl
  where
    at : (b : Bool) → ltb r.set s ≡ b → (c : Bool) → ltb r.rule n ≡ c → Before s n p r
    at true f c g = by_set (ltb-true r.set s f)
    at false f true g = let a = o.sets in let k = ltb-false r.set s f in by_rule (omega arith) (ltb-true r.rule n g)
    at false f false g =
        let a = o.sets in
        let k = ltb-false r.set s f in
        let z : r.set ≡ q.set = omega arith in
        let m = ltb-false r.rule n g in
        let y = o.rules z in
        let x : r.rule ≡ q.rule = omega arith in
        let w = o.parts z x in
        by_part (z ∙ e) (x ∙ d) (omega arith)

-- rows by their places
pub rows_ordered : (words : List ℕ) → Pairs NotLater (rows_of words) → (i j : ℕ) → i < j → j < length words / 8 → NotLater (row_at words i) (row_at words j)
unfolding rows_of
rows_ordered words o i j h k = at 0 (length words / 8) (map_pairs NotLater (row_at words) (count_up 0 (length words / 8)) o) (omega arith) (omega arith)
  where
    at : (k n : ℕ) → Pairs (λ x y. NotLater (row_at words x) (row_at words y)) (count_up k n) → k ≤ i → j < k + n → NotLater (row_at words i) (row_at words j)
    at k zero p a b = absurd (omega arith)
    at k (suc n) p a b = ⊎_elim (λ e. let d = eqb-true i k e in rw d (p.0 j (in_count_up (suc k) n j (omega arith) (omega arith)))) (λ e. at (suc k) n p.1 (let d = eqb-false i k e in omega arith) (omega arith)) (test (eqb i k))

-- the rows between two bounds
module _ (words : List ℕ) (f : Row → Bool) where
  all_kept : (k n : ℕ) → ((i : ℕ) → k ≤ i → i < k + n → f (row_at words i) ≡ true) → keep f (rows_from words k n) ≡ rows_from words k n
  all_kept k zero h = refl
  all_kept k (suc n) h = rw (h k (omega arith) (omega arith)) (ap {B = List Row} (λ (l : List Row). row_at words k ∷ l) (all_kept (suc k) n (λ i a b. h i (omega arith) (omega arith))))

  none_kept : (k n : ℕ) → ((i : ℕ) → k ≤ i → i < k + n → f (row_at words i) ≡ false) → keep f (rows_from words k n) ≡ []
  none_kept k zero h = refl
  none_kept k (suc n) h = rw (h k (omega arith) (omega arith)) (none_kept (suc k) n (λ i a b. h i (omega arith) (omega arith)))

rows_split : (words : List ℕ) (k n m l : ℕ) → l ≡ k + n → rows_from words k (n + m) ≡ rows_from words k n ++ rows_from words l m
rows_split words k n m l e = ap (map (row_at words)) (sym (count_up_append k n m l e)) ∙ map_append (row_at words) (count_up k n) (count_up l m)

module _ (words : List ℕ) (s n p a b : ℕ) (x : Bound words s n p a) (y : Bound words s n (p + 1) b) where
  abbrev is_part : Row → Bool
  is_part r = eqb r.set s && (eqb r.rule n && eqb r.part p)

  part_before : (r : Row) → is_part r ≡ true → (before s n p r ≡ false) × (before s n (p + 1) r ≡ true)
  part_before r e =
      let u = (and-eq-true_iff _ _).0 e in
      let v = (and-eq-true_iff _ _).0 u.1 in
      let q = eqb-true r.set s u.0 in
      let z = eqb-true r.rule n v.0 in
      let w = eqb-true r.part p v.1 in
      (⊎_elim (λ h. absurd (not_it (before_of s n p r h) q z w)) (λ h. h) (test (before s n p r)), of_before s n (p + 1) r (by_part q z (omega arith)))
    where
      not_it : Before s n p r → r.set ≡ s → r.rule ≡ n → r.part ≡ p → ⊥
      not_it (by_set h) q z w = omega arith
      not_it (by_rule e h) q z w = omega arith
      not_it (by_part e d h) q z w = omega arith

  between : (r : Row) → before s n p r ≡ false → before s n (p + 1) r ≡ true → is_part r ≡ true
  between r e d = at (before_of s n (p + 1) r d)
    where
      no : {C : Type 0} → Before s n p r → C
      no h = clash (of_before s n p r h) e

      at : Before s n (p + 1) r → is_part r ≡ true
      at (by_set h) = no (by_set h)
      at (by_rule q h) = no (by_rule q h)
      at (by_part q z h) = ⊎_elim (λ w. no (by_part q z (ltb-true r.part p w))) (λ w. let v = ltb-false r.part p w in rw (eq-eqb r.set s q, eq-eqb r.rule n z) (eq-eqb r.part p (omega arith))) (test (ltb r.part p))

  -- what stands before the part stands before the next one
  pub bounds_rise : a ≤ b
  bounds_rise = ⊎_elim (λ h. leb-true a b h) (λ h. let k = leb-false a b h in absurd (no (x.earlier b k) (y.later b (omega arith) (let m = x.inside in omega arith)))) (test (leb a b))
    where
      no : before s n p (row_at words b) ≡ true → before s n (p + 1) (row_at words b) ≡ false → ⊥
      no e d = at (before_of s n p (row_at words b) e)
        where
          at : Before s n p (row_at words b) → ⊥
          at (by_set h) = clash (of_before s n (p + 1) (row_at words b) (by_set h)) d
          at (by_rule q h) = clash (of_before s n (p + 1) (row_at words b) (by_rule q h)) d
          at (by_part q z h) = clash (of_before s n (p + 1) (row_at words b) (by_part q z (omega arith))) d

  pub span_is : rows_from words a (b - a) ≡ part_of (rows_of words) s n p
  unfolding part_of rows_of
  span_is =
      let h = bounds_rise in
      let m = y.inside in
      let one : length words / 8 ≡ a + (length words / 8 - a) = omega arith in
      let two : length words / 8 - a ≡ (b - a) + (length words / 8 - b) = omega arith in
      let cut : rows_from words 0 (length words / 8) ≡ rows_from words 0 a ++ (rows_from words a (b - a) ++ rows_from words b (length words / 8 - b)) =
      ap (rows_from words 0) one ∙ rows_split words 0 a (length words / 8 - a) a (omega arith)
      ∙ ap (λ (l : List Row). rows_from words 0 a ++ l) (ap (rows_from words a) two ∙ rows_split words a (b - a) (length words / 8 - b) b (omega arith)) in
      sym (ap (keep is_part) cut
      ∙ keep_append is_part (rows_from words 0 a) (rows_from words a (b - a) ++ rows_from words b (length words / 8 - b))
      ∙ ap (λ (l : List Row). l ++ keep is_part (rows_from words a (b - a) ++ rows_from words b (length words / 8 - b))) first_none
      ∙ keep_append is_part (rows_from words a (b - a)) (rows_from words b (length words / 8 - b))
      ∙ ap (λ (l : List Row). keep is_part (rows_from words a (b - a)) ++ l) last_none
      ∙ append-nil (keep is_part (rows_from words a (b - a)))
      ∙ middle)
    where
      out : (r : Row) → (is_part r ≡ true → ⊥) → is_part r ≡ false
      out r h = ⊎_elim (λ e. absurd (h e)) (λ e. e) (test (is_part r))

      first_none : keep is_part (rows_from words 0 a) ≡ []
      first_none = none_kept words is_part 0 a (λ i u v. out (row_at words i) (λ e. clash (x.earlier i (omega arith)) (part_before (row_at words i) e).0))

      last_none : keep is_part (rows_from words b (length words / 8 - b)) ≡ []
      last_none = none_kept words is_part b (length words / 8 - b) (λ i u v. out (row_at words i) (λ e. clash (part_before (row_at words i) e).1 (y.later i u (let m = y.inside in omega arith))))

      middle : keep is_part (rows_from words a (b - a)) ≡ rows_from words a (b - a)
      middle = all_kept words is_part a (b - a) (λ i u v. between (row_at words i) (x.later i u (let m = y.inside in let h = bounds_rise in omega arith)) (y.earlier i (let h = bounds_rise in omega arith)))

-- rows below low stand before, rows from high on do not
pub record Halved (words : List ℕ) (s n p low high : ℕ) : Type 0 where
  pub ordered : low ≤ high
  pub inside : high ≤ length words / 8
  pub earlier : (i : ℕ) → i < low → before s n p (row_at words i) ≡ true
  pub later : (i : ℕ) → high ≤ i → i < length words / 8 → before s n p (row_at words i) ≡ false

module _ (words : List ℕ) (s n p : ℕ) where
  pub halved_all : Halved words s n p 0 (length words / 8)
  halved_all = record { ordered = omega arith; inside = omega arith; earlier = λ i h. absurd (omega arith); later = λ i h k. absurd (omega arith) }

  pub halved_down : (low high m : ℕ) → Pairs NotLater (rows_of words) → low ≤ m → m < high → before s n p (row_at words m) ≡ false → Halved words s n p low high → Halved words s n p low m
  halved_down low high m o a b e h = record {
    ordered = a;
    inside = let z = h.inside in omega arith;
    earlier = h.earlier;
    later = λ i k l. ⊎_elim (λ q. let d = eqb-true i m q in rw d e)
        (λ q. ⊎_elim (λ t. clash (of_before s n p (row_at words m) (carried s n p (row_at words m) (row_at words i) (rows_ordered words o m i (let d = eqb-false i m q in omega arith) l) (before_of s n p (row_at words i) t))) e) (λ t. t) (test (before s n p (row_at words i)))) (test (eqb i m));
  }

  pub halved_bound : (low high : ℕ) → high ≤ low → Halved words s n p low high → Bound words s n p low
  halved_bound low high k h = record { inside = let a = h.inside in let b = h.ordered in omega arith; earlier = h.earlier; later = λ i u v. h.later i (let b = h.ordered in omega arith) v }
