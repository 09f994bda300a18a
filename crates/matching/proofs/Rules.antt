-- The rules of a set in rising number: where the rows of each stand, and what those from a number on fire.
use mathlib.Core.Path.{◌≡◌, refl, sym, ap, ◌∙◌}
use mathlib.Core.Bool.{Bool, true, false, ◌&&◌, ◌||◌, and-eq-true_iff, and-false}
use mathlib.Core.Logic.{◌⊎◌, inl, inr, ⊎_elim, ◌≢◌}
use mathlib.Core.List.{List, [], ◌++◌, map}
use Prim.Native.Nat.{ℕ, ◌+◌, ◌-◌, ◌/◌, ◌≤◌, ◌<◌}
use native.Mathlib.Omega.{arith}
use lib.Dec.{eqb, ltb}
use lib.ListN.{length}
use borrow.Author.Tests.{eqb-true, eqb-false, eq-eqb, ltb-true, ltb-false, lt-ltb, le-ltb}
use Rattle.lists.specs.Lists.{In, keep, first_of, bind, count_up, highest}
use Rattle.lists.proofs.Lists.{test, clash, in_map, map_in, keep_in, in_keep, map_append}
use Rattle.lists.proofs.Tests.{count_up_in, count_up_append}
use Rattle.lists.proofs.Cuts.{count_up_next, count_up_none}
use Rattle.lists.proofs.Counted.{highest_below}
use Rattle.lists.proofs.Search.{in_count_up, highest_over}
use Rattle.model.specs.declared.Row.{Row}
use Rattle.model.specs.Program.{rules_of}
use Rattle.model.specs.Configuration.{Config}
use Rattle.model.specs.Matching.{Found, rule_matches, Firing, firing}
use Rattle.program.specs.Rows.{row_at, rows_from, rows_of}
use Rattle.program_laws.specs.Lawful.{Lawful}
use Rattle.spans.specs.Spans.{before, Bound}
use Rattle.spans.proofs.Spans.{halved_all, halved_down}

-- the rows of a program by their places
module _ (program : List ℕ) where
  row_in : (k : ℕ) → k < length program / 8 → In (row_at program k) (rows_of program)
  unfolding rows_of
  row_in k h = in_map (row_at program) (in_count_up 0 (length program / 8) k (omega arith) (omega arith))

  in_row : (r : Row) → In r (rows_of program) → (k : ℕ) × (k < length program / 8) × (r ≡ row_at program k)
  unfolding rows_of
  in_row r i =
      let x = map_in (row_at program) (count_up 0 (length program / 8)) i in
      let y = count_up_in 0 (length program / 8) x.0 x.1 in
      (x.0, omega (arith, y.1), x.2)

  pub rows_join : (a b c : ℕ) → a ≤ b → b ≤ c → rows_from program a (b - a) ++ rows_from program b (c - b) ≡ rows_from program a (c - a)
  rows_join a b c h k =
      let e : b - a + (c - b) ≡ c - a = omega arith in
      sym (map_append (row_at program) (count_up a (b - a)) (count_up b (c - b)))
      ∙ ap (map (row_at program)) (count_up_append a (b - a) (c - b) b (omega arith) ∙ ap (count_up a) e)

-- past the last part of a rule the next rule begins
up_to_rule : (m p n : ℕ) → p < 4 → (ltb m n || (eqb m n && ltb p 4)) ≡ ltb m (n + 1)
up_to_rule m p n h = ⊎_elim
    (λ e. let g = ltb-true m n e in rw e (sym (lt-ltb m (n + 1) (omega arith))))
    (λ e. let g = ltb-false m n e in rw (e, lt-ltb p 4 h)
    (⊎_elim (λ q. let d = eqb-true m n q in rw q (sym (lt-ltb m (n + 1) (omega arith)))) (λ q. let d = eqb-false m n q in rw q (sym (le-ltb m (n + 1) (omega arith)))) (test (eqb m n))))
    (test (ltb m n))

from_rule : (m p n : ℕ) → (1 ≤ p) ⊎ (m ≡ 0) → (ltb m (n + 1) || (eqb m (n + 1) && ltb p 1)) ≡ ltb m (n + 1)
from_rule m p n h = ⊎_elim (λ e. rw e)
    (λ e. let g = ltb-false m (n + 1) e in rw e
    (⊎_elim (λ (k : 1 ≤ p). rw (le-ltb p 1 k) (and-false (eqb m (n + 1)))) (λ (k : m ≡ 0). absurd (omega arith)) h))
    (test (ltb m (n + 1)))

module _ (program : List ℕ) (w : Lawful (rows_of program)) where
  -- what holds of the parts of every row
  parts_of : (r : Row) → In r (rows_of program) → (r.part < 4) × ((1 ≤ r.part) ⊎ (r.rule ≡ 0))
  parts_of r i = ⊎_elim
      (λ e. let z = w.set_0_rows r i (eqb-true r.set 0 e) in (omega (arith, z.1), inr z.0))
      (λ e. let d = eqb-false r.set 0 e in let z = w.rule_rows r i (omega arith) in (omega (arith, z.4), inl z.3))
      (test (eqb r.set 0))

  pub next_rule : (s n k : ℕ) → Bound program s n 4 k → Bound program s (n + 1) 1 k
  next_rule s n k x = record {
    inside = x.inside;
    earlier = λ i h. let m = x.inside in same i (omega arith) ∙ x.earlier i h;
    later = λ i h l. same i l ∙ x.later i h l;
  }
    where
      same : (i : ℕ) → i < length program / 8 → before s (n + 1) 1 (row_at program i) ≡ before s n 4 (row_at program i)
      same i h =
          let r = row_at program i in
          let q = parts_of r (row_in program i h) in
          ap (λ (b : Bool). ltb r.set s || (eqb r.set s && b)) (from_rule r.rule r.part n q.1 ∙ sym (up_to_rule r.rule r.part n q.0))

-- the greatest number of a rule in the set, and what the rules from n on fire
abbrev pub top : List Row → ℕ → ℕ
top rows s = highest (map (λ (r : Row). r.rule) (keep (λ (r : Row). eqb r.set s) rows))

abbrev pub fired : ℕ → Found → Firing
fired n f = record { rule = n; match = f }

unfoldable pub fires : List Row → Config → ℕ → ℕ → List Firing
fires rows c s n = bind (count_up n (top rows s + 1 - n)) (λ n. map (fired n) (rule_matches rows c s n))

module _ (rows : List Row) (c : Config) (s : ℕ) where
  pub fires_all : firing rows c s ≡ first_of (fires rows c s 1)
  unfolding firing rules_of fires
  fires_all = let e : top rows s + 1 - 1 ≡ top rows s = omega arith in rw e

  pub fires_next : (n : ℕ) → n ≤ top rows s → fires rows c s n ≡ map (fired n) (rule_matches rows c s n) ++ fires rows c s (n + 1)
  unfolding fires
  fires_next n h = rw (count_up_next n (top rows s + 1) (omega arith))

  pub fires_end : (n : ℕ) → top rows s < n → fires rows c s n ≡ []
  unfolding fires
  fires_end n h = rw (count_up_none n (top rows s + 1) (omega arith))

-- a row of the set that stands at the start of rule n: there is such a rule, or a later one
not_before : (s n p : ℕ) (r : Row) → before s n p r ≡ false → r.set ≡ s → n ≤ r.rule
not_before s n p r e q = ⊎_elim (λ h. clash (rw (le-ltb r.set s (omega arith), eq-eqb r.set s q, h)) e) (λ h. ltb-false r.rule n h) (test (ltb r.rule n))

module _ (program : List ℕ) (w : Lawful (rows_of program)) (s n start : ℕ) (x : Bound program s n 1 start) where
  module _ (h : start < length program / 8) (e : (row_at program start).set ≡ s) where
    rule_not_less : n ≤ (row_at program start).rule
    rule_not_less = not_before s n 1 (row_at program start) (x.later start (omega arith) h) e

    pub rule_there : n ≤ top (rows_of program) s
    rule_there =
        let r = row_at program start in
        let g = rule_not_less in
        let i = in_map (λ (r : Row). r.rule) (in_keep (λ (r : Row). eqb r.set s) (row_in program start h) (eq-eqb r.set s e)) in
        let k = highest_over (map (λ (r : Row). r.rule) (keep (λ (r : Row). eqb r.set s) (rows_of program))) r.rule i in
        omega arith

    -- its number is small
    pub rule_small : 1 ≤ n → n ≤ 32
    rule_small p =
        let r = row_at program start in
        let g = rule_not_less in
        ⊎_elim
        (λ q. let z = (w.set_0_rows r (row_in program start h) (eqb-true r.set 0 q)).0 in absurd (omega arith))
        (λ q. let d = eqb-false r.set 0 q in let z = w.rule_rows r (row_in program start h) (omega arith) in omega (arith, z.2))
        (test (eqb r.set 0))

  -- no row of the set stands there, and so no rule is left
  pub no_rule : 1 ≤ n → (start < length program / 8 → (row_at program start).set ≢ s) → top (rows_of program) s < n
  no_rule p none =
      let low = highest_below (map (λ (r : Row). r.rule) (keep (λ (r : Row). eqb r.set s) (rows_of program))) (n - 1)
      (λ m i. let y = map_in (λ (r : Row). r.rule) (keep (λ (r : Row). eqb r.set s) (rows_of program)) i in
      let z = keep_in (λ (r : Row). eqb r.set s) (rows_of program) y.1 in
      let k = in_row program y.0 z.0 in
      let l = less y.0 z.0 (eqb-true y.0.set s z.1) k.0 k.1 k.2 in
      let e = y.2 in
      omega arith) in
      omega arith
    where
      -- a row that stands before the rule
      earlier : (r : Row) → In r (rows_of program) → r.set ≡ s → before s n 1 r ≡ true → r.rule < n
      earlier r i e b = at (test (ltb r.rule n))
        where
          at : (ltb r.rule n ≡ true) ⊎ (ltb r.rule n ≡ false) → r.rule < n
          at (inl h) = ltb-true r.rule n h
          at (inr h) =
              let c = (and-eq-true_iff (eqb r.rule n) (ltb r.part 1)).0 (rw (le-ltb r.set s (omega arith), eq-eqb r.set s e, h) at b) in
              let d = eqb-true r.rule n c.0 in
              let f = ltb-true r.part 1 c.1 in
              ⊎_elim (λ (q : 1 ≤ r.part). absurd (omega arith)) (λ (q : r.rule ≡ 0). absurd (omega arith)) (parts_of program w r i).1

      -- a row behind one of a later set
      later : (k : ℕ) → start ≤ k → k < length program / 8 → (row_at program k).set ≡ s → ⊥
      later k h l e =
          let r = row_at program start in
          let a = ⊎_elim (λ q. clash (rw q) (x.later start (omega arith) (omega arith))) (λ q. ltb-false r.set s q) (test (ltb r.set s)) in
          let b = none (omega arith) in
          let off : before (s + 1) 0 0 r ≡ false = rw (le-ltb r.set (s + 1) (omega arith), le-ltb r.rule 0 (omega arith), le-ltb r.part 0 (omega arith)) (offs (eqb r.set (s + 1)) (eqb r.rule 0)) in
          let d = halved_down program (s + 1) 0 0 0 (length program / 8) start w.ordered (omega arith) (omega arith) off (halved_all program (s + 1) 0 0) in
          clash (rw (lt-ltb (row_at program k).set (s + 1) (omega arith))) (d.later k h l)
        where
          offs : (a b : Bool) → (a && (b && false)) ≡ false
          offs true true = refl
          offs true false = refl
          offs false b = refl

      less : (r : Row) → In r (rows_of program) → r.set ≡ s → (k : ℕ) → k < length program / 8 → r ≡ row_at program k → r.rule < n
      less r i e k l q = ⊎_elim
          (λ h. earlier r i e (ap (before s n 1) q ∙ x.earlier k (ltb-true k start h)))
          (λ h. absurd (later k (ltb-false k start h) l (ap (λ (y : Row). y.set) (sym q) ∙ e)))
          (test (ltb k start))
