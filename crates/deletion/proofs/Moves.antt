-- Words and atoms that go down in runs; what is kept of the atoms run by run.
use mathlib.Core.Path.{◌≡◌, refl, sym, ap, ◌∙◌, subst}
use mathlib.Core.Bool.{Bool, true, false}
use mathlib.Core.List.{List, [], ◌∷◌, ◌++◌, append_assoc}
use mathlib.Core.Logic.{⊎_elim, ◌≢◌}
use Prim.Native.Nat.{ℕ, zero, suc, ◌+◌, ◌-◌, ◌<◌, ◌≤◌}
use native.Mathlib.Omega.{arith}
use lib.ListN.{length, get_or, set, drop, length-set}
use lib.Seq.{get_or-set_same, get_or-set_other, drop-set-lt}
use Rattle.lists.specs.Tables.{tabulate, keep_by}
use Rattle.lists.proofs.Bind.{append-nil}
use Rattle.lists.proofs.Tables.{equal_or_not, less_or_more, tabulate_same, keep_by_nil, keep_by_more}
use Rattle.model.specs.declared.Atom.{Atom}
use Rattle.state.specs.View.{atom_p, atom_a, atom_b, atom_cycle, plans_at, atom_at, atoms_of}
use Rattle.state.proofs.Made.{plans_stand}
use Rattle.deletion.specs.Moves.{Moved, AtomsMoved}

pub less : (i k : ℕ) → i ≢ k → i < k + 1 → i < k
less i k ne p = ⊎_elim (λ (q : i < k). q) (λ (q : k < i). absurd (omega arith)) (less_or_more i k ne)

-- one word more, as it stood at first
pub moved_put : (W X : List ℕ) (from to k : ℕ) → to + k < length W → Moved W from to k X → Moved W from to (k + 1) (set X (to + k) (get_or W (from + k) 0))
moved_put W X from to k g m = record {
  long = length-set X (to + k) v ∙ m.long;
  below = λ j p. get_or-set_other X (to + k) j v 0 (λ e. omega arith) ∙ m.below j p;
  here = λ i p. ⊎_elim
      (λ (e : i ≡ k). let z : to + i ≡ to + k = omega arith in let y : from + k ≡ from + i = omega arith in
      ap (λ (q : ℕ). get_or (set X (to + k) v) q 0) z ∙ get_or-set_same X (to + k) v 0 within ∙ ap (λ (q : ℕ). get_or W q 0) y)
      (λ (ne : i ≢ k). let fewer : i < k = less i k ne p in get_or-set_other X (to + k) (to + i) v 0 (λ e. omega arith) ∙ m.here i fewer)
      (equal_or_not i k);
  above = λ j p. get_or-set_other X (to + k) j v 0 (λ e. omega arith) ∙ m.above j (omega arith);
  behind = λ q p. drop-set-lt q X (to + k) v (omega arith) ∙ m.behind q (omega arith);
}
  where
    v : ℕ
    v = get_or W (from + k) 0

    within : to + k < length X
    within = let l = m.long in omega arith

-- the same word read after the others: what goes down was not written yet
pub moved_one : (W X : List ℕ) (from to k : ℕ) → to ≤ from → from + k < length W → Moved W from to k X →
    Moved W from to (k + 1) (set X (to + k) (get_or X (from + k) 0))
moved_one W X from to k h g m =
    let e : get_or W (from + k) 0 ≡ get_or X (from + k) 0 = sym (m.above (from + k) (omega arith)) in
    subst (λ (v : ℕ). Moved W from to (k + 1) (set X (to + k) v)) e (moved_put W X from to k (omega arith) m)

-- the same by the place that is written
pub moved_next : (W X : List ℕ) (gap to k : ℕ) → to ≤ k → k + gap < length W → Moved W (to + gap) to (k - to) X →
    Moved W (to + gap) to (k + 1 - to) (set X k (get_or X (k + gap) 0))
moved_next W X gap to k g l m =
    let a : to + (k - to) ≡ k = omega arith in
    let b : to + gap + (k - to) ≡ k + gap = omega arith in
    let c : k - to + 1 ≡ k + 1 - to = omega arith in
    subst (λ (q : ℕ). Moved W (to + gap) to q (set X k (get_or X (k + gap) 0))) c
    (subst (λ (q : ℕ). Moved W (to + gap) to (k - to + 1) (set X k (get_or X q 0))) b
    (subst (λ (q : ℕ). Moved W (to + gap) to (k - to + 1) (set X q (get_or X (to + gap + (k - to)) 0))) a
    (moved_one W X (to + gap) to (k - to) (omega arith) (omega arith) m)))

-- a column that another move leaves as it is
module _ (W X : List ℕ) (c from to n : ℕ) (h : to ≤ from) (few : from + n ≤ 256) (m : Moved W (c + from) (c + to) n X) where
  lower : (d k : ℕ) → d + 256 ≤ c → k < 256 → get_or X (d + k) 0 ≡ get_or W (d + k) 0
  lower d k p q = m.below (d + k) (omega arith)

  higher : (d k : ℕ) → c + 256 ≤ d → k < 256 → get_or X (d + k) 0 ≡ get_or W (d + k) 0
  higher d k p q = m.above (d + k) (omega arith)

  low : (k : ℕ) → k < to → get_or X (c + k) 0 ≡ get_or W (c + k) 0
  low k p = m.below (c + k) (omega arith)

  high : (k : ℕ) → to + n ≤ k → get_or X (c + k) 0 ≡ get_or W (c + k) 0
  high k p = m.above (c + k) (omega arith)

  middle : (k : ℕ) → k < n → get_or X (c + (to + k)) 0 ≡ get_or W (c + (from + k)) 0
  middle k p =
      let e : c + (to + k) ≡ c + to + k = omega arith in
      let f : c + from + k ≡ c + (from + k) = omega arith in
      ap (λ (q : ℕ). get_or X q 0) e ∙ m.here k p ∙ ap (λ (q : ℕ). get_or W q 0) f

-- five columns in turn
module _ (W0 W1 W2 W3 W4 W5 : List ℕ) (from to n : ℕ) (h : to ≤ from) (few : from + n ≤ 256)
    (m0 : Moved W0 (0 + from) (0 + to) n W1) (m1 : Moved W1 (atom_p + from) (atom_p + to) n W2) (m2 : Moved W2 (atom_a + from) (atom_a + to) n W3) (m3 : Moved W3 (atom_b + from) (atom_b + to) n W4) (m4 : Moved W4 (atom_cycle + from) (atom_cycle + to) n W5) where
  -- what stands at i in W0 is at k in W5, column by column
  all_columns : (k i : ℕ) → k < 256 → i < 256 → get_or W1 (0 + k) 0 ≡ get_or W0 (0 + i) 0 → get_or W2 (atom_p + k) 0 ≡ get_or W1 (atom_p + i) 0 → get_or W3 (atom_a + k) 0 ≡ get_or W2 (atom_a + i) 0 → get_or W4 (atom_b + k) 0 ≡ get_or W3 (atom_b + i) 0 → get_or W5 (atom_cycle + k) 0 ≡ get_or W4 (atom_cycle + i) 0 → atom_at W5 k ≡ atom_at W0 i
  unfolding atom_at
  all_columns k i hk hi e0 e1 e2 e3 e4 =
      let z0 : k ≡ 0 + k = omega arith in
      let y0 : 0 + i ≡ i = omega arith in
      let x0 : get_or W5 k 0 ≡ get_or W0 i 0 =
      ap (λ (q : ℕ). get_or W5 q 0) z0 ∙ lower W4 W5 atom_cycle from to n h few m4 0 k (omega arith) hk ∙ lower W3 W4 atom_b from to n h few m3 0 k (omega arith) hk ∙ lower W2 W3 atom_a from to n h few m2 0 k (omega arith) hk ∙ lower W1 W2 256 from to n h few m1 0 k (omega arith) hk ∙ e0 ∙ ap (λ (q : ℕ). get_or W0 q 0) y0 in
      let x1 : get_or W5 (atom_p + k) 0 ≡ get_or W0 (atom_p + i) 0 =
      lower W4 W5 atom_cycle from to n h few m4 256 k (omega arith) hk ∙ lower W3 W4 atom_b from to n h few m3 256 k (omega arith) hk ∙ lower W2 W3 atom_a from to n h few m2 256 k (omega arith) hk ∙ e1 ∙ higher W0 W1 0 from to n h few m0 256 i (omega arith) hi in
      let x2 : get_or W5 (atom_a + k) 0 ≡ get_or W0 (atom_a + i) 0 =
      lower W4 W5 atom_cycle from to n h few m4 atom_a k (omega arith) hk ∙ lower W3 W4 atom_b from to n h few m3 atom_a k (omega arith) hk ∙ e2 ∙ higher W1 W2 256 from to n h few m1 atom_a i (omega arith) hi ∙ higher W0 W1 0 from to n h few m0 atom_a i (omega arith) hi in
      let x3 : get_or W5 (atom_b + k) 0 ≡ get_or W0 (atom_b + i) 0 =
      lower W4 W5 atom_cycle from to n h few m4 atom_b k (omega arith) hk ∙ e3 ∙ higher W2 W3 atom_a from to n h few m2 atom_b i (omega arith) hi ∙ higher W1 W2 256 from to n h few m1 atom_b i (omega arith) hi ∙ higher W0 W1 0 from to n h few m0 atom_b i (omega arith) hi in
      let x4 : get_or W5 (atom_cycle + k) 0 ≡ get_or W0 (atom_cycle + i) 0 =
      e4 ∙ higher W3 W4 atom_b from to n h few m3 atom_cycle i (omega arith) hi ∙ higher W2 W3 atom_a from to n h few m2 atom_cycle i (omega arith) hi ∙ higher W1 W2 256 from to n h few m1 atom_cycle i (omega arith) hi ∙ higher W0 W1 0 from to n h few m0 atom_cycle i (omega arith) hi in
      λ t. record { id = x0 t; p = x1 t; a = x2 t; b = x3 t; cycle = x4 t }

  pub columns_moved : AtomsMoved W0 from to n W5
  columns_moved = record {
    long = m4.long ∙ m3.long ∙ m2.long ∙ m1.long ∙ m0.long;
    below = λ k p. all_columns k k (omega arith) (omega arith) (low W0 W1 0 from to n h few m0 k p) (low W1 W2 256 from to n h few m1 k p) (low W2 W3 atom_a from to n h few m2 k p) (low W3 W4 atom_b from to n h few m3 k p) (low W4 W5 atom_cycle from to n h few m4 k p);
    here = λ k p. all_columns (to + k) (from + k) (omega arith) (omega arith) (middle W0 W1 0 from to n h few m0 k p) (middle W1 W2 256 from to n h few m1 k p) (middle W2 W3 atom_a from to n h few m2 k p) (middle W3 W4 atom_b from to n h few m3 k p) (middle W4 W5 atom_cycle from to n h few m4 k p);
    above = λ k p q. all_columns k k q q (high W0 W1 0 from to n h few m0 k p) (high W1 W2 256 from to n h few m1 k p) (high W2 W3 atom_a from to n h few m2 k p) (high W3 W4 atom_b from to n h few m3 k p) (high W4 W5 atom_cycle from to n h few m4 k p);
    behind = m4.behind plans_at (omega arith) ∙ m3.behind plans_at (omega arith) ∙ m2.behind plans_at (omega arith) ∙ m1.behind plans_at (omega arith) ∙ m0.behind plans_at (omega arith);
  }

-- a list by its places, in two parts
tabulate_two : {A : Type 0} (f : ℕ → A) (i m : ℕ) → tabulate (i + m) f ≡ tabulate i f ++ tabulate m (λ (k : ℕ). f (i + k))
tabulate_two f i zero = let z : i + 0 ≡ i = omega arith in ap (λ (q : ℕ). tabulate q f) z ∙ sym (append-nil (tabulate i f))
tabulate_two f i (suc m) = let z : i + suc m ≡ suc (i + m) = omega arith in ap (λ (q : ℕ). tabulate q f) z ∙ ap (λ (l : List _). l ++ (f (i + m) ∷ [])) (tabulate_two f i m) ∙ append_assoc (tabulate i f) (tabulate m (λ (k : ℕ). f (i + k))) (f (i + m) ∷ [])

-- a run whose marks are true is kept whole
keep_run : {A : Type 0} (ms : List Bool) (f : ℕ → A) (i m : ℕ) → i + m ≤ length ms → ((k : ℕ) → i ≤ k → k < i + m → get_or ms k false ≡ true) → keep_by ms (tabulate (i + m) f) ≡ keep_by ms (tabulate i f) ++ tabulate m (λ (k : ℕ). f (i + k))
keep_run ms f i zero h t = let z : i + 0 ≡ i = omega arith in ap (λ (q : ℕ). keep_by ms (tabulate q f)) z ∙ sym (append-nil (keep_by ms (tabulate i f)))
keep_run ms f i (suc m) h t =
    let z : i + suc m ≡ i + m + 1 = omega arith in
    ap (λ (q : ℕ). keep_by ms (tabulate q f)) z
    ∙ keep_by_more ms f (i + m) true (omega arith) (t (i + m) (omega arith) (omega arith))
    ∙ ap (λ (l : List _). l ++ (f (i + m) ∷ [])) (keep_run ms f i m (omega arith) (λ k p q. t k p (omega arith)))
    ∙ append_assoc (keep_by ms (tabulate i f)) (tabulate m (λ (k : ℕ). f (i + k))) (f (i + m) ∷ [])

run_true : (ms : List Bool) (i r : ℕ) → get_or ms i false ≡ true → ((k : ℕ) → i + 1 ≤ k → k < r → get_or ms k false ≡ true) → (k : ℕ) → i ≤ k → k < r → get_or ms k false ≡ true
run_true ms i r f t k p q = ⊎_elim (λ (z : k ≡ i). rw z f) (λ (ne : k ≢ i). t k (omega arith) q) (equal_or_not k i)

-- the first i atoms are compacted into the first j
pub record Compacted (ms : List Bool) (W X : List ℕ) (i j : ℕ) : Type 0 where
  pub long : length X ≡ length W
  pub count : j ≤ i
  pub front : atoms_of j X ≡ keep_by ms (atoms_of i W)
  pub rest : (k : ℕ) → i ≤ k → k < 256 → atom_at X k ≡ atom_at W k
  pub behind : drop plans_at X ≡ drop plans_at W

module _ (ms : List Bool) (W : List ℕ) where
  -- the first run stands where it stood
  pub compacted_first : (r : ℕ) → r ≤ length ms → ((k : ℕ) → 0 ≤ k → k < r → get_or ms k false ≡ true) → Compacted ms W W r r
  compacted_first r h t = record {
    long = refl;
    count = omega arith;
    front =
        let z : 0 + r ≡ r = omega arith in
        sym (ap (λ (q : ℕ). keep_by ms (tabulate q (atom_at W))) (sym z) ∙ keep_run ms (atom_at W) 0 r (omega arith) (λ k p q. t k p (omega arith))
        ∙ ap (λ (l : List Atom). l ++ tabulate r (λ (k : ℕ). atom_at W (0 + k))) (keep_by_nil ms)
        ∙ tabulate_same r (λ (k : ℕ). atom_at W (0 + k)) (atom_at W) (λ k p. let e : 0 + k ≡ k = omega arith in ap (atom_at W) e));
    rest = λ k p q. refl;
    behind = refl;
  }

  pub compacted_gone : (X : List ℕ) (i j : ℕ) → i < length ms → get_or ms i false ≡ false → Compacted ms W X i j → Compacted ms W X (i + 1) j
  compacted_gone X i j h t c = let g = c.count in record {
    long = c.long;
    count = omega arith;
    front = c.front ∙ sym (keep_by_more ms (atom_at W) i false h t ∙ append-nil (keep_by ms (tabulate i (atom_at W))));
    rest = λ k p q. c.rest k (omega arith) q;
    behind = c.behind;
  }

  pub compacted_run : (X Y : List ℕ) (i j r : ℕ) → i < r → r ≤ length ms → r ≤ 256 → get_or ms i false ≡ true → ((k : ℕ) → i + 1 ≤ k → k < r → get_or ms k false ≡ true) →
      Compacted ms W X i j → AtomsMoved X i j (r - i) Y → Compacted ms W Y r (j + (r - i))
  compacted_run X Y i j r low h few t ts c a = let g = c.count in let m : ℕ = r - i in let e : i + (r - i) ≡ r = omega arith in record {
    long = a.long ∙ c.long;
    count = omega arith;
    front =
        tabulate_two (atom_at Y) j m
        ∙ ap (λ (l : List Atom). l ++ tabulate m (λ (k : ℕ). atom_at Y (j + k))) (tabulate_same j (atom_at Y) (atom_at X) (λ k p. a.below k p) ∙ c.front)
        ∙ ap (λ (l : List Atom). keep_by ms (tabulate i (atom_at W)) ++ l) (tabulate_same m (λ (k : ℕ). atom_at Y (j + k)) (λ (k : ℕ). atom_at W (i + k)) (λ k p. a.here k p ∙ c.rest (i + k) (omega arith) (omega arith)))
        ∙ sym (ap (λ (q : ℕ). keep_by ms (tabulate q (atom_at W))) (sym e) ∙ keep_run ms (atom_at W) i m (omega arith) (λ k p q. run_true ms i r t ts k p (omega arith)));
    rest = λ k p q. a.above k (omega arith) q ∙ c.rest k (omega arith) q;
    behind = a.behind ∙ c.behind;
  }

pub five_moved : (W0 W1 W2 W3 W4 W5 : List ℕ) (from to n : ℕ) → to ≤ from → from + n ≤ 256 → Moved W0 from to n W1 → Moved W1 (atom_p + from) (atom_p + to) n W2 → Moved W2 (atom_a + from) (atom_a + to) n W3 → Moved W3 (atom_b + from) (atom_b + to) n W4 → Moved W4 (atom_cycle + from) (atom_cycle + to) n W5 → AtomsMoved W0 from to n W5
five_moved W0 W1 W2 W3 W4 W5 from to n h few m0 m1 m2 m3 m4 =
    let y : from ≡ 0 + from = omega arith in
    let z : to ≡ 0 + to = omega arith in
    columns_moved W0 W1 W2 W3 W4 W5 from to n h few (subst (λ (q : ℕ). Moved W0 (0 + from) q n W1) z (subst (λ (q : ℕ). Moved W0 q to n W1) y m0)) m1 m2 m3 m4

-- what `keep_atoms` rests on
pub ruleset compacting = (compacted_first, compacted_gone, compacted_run, plans_stand)
