-- Laws of records in a list of numbers.
use mathlib.Core.Path.{◌≡◌, refl, ap, sym, ◌∙◌}
use mathlib.Core.List.{List, [], ◌∷◌, ◌++◌, append_assoc}
use mathlib.Core.Logic.{⊎_elim, ◌≢◌}
use Prim.Native.Nat.{ℕ, suc, ◌+◌, ◌-◌, ◌*◌, ◌<◌, ◌≤◌}
use native.Mathlib.Nat.{mul-le-mul_right, suc-mul, add-zero}
use native.Mathlib.Numerals.{add-one}
use native.Mathlib.Omega.{arith}
use lib.ListN.{length, take, drop, get_or, set, take-append-drop, length-drop, length-map, get_or-map}
use lib.Seq.{take-take, drop-set-add, take-set-lt, take-set-le, drop-set-lt, length-paste, take_at, drop_at, drop-append-add, take-append-le, drop-append-le, get_or-take, get_or-drop, take-add, drop-drop, length-take-le, take_all, length_paste_head}
use Rattle.lists.specs.Lists.{Pairs}
use Rattle.lists.specs.Tables.{index_of}
use Rattle.lists.proofs.Tables.{equal_or_not, less_or_more, pairs_get, tabulate_length, tabulate_at, tabulate_append, index_is}
use Rattle.table.specs.Rows.{row, rows, placed, key, keys}

-- the records before k end where k starts, at the latest
pub below : (i k w : ℕ) → i < k → i * w + w ≤ k * w
below i k w h =
    let e : suc i * w ≤ k * w = mul-le-mul_right w (omega arith) in
    let s : suc i * w ≡ i * w + w = suc-mul i w in
    omega arith

-- a number of a record
pub row_at : (w : ℕ) (l : List ℕ) (k j : ℕ) → j < w → get_or (row w l k) j 0 ≡ get_or l (k * w + j) 0
unfolding row
row_at w l k j h = get_or-take w (drop (k * w) l) j 0 h ∙ get_or-drop (k * w) l j 0

pub row_long : (w : ℕ) (l : List ℕ) (k : ℕ) → k * w + w ≤ length l → length (row w l k) ≡ w
unfolding row
row_long w l k h = length-take-le w (drop (k * w) l) (simp length-drop (omega arith))

-- a record of the front of a list
pub row_front : (w : ℕ) (A X : List ℕ) (i : ℕ) → i * w + w ≤ length A → row w (A ++ X) i ≡ row w A i
unfolding row
row_front w A X i h =
    let d : length (drop (i * w) A) ≡ length A - i * w = length-drop (i * w) A in
    let h1 : i * w ≤ length A = omega arith in
    let h2 : w ≤ length (drop (i * w) A) = omega arith in
    rw (drop-append-le, take-append-le)

-- a record past the front of a list
row_past : (w : ℕ) (A l : List ℕ) (n i : ℕ) → length A ≡ n → n ≤ i * w → row w (A ++ drop n l) i ≡ row w l i
unfolding row
row_past w A l n i e h =
    let q : length A + (i * w - n) ≡ i * w = omega arith in
    let q2 : n + (i * w - n) ≡ i * w = omega arith in
    rw (← q, drop-append-add A (drop n l) (i * w - n), drop-drop (i * w - n) n l, q2, q)

-- a record in its own place
pub placed_self : (w : ℕ) (l : List ℕ) (k : ℕ) → l ≡ placed w l k (row w l k)
unfolding placed row
placed_self w l k =
    let h : w ≤ w = omega arith in
    rw (take-take w w (drop (k * w) l) h, ← take-add (k * w) w l) (sym (take-append-drop (k * w + w) l))

-- a record in the place k
module _ (w : ℕ) (l : List ℕ) (k : ℕ) (r : List ℕ) (lr : length r ≡ w) (fits : k * w + w ≤ length l) where
  pub placed_long : length (placed w l k r) ≡ length l
  unfolding placed
  placed_long = length-paste l (k * w) r w fits (omega arith)

  head_long : length (take (k * w) l ++ take w r) ≡ k * w + w
  head_long = length_paste_head l (k * w) r w (omega arith) (omega arith)

  pub placed_same : row w (placed w l k r) k ≡ r
  unfolding row placed
  placed_same =
      let a : length (take (k * w) l) ≡ k * w = length-take-le (k * w) l (omega arith) in
      let b : take w r ≡ r = take_all w r (omega arith) in
      rw (append_assoc, drop_at (take (k * w) l) (take w r ++ drop (k * w + w) l) (k * w) a, b) (take_at r (drop (k * w + w) l) w lr)

  pub placed_before : (i : ℕ) → i < k → row w (placed w l k r) i ≡ row w l i
  unfolding placed
  placed_before i h =
      let a : length (take (k * w) l) ≡ k * w = length-take-le (k * w) l (omega arith) in
      let b : i * w + w ≤ k * w = below i k w h in
      rw append_assoc
      (row_front w (take (k * w) l) (take w r ++ drop (k * w + w) l) i (omega arith)
      ∙ sym (row_front w (take (k * w) l) (drop (k * w) l) i (omega arith))
      ∙ ap (λ (x : List ℕ). row w x i) (take-append-drop (k * w) l))

  pub placed_after : (i : ℕ) → k < i → row w (placed w l k r) i ≡ row w l i
  unfolding placed
  placed_after i h =
      let b : k * w + w ≤ i * w = below k i w h in
      row_past w (take (k * w) l ++ take w r) l (k * w + w) i head_long b

  -- the words behind it
  pub placed_behind : (a : ℕ) → k * w + w ≤ a → drop a (placed w l k r) ≡ drop a l
  unfolding placed
  placed_behind a h =
      let z = head_long in
      let q : length (take (k * w) l ++ take w r) + (a - (k * w + w)) ≡ a = omega arith in
      let q2 : k * w + w + (a - (k * w + w)) ≡ a = omega arith in
      rw (← q, drop-append-add (take (k * w) l ++ take w r) (drop (k * w + w) l) (a - (k * w + w)), drop-drop (a - (k * w + w)) (k * w + w) l, q2, q)

  -- the records and one more
  pub rows_append : rows w (k + 1) (placed w l k r) ≡ rows w k l ++ (r ∷ [])
  rows_append = tabulate_append k (row w l) (row w (placed w l k r)) r placed_before placed_same

-- one number of a record changed
pub row_set_same : (w : ℕ) (l : List ℕ) (k e v : ℕ) → e < w → row w (set l (k * w + e) v) k ≡ set (row w l k) e v
unfolding row
row_set_same w l k e v h = rw (drop-set-add (k * w) l e v) (take-set-lt w (drop (k * w) l) e v h)

-- a number behind a record, before a record
pub row_set_behind : (w : ℕ) (l : List ℕ) (i x v : ℕ) → i * w + w ≤ x → row w (set l x v) i ≡ row w l i
unfolding row
row_set_behind w l i x v h =
    let q : x ≡ i * w + (x - i * w) = omega arith in
    let g : w ≤ x - i * w = omega arith in
    rw (q, drop-set-add (i * w) l (x - i * w) v) (take-set-le w (drop (i * w) l) (x - i * w) v g)

row_set_before : (w : ℕ) (l : List ℕ) (i x v : ℕ) → x < i * w → row w (set l x v) i ≡ row w l i
unfolding row
row_set_before w l i x v h = rw (drop-set-lt (i * w) l x v h)

pub row_set_other : (w : ℕ) (l : List ℕ) (k e v i : ℕ) → e < w → i ≢ k → row w (set l (k * w + e) v) i ≡ row w l i
row_set_other w l k e v i h ne = ⊎_elim
    (λ (p : i < k). let b = below i k w p in row_set_behind w l i (k * w + e) v (omega arith))
    (λ (p : k < i). let b = below k i w p in row_set_before w l i (k * w + e) v (omega arith))
    (less_or_more i k ne)

-- A compaction in place: the first j records are S i, what is kept of the first i; all behind these is as it was.
pub record Compacted (w : ℕ) (S : ℕ → List (List ℕ)) (l₀ l : List ℕ) (i j : ℕ) : Type 0 where
  pub count : j ≤ i
  pub long : length l ≡ length l₀
  pub front : rows w j l ≡ S i
  pub behind : drop (i * w) l ≡ drop (i * w) l₀

pub compacted_none : (w : ℕ) (S : ℕ → List (List ℕ)) (l : List ℕ) → S 0 ≡ [] → Compacted w S l l 0 0
compacted_none w S l e = record { count = omega arith; long = refl; front = sym e; behind = refl }

module _ (w : ℕ) (S : ℕ → List (List ℕ)) (l₀ l : List ℕ) (i j : ℕ) (s : Compacted w S l₀ l i j) where
  next : (i + 1) * w ≡ i * w + w
  next = rw (add-one i) (suc-mul i w)

  further : drop ((i + 1) * w) l ≡ drop ((i + 1) * w) l₀
  further = rw (next, ← drop-drop w (i * w) l, ← drop-drop w (i * w) l₀, s.behind)

  same_row : row w l i ≡ row w l₀ i
  unfolding row
  same_row = ap (take w) s.behind

  -- record i is kept: it goes to the place j
  pub compacted_kept : i * w + w ≤ length l₀ → S (i + 1) ≡ S i ++ (row w l₀ i ∷ []) → Compacted w S l₀ (placed w l j (row w l i)) (i + 1) (j + 1)
  compacted_kept fits e =
      let h : j * w ≤ i * w = mul-le-mul_right w s.count in
      let z = s.long in
      let n = next in
      let lr : length (row w l i) ≡ w = row_long w l i (omega arith) in
      let fj : j * w + w ≤ length l = omega arith in
      record {
        count = omega (arith, s.count);
        long = placed_long w l j (row w l i) lr fj ∙ z;
        front = rows_append w l j (row w l i) lr fj ∙ rw (s.front, same_row) (sym e);
        behind = placed_behind w l j (row w l i) lr fj ((i + 1) * w) (omega arith) ∙ further;
      }

  -- it is not
  pub compacted_left_out : S (i + 1) ≡ S i → Compacted w S l₀ l (i + 1) j
  compacted_left_out e = record { count = omega (arith, s.count); long = s.long; front = s.front ∙ sym e; behind = further }

-- a search by the first number
pub key_row : (w : ℕ) (l : List ℕ) (k : ℕ) → 0 < w → key (row w l k) ≡ get_or l (k * w) 0
key_row w l k h = row_at w l k 0 h ∙ ap (λ (x : ℕ). get_or l x 0) (add-zero (k * w))

module _ (w n : ℕ) (l : List ℕ) (hw : 0 < w) where
  pub keys_length : length (keys w n l) ≡ n
  keys_length = length-map (rows w n l) key ∙ tabulate_length n (row w l)

  pub keys_at : (k : ℕ) → k < n → get_or (keys w n l) k 0 ≡ get_or l (k * w) 0
  keys_at k h = get_or-map key (rows w n l) k [] ∙ ap key (tabulate_at n (row w l) k [] h) ∙ key_row w l k hw

  -- record i has the id, and no record before it
  pub found_at : (id i : ℕ) → ((k : ℕ) → k < i → get_or l (k * w) 0 < id) → i < n → get_or l (i * w) 0 ≡ id → i ≡ index_of id (keys w n l)
  found_at id i low h here =
      let z = keys_length in
      index_is id (keys w n l) i (omega arith)
      (λ (k : ℕ) (hk : k < i) (e : get_or (keys w n l) k 0 ≡ id). let y = low k hk in let q = keys_at k (omega arith) in omega arith)
      (λ (q : i < length (keys w n l)). keys_at i h ∙ here)

  -- no record has it
  pub missing : (id : ℕ) → ((k : ℕ) → k < n → get_or l (k * w) 0 ≡ id → ⊥) → index_of id (keys w n l) ≡ n
  missing id none =
      let z = keys_length in
      sym
      (index_is id (keys w n l) n (omega arith)
      (λ (k : ℕ) (hk : k < n) (e : get_or (keys w n l) k 0 ≡ id). none k hk (sym (keys_at k hk) ∙ e))
      (λ (q : n < length (keys w n l)). absurd (omega arith)))

  module _ (r : Pairs (λ x y. x < y) (keys w n l)) where
    rise : (i j : ℕ) → i < j → j < n → get_or l (i * w) 0 < get_or l (j * w) 0
    rise i j h k =
        let z = keys_length in
        let q = pairs_get (λ x y. x < y) (keys w n l) 0 i j r h (omega arith) in
        omega (arith, keys_at i (omega arith), keys_at j k)

    module _ (mid id : ℕ) (h : mid < n) where
      pub all_lower : get_or l (mid * w) 0 < id → (k : ℕ) → k < mid + 1 → get_or l (k * w) 0 < id
      all_lower lt k hk = ⊎_elim
          (λ (e : k ≡ mid). rw e lt)
          (λ (ne : k ≢ mid). let hh : k < mid = omega arith in let q = rise k mid hh h in omega arith)
          (equal_or_not k mid)

      pub all_higher : id ≤ get_or l (mid * w) 0 → (k : ℕ) → mid ≤ k → k < n → id ≤ get_or l (k * w) 0
      all_higher le k hk hn = ⊎_elim
          (λ (e : k ≡ mid). rw e le)
          (λ (ne : k ≢ mid). let hh : mid < k = omega arith in let q = rise mid k hh hn in omega arith)
          (equal_or_not k mid)

      -- not there: those before are less, this one differs, those after are more
      pub nowhere : ((k : ℕ) → k < mid → get_or l (k * w) 0 < id) → id ≤ get_or l (mid * w) 0 → (get_or l (mid * w) 0 ≡ id → ⊥) → (k : ℕ) → k < n → get_or l (k * w) 0 ≡ id → ⊥
      nowhere low le ne k hn e = ⊎_elim
          (λ (q : k ≡ mid). ne (ap (λ (x : ℕ). get_or l (x * w) 0) (sym q) ∙ e))
          (λ (q : k ≢ mid). ⊎_elim (λ (p : k < mid). let y = low k p in omega arith) (λ (p : mid < k). let y = rise mid k p hn in omega arith) (less_or_more k mid q))
          (equal_or_not k mid)
