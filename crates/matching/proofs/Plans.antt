-- The test for an equal plan: ids put into rising order, lists compared place by place, the values of a body's variables.
use mathlib.Core.Path.{◌≡◌, refl, sym, ap, ◌∙◌}
use mathlib.Core.Bool.{Bool, true, false, ◌&&◌, and_assoc, false≢true}
use mathlib.Core.Logic.{◌≢◌, ⊎_elim}
use mathlib.Core.List.{List, [], ◌∷◌, ◌++◌}
use Prim.Native.Nat.{ℕ, zero, suc, ◌+◌, ◌-◌, ◌≤◌, ◌<◌}
use native.Mathlib.Numerals.{add-one}
use native.Mathlib.Omega.{arith}
use lib.Dec.{eqb, ltb}
use lib.ListN.{length, take, drop, get_or, set, length-set, drop_of_length-le, take-append-drop, get_or-eq_default}
use lib.Seq.{take-take, take-set-lt, drop-set-lt, take-suc, get_or-take, get_or-set_other, length-take-le, ext_get_or}
use borrow.Author.Tests.{eq-eqb, ne_eqb, lt-ltb, le-ltb, ltb-true, ltb-false}
use Rattle.lists.specs.Lists.{In, Pairs, first, insert, rising_set, same, some}
use Rattle.lists.specs.Tables.{tabulate, trimmed}
use Rattle.lists.proofs.Lists.{test}
use Rattle.lists.proofs.Tests.{and2, same_equal}
use Rattle.lists.proofs.Tables.{tabulate_length, tabulate_from, get_within}
use Rattle.lists.proofs.Bind.{append_assoc}
use Rattle.lists.proofs.Cuts.{drop_next, within_in, within_below, within_above}
use Rattle.lists.proofs.RisingSet.{rising_set_rises}
use Rattle.lists.proofs.Search.{trimmed_front}
use Rattle.model.specs.declared.Row.{Row}
use Rattle.model.specs.Configuration.{Plan, no_value}
use Rattle.model.specs.Matching.{Found, body_value, body_values, justifications_of, equal_plan}
use Rattle.program.specs.Rows.{row_at}
use Rattle.program.proofs.Words.{rows_next, rows_none}
use Rattle.queries.proofs.Laws.{one_more}
use Rattle.matching.specs.declared.Ids.{Ids}
use Rattle.matching.specs.Rules.{rows_between, ids_of, Padded, agrees_in}

-- the least number goes first
insert_least : (x : ℕ) (l : List ℕ) → Pairs (λ (x y : ℕ). x < y) (x ∷ l) → insert x l ≡ x ∷ l
unfolding insert
insert_least x [] h = refl
insert_least x (y ∷ l) h = rw (lt-ltb x y (h.0 y (first refl)))

-- An insertion half done: the first j places are done, and what is carried goes into the rest, which is as it was.
pub record Inserting (n : ℕ) (l : List ℕ) (count : ℕ) (ids : List ℕ) (carried j : ℕ) : Type 0 where
  pub long : length ids ≡ 4
  pub few : count < 4
  pub within : j ≤ count
  pub is : insert n l ≡ take j ids ++ insert carried (drop j (take count ids))
  pub rises : Pairs (λ (x y : ℕ). x < y) (drop j (take count ids))
  pub zeros : (k : ℕ) → count ≤ k → get_or ids k 0 ≡ 0

module _ (n : ℕ) (l : List ℕ) (count : ℕ) (ids : List ℕ) (carried j : ℕ) (s : Inserting n l count ids carried j) where
  front_long : length (take count ids) ≡ count
  front_long = let a = s.long in let b = s.few in length-take-le count ids (omega arith)

  -- the next of the rest
  next_is : j < count → drop j (take count ids) ≡ get_or ids j 0 ∷ drop (j + 1) (take count ids)
  next_is h = let e = front_long in drop_next 0 (take count ids) j (omega arith) ∙ ap (λ (x : ℕ). x ∷ drop (j + 1) (take count ids)) (get_or-take count ids j 0 h)

  -- it is there already
  pub there : j < count → carried ≡ get_or ids j 0 → take count ids ≡ insert n l
  unfolding insert
  there h e =
      let w = s.within in
      sym (s.is
      ∙ ap (λ (k : List ℕ). take j ids ++ insert carried k) (next_is h)
      ∙ ap (λ (k : List ℕ). take j ids ++ k) (rw (le-ltb carried (get_or ids j 0) (omega arith), eq-eqb carried (get_or ids j 0) e) (sym (next_is h)))
      ∙ ap (λ (k : List ℕ). k ++ drop j (take count ids)) (sym (take-take j count ids w))
      ∙ take-append-drop j (take count ids))

  tail_rises : j < count → Pairs (λ (x y : ℕ). x < y) (get_or ids j 0 ∷ drop (j + 1) (take count ids))
  tail_rises h = rw (next_is h) at s.rises

  -- it goes behind the next
  pub passed : j < count → get_or ids j 0 < carried → Inserting n l count ids carried (j + 1)
  unfolding insert
  passed h e =
      let a = s.long in
      let b = s.few in
      record {
        long = a;
        few = b;
        within = omega arith;
        is = s.is
            ∙ ap (λ (k : List ℕ). take j ids ++ insert carried k) (next_is h)
            ∙ rw (le-ltb carried (get_or ids j 0) (omega arith), ne_eqb carried (get_or ids j 0) (λ q. omega arith), add-one j, take-suc ids j 0 (omega arith)) (sym (append_assoc (take j ids) (get_or ids j 0 ∷ []) (insert carried (drop (suc j) (take count ids)))));
        rises = (tail_rises h).1;
        zeros = s.zeros;
      }

  -- it takes the place of the next, which is carried on
  pub moved : j < count → carried < get_or ids j 0 → Inserting n l count (set ids j carried) (get_or ids j 0) (j + 1)
  unfolding insert
  moved h e =
      let a = s.long in
      let b = s.few in
      let x = get_or ids j 0 in
      let rest = drop (j + 1) (take count ids) in
      let kept : drop (j + 1) (take count (set ids j carried)) ≡ rest = rw (take-set-lt count ids j carried h, drop-set-lt (j + 1) (take count ids) j carried (omega arith)) in
      record {
        long = length-set ids j carried ∙ a;
        few = b;
        within = omega arith;
        is = s.is
            ∙ ap (λ (k : List ℕ). take j ids ++ insert carried k) (next_is h)
            ∙ rw (lt-ltb carried x e, kept, one_more ids j carried (omega arith))
            (ap (λ (k : List ℕ). take j ids ++ (carried ∷ k)) (sym (insert_least x rest (tail_rises h)))
            ∙ sym (append_assoc (take j ids) (carried ∷ []) (insert x rest)));
        rises = rw kept (tail_rises h).1;
        zeros = λ k g. get_or-set_other ids j k carried 0 (λ q. omega arith) ∙ s.zeros k g;
      }

  -- it goes last
  pub at_end : count ≤ j → take (count + 1) (set ids count carried) ≡ insert n l
  unfolding insert
  at_end h =
      let a = s.long in
      let b = s.few in
      let w = s.within in
      let e : j ≡ count = omega arith in
      one_more ids count carried (omega arith)
      ∙ sym (s.is ∙ rw (e, drop_of_length-le (take count ids) {i = count} (let z = front_long in omega arith)))

-- ids from the last matched to the first: a rising set of those from j on
pub record Sorted (matched : List ℕ) (count : ℕ) (l : Ids) (j : ℕ) : Type 0 where
  pub within : j ≤ count
  pub few : l.count + j ≤ count
  pub is : ids_of l ≡ rising_set (drop j (take count matched))
  pub padded : Padded l

four_zeros : (k : ℕ) → ◌≡◌ {A = ℕ} (get_or (0 ∷ 0 ∷ 0 ∷ 0 ∷ []) k 0) 0
four_zeros zero = refl
four_zeros (suc zero) = refl
four_zeros (suc (suc zero)) = refl
four_zeros (suc (suc (suc zero))) = refl
four_zeros (suc (suc (suc (suc k)))) = refl

pub sorted_none : (matched : List ℕ) (count : ℕ) → count ≤ length matched → Sorted matched count (record { ids = 0 ∷ 0 ∷ 0 ∷ 0 ∷ []; count = 0 }) count
unfolding rising_set
sorted_none matched count h =
    let z : length (take count matched) ≡ count = length-take-le count matched h in
    record {
      within = omega arith;
      few = omega arith;
      is = rw (drop_of_length-le (take count matched) {i = count} (omega arith));
      padded = λ k g. four_zeros k;
    }

pub sorted_rises : {matched : List ℕ} {count : ℕ} {l : Ids} {j : ℕ} → Sorted matched count l j → Pairs (λ (x y : ℕ). x < y) (ids_of l)
sorted_rises {matched} {count} {l} {j} s = rw s.is (rising_set_rises (drop j (take count matched)))

pub sorted_next : {matched : List ℕ} {count : ℕ} {l : Ids} {j : ℕ} (r : Ids) → count ≤ length matched → 0 < j → Sorted matched count l j →
    ids_of r ≡ insert (get_or matched (j - 1) 0) (ids_of l) → r.count ≤ l.count + 1 → Padded r → Sorted matched count r (j - 1)
unfolding rising_set
sorted_next {matched} {count} {l} {j} r h g s e f p =
    let w = s.within in
    let v = s.few in
    let z : length (take count matched) ≡ count = length-take-le count matched h in
    let one : j - 1 + 1 ≡ j = omega arith in
    record {
      within = omega arith;
      few = omega arith;
      is = e ∙ ap (insert (get_or matched (j - 1) 0)) s.is
          ∙ sym (ap rising_set (drop_next 0 (take count matched) (j - 1) (omega arith)) ∙ rw (one, get_or-take count matched (j - 1) 0 (omega arith)));
      padded = p;
    }

-- lists compared place by place
pub same_longer : (l m : List ℕ) → length l ≢ length m → false ≡ same l m
unfolding same
same_longer [] [] h = absurd (h refl)
same_longer [] (y ∷ m) h = refl
same_longer (x ∷ l) [] h = refl
same_longer (x ∷ l) (y ∷ m) h = at (eqb x y) (same_longer l m (λ e. h (ap suc e)))
  where
    at : (b : Bool) → false ≡ same l m → false ≡ (b && same l m)
    at true e = e
    at false e = refl

module _ (l m : List ℕ) (j : ℕ) where
  pub same_end : length l ≤ j → length m ≤ j → true ≡ same (drop j l) (drop j m)
  unfolding same
  same_end h k = rw (drop_of_length-le l {i = j} h, drop_of_length-le m {i = j} k)

  module _ (h : j < length l) (k : j < length m) where
    pub same_next : get_or l j 0 ≡ get_or m j 0 → same (drop j l) (drop j m) ≡ same (drop (j + 1) l) (drop (j + 1) m)
    unfolding same
    same_next e = rw (drop_next 0 l j h, drop_next 0 m j k, eq-eqb (get_or l j 0) (get_or m j 0) e)

    pub same_not : get_or l j 0 ≢ get_or m j 0 → same (drop j l) (drop j m) ≡ false
    unfolding same
    same_not e = rw (drop_next 0 l j h, drop_next 0 m j k, ne_eqb (get_or l j 0) (get_or m j 0) e)

-- the values of the variables in a body, row by row
module _ (program : List ℕ) (v w : List ℕ) (j to : ℕ) where
  pub body_end : to ≤ j → same (body_values (rows_between program j to) v) (body_values (rows_between program j to) w) ≡ true
  unfolding same body_values rows_between
  body_end h = rw (rows_none program j to h)

  module _ (h : j < to) (r : Row) (e : r ≡ row_at program j) (b : Bool)
      (is : b ≡ (eqb (body_value v r.i) (body_value w r.i) && (eqb (body_value v r.a) (body_value w r.a) && eqb (body_value v r.b) (body_value w r.b)))) where
    row_split : same (body_values (rows_between program j to) v) (body_values (rows_between program j to) w)
        ≡ (b && same (body_values (rows_between program (j + 1) to) v) (body_values (rows_between program (j + 1) to) w))
    unfolding same body_values rows_between
    row_split =
        ap (λ (l : List Row). same (body_values l v) (body_values l w)) (rows_next program j to h ∙ ap (λ (x : Row). x ∷ rows_between program (j + 1) to) (sym e))
        ∙ rw is (simp and_assoc)

    pub body_next : b ≡ true → same (body_values (rows_between program j to) v) (body_values (rows_between program j to) w) ≡ same (body_values (rows_between program (j + 1) to) v) (body_values (rows_between program (j + 1) to) w)
    body_next t = row_split ∙ rw t

    pub body_not : b ≡ false → same (body_values (rows_between program j to) v) (body_values (rows_between program j to) w) ≡ false
    body_not t = row_split ∙ rw t

-- a test of the live plans, from plan k on
module _ (f : Plan → Bool) (n : ℕ) (plan : ℕ → Plan) (k : ℕ) where
  pub some_here : k < n → f (plan k) ≡ true → some f (drop k (tabulate n plan)) ≡ true
  unfolding some
  some_here h e = rw (tabulate_from n plan k h, e)

  pub some_next : k < n → f (plan k) ≡ false → some f (drop k (tabulate n plan)) ≡ some f (drop (k + 1) (tabulate n plan))
  unfolding some
  some_next h e = rw (tabulate_from n plan k h, e)

  pub some_end : n ≤ k → some f (drop k (tabulate n plan)) ≡ false
  unfolding some
  some_end h = let e = tabulate_length n plan in rw (drop_of_length-le (tabulate n plan) {i = k} (omega arith))

pub ruleset some_plans = (some_here, some_next, some_end)

-- an operand is a variable or none, and a variable has a place
pub ruleset operand_places = (get_within, within_in, within_below, within_above)

-- ids that are not 0 are as a plan holds them
pub ids_trimmed : (l : Ids) → Padded l → ((x : ℕ) → In x (ids_of l) → x ≢ 0) → trimmed l.ids ≡ ids_of l
ids_trimmed l p f = trimmed_front l.ids l.count p f

-- ids that are the same list stand in the same words
module _ (l : Ids) (js : List ℕ) (long : length l.ids ≡ 4) (few : l.count ≤ 4) (p : Padded l) where
  word_of : js ≡ ids_of l → (j : ℕ) → get_or js j 0 ≡ get_or l.ids j 0
  word_of e j = ap (λ (m : List ℕ). get_or m j 0) e ∙ ⊎_elim
      (λ t. get_or-take l.count l.ids j 0 (ltb-true j l.count t))
      (λ t.
      let h = ltb-false j l.count t in
      let z : length (ids_of l) ≡ l.count = length-take-le l.count l.ids (omega arith) in
      get_or-eq_default (ids_of l) 0 {n = j} (omega arith) ∙ sym (p j h))
      (test (ltb j l.count))

  agrees_same : same js (ids_of l) ≡ true → agrees_in js l.ids ≡ true
  agrees_same t =
      let e = same_equal js (ids_of l) t in
      let w : (j : ℕ) → eqb (get_or js j 0) (get_or l.ids j 0) ≡ true = λ j. eq-eqb (get_or js j 0) (get_or l.ids j 0) (word_of e j) in
      and2 (and2 (w 0) (w 1)) (and2 (w 2) (w 3))

  pub not_same : agrees_in js l.ids ≡ false → same js (ids_of l) ≡ false
  not_same e = ⊎_elim (λ t. absurd (false≢true (sym e ∙ agrees_same t))) (λ t. t) (test (same js (ids_of l)))

-- a plan with other justifications is not equal
pub other_justified : (P : List Row) (s n : ℕ) (f : Found) (q : Plan) → same q.justifications (justifications_of f) ≡ false → equal_plan P s n f q ≡ false
unfolding equal_plan
other_justified P s n f q e = rw e (at (eqb q.set s) (eqb q.rule n))
  where
    at : (a b : Bool) → (a && (b && false)) ≡ false
    at true true = refl
    at true false = refl
    at false b = refl

-- eight values that are the same one by one
pub agreed_values : (v w : List ℕ) → length v ≡ 8 → length w ≡ 8 → ((i : ℕ) → i < 8 → get_or v i no_value ≡ get_or w i 0) → v ≡ w
agreed_values v w long short e = ext_get_or 0 v w (long ∙ sym short) (λ i h. get_within v i 0 no_value h ∙ e i (omega (arith, h)))
