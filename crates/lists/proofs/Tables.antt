-- Laws of lists given by their places, of marks, and of where a number stands.
use Rattle.std.specs.Prelude.{if◌then◌else◌}
use mathlib.Core.Path.{◌≡◌, refl, ap, sym, ◌∙◌}
use mathlib.Core.Bool.{Bool, true, false}
use mathlib.Core.List.{List, [], ◌∷◌, ◌++◌, map}
use mathlib.Core.Logic.{◌⊎◌, ⊎_elim, inl, inr, ◌≢◌}
use Prim.Native.Nat.{ℕ, zero, suc, ◌+◌, ◌<◌, ◌≤◌}
use native.Mathlib.Numerals.{add-one}
use native.Mathlib.Omega.{arith}
use lib.Dec.{eqb, ltb}
use lib.ListN.{length, get_or, drop, set, length-set, length-append, get_or-append}
use lib.Seq.{get_or-set_same, get_or-set_other, ext_get_or, get_or_at, drop-cons, drop-length}
use borrow.Author.Tests.{eq-eqb, ne_eqb, eqb-true, eqb-false, ltb-true, ltb-false}
use Rattle.lists.specs.Lists.{put, keep, In, first, later, Pairs, member}
use Rattle.lists.specs.Tables.{tabulate, keep_by, index_of, trim_cons, trimmed}
use Rattle.lists.proofs.Lists.{test, map_append, in_cast, out_member, in_member}
use Rattle.lists.proofs.Bind.{put_append}
use Rattle.lists.proofs.Splits.{keep_snoc}

pub equal_or_not : (i k : ℕ) → (i ≡ k) ⊎ (i ≢ k)
equal_or_not i k = ⊎_elim (λ e. inl (eqb-true i k e)) (λ e. inr (eqb-false i k e)) (test (eqb i k))

pub less_or_more : (i k : ℕ) → i ≢ k → (i < k) ⊎ (k < i)
less_or_more zero zero h = absurd (h refl)
less_or_more zero (suc k) h = inl (omega arith)
less_or_more (suc i) zero h = inr (omega arith)
less_or_more (suc i) (suc k) h = ⊎_elim (λ (p : i < k). inl (omega arith)) (λ (p : k < i). inr (omega arith)) (less_or_more i k (λ (e : i ≡ k). h (ap suc e)))

-- an element by its place
module _ {A : Type 0} where
  pub get_in : (l : List A) (j : ℕ) (d : A) → j < length l → In (get_or l j d) l
  get_in [] j d h = absurd (omega arith)
  get_in (x ∷ l) zero d h = first refl
  get_in (x ∷ l) (suc j) d h = later (get_in l j d (omega arith))

  -- what is read past the end does not matter within
  pub get_within : (l : List A) (j : ℕ) (d e : A) → j < length l → get_or l j d ≡ get_or l j e
  get_within [] j d e h = absurd (omega arith)
  get_within (x ∷ l) zero d e h = refl
  get_within (x ∷ l) (suc j) d e h = get_within l j d e (omega arith)

  pub in_get : {x : A} {l : List A} (d : A) → In x l → (k : ℕ) × (k < length l) × (get_or l k d ≡ x)
  in_get d (first e) = (0, omega arith, sym e)
  in_get d (later h) = let r = in_get d h in let p = r.1 in (suc r.0, omega arith, r.2)

  pub pairs_get : (R : A → A → Type 0) (l : List A) (d : A) (i j : ℕ) → Pairs R l → i < j → j < length l → R (get_or l i d) (get_or l j d)
  pairs_get R [] d i j p h k = absurd (omega arith)
  pairs_get R (x ∷ l) d i zero p h k = absurd (omega arith)
  pairs_get R (x ∷ l) d zero (suc j) p h k = p.0 (get_or l j d) (get_in l j d (omega arith))
  pairs_get R (x ∷ l) d (suc i) (suc j) p h k = pairs_get R l d i j p.1 (omega arith) (omega arith)

-- lists given by their places
module _ {A : Type 0} where
  pub tabulate_length : (n : ℕ) (f : ℕ → A) → length (tabulate n f) ≡ n
  tabulate_length zero f = refl
  tabulate_length (suc n) f = length-append (tabulate n f) (f n ∷ []) ∙ omega (arith, tabulate_length n f)

  -- two that agree below n
  pub tabulate_same : (n : ℕ) (f g : ℕ → A) → ((k : ℕ) → k < n → f k ≡ g k) → tabulate n f ≡ tabulate n g
  tabulate_same zero f g e = refl
  tabulate_same (suc n) f g e = rw (tabulate_same n f g (λ (k : ℕ) (h : k < n). e k (omega arith)), e n (omega arith))

  pub tabulate_at : (n : ℕ) (f : ℕ → A) (i : ℕ) (d : A) → i < n → get_or (tabulate n f) i d ≡ f i
  tabulate_at zero f i d h = absurd (omega arith)
  tabulate_at (suc n) f i d h = ⊎_elim
      (λ (p : i ≡ n). get_or_at (tabulate n f) (f n) [] d i (tabulate_length n f ∙ sym p) ∙ ap f (sym p))
      (λ (p : i ≢ n). let q : i < n = omega arith in get_or-append (tabulate n f) (f n ∷ []) d i (omega (arith, tabulate_length n f)) ∙ tabulate_at n f i d q)
      (equal_or_not i n)

  -- a list by its own places
  pub tabulate_get : (n : ℕ) (l : List A) (d : A) → length l ≡ n → tabulate n (λ (k : ℕ). get_or l k d) ≡ l
  tabulate_get n l d e =
      let z : length (tabulate n (λ (k : ℕ). get_or l k d)) ≡ n = tabulate_length n (λ (k : ℕ). get_or l k d) in
      ext_get_or d (tabulate n (λ (k : ℕ). get_or l k d)) l (z ∙ sym e) (λ k h. tabulate_at n (λ (k : ℕ). get_or l k d) k d (omega arith))

  -- what stood below n stands, and x stands at n
  pub tabulate_append : (n : ℕ) (f g : ℕ → A) (x : A) → ((k : ℕ) → k < n → g k ≡ f k) → g n ≡ x → tabulate (n + 1) g ≡ tabulate n f ++ (x ∷ [])
  tabulate_append n f g x e p = rw (add-one, tabulate_same n g f e, p)

  -- x stands at k, and all else as it stood
  pub tabulate_set : (n : ℕ) (f g : ℕ → A) (k : ℕ) (x : A) → k < n → ((i : ℕ) → i ≢ k → g i ≡ f i) → g k ≡ x → tabulate n g ≡ set (tabulate n f) k x
  tabulate_set n f g k x h e p =
      let lf : length (tabulate n f) ≡ n = tabulate_length n f in
      let lg : length (tabulate n g) ≡ n = tabulate_length n g in
      ext_get_or x (tabulate n g) (set (tabulate n f) k x) (lg ∙ sym (length-set (tabulate n f) k x ∙ lf))
      (λ (i : ℕ) (hi : i < length (tabulate n g)).
      let hn : i < n = omega arith in
      tabulate_at n g i x hn
      ∙ ⊎_elim
      (λ (q : i ≡ k). ap g q ∙ p ∙ sym (ap (λ (y : ℕ). get_or (set (tabulate n f) k x) y x) q ∙ get_or-set_same (tabulate n f) k x x (omega arith)))
      (λ (q : i ≢ k). e i q ∙ sym (get_or-set_other (tabulate n f) k i x x q ∙ tabulate_at n f i x hn))
      (equal_or_not i k))

  -- from the place k on: its element and what follows, or nothing
  pub tabulate_from : (n : ℕ) (f : ℕ → A) (k : ℕ) → k < n → drop k (tabulate n f) ≡ f k ∷ drop (k + 1) (tabulate n f)
  tabulate_from n f k h =
      let z : length (tabulate n f) ≡ n = tabulate_length n f in
      rw (add-one) (drop-cons (tabulate n f) k (f k) (omega arith) ∙ ap {B = List A} (λ y. y ∷ drop (suc k) (tabulate n f)) (tabulate_at n f k (f k) h))

  pub tabulate_end : (n : ℕ) (f : ℕ → A) → drop n (tabulate n f) ≡ []
  tabulate_end n f = ap (λ (k : ℕ). drop k (tabulate n f)) (sym (tabulate_length n f)) ∙ drop-length (tabulate n f)

-- where keys rise, two places have two keys
pub keys_differ : {A : Type 0} (key : A → ℕ) (n : ℕ) (f : ℕ → A) → Pairs (λ (x y : A). key x < key y) (tabulate n f) → (i k : ℕ) → i < n → k < n → i ≢ k → key (f i) ≢ key (f k)
keys_differ {A} key n f rise i k hi hk ne e = ⊎_elim (λ (h : i < k). let q = before i k h hk in omega arith) (λ (h : k < i). let q = before k i h hi in omega arith) (less_or_more i k ne)
  where
    before : (i j : ℕ) → i < j → j < n → key (f i) < key (f j)
    before i j h k =
        let z : length (tabulate n f) ≡ n = tabulate_length n f in
        let q = pairs_get (λ (x y : A). key x < key y) (tabulate n f) (f 0) i j rise h (omega arith) in
        rw (tabulate_at n f i (f 0) (omega arith), tabulate_at n f j (f 0) k) at q

-- a function of each element
pub tabulate_map : {A B : Type 0} (f : A → B) (n : ℕ) (g : ℕ → A) → tabulate n (λ (k : ℕ). f (g k)) ≡ map f (tabulate n g)
tabulate_map f zero g = refl
tabulate_map f (suc n) g = rw (map_append f (tabulate n g) (g n ∷ []), tabulate_map f n g)

-- elements kept by marks
module _ {A : Type 0} where
  pub keep_by_nil : (ms : List Bool) → keep_by {A = A} ms [] ≡ []
  keep_by_nil [] = refl
  keep_by_nil (m ∷ ms) = refl

  keep_by_snoc : (ms : List Bool) (l : List A) (x : A) → length l < length ms → keep_by ms (l ++ (x ∷ [])) ≡ keep_by ms l ++ put (get_or ms (length l) false) x []
  keep_by_snoc [] l x h = absurd (omega arith)
  keep_by_snoc (m ∷ ms) [] x h = ap (put m x) (keep_by_nil ms)
  keep_by_snoc (m ∷ ms) (y ∷ l) x h = ap (put m y) (keep_by_snoc ms l x (omega arith)) ∙ put_append m y _ _

  -- one more element is kept, or not, by its own mark
  pub keep_by_more : (ms : List Bool) (f : ℕ → A) (i : ℕ) (m : Bool) → i < length ms → get_or ms i false ≡ m → keep_by ms (tabulate (i + 1) f) ≡ keep_by ms (tabulate i f) ++ put m (f i) []
  keep_by_more ms f i m hm e =
      let el : length (tabulate i f) ≡ i = tabulate_length i f in
      rw (add-one, keep_by_snoc ms (tabulate i f) (f i) (omega arith), el, e)

  -- marks that say what a test says keep what it keeps
  pub keep_by_test : (ms : List Bool) (t : A → Bool) (f : ℕ → A) (n : ℕ) → n ≤ length ms → ((k : ℕ) → k < n → get_or ms k false ≡ t (f k)) → keep_by ms (tabulate n f) ≡ keep t (tabulate n f)
  keep_by_test ms t f zero h e = keep_by_nil ms
  keep_by_test ms t f (suc n) h e =
      let el : length (tabulate n f) ≡ n = tabulate_length n f in
      rw (keep_by_snoc ms (tabulate n f) (f n) (omega arith), el, e n (omega arith), keep_by_test ms t f n (omega arith) (λ k q. e k (omega arith)))
      (sym (keep_snoc t (tabulate n f) (f n)))

-- functions that agree on the elements
pub map_same_in : {A B : Type 0} (f g : A → B) (l : List A) → ((x : A) → In x l → f x ≡ g x) → map f l ≡ map g l
map_same_in f g [] e = refl
map_same_in f g (x ∷ l) e = rw (e x (first refl), map_same_in f g l (λ y i. e y (later i)))

pub map_keep_by : {A B : Type 0} (f : A → B) (ms : List Bool) (l : List A) → map f (keep_by ms l) ≡ keep_by ms (map f l)
map_keep_by f [] l = refl
map_keep_by f (m ∷ ms) [] = refl
map_keep_by {B = B} f (m ∷ ms) (x ∷ l) = at m (map_keep_by f ms l)
  where
    at : (b : Bool) → map f (keep_by ms l) ≡ keep_by ms (map f l) → map f (put b x (keep_by ms l)) ≡ put b (f x) (keep_by ms (map f l))
    at true e = ap {B = List B} (λ r. f x ∷ r) e
    at false e = e

-- where a number stands
pub index_within : (x : ℕ) (l : List ℕ) → index_of x l ≤ length l
unfolding index_of
index_within x [] = omega arith
index_within x (y ∷ l) = at (eqb x y) (index_within x l)
  where
    at : (b : Bool) → index_of x l ≤ length l → (if b then 0 else suc (index_of x l)) ≤ suc (length l)
    at true h = omega arith
    at false h = omega arith

-- it stands at r, and at no place before
pub index_is : (x : ℕ) (l : List ℕ) (r : ℕ) → r ≤ length l → ((j : ℕ) → j < r → get_or l j 0 ≡ x → ⊥) → (r < length l → get_or l r 0 ≡ x) → r ≡ index_of x l
unfolding index_of
index_is x [] r h none here = omega arith
index_is x (y ∷ l) zero h none here = rw (eq-eqb x y (sym (here (omega arith))))
index_is x (y ∷ l) (suc r) h none here =
    rw (ne_eqb x y (λ e. none 0 (omega arith) (sym e)))
    (ap suc (index_is x l r (omega arith) (λ j p. none (suc j) (omega arith)) (λ p. here (omega arith))))

-- it stands at no place before
index_first : (x : ℕ) (l : List ℕ) (k : ℕ) → k < length l → get_or l k 0 ≡ x → index_of x l ≤ k
unfolding index_of
index_first x [] k h e = absurd (omega arith)
index_first x (y ∷ l) zero h e = rw (eq-eqb x y (sym e)) (omega arith)
index_first x (y ∷ l) (suc k) h e = at (eqb x y) (index_first x l k (omega arith) e)
  where
    at : (b : Bool) → index_of x l ≤ k → (if b then 0 else suc (index_of x l)) ≤ suc k
    at true p = omega arith
    at false p = omega arith

pub index_found : (x : ℕ) (l : List ℕ) → index_of x l < length l → get_or l (index_of x l) 0 ≡ x
unfolding index_of
index_found x [] h = absurd (omega arith)
index_found x (y ∷ l) g = at (eqb x y) refl (index_found x l) g
  where
    at : (b : Bool) → eqb x y ≡ b → (index_of x l < length l → get_or l (index_of x l) 0 ≡ x) → (if b then 0 else suc (index_of x l)) < suc (length l) → get_or (y ∷ l) (if b then 0 else suc (index_of x l)) 0 ≡ x
    at true e k h = sym (eqb-true x y e)
    at false e k h = k (omega arith)

-- it stands somewhere exactly if it is a member
pub index_member : (x : ℕ) (l : List ℕ) → ltb (index_of x l) (length l) ≡ member x l
index_member x l = ⊎_elim
    (λ (e : ltb (index_of x l) (length l) ≡ true).
    let h : index_of x l < length l = ltb-true (index_of x l) (length l) e in
    e ∙ sym (in_member (in_cast (sym (index_found x l h)) (get_in l (index_of x l) 0 h))))
    (λ (e : ltb (index_of x l) (length l) ≡ false).
    e ∙ sym (out_member x l (λ i. let r = in_get 0 i in let h = index_first x l r.0 r.1 r.2 in let k = ltb-false (index_of x l) (length l) e in let p = r.1 in absurd (omega arith))))
    (test (ltb (index_of x l) (length l)))

-- in a rising list each number stands once
pub index_at : (l : List ℕ) (k : ℕ) → Pairs (λ (x y : ℕ). x < y) l → k < length l → k ≡ index_of (get_or l k 0) l
index_at l k rises h = index_is (get_or l k 0) l k (omega arith) (λ j p e. let q = pairs_get (λ (x y : ℕ). x < y) l 0 j k rises p h in omega arith) (λ p. refl)

-- the same for numbers given by their places
pub index_tabulated : (n : ℕ) (f : ℕ → ℕ) (x : ℕ) → index_of x (tabulate n f) < n → f (index_of x (tabulate n f)) ≡ x
index_tabulated n f x h =
    let z : length (tabulate n f) ≡ n = tabulate_length n f in
    sym (tabulate_at n f (index_of x (tabulate n f)) 0 h) ∙ index_found x (tabulate n f) (omega arith)

pub index_tabulated_is : (n : ℕ) (f : ℕ → ℕ) (x r : ℕ) → r ≤ n → ((j : ℕ) → j < r → f j ≡ x → ⊥) → (r < n → f r ≡ x) → r ≡ index_of x (tabulate n f)
index_tabulated_is n f x r h none here =
    let z : length (tabulate n f) ≡ n = tabulate_length n f in
    index_is x (tabulate n f) r (omega arith)
    (λ j p e. none j p (sym (tabulate_at n f j 0 (omega arith)) ∙ e))
    (λ p. let q : r < n = omega arith in tabulate_at n f r 0 q ∙ here q)

pub index_missing : (n : ℕ) (f : ℕ → ℕ) (x : ℕ) → n ≤ index_of x (tabulate n f) → (k : ℕ) → k < n → f k ≢ x
index_missing n f x h k hk e =
    let z : length (tabulate n f) ≡ n = tabulate_length n f in
    let g = index_first x (tabulate n f) k (omega arith) (tabulate_at n f k 0 hk ∙ e) in
    omega arith

-- the zeros at the end of a list tell its length alone
trim_cons_at : (x k : ℕ) (l : List ℕ) → get_or (trim_cons x l) k 0 ≡ get_or (x ∷ l) k 0
trim_cons_at zero zero [] = refl
trim_cons_at zero (suc k) [] = refl
trim_cons_at zero k (y ∷ l) = refl
trim_cons_at (suc x) k l = refl

pub trimmed_at : (l : List ℕ) (k : ℕ) → get_or (trimmed l) k 0 ≡ get_or l k 0
unfolding trimmed
trimmed_at [] k = refl
trimmed_at (x ∷ l) zero = trim_cons_at x 0 (trimmed l)
trimmed_at (x ∷ l) (suc k) = trim_cons_at x (suc k) (trimmed l) ∙ trimmed_at l k

pub trimmed_same : (l m : List ℕ) → length l ≡ length m → trimmed l ≡ trimmed m → l ≡ m
trimmed_same l m h e = ext_get_or 0 l m h (λ k p. sym (trimmed_at l k) ∙ ap (λ (z : List ℕ). get_or z k 0) e ∙ trimmed_at m k)
