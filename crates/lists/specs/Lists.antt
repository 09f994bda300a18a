-- Tests, choices and lists, as every definition of the model uses them.
use Rattle.std.specs.Prelude.{◌≡◌, Bool, true, false, ◌&&◌, ◌||◌, List, [], ◌∷◌, ◌++◌, ℕ, zero, suc, eqb, leb, ltb, if◌then◌else◌}

-- 1 for true
abbrev pub bit : Bool → ℕ
bit true = 1
bit false = 0

-- low ≤ n ≤ high
abbrev pub within : ℕ → ℕ → ℕ → Bool
within low high n = leb low n && leb n high

-- every test of the list holds
abbrev pub all_true : List Bool → Bool
all_true [] = true
all_true (b ∷ bs) = b && all_true bs

module _ {A : Type 0} where
  -- x stands in the list
  pub data In (x : A) : List A → Type 0 where
    first : {y : A} {l : List A} → x ≡ y → In x (y ∷ l)
    later : {y : A} {l : List A} → In x l → In x (y ∷ l)

  -- the relation holds from each element to each later one
  abbrev pub Pairs : (A → A → Type 0) → List A → Type 0
  Pairs R [] = Unit {0}
  Pairs R (x ∷ xs) = ((y : A) → In y xs → R x y) × Pairs R xs

  abbrev pub put : Bool → A → List A → List A
  put true x l = x ∷ l
  put false x l = l

  -- the elements that pass the test, in order
  abbrev pub keep : (A → Bool) → List A → List A
  keep f [] = []
  keep f (x ∷ xs) = put (f x) x (keep f xs)

  -- one answer or none
  abbrev pub when : Bool → A → List A
  when b x = put b x []

  -- the first answer, if there is one
  abbrev pub first_of : List A → List A
  first_of [] = []
  first_of (x ∷ xs) = x ∷ []

  abbrev pub is_empty : List A → Bool
  is_empty [] = true
  is_empty (x ∷ xs) = false

  unfoldable pub every : (A → Bool) → List A → Bool
  every f [] = true
  every f (x ∷ xs) = f x && every f xs

  unfoldable pub some : (A → Bool) → List A → Bool
  some f [] = false
  some f (x ∷ xs) = f x || some f xs

  -- the test holds from each element to each later one
  unfoldable pub in_pairs : (A → A → Bool) → List A → Bool
  in_pairs r [] = true
  in_pairs r (x ∷ xs) = every (r x) xs && in_pairs r xs

module _ {A B : Type 0} where
  -- the answers of f for each element, in order
  abbrev pub bind : List A → (A → List B) → List B
  bind [] f = []
  bind (x ∷ xs) f = f x ++ bind xs f

abbrev pub member : ℕ → List ℕ → Bool
member x [] = false
member x (y ∷ ys) = eqb x y || member x ys

-- each number is below the next
unfoldable pub rises : List ℕ → Bool
rises [] = true
rises (x ∷ []) = true
rises (x ∷ y ∷ l) = ltb x y && rises (y ∷ l)

-- k, k + 1, .., n numbers in all
abbrev pub count_up : ℕ → ℕ → List ℕ
count_up k zero = []
count_up k (suc n) = k ∷ count_up (suc k) n

-- the greatest number of the list, 0 if it is empty
unfoldable pub highest : List ℕ → ℕ
highest [] = 0
highest (x ∷ xs) = if leb x (highest xs) then highest xs else x

-- a number into a rising list, once
unfoldable pub insert : ℕ → List ℕ → List ℕ
insert n [] = n ∷ []
insert n (x ∷ xs) = if ltb n x then n ∷ x ∷ xs else if eqb n x then x ∷ xs else x ∷ insert n xs

-- the members of a list in rising order, each once
unfoldable pub rising_set : List ℕ → List ℕ
rising_set [] = []
rising_set (x ∷ xs) = insert x (rising_set xs)

-- equal lists of numbers, as a test
unfoldable pub same : List ℕ → List ℕ → Bool
same [] [] = true
same [] (y ∷ ys) = false
same (x ∷ xs) [] = false
same (x ∷ xs) (y ∷ ys) = eqb x y && same xs ys

-- every definition above that opens on request
unfoldable pub opened : Unit {0}
unfolding every some in_pairs rises highest insert rising_set same
opened = tt
