-- Lists given by their places, elements kept by marks, and where a number stands: what tables of words show.
use Rattle.std.specs.Prelude.{◌≡◌, Bool, List, [], ◌∷◌, ◌++◌, ℕ, zero, suc, ◌<◌, eqb, if◌then◌else◌, Option, MatchOption}
use Rattle.lists.specs.Lists.{put}

module _ {A : Type 0} where
  -- f 0, f 1, .., f (n - 1)
  abbrev pub tabulate : ℕ → (ℕ → A) → List A
  tabulate zero f = []
  tabulate (suc n) f = tabulate n f ++ (f n ∷ [])

  -- the elements whose mark is true, in order
  abbrev pub keep_by : List Bool → List A → List A
  keep_by [] l = []
  keep_by (m ∷ ms) [] = []
  keep_by (m ∷ ms) (x ∷ l) = put m x (keep_by ms l)

-- where x first stands, or the length
unfoldable pub index_of : ℕ → List ℕ → ℕ
index_of x [] = 0
index_of x (y ∷ l) = if eqb x y then 0 else suc (index_of x l)

-- where x stands among n numbers, if it does
abbrev pub PlaceOf : ℕ → ℕ → List ℕ → Option ℕ → Type 0
PlaceOf n x l r = MatchOption r (index_of x l ≡ n) (λ k. (k ≡ index_of x l) × (k < n))

-- x in front of l, unless nothing but zeros would follow
abbrev pub trim_cons : ℕ → List ℕ → List ℕ
trim_cons zero [] = []
trim_cons zero (y ∷ l) = zero ∷ y ∷ l
trim_cons (suc x) l = suc x ∷ l

-- a list without the zeros at its end
unfoldable pub trimmed : List ℕ → List ℕ
trimmed [] = []
trimmed (x ∷ l) = trim_cons x (trimmed l)
