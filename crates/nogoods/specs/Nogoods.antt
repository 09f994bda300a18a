-- Failures that a search remembers. A nogood says: with `rest` rows to go no match counts, as long as each variable of its set has the value
-- that stands in it, and, if the set has the ids, its ids are the matched ones.
use Rattle.std.specs.Prelude.{◌≡◌, Bool, true, List, ◌∷◌, ◌++◌, ℕ, ◌/◌, ◌%◌, ◌^◌, ◌<◌, eqb, take, drop, get_or}
use Rattle.table.specs.Rows.{row, placed}

-- a set is nine bits of a number: the eight variables, each at its place among the values, and the ids
unfoldable pub has : ℕ → ℕ → Bool
has set j = eqb (set / 2 ^ j % 2) 1

-- how many sets there are: each is less
abbrev pub all_sets : ℕ
all_sets = 512

-- the numbers of a nogood, the nogoods of a table, and its numbers
abbrev pub width : ℕ
width = 15

abbrev pub places : ℕ
places = 512

abbrev pub size : ℕ
size = 7680

-- a nogood as a record of 15 numbers: rest, set, eight values, how many ids are matched, and four ids; rest is 0 where nothing is noted yet
abbrev pub nogood : ℕ → ℕ → List ℕ → ℕ → List ℕ → List ℕ
nogood rest set values count ids = rest ∷ set ∷ (values ++ (count ∷ ids))

abbrev pub rest_in : List ℕ → ℕ
rest_in e = get_or e 0 0

abbrev pub set_in : List ℕ → ℕ
set_in e = get_or e 1 0

abbrev pub values_in : List ℕ → List ℕ
values_in e = take 8 (drop 2 e)

abbrev pub count_in : List ℕ → ℕ
count_in e = get_or e 10 0

abbrev pub ids_in : List ℕ → List ℕ
ids_in e = drop 11 e

-- a nogood speaks of these values and ids
pub record SpeaksOf (e : List ℕ) (rest set : ℕ) (values : List ℕ) (count : ℕ) (ids : List ℕ) : Type 0 where
  pub rest_is : rest_in e ≡ rest
  pub set_is : set_in e ≡ set
  pub values_are : (j : ℕ) → j < 8 → has set j ≡ true → get_or (values_in e) j 0 ≡ get_or values j 0
  pub ids_are : has set 8 ≡ true → (count_in e ≡ count) × (ids_in e ≡ ids)

-- one of the nogoods of a table does
pub record Recalled (table : List ℕ) (rest set : ℕ) (values : List ℕ) (count : ℕ) (ids : List ℕ) : Type 0 where
  pub place : ℕ
  pub low : place < places
  pub speaks : SpeaksOf (row width table place) rest set values count ids

-- one of them is replaced
pub record Replaced (before after : List ℕ) (e : List ℕ) : Type 0 where
  pub place : ℕ
  pub low : place < places
  pub is : after ≡ placed width before place e
