-- What the code's structs say in the model's terms, and what the queries ask of the words.
use Rattle.std.specs.Prelude.{◌≡◌, Bool, false, not, ◌&&◌, ◌||◌, ◌≢◌, List, [], ◌∷◌, ℕ, ◌+◌, ◌<◌, ◌≤◌, eqb, take, get_or, Option, Some, None, IfSome}
use Rattle.lists.specs.Lists.{bit}
use Rattle.model.specs.declared.Row.{Row}
use Rattle.model.specs.Configuration.{no_value, value_of}
use Rattle.model.specs.Matching.{Candidate, candidate, meet, Found}
use Rattle.state.specs.declared.Scalars.{Scalars}
use Rattle.state.specs.View.{atom_p, plan_at, AtomsRise, PlansRise}
use Rattle.queries.specs.declared.Bindings.{Bindings}
use Rattle.queries.specs.declared.Columns.{Columns}

-- the values so far, and the ids that the reasons matched, of which there are n
abbrev pub found_in : List ℕ → List ℕ → ℕ → Found
found_in values matched n = record { values = values; matched = take n matched }

abbrev pub found_of : Bindings → Found
found_of f = found_in f.values f.matched f.count

-- the first n ids are what they were
abbrev pub Kept : ℕ → List ℕ → List ℕ → Type 0
Kept n before after = take n after ≡ take n before

-- one candidate or none
abbrev pub candidate_of : Option Columns → List Candidate
candidate_of None = []
candidate_of (Some x) = candidate x.i x.a x.b ∷ []

-- words of a configuration: no more live than may, sixteen flags to a plan, rising ids
pub record Limits (words : List ℕ) (s : Scalars) : Type 0 where
  pub atoms : s.atoms ≤ 256
  pub plans : s.plans ≤ 64
  pub flags : (k : ℕ) → k < s.plans → (plan_at words k).flags ≤ 65535
  pub atoms_rise : AtomsRise s.atoms words
  pub plans_rise : PlansRise s.plans words

-- how many ids may be matched after the row
abbrev pub room : Row → ℕ → ℕ
room r n = n + bit (eqb r.part 1)

-- values that others may come to: what has a value keeps it
abbrev pub Grown : List ℕ → List ℕ → Type 0
Grown values v = (y : ℕ) → value_of values y ≢ no_value → value_of v y ≡ value_of values y

-- no number but the one that is wanted, if one is, meets the operand, now and once more variables have values
pub record Wants (w : Option ℕ) (x : ℕ) (values : List ℕ) : Type 0 where
  pub misses : IfSome w (λ m. (n : ℕ) → n ≢ m → (v : List ℕ) → Grown values v → meet x n v ≡ [])

-- a number that is not the one that is wanted
abbrev pub unlike : Option ℕ → ℕ → Bool
unlike None n = false
unlike (Some m) n = not (eqb n m)

abbrev pub is_unlike : Option ℕ → Option ℕ → Option ℕ → Columns → Bool
is_unlike i a b x = unlike i x.i || (unlike a x.a || unlike b x.b)

-- a candidate that is there, with each number that is wanted
abbrev pub is_like : Option ℕ → Option ℕ → Option ℕ → Option Columns → Bool
is_like i a b None = false
is_like i a b (Some x) = not (is_unlike i a b x)

-- none of four numbers is the one that is wanted
abbrev pub lacks : Option ℕ → List ℕ → Bool
lacks a l = (unlike a (get_or l 0 0) && unlike a (get_or l 1 0)) && (unlike a (get_or l 2 0) && unlike a (get_or l 3 0))

-- where a number is looked for, and the number: where none is wanted, the predicate in its own column
abbrev pub column_of : Option ℕ → ℕ → ℕ
column_of None at = atom_p
column_of (Some m) at = at

abbrev pub sought_of : Option ℕ → ℕ → ℕ
sought_of None p = p
sought_of (Some m) p = m

-- atom c has predicate p, and v and w in the columns y and z
abbrev pub stands_at : List ℕ → ℕ → ℕ → ℕ → ℕ → ℕ → ℕ → Bool
stands_at words p y v z w c = eqb (get_or words (atom_p + c) 0) p && (eqb (get_or words (y + c) 0) v && eqb (get_or words (z + c) 0) w)

-- from one number up to another no atom stands so
pub record Without (words : List ℕ) (p y v z w from to : ℕ) : Type 0 where
  pub on : from ≤ to
  pub none : (k : ℕ) → from ≤ k → k < to → stands_at words p y v z w k ≡ false
