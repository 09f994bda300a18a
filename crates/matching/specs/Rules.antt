-- Where a rule's rows stand, which of its matches count, and what the choice says in the model's terms.
use Rattle.std.specs.Prelude.{◌≡◌, Bool, ◌&&◌, List, [], ◌∷◌, ℕ, ◌-◌, ◌/◌, ◌≤◌, eqb, length, take, get_or, Option, Some, None, IfSome}
use Rattle.lists.specs.Lists.{keep, first_of}
use Rattle.model.specs.declared.Row.{Row}
use Rattle.model.specs.Program.{is_object, body}
use Rattle.model.specs.Matching.{Found, matches, counts, Firing}
use Rattle.program.specs.Rows.{rows_from, rows_of}
use Rattle.state.specs.declared.Scalars.{Scalars}
use Rattle.state.specs.View.{config_of}
use Rattle.queries.specs.View.{found_in, found_of}
use Rattle.matching.specs.declared.Rule.{Rule}
use Rattle.matching.specs.declared.Ids.{Ids}
use Rattle.matching.specs.declared.Choice.{Choice}

-- the rows from k up to end
unfoldable pub rows_between : List ℕ → ℕ → ℕ → List Row
rows_between program k end = rows_from program k (end - k)

-- how many of them are reasons
unfoldable pub reasons_in : List ℕ → ℕ → ℕ → ℕ
reasons_in program k end = length (keep (λ (r : Row). eqb r.part 1) (rows_between program k end))

-- the rule's body stands where it says, and it is an object rule if it says so
pub record Located (program : List ℕ) (rule : Rule) : Type 0 where
  pub ordered : rule.body ≤ rule.end
  pub inside : rule.end ≤ length program / 8
  pub object_is : rule.object ≡ is_object (rows_of program) rule.set rule.number
  pub body_is : rows_between program rule.body rule.end ≡ body (rows_of program) rule.set rule.number

-- the matches of the rows from k up to the rule's body that count
unfoldable pub counted : List ℕ → List ℕ → Scalars → Rule → ℕ → Found → List Found
counted program words s rule k f =
    keep (counts (rows_of program) (config_of words s) rule.set rule.number) (matches (config_of words s) (rows_between program k rule.body) f)

-- a match in place, with n the ids that it matched, if there is one
abbrev pub match_in : List ℕ → List ℕ → Option ℕ → List Found
match_in values matched None = []
match_in values matched (Some n) = found_in values matched n ∷ []

-- the first of these matches, if there is one
pub record Searched (l : List Found) (values matched : List ℕ) (n : Option ℕ) : Type 0 where
  pub is : match_in values matched n ≡ first_of l
  pub few : IfSome n (λ k. k ≤ 4)

-- ids in a list, and zeros behind them
abbrev pub ids_of : Ids → List ℕ
ids_of l = take l.count l.ids

abbrev pub Padded : Ids → Type 0
Padded l = (k : ℕ) → l.count ≤ k → get_or l.ids k 0 ≡ 0

-- four words, with zeros behind the last id, are the same
abbrev pub agrees_in : List ℕ → List ℕ → Bool
agrees_in js ids =
    (eqb (get_or js 0 0) (get_or ids 0 0) && eqb (get_or js 1 0) (get_or ids 1 0)) && (eqb (get_or js 2 0) (get_or ids 2 0) && eqb (get_or js 3 0) (get_or ids 3 0))

-- the rule that fires and its match
abbrev pub choice_of : Choice → Firing
choice_of x = record { rule = x.rule.number; match = found_of x.bindings }

-- where the rule of a choice stands, and that its ids are four at most
pub record Chosen (program : List ℕ) (set : ℕ) (x : Choice) : Type 0 where
  pub set_is : x.rule.set ≡ set
  pub located : Located program x.rule
  pub few : x.bindings.count ≤ 4

unfoldable pub opened : Unit {0}
unfolding rows_between reasons_in counted
opened = tt
