-- What a failure hangs on. Whether the rows from k on have a match that counts is decided by a few variables, and perhaps by the ids that the
-- reasons matched. A search that fails answers with those, as a set; whatever else was found, the same rows fail again, so every way back
-- that changes none of them need not be tried.
use Rattle.std.specs.Prelude.{◌≡◌, true, false, ◌⊎◌, ◌≢◌, List, [], ℕ, ◌-◌, ◌≤◌, ◌<◌, Some, Result, MatchResult}
use Rattle.table.specs.Rows.{row}
use Rattle.nogoods.specs.Nogoods.{has, all_sets, width, places, rest_in, set_in, values_in, count_in, ids_in}
use Rattle.model.specs.declared.Row.{Row}
use Rattle.model.specs.Configuration.{no_value, place, value_of}
use Rattle.model.specs.Matching.{Found, negation}
use Rattle.search_laws.specs.Agree.{Alike, Looks}
use Rattle.state.specs.declared.Scalars.{Scalars}
use Rattle.queries.specs.View.{found_in}
use Rattle.queries.specs.Answers.{settled}
use Rattle.matching.specs.declared.Rule.{Rule}
use Rattle.matching.specs.Rules.{rows_between, counted, Searched}

-- operand x is no variable, or one of the set
abbrev pub Member : ℕ → ℕ → Type 0
Member set x = 1 ≤ x → x ≤ 8 → has set (place x) ≡ true

abbrev pub HasIds : ℕ → Type 0
HasIds set = has set 8 ≡ true

abbrev pub Inside : ℕ → ℕ → Type 0
Inside a b = (j : ℕ) → has a j ≡ true → has b j ≡ true

-- a set that holds both
pub record Joined (a b set : ℕ) : Type 0 where
  pub small : set < all_sets
  pub left : Inside a set
  pub right : Inside b set

-- the operands of a row, of a body with the ids
pub record OfRow (r : Row) (set : ℕ) : Type 0 where
  pub small : set < all_sets
  pub at_i : Member set r.i
  pub at_a : Member set r.a
  pub at_b : Member set r.b

pub record OfBody (program : List ℕ) (from to set : ℕ) : Type 0 where
  pub small : set < all_sets
  pub ids : HasIds set
  pub rows : Looks (Member set) (rows_between program from to)

-- a row that notes the ids of its candidates: a reason
abbrev pub Noted : Row → Type 0
Noted r = r.part ≡ 1

-- found things that the set does not tell apart
abbrev pub Same : ℕ → Found → Found → Type 0
Same set f g = Alike (Member set) (λ a b. HasIds set → b ≡ a) f g

-- no match counts, and that hangs on the set alone
pub record Barren (program words : List ℕ) (s : Scalars) (rule : Rule) (k : ℕ) (f : Found) (set : ℕ) : Type 0 where
  pub small : set < all_sets
  pub none : (g : Found) → Same set f g → counted program words s rule k g ≡ []

-- the row changes nothing of the set: it is a negation, or each variable of it that the set has has a value, and it gives no id that the set has
pub record Quiet (set : ℕ) (r : Row) (v : List ℕ) : Type 0 where
  pub at_i : Member set r.i → 1 ≤ r.i → r.i ≤ 8 → value_of v r.i ≢ no_value
  pub at_a : Member set r.a → 1 ≤ r.a → r.a ≤ 8 → value_of v r.a ≢ no_value
  pub at_b : Member set r.b → 1 ≤ r.b → r.b ≤ 8 → value_of v r.b ≢ no_value
  pub at_ids : HasIds set → Noted r → ⊥

abbrev pub Apart : ℕ → Row → List ℕ → Type 0
Apart set r v = (negation r ≡ true) ⊎ Quiet set r v

-- what a row changes of the eight values and the ids; a negation nothing
pub record Changed (r : Row) (v : List ℕ) (set : ℕ) : Type 0 where
  pub small : set < all_sets
  pub at_i : negation r ≡ false → 1 ≤ r.i → r.i ≤ 8 → value_of v r.i ≡ no_value → has set (place r.i) ≡ true
  pub at_a : negation r ≡ false → 1 ≤ r.a → r.a ≤ 8 → value_of v r.a ≡ no_value → has set (place r.a) ≡ true
  pub at_b : negation r ≡ false → 1 ≤ r.b → r.b ≤ 8 → value_of v r.b ≡ no_value → has set (place r.b) ≡ true
  pub at_ids : negation r ≡ false → Noted r → HasIds set

-- no operand of a row takes a value, and it notes no id
pub record Settled (r : Row) (v : List ℕ) : Type 0 where
  pub at_i : settled v r.i ≡ true
  pub at_a : settled v r.a ≡ true
  pub at_b : settled v r.b ≡ true
  pub not_noted : Noted r → ⊥

-- a nogood is true of the rule, if it is one: from the row on that it names no match counts, and that hangs on its set
abbrev pub True : List ℕ → List ℕ → Scalars → Rule → List ℕ → Type 0
True program words s rule e = rest_in e ≢ 0 → Barren program words s rule (rule.body - rest_in e) (found_in (values_in e) (ids_in e) (count_in e)) (set_in e)

-- every nogood of a table is
pub record Remembered (program words : List ℕ) (s : Scalars) (rule : Rule) (table : List ℕ) : Type 0 where
  pub holds : (i : ℕ) → i < places → True program words s rule (row width table i)

-- the answer of a long search: the ids that its match matched, or the set on which its failure hangs
abbrev pub LongSearched : List ℕ → List ℕ → Scalars → Rule → ℕ → Found → List ℕ → List ℕ → Result ℕ ℕ → Type 0
LongSearched program words s rule k f values matched r = MatchResult r
    (λ n. Searched (counted program words s rule k f) values matched (Some n))
    (λ set. Barren program words s rule k f set)
