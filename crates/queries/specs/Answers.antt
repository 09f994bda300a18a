-- A row's candidates by number, and what the row gives from a number on.
use Rattle.std.specs.Prelude.{◌≡◌, Bool, not, ◌&&◌, ◌||◌, ◌≢◌, List, [], ◌∷◌, map, ℕ, ◌+◌, ◌-◌, ◌*◌, ◌/◌, ◌%◌, ◌<◌, ◌≤◌, eqb, ltb, length, get_or, if◌then◌else◌, Option, Some, None, IfSome}
use Rattle.lists.specs.Lists.{bit, within, when, is_empty, bind, count_up}
use Rattle.model.specs.declared.Row.{Row}
use Rattle.model.specs.declared.Atom.{Atom}
use Rattle.model.specs.Program.{any?, constant?, constant}
use Rattle.model.specs.Configuration.{Plan, no_value, value_of, has_flag}
use Rattle.model.specs.Matching.{Candidate, candidate, Found, found, fit, negation}
use Rattle.state.specs.declared.Scalars.{Scalars}
use Rattle.state.specs.View.{atom_at, plan_at}
use Rattle.queries.specs.declared.Columns.{Columns}
use Rattle.queries.specs.View.{candidate_of, Wants}

-- what is found after a candidate
unfoldable pub taken : Row → Candidate → Found → List Found
taken r k f = map (found r k f) (fit r k f.values)

-- after a candidate that may not be there
unfoldable pub tried : Row → Option Columns → Found → List Found
tried r x f = bind (candidate_of x) (λ k. taken r k f)

-- what an atom, a plan gives as a candidate, by query
abbrev pub atom_candidate : ℕ → Atom → List Candidate
atom_candidate p x = when (eqb x.p p) (candidate x.id x.a x.b)

abbrev pub plan_candidate : Plan → List Candidate
plan_candidate q = candidate q.id q.set q.rule ∷ []

abbrev pub remainder_candidate : Plan → List Candidate
remainder_candidate q = candidate q.id q.left 0 ∷ []

abbrev pub justification_candidate : Plan → ℕ → List Candidate
justification_candidate q j = when (ltb j (length q.justifications)) (candidate q.id (get_or q.justifications j 0) 0)

abbrev pub subgoal_candidate : Plan → List Candidate
subgoal_candidate q = when (not (eqb q.subgoal 0)) (candidate q.id q.subgoal 0)

abbrev pub state_candidate : ℕ → Plan → List Candidate
state_candidate x q = when (has_flag (constant x) q.flags) (candidate q.id (constant x) 0)

-- how many candidates are numbered: the justifications four to a plan
unfoldable pub count_of : Scalars → Row → ℕ
count_of s r =
    if within 1 2 r.op then s.atoms
    else if within 3 4 r.op then s.plans
    else if within 5 6 r.op then s.plans
    else if within 7 8 r.op then s.plans * 4
    else if within 9 10 r.op then s.plans
    else if within 11 12 r.op then s.plans
    else 1

-- candidate c, if there is one
unfoldable pub candidate_at : List ℕ → Scalars → Row → ℕ → List Candidate
candidate_at words s r c =
    if within 1 2 r.op then atom_candidate r.p (atom_at words c)
    else if within 3 4 r.op then plan_candidate (plan_at words c)
    else if within 5 6 r.op then remainder_candidate (plan_at words c)
    else if within 7 8 r.op then justification_candidate (plan_at words (c / 4)) (c % 4)
    else if within 9 10 r.op then subgoal_candidate (plan_at words c)
    else if within 11 12 r.op then state_candidate r.a (plan_at words c)
    else candidate 0 s.cycle 0 ∷ []

-- what is found after candidate c
unfoldable pub fit_at : List ℕ → Scalars → Row → Found → ℕ → List Found
fit_at words s r f c = bind (candidate_at words s r c) (λ k. taken r k f)

-- after the candidates from c on
unfoldable pub hits : List ℕ → Scalars → Row → Found → ℕ → List Found
hits words s r f c = bind (count_up c (count_of s r - c)) (fit_at words s r f)

-- what the row gives from number c on: a negation has number 0 alone
unfoldable pub answers : List ℕ → Scalars → Row → Found → ℕ → List Found
answers words s r f c =
    if negation r then if eqb c 0 then when (is_empty (hits words s r f 0)) f else []
    else hits words s r f c

unfoldable pub width : Scalars → Row → ℕ
width s r = if negation r then 1 else count_of s r

-- how many ids a row adds to those that were matched
unfoldable pub given_ids : Row → ℕ
given_ids r = if negation r then 0 else bit (eqb r.part 1)

-- an answer, with n the number behind it, and what comes after it; or none
abbrev pub onward : (ℕ → List Found) → Found → Option ℕ → List Found
onward rest f None = []
onward rest f (Some n) = f ∷ rest n

-- the first answer from number c on, of a row whose answers are numbered below the limit
pub record Next (rest : ℕ → List Found) (c limit : ℕ) (f : Found) (n : Option ℕ) : Type 0 where
  pub is : rest c ≡ onward rest f n
  pub further : IfSome n (λ k. (c < k) × (k ≤ limit))

-- none of these candidates fits a row that wants these numbers
pub record Missed (i a b : Option ℕ) (l : List Candidate) : Type 0 where
  pub none : (r : Row) (f : Found) → Wants i r.i f.values → Wants a r.a f.values → Wants b r.b f.values → bind l (λ k. taken r k f) ≡ []

-- from one number up to another no candidate fits
pub record Skipped (l : ℕ → List Candidate) (i a b : Option ℕ) (from to : ℕ) : Type 0 where
  pub on : from ≤ to
  pub missed : (c : ℕ) → from ≤ c → c < to → Missed i a b (l c)

-- n is the number behind the one candidate that may fit a row by its id, if there is one: no other fits
pub record Alone (words : List ℕ) (s : Scalars) (r : Row) (i : Option ℕ) (n : Option ℕ) : Type 0 where
  pub inside : IfSome n (λ k. (1 ≤ k) × (k ≤ count_of s r))
  pub missed : (a b : Option ℕ) (c : ℕ) → c < count_of s r → n ≢ Some (c + 1) → Missed i a b (candidate_at words s r c)

-- an operand that takes no value: any, a constant, a variable with a value
abbrev pub settled : List ℕ → ℕ → Bool
settled values x = any? x || (constant? x || not (eqb (value_of values x) no_value))

-- a row that leaves everything as it was: no operand takes a value, and it is no reason
unfoldable pub closed : Row → List ℕ → Bool
closed r values = not (eqb r.part 1) && (settled values r.i && (settled values r.a && settled values r.b))

unfoldable pub opened : Unit {0}
unfolding taken tried count_of candidate_at fit_at hits answers width given_ids closed
opened = tt
