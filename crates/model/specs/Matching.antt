-- "Matching": every complete match of a rule's rows, in the paper's order. An answer that may be missing is a list.
use Rattle.std.specs.Prelude.{ℕ, ◌%◌, Bool, true, ◌&&◌, ◌||◌, not, List, [], ◌∷◌, ◌++◌, map, eqb, set, if◌then◌else◌}
use Rattle.lists.specs.Lists.{within, keep, when, first_of, is_empty, some, bind, rising_set, same}
use Rattle.model.specs.Program.{Row, any?, variable?, constant?, constant, reasons, context, body, rules_of, is_object}
use Rattle.model.specs.Configuration.{Atom, Plan, Config, no_value, no_values, place, value_of, has_flag}

-- what stands in the columns i, a and b
pub record Candidate : Type 0 where
  pub i : ℕ
  pub a : ℕ
  pub b : ℕ

abbrev pub candidate : ℕ → ℕ → ℕ → Candidate
candidate x y z = record { i = x; a = y; b = z }

-- "1 atom (i, p, a, b)"
unfoldable pub atom_candidates : ℕ → Config → List Candidate
atom_candidates p c = map (λ (x : Atom). candidate x.id x.a x.b) (keep (λ (x : Atom). eqb x.p p) c.atoms)

-- "7 justification (i plan, a atom)"; "for 7: plan, then atom"
unfoldable pub justification_candidates : Config → List Candidate
justification_candidates c = bind c.plans (λ (q : Plan). map (λ (j : ℕ). candidate q.id j 0) q.justifications)

-- "3 plan (i, a set, b rule); 5 remainder (i, a steps left); .. 9 subgoal (i plan, a atom); 11 state (i, a a constant flag 1 to 16)"
unfoldable pub plan_candidates : (Plan → Bool) → (Plan → Candidate) → Config → List Candidate
plan_candidates f g c = map g (keep f c.plans)

-- "candidates in rising id"; an op and its negation have the same. 13 has one, the present cycle
unfoldable pub candidates : Config → Row → List Candidate
candidates c r =
    if within 1 2 r.op then atom_candidates r.p c
    else if within 3 4 r.op then plan_candidates (λ (q : Plan). true) (λ (q : Plan). candidate q.id q.set q.rule) c
    else if within 5 6 r.op then plan_candidates (λ (q : Plan). true) (λ (q : Plan). candidate q.id q.left 0) c
    else if within 7 8 r.op then justification_candidates c
    else if within 9 10 r.op then plan_candidates (λ (q : Plan). not (eqb q.subgoal 0)) (λ (q : Plan). candidate q.id q.subgoal 0) c
    else if within 11 12 r.op then plan_candidates (λ (q : Plan). has_flag (constant r.a) q.flags) (λ (q : Plan). candidate q.id (constant r.a) 0) c
    else candidate 0 c.cycle 0 ∷ []

-- "A variable without a value takes the candidate's; one with a value must equal it."
unfoldable pub meet : ℕ → ℕ → List ℕ → List (List ℕ)
meet x n values =
    if any? x then values ∷ []
    else if constant? x then when (eqb (constant x) n) values
    else if eqb (value_of values x) no_value then set values (place x) n ∷ []
    else when (eqb (value_of values x) n) values

-- the values after a row that the candidate fits, column by column
unfoldable pub fit : Row → Candidate → List ℕ → List (List ℕ)
fit r k values = bind (meet r.i k.i values) (λ v. bind (meet r.a k.a v) (λ w. meet r.b k.b w))

-- the values so far, and the ids that the reasons matched, row by row
pub record Found : Type 0 where
  pub values : List ℕ
  pub matched : List ℕ

abbrev pub nothing_found : Found
nothing_found = record { values = no_values; matched = [] }

-- "ids its reasons matched"
unfoldable pub found : Row → Candidate → Found → List ℕ → Found
found r k f values = record { values = values; matched = if eqb r.part 1 then f.matched ++ (k.i ∷ []) else f.matched }

-- what is found after a row, for each candidate that fits
unfoldable pub query_row : Config → Row → Found → List Found
query_row c r f = bind (candidates c r) (λ k. map (found r k f) (fit r k f.values))

-- "Op + 1 is the negation."
abbrev pub negation : Row → Bool
negation r = eqb (r.op % 2) 0

-- "A negation holds when no candidate fits, and its new variables stay without value afterwards."
unfoldable pub after_row : Config → Row → Found → List Found
after_row c r f = if negation r then when (is_empty (query_row c r f)) f else query_row c r f

-- "Rows are tried left to right": every complete match
unfoldable pub matches : Config → List Row → Found → List Found
matches c [] f = f ∷ []
matches c (r ∷ rs) f = bind (after_row c r f) (matches c rs)

-- "justifications (ids its reasons matched, each once)"
unfoldable pub justifications_of : Found → List ℕ
justifications_of f = rising_set f.matched

-- "the values of the variables in its body"
unfoldable pub body_value : List ℕ → ℕ → ℕ
body_value values x = if variable? x then value_of values x else no_value

unfoldable pub body_values : List Row → List ℕ → List ℕ
body_values rs values = bind rs (λ (r : Row). body_value values r.i ∷ body_value values r.a ∷ body_value values r.b ∷ [])

-- "the same set and rule, the same set of justifications .. and the same values of the variables in its body"
unfoldable pub equal_plan : List Row → ℕ → ℕ → Found → Plan → Bool
equal_plan program s n f q =
    eqb q.set s && (eqb q.rule n && (same q.justifications (justifications_of f)
    && same (body_values (body program s n) q.values) (body_values (body program s n) f.values)))

-- "An object rule's match counts only if no live plan has the same .."
unfoldable pub counts : List Row → Config → ℕ → ℕ → Found → Bool
counts program c s n f = not (is_object program s n) || not (some (equal_plan program s n f) c.plans)

-- "reasons first"
abbrev pub rule_rows : List Row → ℕ → ℕ → List Row
rule_rows program s n = reasons program s n ++ context program s n

unfoldable pub rule_matches : List Row → Config → ℕ → ℕ → List Found
rule_matches program c s n = keep (counts program c s n) (matches c (rule_rows program s n) nothing_found)

-- a rule and the match that it fires with
pub record Firing : Type 0 where
  pub rule : ℕ
  pub match : Found

-- "the first complete match counts"; "the first rule in rising number that has a match fires"
unfoldable pub firing : List Row → Config → ℕ → List Firing
firing program c s = first_of (bind (rules_of program s) (λ n. map (λ f. record { rule = n; match = f }) (rule_matches program c s n)))

unfoldable pub opened : Unit {0}
unfolding atom_candidates justification_candidates plan_candidates candidates meet fit found query_row after_row matches justifications_of body_value body_values equal_plan counts rule_matches firing
opened = tt
