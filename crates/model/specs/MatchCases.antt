-- Which rule fires, and with which match.
use Prim.Native.String.{String}
use Rattle.std.specs.Prelude.{List, [], ◌∷◌}
use Rattle.model.specs.Play.{Act, senses, steps, runs, Key, key}
use Rattle.model.specs.CaseTools.{joined}

abbrev first_step : List Act
first_step = senses [] ∷ steps ∷ []

-- an atom 1 0 0 with a plan of no step, then rows of set 2
abbrev on_a_plan : String → String
on_a_plan t = joined ("0 0 0 41 0 1 0 0\n1 1 1 1 -1 1 -2 -3\n" ∷ t ∷ [])

-- the step that makes the plan, the step that leaves set 1, the first step in set 2
abbrev in_set_2 : List Act
in_set_2 = senses [] ∷ steps ∷ steps ∷ steps ∷ []

-- two atoms 1 0 0 and a rule with two reasons, then rows
abbrev two_atoms : String → String
two_atoms t = joined ("0 0 0 41 0 1 0 0\n0 0 0 41 0 1 0 0\n1 1 1 1 -1 1 -9 -9\n1 1 1 1 -2 1 -9 -9\n" ∷ t ∷ [])

-- an atom 1 0 0, atoms 2 1 1 and 2 2 2, and a rule whose context matches either, then rows
abbrev two_contexts : String → String
two_contexts t = joined ("0 0 0 41 0 1 0 0\n0 0 0 41 0 2 1 1\n0 0 0 41 0 2 2 2\n1 1 1 1 -1 1 -9 -9\n1 1 2 1 -9 2 -2 -3\n" ∷ t ∷ [])

abbrev pub values : List Key
values =
    -- "0 and up a constant"
    key "0 0 0 41 0 1 5 6\n0 0 0 41 0 1 7 6\n1 1 1 1 -9 1 7 -9\n" first_step "0 1 0 1 1 1 2 3\n1 0 4 0\n1 1 1 5 6 0\n1 2 1 7 6 0\n2 3 1 1 0 0 0 2\n"
    -- R32: a new variable twice in a row: both places are equal
    ∷ key "0 0 0 41 0 1 5 6\n0 0 0 41 0 1 7 7\n1 1 1 1 -1 1 -2 -2\n" first_step "0 1 0 1 1 1 2 3\n1 0 4 0\n1 1 1 5 6 0\n1 2 1 7 7 0\n2 3 1 1 0 0 0 2\n"
    ∷ key "0 0 0 41 0 1 5 6\n0 0 0 41 0 1 2 9\n1 1 1 1 -1 1 -1 -2\n" first_step "0 1 0 1 1 1 2 3\n1 0 4 0\n1 1 1 5 6 0\n1 2 1 2 9 0\n2 3 1 1 0 0 0 2\n"
    -- R33: in a negation too, for one candidate at a time
    ∷ key "0 0 0 41 0 1 5 6\n1 1 1 1 -1 1 -2 -3\n1 1 2 2 -9 1 -4 -4\n" first_step "0 1 0 1 1 1 2 2\n1 0 3 0\n1 1 1 5 6 0\n2 2 1 1 0 0 0 1\n"
    ∷ key "0 0 0 41 0 1 7 7\n0 0 0 41 0 1 5 6\n1 1 1 1 -1 1 -2 -3\n1 1 2 2 -9 1 -4 -4\n" first_step "0 0 0 2\n2 0 3 0\n1 1 1 7 7 0\n1 2 1 5 6 0\n"
    -- R33: a negation's new variables have no value after it, and a later row gives them one
    ∷ key "0 0 0 41 0 1 5 6\n1 1 1 1 -1 1 -2 -3\n1 1 2 2 -4 2 -5 -9\n1 1 2 1 -4 1 -5 -9\n1 1 3 31 0 9 -4 -5\n2 1 2 3 -1 0 -9 -9\n2 1 2 12 -1 0 2 0\n2 1 3 23 -1 0 2 0\n"
    (senses [] ∷ runs 4 ∷ steps ∷ []) "0 0 0 4 2 9 1 5\n3 0 3 2\n1 1 1 5 6 0\n2 2 1 1 1 0 2 1\n"
    -- R33: a variable with a value keeps it in a negation
    ∷ key "0 0 0 41 0 1 5 0\n0 0 0 41 0 2 5 0\n1 1 1 1 -1 1 -2 -9\n1 1 2 2 -9 2 -2 -9\n" first_step "0 0 0 2\n2 0 3 0\n1 1 1 5 0 0\n1 2 2 5 0 0\n"
    ∷ key "0 0 0 41 0 1 5 0\n0 0 0 41 0 2 6 0\n1 1 1 1 -1 1 -2 -9\n1 1 2 2 -9 2 -2 -9\n" first_step "0 1 0 1 1 1 2 3\n1 0 4 0\n1 1 1 5 0 0\n1 2 2 6 0 0\n2 3 1 1 0 0 0 1\n"
    -- R34: any binds nothing, two are independent, and the candidate is a justification all the same
    ∷ key "0 0 0 41 0 1 5 6\n1 1 1 1 -9 1 -9 -9\n" first_step "0 1 0 1 1 1 2 2\n1 0 3 0\n1 1 1 5 6 0\n2 2 1 1 0 0 0 1\n"
    -- R34: no plan at all is scheduled, or is there; some plan is
    ∷ key "0 0 0 41 0 1 0 0\n0 0 0 41 0 1 0 0\n1 1 1 1 -1 1 -2 -3\n2 1 2 3 -1 0 -9 -9\n2 1 2 12 -9 0 2 0\n2 1 3 23 -1 0 2 0\n" (senses [] ∷ runs 5 ∷ [])
    "0 2 0 5 3\n3 0 5 0\n1 1 1 0 0 0\n1 2 1 0 0 0\n2 3 1 1 0 0 2 1\n2 4 1 1 0 0 0 2\n"
    ∷ key (on_a_plan "2 1 2 4 -9 0 -9 -9\n2 1 3 21 -9 7 0 0\n") in_set_2 "0 0 0 2\n3 0 3 0\n1 1 1 0 0 0\n2 2 1 1 0 0 0 1\n"
    ∷ key "1 1 2 4 -9 0 -9 -9\n1 1 3 21 -9 7 0 0\n" first_step "0 1 0 1 1 1 1 1\n1 0 2 0\n1 1 7 0 0 0\n"
    ∷ key (on_a_plan "2 1 2 3 -9 0 -9 -9\n2 1 3 21 -9 7 0 0\n") in_set_2 "0 1 0 1 2 1 1 3\n2 0 4 0\n1 1 1 0 0 0\n2 2 1 1 0 0 0 1\n1 3 7 0 0 0\n"
    -- R36: a number is a number: what was an argument may stand for an id
    ∷ key "0 0 0 41 0 1 2 0\n0 0 0 41 0 3 9 9\n1 1 1 1 -1 1 -2 -9\n1 1 1 1 -2 3 -9 -9\n" first_step
    "0 1 0 1 1 1 2 3\n1 0 4 0\n1 1 1 2 0 0\n1 2 3 9 9 0\n2 3 1 1 0 0 0 1 2\n"
    -- R40: a negation holds of an id that is no plan's: a dead one, an atom's
    ∷ key "1 1 2 12 99 0 2 0\n1 1 3 21 -9 1 0 0\n" first_step "0 1 0 1 1 1 1 1\n1 0 2 0\n1 1 1 0 0 0\n"
    ∷ key "0 0 0 41 0 5 0 0\n1 1 2 12 1 0 2 0\n1 1 3 21 -9 1 0 0\n" first_step "0 1 0 1 1 1 1 2\n1 0 3 0\n1 1 5 0 0 0\n1 2 1 0 0 0\n"
    ∷ key "1 1 2 11 99 0 2 0\n1 1 3 21 -9 1 0 0\n" first_step "0 0 0 2\n2 0 1 0\n"
    ∷ []

-- the candidates of each query, told by the atoms 7 that a meta rule makes of them
abbrev pub queries : List Key
queries =
    -- R35: 3 has each plan's set and rule
    key (on_a_plan "2 1 2 3 -9 0 -1 -2\n2 1 3 21 -9 7 -1 -2\n") in_set_2 "0 1 0 1 2 1 1 3\n2 0 4 0\n1 1 1 0 0 0\n2 2 1 1 0 0 0 1\n1 3 7 1 1 0\n"
    ∷ key (on_a_plan "2 1 2 3 -1 0 1 2\n2 1 3 21 -9 7 -1 0\n") in_set_2 "0 0 0 2\n3 0 3 0\n1 1 1 0 0 0\n2 2 1 1 0 0 0 1\n"
    -- R35: 5 has each plan's steps left
    ∷ key (on_a_plan "1 1 3 31 0 9 0 0\n2 1 2 5 -1 0 -2 0\n2 1 3 21 -9 7 -1 -2\n") in_set_2 "0 1 0 1 2 1 1 3\n2 0 4 0\n1 1 1 0 0 0\n2 2 1 1 1 0 0 1\n1 3 7 2 1 0\n"
    ∷ key (on_a_plan "2 1 2 5 -1 0 0 0\n2 1 2 6 -9 0 1 0\n2 1 3 21 -9 7 -1 0\n") in_set_2 "0 1 0 1 2 1 1 3\n2 0 4 0\n1 1 1 0 0 0\n2 2 1 1 0 0 0 1\n1 3 7 2 0 0\n"
    -- R35: 7 has each plan with each of its justifications, plan then atom
    ∷ key (two_atoms "2 1 2 7 -1 0 -2 0\n2 1 2 2 -9 7 -1 -2\n2 1 3 21 -9 7 -1 -2\n") (senses [] ∷ runs 9 ∷ [])
    "0 7 0 9 3\n3 0 10 0\n1 1 1 0 0 0\n1 2 1 0 0 0\n2 3 1 1 0 0 0 1\n2 4 1 1 0 0 0 1 2\n2 5 1 1 0 0 0 2\n1 6 7 3 1 0\n1 7 7 4 1 0\n1 8 7 4 2 0\n1 9 7 5 2 0\n"
    ∷ key (on_a_plan "2 1 2 3 -1 0 -9 -9\n2 1 2 8 -1 0 1 0\n2 1 3 21 -9 7 -1 0\n") in_set_2 "0 0 0 2\n3 0 3 0\n1 1 1 0 0 0\n2 2 1 1 0 0 0 1\n"
    ∷ key (on_a_plan "2 1 2 7 -9 0 1 0\n2 1 3 21 -9 7 0 0\n") in_set_2 "0 1 0 1 2 1 1 3\n2 0 4 0\n1 1 1 0 0 0\n2 2 1 1 0 0 0 1\n1 3 7 0 0 0\n"
    -- R35: 9 has each plan that has a subgoal, with it
    ∷ key (on_a_plan "1 1 3 36 -9 3 0 0\n2 1 2 3 -1 0 -9 -9\n2 1 2 12 -1 0 2 0\n2 1 3 23 -1 0 2 0\n2 2 2 9 -1 0 -2 0\n2 2 2 2 -9 7 -1 -2\n2 2 3 21 -9 7 -1 -2\n")
    (senses [] ∷ runs 10 ∷ senses [] ∷ runs 3 ∷ []) "0 1 0 3 3\n2 1 5 0\n1 1 1 0 0 0\n2 2 1 1 1 3 2 1\n1 3 3 0 0 0\n1 4 7 2 3 0\n"
    ∷ key (on_a_plan "2 1 2 3 -1 0 -9 -9\n2 1 2 10 -1 0 -9 0\n2 1 3 21 -9 7 -1 0\n") in_set_2 "0 1 0 1 2 1 1 3\n2 0 4 0\n1 1 1 0 0 0\n2 2 1 1 0 0 0 1\n1 3 7 2 0 0\n"
    -- R35: 11 has each plan whose flag is set
    ∷ key (on_a_plan "2 1 2 3 -1 0 -9 -9\n2 1 2 12 -1 0 16 0\n2 1 3 23 -1 0 16 0\n2 2 2 11 -1 0 16 0\n2 2 2 2 -9 7 -1 -9\n2 2 3 21 -9 7 -1 0\n") (senses [] ∷ runs 5 ∷ [])
    "0 2 0 5 3\n3 0 4 0\n1 1 1 0 0 0\n2 2 1 1 0 0 32768 1\n1 3 7 2 0 0\n"
    -- R35: 13 has the present cycle
    ∷ key "1 1 2 13 0 0 -1 0\n1 1 2 2 -9 7 -1 -9\n1 1 3 21 -9 7 -1 0\n" (senses [] ∷ runs 9 ∷ senses [] ∷ runs 9 ∷ []) "0 1 0 3 1\n0 2 3 0\n1 1 7 0 0 0\n1 2 7 1 0 0\n"
    ∷ key "1 1 2 14 0 0 0 0\n1 1 3 21 -9 7 0 0\n" first_step "0 0 0 2\n2 0 1 0\n"
    ∷ []

-- which match counts
abbrev pub choices : List Key
choices =
    -- "Rows are tried left to right": another candidate of the first row, where the second row has none for the first
    key "0 0 0 41 0 1 5 0\n0 0 0 41 0 1 6 0\n0 0 0 41 0 2 6 0\n1 1 1 1 -9 1 -1 -9\n1 1 1 1 -9 2 -1 -9\n" first_step
    "0 1 0 1 1 1 2 4\n1 0 5 0\n1 1 1 5 0 0\n1 2 1 6 0 0\n1 3 2 6 0 0\n2 4 1 1 0 0 0 2 3\n"
    -- "the first rule in rising number that has a match fires once"
    ∷ key "0 0 0 41 0 1 0 0\n1 1 1 1 -1 9 -9 -9\n1 2 1 1 -1 1 -9 -9\n" first_step "0 1 0 1 1 2 2 2\n1 0 3 0\n1 1 1 0 0 0\n2 2 1 2 0 0 0 1\n"
    -- R37: where a match does not count, the search goes on to one that does
    ∷ key "0 0 0 41 0 1 0 0\n0 0 0 41 0 1 0 0\n1 1 1 1 -1 1 -2 -3\n" (senses [] ∷ runs 3 ∷ [])
    "0 2 0 3 3\n2 0 5 0\n1 1 1 0 0 0\n1 2 1 0 0 0\n2 3 1 1 0 0 0 1\n2 4 1 1 0 0 0 2\n"
    -- R38: justifications are a set: 1, 2 and 2, 1 are the same
    ∷ key (two_atoms "") (senses [] ∷ runs 4 ∷ [])
    "0 3 0 4 3\n2 0 6 0\n1 1 1 0 0 0\n1 2 1 0 0 0\n2 3 1 1 0 0 0 1\n2 4 1 1 0 0 0 1 2\n2 5 1 1 0 0 0 2\n"
    -- R38: unless the body tells them apart
    ∷ key (two_atoms "1 1 3 35 -1 0 0 0\n") (senses [] ∷ runs 5 ∷ [])
    "0 4 0 5 3\n2 0 7 0\n1 1 1 0 0 0\n1 2 1 0 0 0\n2 3 1 1 1 0 0 1\n2 4 1 1 1 0 0 1 2\n2 5 1 1 1 0 0 1 2\n2 6 1 1 1 0 0 2\n"
    -- R39: variables that the body does not use make no new plan; those that it uses do
    ∷ key (two_contexts "") (senses [] ∷ runs 2 ∷ []) "0 1 0 2 3\n2 0 5 0\n1 1 1 0 0 0\n1 2 2 1 1 0\n1 3 2 2 2 0\n2 4 1 1 0 0 0 1\n"
    ∷ key (two_contexts "1 1 3 31 0 1 -2 0\n") (senses [] ∷ runs 3 ∷ [])
    "0 2 0 3 3\n2 0 6 0\n1 1 1 0 0 0\n1 2 2 1 1 0\n1 3 2 2 2 0\n2 4 1 1 1 0 0 1\n2 5 1 1 1 0 0 1\n"
    -- "the same set and rule": another rule makes a plan of its own
    ∷ key "0 0 0 41 0 1 0 0\n1 1 1 1 -1 1 -2 -3\n1 2 1 1 -1 1 -2 -3\n" (senses [] ∷ runs 3 ∷ [])
    "0 2 0 3 3\n2 0 4 0\n1 1 1 0 0 0\n2 2 1 1 0 0 0 1\n2 3 1 2 0 0 0 1\n"
    ∷ []
