-- Texts that load and texts that are refused, with number and line: the rules of each op in set 0, queries, actions and steps.
use Prim.Native.String.{String}
use Rattle.std.specs.Prelude.{List, [], ◌∷◌, ◌++◌, map}
use Rattle.model.specs.CaseTools.{LoadCase, loads, refuses, joined}

-- rows in the context of a meta rule that has a body; in the body of one; in an object rule after its reason
abbrev in_context : String → String
in_context t = joined (t ∷ "1 1 3 22 5 0 0 0\n" ∷ [])

abbrev after_context : String → String
after_context t = joined ("1 1 2 3 -1 0 -9 -9\n" ∷ t ∷ [])

abbrev after_reason : String → String
after_reason t = joined ("1 1 1 1 -1 1 -2 -3\n" ∷ t ∷ [])

-- REFUSAL 3 in rows of set 0 and in queries
abbrev pub queries : List LoadCase
queries =
    -- R14: a second ceiling of a predicate breaks a rule of its op
    refuses "0 0 0 40 0 1 1 1\n0 0 0 40 0 1 1 1\n" 3 3
    ∷ refuses "0 0 0 40 0 1 1 1\n0 0 0 40 0 1 2 2\n" 3 3
    ∷ loads "0 0 0 40 0 1 1 1\n0 0 0 40 0 2 1 1\n"
    -- "Set 0 rows have rule 0, part 0, constants only"; "p is 1 to 255 in .. 41, and in 40"; ops 40 and 41 alone
    ∷ refuses "0 1 0 41 0 1 0 0\n" 3 2
    ∷ refuses "0 0 1 41 0 1 0 0\n" 3 2
    ∷ refuses "0 1 0 40 0 1 1 1\n" 3 2
    ∷ refuses "0 0 1 40 0 1 1 1\n" 3 2
    ∷ refuses "0 0 0 41 0 1 -1 0\n" 3 2
    ∷ refuses "0 0 0 41 0 1 0 -9\n" 3 2
    ∷ refuses "0 0 0 41 0 0 0 0\n" 3 2
    ∷ loads "0 0 0 41 0 255 65535 65535\n"
    ∷ refuses "0 0 0 40 0 0 1 1\n" 3 2
    ∷ refuses "0 0 0 42 0 1 0 0\n" 3 2
    ∷ refuses "0 0 0 1 0 1 0 0\n" 3 2
    -- "at least a (1 to 65,535) is taken as predicate b (1 to 255)"
    ∷ refuses "0 0 0 40 0 1 0 1\n" 3 2
    ∷ refuses "0 0 0 40 0 1 -1 1\n" 3 2
    ∷ loads "0 0 0 40 0 255 65535 255\n"
    ∷ refuses "0 0 0 40 0 1 1 0\n" 3 2
    ∷ refuses "0 0 0 40 0 1 1 256\n" 3 2
    -- "p is 1 to 255 in ops 1, 2"; "11 state (i, a a constant flag 1 to 16)"
    ∷ loads (in_context "1 1 2 1 -1 255 -2 -9\n")
    ∷ refuses (in_context "1 1 2 1 -1 0 -2 -9\n") 3 2
    ∷ refuses (in_context "1 1 2 2 -1 0 -2 -9\n") 3 2
    ∷ loads (in_context "1 1 2 11 -1 0 1 0\n1 1 2 12 -9 0 16 0\n")
    ∷ refuses (in_context "1 1 2 11 -1 0 0 0\n") 3 2
    ∷ refuses (in_context "1 1 2 11 -1 0 17 0\n") 3 2
    ∷ refuses (in_context "1 1 2 11 -1 0 -2 0\n") 3 2
    ∷ refuses (in_context "1 1 2 12 -1 0 -9 0\n") 3 2
    -- "Reasons use 1; an object rule's context 1 and 2; a meta rule's context 1 to 14."
    ∷ refuses "1 1 1 2 -1 1 -2 -3\n" 3 2
    ∷ refuses "1 1 1 3 -1 0 -2 -3\n" 3 2
    ∷ refuses "1 1 1 1 -1 0 -2 -3\n" 3 2
    ∷ loads (after_reason "1 1 2 1 -9 1 -4 -5\n1 1 2 2 -9 1 -6 -7\n")
    ∷ refuses (after_reason "1 1 2 3 -9 0 -9 -9\n") 3 3
    ∷ refuses (in_context "1 1 2 0 -1 1 0 0\n") 3 2
    ∷ refuses (in_context "1 1 2 15 0 0 0 0\n") 3 2
    -- R20: no constant of a query, no id of an action is tested for sense
    ∷ loads "1 1 2 3 0 0 9 33\n1 1 2 5 65535 0 99 0\n1 1 2 7 0 0 0 0\n1 1 3 22 0 0 0 0\n"
    ∷ []

-- REFUSAL 3 in actions and steps; REFUSAL 4
abbrev pub bodies : List LoadCase
bodies =
    -- "p is 1 to 255 in ops .. 21"; ops 21 to 25 alone
    loads (after_context "1 1 3 21 -9 255 -1 0\n")
    ∷ refuses (after_context "1 1 3 21 -9 0 0 0\n") 3 3
    ∷ refuses (after_context "1 1 3 20 -1 0 0 0\n") 3 3
    ∷ refuses (after_context "1 1 3 26 -1 0 0 0\n") 3 3
    ∷ refuses (after_context "1 1 3 31 0 1 0 0\n") 3 3
    ∷ refuses (after_context "1 1 3 1 -1 1 0 0\n") 3 3
    -- "p is 1 to 255 in ops .. 31 to 34, 36"; "In 34 and 36 i is -9"; ops 31 to 36 alone
    ∷ loads (after_reason "1 1 3 31 0 1 -1 0\n1 1 3 32 0 255 -2 0\n1 1 3 33 0 1 -3 0\n1 1 3 34 -9 1 -1 -1\n1 1 3 35 -1 0 0 0\n1 1 3 36 -9 1 0 65535\n")
    ∷ refuses (after_reason "1 1 3 34 0 1 0 0\n") 3 3
    ∷ refuses (after_reason "1 1 3 34 -4 1 0 0\n") 3 3
    ∷ refuses (after_reason "1 1 3 36 0 1 0 0\n") 3 3
    ∷ refuses (after_reason "1 1 3 36 -1 1 0 0\n") 3 3
    ∷ refuses (after_reason "1 1 3 31 0 0 0 0\n") 3 3
    ∷ refuses (after_reason "1 1 3 32 0 0 0 0\n") 3 3
    ∷ refuses (after_reason "1 1 3 33 0 0 0 0\n") 3 3
    ∷ refuses (after_reason "1 1 3 34 -9 0 0 0\n") 3 3
    ∷ refuses (after_reason "1 1 3 36 -9 0 0 0\n") 3 3
    ∷ refuses (after_reason "1 1 3 21 -9 1 0 0\n") 3 3
    ∷ refuses (after_reason "1 1 3 30 0 1 0 0\n") 3 3
    ∷ refuses (after_reason "1 1 3 37 -9 1 0 0\n") 3 3
    -- R17: any in a body is 3, a variable without value 4, and 3 comes first on a line
    ∷ refuses (after_reason "1 1 3 31 0 1 -9 0\n") 3 3
    ∷ refuses (after_reason "1 1 3 31 0 1 -7 0\n") 4 3
    ∷ refuses (after_reason "1 1 3 31 0 1 -7 -9\n") 3 3
    ∷ refuses (after_reason "1 1 3 36 -9 1 0 -7\n") 4 3
    ∷ refuses (after_reason "1 1 3 35 -9 0 0 0\n") 3 3
    ∷ refuses (after_reason "1 1 3 35 -7 0 0 0\n") 4 3
    ∷ refuses (after_context "1 1 3 22 -9 0 0 0\n") 3 3
    ∷ refuses (after_context "1 1 3 22 -2 0 0 0\n") 4 3
    ∷ refuses (after_context "1 1 3 21 -9 1 -9 0\n") 3 3
    -- "a variable given a value by a reason, a positive context row or an earlier 21", of the same rule
    ∷ loads (after_reason "1 1 2 1 -9 2 -7 0\n1 1 3 31 0 1 -7 0\n")
    ∷ refuses (after_reason "1 1 2 2 -9 2 -7 0\n1 1 3 31 0 1 -7 0\n") 4 4
    ∷ loads "1 1 2 13 0 0 -8 0\n1 1 3 21 -9 1 -8 0\n"
    ∷ loads (after_context "1 1 3 21 -2 1 0 0\n1 1 3 22 -2 0 0 0\n")
    ∷ refuses (after_context "1 1 3 22 -2 0 0 0\n1 1 3 21 -2 1 0 0\n") 4 3
    ∷ refuses (after_reason "1 2 1 1 -9 1 -9 -9\n1 2 3 35 -1 0 0 0\n") 4 4
    -- R18: the variable of 21 has no value yet, and its own a and b come before it
    ∷ refuses (after_context "1 1 3 21 -1 1 0 0\n") 3 3
    ∷ refuses (after_context "1 1 3 21 5 1 0 0\n") 3 3
    ∷ refuses (after_context "1 1 3 21 -2 1 -2 0\n") 4 3
    ∷ refuses (after_context "1 1 3 21 -2 1 0 0\n1 1 3 21 -2 1 0 0\n") 3 4
    ∷ loads "1 1 2 2 -2 1 -3 0\n1 1 3 21 -2 1 0 0\n1 1 3 22 -2 0 0 0\n"
    -- R19: the flag is a constant 1 to 16; anything else is 3
    ∷ refuses (after_context "1 1 3 23 -1 0 -5 0\n") 3 3
    ∷ refuses (after_context "1 1 3 23 -1 0 -1 0\n") 3 3
    ∷ refuses (after_context "1 1 3 24 -1 0 -9 0\n") 3 3
    ∷ refuses (after_context "1 1 3 23 -1 0 0 0\n") 3 3
    ∷ refuses (after_context "1 1 3 24 -1 0 17 0\n") 3 3
    ∷ []

-- A row behind sound ones, with all that its rule needs: only the row itself can be refused. In set 0 it is on line 3; the second rule's
-- query is on line 4, its action on line 5, a plan's step on line 4.
abbrev a_set_0_row : String → String
a_set_0_row t = joined ("0 0 0 41 0 1 0 0\n0 0 0 " ∷ t ∷ "\n" ∷ [])

abbrev a_query : String → String
a_query t = joined ("1 1 2 3 -1 0 -9 -9\n1 1 3 22 5 0 0 0\n1 2 2 " ∷ t ∷ "\n1 2 3 22 5 0 0 0\n" ∷ [])

abbrev an_action : String → String
an_action t = joined ("1 1 2 3 -1 0 -9 -9\n1 1 3 22 5 0 0 0\n1 2 2 3 -1 0 -9 -9\n1 2 3 " ∷ t ∷ "\n" ∷ [])

abbrev a_step : String → String
a_step t = joined ("1 1 1 1 -1 1 -2 -3\n1 2 1 1 -1 1 -2 -3\n1 2 3 " ∷ t ∷ "\n" ∷ [])

-- R15, R16: "Unused columns are 0." Op, i, p, a, b of every op with its unused columns 0; then with one of them not 0, each in its turn
abbrev zeros_in_set_0_rows : List String
zeros_in_set_0_rows =
    "41 0 2 0 0"
    ∷ "40 0 2 1 1"
    ∷ []

abbrev other_than_0_in_set_0_rows : List String
other_than_0_in_set_0_rows =
    "41 1 2 0 0"
    ∷ "40 1 2 1 1"
    ∷ []

abbrev zeros_in_queries : List String
zeros_in_queries =
    "1 -1 1 -2 -9"
    ∷ "2 -1 1 -2 -9"
    ∷ "3 -1 0 -2 -9"
    ∷ "4 -1 0 -2 -9"
    ∷ "5 -1 0 -2 0"
    ∷ "6 -1 0 -2 0"
    ∷ "7 -1 0 -2 0"
    ∷ "8 -9 0 -9 0"
    ∷ "9 -1 0 3 0"
    ∷ "10 4 0 -9 0"
    ∷ "11 -1 0 1 0"
    ∷ "12 -1 0 1 0"
    ∷ "13 0 0 -1 0"
    ∷ "14 0 0 65535 0"
    ∷ []

abbrev other_than_0_in_queries : List String
other_than_0_in_queries =
    "3 -1 1 -2 -9"
    ∷ "4 -1 1 -2 -9"
    ∷ "5 -1 1 -2 0"
    ∷ "5 -1 0 -2 -9"
    ∷ "6 -1 1 -2 0"
    ∷ "6 -1 0 -2 1"
    ∷ "7 -1 1 -2 0"
    ∷ "7 -1 0 -2 -3"
    ∷ "8 -1 1 -2 0"
    ∷ "8 -1 0 -2 -9"
    ∷ "9 -1 1 -2 0"
    ∷ "9 -1 0 -2 1"
    ∷ "10 -1 1 -2 0"
    ∷ "10 -1 0 -2 -3"
    ∷ "11 -1 1 1 0"
    ∷ "11 -1 0 1 1"
    ∷ "12 -1 1 1 0"
    ∷ "12 -1 0 1 -9"
    ∷ "13 -9 0 -1 0"
    ∷ "13 0 1 -1 0"
    ∷ "13 0 0 -1 -2"
    ∷ "14 1 0 -1 0"
    ∷ "14 0 1 -1 0"
    ∷ "14 0 0 -1 1"
    ∷ []

abbrev zeros_in_actions : List String
zeros_in_actions =
    "21 -9 1 -1 0"
    ∷ "22 -1 0 0 0"
    ∷ "23 -1 0 1 0"
    ∷ "24 -1 0 16 0"
    ∷ "25 -1 0 0 0"
    ∷ []

abbrev other_than_0_in_actions : List String
other_than_0_in_actions =
    "22 -1 1 0 0"
    ∷ "22 -1 0 1 0"
    ∷ "22 -1 0 0 -1"
    ∷ "23 -1 1 1 0"
    ∷ "23 -1 0 1 -9"
    ∷ "24 -1 1 1 0"
    ∷ "24 -1 0 1 1"
    ∷ "25 -1 1 0 0"
    ∷ "25 -1 0 -7 0"
    ∷ "25 -1 0 0 -9"
    ∷ []

abbrev zeros_in_steps : List String
zeros_in_steps =
    "31 0 1 -1 0"
    ∷ "32 0 1 -1 0"
    ∷ "33 0 1 -1 0"
    ∷ "34 -9 1 -1 0"
    ∷ "35 -1 0 0 0"
    ∷ "36 -9 1 -1 0"
    ∷ []

abbrev other_than_0_in_steps : List String
other_than_0_in_steps =
    "31 -9 1 0 0"
    ∷ "32 -1 1 0 0"
    ∷ "33 1 1 0 0"
    ∷ "35 -1 1 0 0"
    ∷ "35 -1 0 1 0"
    ∷ "35 -1 0 0 -7"
    ∷ []

-- 3, not 4, also for a variable without value
abbrev pub unused : List LoadCase
unused =
    map (λ (t : String). loads (a_set_0_row t)) zeros_in_set_0_rows
    ++ map (λ (t : String). refuses (a_set_0_row t) 3 3) other_than_0_in_set_0_rows
    ++ map (λ (t : String). loads (a_query t)) zeros_in_queries
    ++ map (λ (t : String). refuses (a_query t) 3 4) other_than_0_in_queries
    ++ map (λ (t : String). loads (an_action t)) zeros_in_actions
    ++ map (λ (t : String). refuses (an_action t) 3 5) other_than_0_in_actions
    ++ map (λ (t : String). loads (a_step t)) zeros_in_steps
    ++ map (λ (t : String). refuses (a_step t) 3 4) other_than_0_in_steps
