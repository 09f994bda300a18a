-- sense, the firing of rules, the execution of plans, answer and delete.
use Rattle.std.specs.Prelude.{ℕ, List, [], ◌∷◌}
use Prim.Native.String.{String}
use Rattle.model.specs.Configuration.{Plan}
use Rattle.model.specs.Keys.{two_reasons}
use Rattle.model.specs.Play.{Act, senses, steps, answers, deletes, runs, given, Key, key, add, withdraw}
use Rattle.model.specs.CaseTools.{Dated, dated, joined, reading, atom, plan, three, config}

-- a set that schedules every plan
abbrev schedule : String
schedule = "2 1 2 3 -1 0 -9 -9\n2 1 2 12 -1 0 2 0\n2 1 3 23 -1 0 2 0\n"

-- for each atom 1 a plan with the subgoal step p (a, b)
abbrev nesting : String → String
nesting p = joined ("1 1 1 1 -1 1 -2 -3\n1 1 3 36 -9 " ∷ p ∷ " -2 -3\n" ∷ schedule ∷ [])

abbrev pub sensing : List Key
sensing =
    -- "0 to 64 rows of sign (1 add, 2 withdraw), p, a, b": each out of range is 7
    key "" (senses (reading 0 1 0 0 ∷ []) ∷ []) "7 0 0\n0 0 1 0\n"
    ∷ key "" (senses (reading 3 1 0 0 ∷ []) ∷ []) "7 0 0\n0 0 1 0\n"
    ∷ key "" (senses (add 0 0 0 ∷ []) ∷ []) "7 0 0\n0 0 1 0\n"
    ∷ key "" (senses (add 256 0 0 ∷ []) ∷ []) "7 0 0\n0 0 1 0\n"
    ∷ key "" (senses (add 1 65536 0 ∷ []) ∷ []) "7 0 0\n0 0 1 0\n"
    ∷ key "" (senses (withdraw 1 0 65536 ∷ []) ∷ []) "7 0 0\n0 0 1 0\n"
    ∷ key "" (senses (add 255 65535 65535 ∷ []) ∷ []) "0 1 0\n1 0 2 0\n1 1 255 65535 65535 0\n"
    -- R41: every row is tested before the first is worked, and the turn before the rows
    ∷ key "" (senses (add 1 0 0 ∷ reading 3 1 0 0 ∷ []) ∷ []) "7 0 0\n0 0 1 0\n"
    ∷ key "" (senses [] ∷ senses (add 1 0 0 ∷ reading 3 1 0 0 ∷ []) ∷ []) "6 0 0\n1 0 1 0\n"
    -- "An add makes a new instance even if an equal one lives. A withdrawal deletes each live equal atom"
    ∷ key "" (senses (add 1 0 0 ∷ add 1 0 0 ∷ []) ∷ []) "0 2 0\n1 0 3 0\n1 1 1 0 0 0\n1 2 1 0 0 0\n"
    ∷ key "" (senses (add 1 0 0 ∷ add 1 0 1 ∷ add 1 1 0 ∷ add 2 0 0 ∷ add 1 0 0 ∷ withdraw 1 0 0 ∷ []) ∷ [])
    "0 5 2\n1 0 6 0\n1 2 1 0 1 0\n1 3 1 1 0 0\n1 4 2 0 0 0\n"
    -- R23: a ceiling is for what is sensed: an initial atom stays, and cannot be withdrawn under its own predicate
    ∷ key "0 0 0 40 0 1 5 2\n0 0 0 41 0 1 0 9\n" (senses (withdraw 1 0 9 ∷ []) ∷ []) "0 0 0\n1 0 2 0\n1 1 1 0 9 0\n"
    -- R42: the second argument is b, and a ceiling is taken once
    ∷ key "0 0 0 40 0 1 10 2\n0 0 0 40 0 2 10 3\n" (senses (add 1 20 5 ∷ add 1 0 10 ∷ add 2 0 10 ∷ []) ∷ []) "0 3 0\n1 0 4 0\n1 1 1 20 5 0\n1 2 2 0 10 0\n1 3 3 0 10 0\n"
    ∷ key "0 0 0 40 0 1 10 2\n0 0 0 40 0 2 10 3\n" (senses (add 2 0 10 ∷ add 2 0 9 ∷ withdraw 2 0 10 ∷ []) ∷ []) "0 2 1\n1 0 3 0\n1 2 2 0 9 0\n"
    -- R43: an equal atom that has gone with a lower one is not deleted again
    ∷ key (nesting "1") (senses (add 1 4 4 ∷ []) ∷ runs 10 ∷ senses (withdraw 1 4 4 ∷ []) ∷ []) "0 0 3\n1 1 4 0\n"
    -- R44: whoever made it: a subgoal, whose plan loses its first step; an atom of 21
    ∷ key (nesting "3") (senses (add 1 3 1200 ∷ []) ∷ runs 10 ∷ senses (withdraw 3 3 1200 ∷ []) ∷ []) "0 0 1\n1 1 4 0\n1 1 1 3 1200 0\n2 2 1 1 0 0 0 1\n"
    ∷ key "1 1 2 2 -9 7 -9 -9\n1 1 3 21 -9 7 0 0\n" (senses [] ∷ runs 9 ∷ senses (withdraw 7 0 0 ∷ []) ∷ []) "0 0 1\n1 1 2 0\n"
    -- R62: no rows; with k = 0 phase 1 is exec
    ∷ key "" (senses [] ∷ []) "0 0 0\n1 0 1 0\n"
    ∷ key "" (senses [] ∷ steps ∷ []) "0 0 0 5\n0 1 1 0\n"
    -- R63: made and removed in one call counts in both
    ∷ key "" (senses (add 1 0 0 ∷ withdraw 1 0 0 ∷ []) ∷ []) "0 1 1\n1 0 2 0\n"
    -- R65: a withdrawal that finds no atom deletes nothing
    ∷ key "" (senses (withdraw 1 0 0 ∷ []) ∷ []) "0 0 0\n1 0 1 0\n"
    ∷ []

-- actions of a meta rule that matches at any time; of one that matches the plan 2 of atom 1
abbrev always : String → String
always t = joined ("1 1 2 13 0 0 -9 0\n" ∷ t ∷ [])

abbrev on_plan : String → String
on_plan t = joined ("0 0 0 41 0 1 0 0\n1 1 1 1 -1 1 -2 -3\n2 1 2 3 -1 0 -9 -9\n" ∷ t ∷ [])

abbrev in_set_2 : List Act
in_set_2 = senses [] ∷ steps ∷ steps ∷ steps ∷ []

abbrev pub firing : List Key
firing =
    -- "An object rule makes a plan with no flags": the body whole, the plan reported
    key "0 0 0 41 0 1 0 0\n1 1 1 1 -1 1 -2 -3\n1 1 3 31 0 9 0 0\n1 1 3 31 0 9 0 0\n" (senses [] ∷ steps ∷ []) "0 1 0 1 1 1 2 2\n1 0 3 0\n1 1 1 0 0 0\n2 2 1 1 2 0 0 1\n"
    -- "if there is none the phase rises by 1"
    ∷ key "1 1 1 1 -1 1 -2 -3\n" (senses [] ∷ steps ∷ []) "0 0 0 2\n2 0 1 0\n"
    -- "its id going to variable i": the last atom made is reported
    ∷ key (on_plan "2 1 3 21 -2 7 -1 0\n2 1 3 21 -9 8 -2 0\n") in_set_2 "0 2 0 1 2 1 1 4\n2 0 5 0\n1 1 1 0 0 0\n2 2 1 1 0 0 0 1\n1 3 7 2 0 0\n1 4 8 3 0 0\n"
    -- "23 set and 24 clear flag a": again, or where it is not set, changes nothing
    ∷ key (on_plan "2 1 3 23 -1 0 1 0\n2 1 3 23 -1 0 1 0\n2 1 3 23 -1 0 16 0\n2 1 3 24 -1 0 5 0\n") in_set_2 "0 0 0 1 2 1 0\n2 0 3 0\n1 1 1 0 0 0\n2 2 1 1 0 0 32769 1\n"
    ∷ key (on_plan "2 1 3 23 -1 0 4 0\n2 1 3 23 -1 0 16 0\n2 1 3 24 -1 0 16 0\n") in_set_2 "0 0 0 1 2 1 0\n2 0 3 0\n1 1 1 0 0 0\n2 2 1 1 0 0 8 1\n"
    -- "25 delete-plan i"; "22 delete-atom i", which takes the plan too
    ∷ key (on_plan "2 1 3 25 -1 0 0 0\n") in_set_2 "0 0 1 1 2 1 0\n2 0 3 0\n1 1 1 0 0 0\n"
    ∷ key (on_plan "2 1 3 22 1 0 0 0\n") in_set_2 "0 0 2 1 2 1 0\n2 0 3 0\n"
    -- R47: the last atom made is reported, though deleted since, and though the actions stopped after it
    ∷ key (always "1 1 3 21 -1 1 0 0\n1 1 3 21 -2 1 0 0\n1 1 3 22 -2 0 0 0\n1 1 3 25 9 0 0 0\n1 1 3 21 -3 1 0 0\n") (senses [] ∷ steps ∷ []) "0 2 1 1 1 1 1 2\n1 0 3 0\n1 1 1 0 0 0\n"
    -- R48: a rule whose first action stops has fired, and fires again
    ∷ key (always "1 1 3 22 9 0 0 0\n") (senses [] ∷ steps ∷ []) "0 0 0 1 1 1 0\n1 0 1 0\n"
    ∷ key (always "1 1 3 22 9 0 0 0\n") (senses [] ∷ runs 7 ∷ []) "0 0 0 7 3\n1 0 1 0\n"
    -- R49: an id is taken as it is, and the actions stop where it is not of the kind
    ∷ key (joined ("0 0 0 41 0 1 0 0\n" ∷ always "1 1 3 22 1 0 0 0\n" ∷ [])) (senses [] ∷ steps ∷ []) "0 0 1 1 1 1 0\n1 0 2 0\n"
    ∷ key (joined ("0 0 0 41 0 1 0 0\n" ∷ always "1 1 3 25 1 0 0 0\n" ∷ [])) (senses [] ∷ steps ∷ []) "0 0 0 1 1 1 0\n1 0 2 0\n1 1 1 0 0 0\n"
    ∷ key (joined ("0 0 0 41 0 1 0 0\n" ∷ always "1 1 3 23 1 0 2 0\n1 1 3 22 1 0 0 0\n" ∷ [])) (senses [] ∷ steps ∷ []) "0 0 0 1 1 1 0\n1 0 2 0\n1 1 1 0 0 0\n"
    ∷ key (on_plan "2 1 3 22 -1 0 0 0\n2 1 3 25 -1 0 0 0\n") in_set_2 "0 0 0 1 2 1 0\n2 0 3 0\n1 1 1 0 0 0\n2 2 1 1 0 0 0 1\n"
    -- R63: in a run, summed over its steps
    ∷ key (always "1 1 3 21 -1 1 0 0\n1 1 3 22 -1 0 0 0\n") (senses [] ∷ runs 3 ∷ []) "0 3 3 3 3\n1 0 4 0\n"
    ∷ []

-- an object rule with this body, and in exec phase the plan 2 of atom 1 7 8
abbrev doing : String → String
doing t = joined ("1 1 1 1 -1 1 -2 -3\n" ∷ t ∷ [])

-- with these steps left, this subgoal and these flags
abbrev planned : ℕ → ℕ → ℕ → Plan
planned left subgoal flags = plan 2 1 1 left subgoal flags (1 ∷ []) (three 1 7 8)

abbrev in_exec : ℕ → ℕ → Act
in_exec left flags = given (config (atom 1 1 7 8 0 ∷ []) (planned left 0 flags ∷ []) 2 0 3 0)

-- with its subgoal 3 7 8
abbrev in_exec_nested : ℕ → ℕ → Act
in_exec_nested left flags = given (config (atom 1 1 7 8 0 ∷ atom 3 3 7 8 0 ∷ []) (planned left 3 flags ∷ []) 2 0 4 0)

abbrev pub executing : List Key
executing =
    -- R50: the lowest plan that is scheduled and not stepped, whatever its other flags
    key (doing "1 1 3 34 -9 5 0 0\n") (in_exec 1 10 ∷ steps ∷ []) "0 1 0 3 2 3\n2 0 4 0\n1 1 1 7 8 0\n2 2 1 1 0 0 14 1\n1 3 5 0 0 0\n"
    ∷ key (doing "1 1 3 34 -9 5 0 0\n") (in_exec 1 6 ∷ steps ∷ []) "0 0 0 5\n0 1 3 0\n1 1 1 7 8 0\n2 2 1 1 1 0 0 1\n"
    ∷ key (doing "1 1 3 34 -9 5 0 0\n") (in_exec 1 1 ∷ steps ∷ []) "0 0 0 5\n0 1 3 0\n1 1 1 7 8 0\n2 2 1 1 1 0 1 1\n"
    ∷ key (doing "1 1 3 34 -9 5 0 0\n")
    (given (config (atom 1 1 7 8 0 ∷ []) (planned 1 0 0 ∷ plan 3 1 1 1 0 2 (1 ∷ []) (three 1 7 8) ∷ plan 4 1 1 1 0 2 (1 ∷ []) (three 1 7 8) ∷ []) 2 0 5 0) ∷ steps ∷ [])
    "0 1 0 3 3 3\n2 0 6 0\n1 1 1 7 8 0\n2 2 1 1 1 0 0 1\n2 3 1 1 0 0 6 1\n2 4 1 1 1 0 2 1\n1 5 5 0 0 0\n"
    -- R50: a plan that a meta rule made stepped is passed over
    ∷ key (joined ("0 0 0 41 0 1 7 8\n" ∷ doing "1 1 3 34 -9 5 0 0\n" ∷ schedule ∷ "2 1 3 23 -1 0 3 0\n" ∷ [])) (senses [] ∷ runs 9 ∷ [])
    "0 1 0 5 1\n0 1 3 0\n1 1 1 7 8 0\n2 2 1 1 1 0 0 1\n"
    -- "An empty remainder or a live subgoal: stepped is set and nothing else."
    ∷ key (doing "1 1 3 34 -9 5 0 0\n") (in_exec 0 2 ∷ steps ∷ []) "0 0 0 3 2 1\n2 0 3 0\n1 1 1 7 8 0\n2 2 1 1 0 0 6 1\n"
    -- R51: a step that fails stays: 32 with no such atom, 33 with one
    ∷ key (doing "1 1 3 32 0 9 0 0\n") (in_exec 1 2 ∷ steps ∷ []) "0 0 0 3 2 4\n2 0 3 0\n1 1 1 7 8 0\n2 2 1 1 1 0 14 1\n"
    ∷ key (doing "1 1 3 32 0 1 -2 -3\n") (in_exec 1 2 ∷ steps ∷ []) "0 0 0 3 2 3\n2 0 3 0\n1 1 1 7 8 0\n2 2 1 1 0 0 6 1\n"
    ∷ key (doing "1 1 3 33 0 1 -2 -3\n") (in_exec 1 2 ∷ steps ∷ []) "0 0 0 3 2 4\n2 0 3 0\n1 1 1 7 8 0\n2 2 1 1 1 0 14 1\n"
    ∷ key (doing "1 1 3 33 0 1 -3 -2\n") (in_exec 1 2 ∷ steps ∷ []) "0 0 0 3 2 3\n2 0 3 0\n1 1 1 7 8 0\n2 2 1 1 0 0 6 1\n"
    -- R52: scheduled stays beside stepped
    ∷ key (doing "1 1 3 34 -9 5 -2 -1\n") (in_exec 1 2 ∷ steps ∷ []) "0 1 0 3 2 3\n2 0 4 0\n1 1 1 7 8 0\n2 2 1 1 0 0 6 1\n1 3 5 7 1 0\n"
    -- R53: 35 with a plan's id, or a dead one, fails; with another atom's; with its own reason's, which takes the plan
    ∷ key (doing "1 1 3 35 2 0 0 0\n") (in_exec 1 2 ∷ steps ∷ []) "0 0 0 3 2 4\n2 0 3 0\n1 1 1 7 8 0\n2 2 1 1 1 0 14 1\n"
    ∷ key (doing "1 1 3 35 99 0 0 0\n") (in_exec 1 2 ∷ steps ∷ []) "0 0 0 3 2 4\n2 0 3 0\n1 1 1 7 8 0\n2 2 1 1 1 0 14 1\n"
    ∷ key (doing "1 1 3 35 3 0 0 0\n") (given (config (atom 1 1 7 8 0 ∷ atom 3 9 0 0 0 ∷ []) (planned 1 0 2 ∷ []) 2 0 4 0) ∷ steps ∷ [])
    "0 0 1 3 2 3\n2 0 4 0\n1 1 1 7 8 0\n2 2 1 1 0 0 6 1\n"
    ∷ key (doing "1 1 3 35 -1 0 0 0\n") (in_exec 1 2 ∷ steps ∷ []) "0 0 2 3 2 3\n2 0 3 0\n"
    -- R54: 36 makes and links the atom, and the step stays; later the plan is held
    ∷ key (doing "1 1 3 36 -9 3 -2 -3\n") (in_exec 1 2 ∷ steps ∷ []) "0 1 0 3 2 3\n2 0 4 0\n1 1 1 7 8 0\n2 2 1 1 1 3 6 1\n1 3 3 7 8 0\n"
    ∷ key (doing "1 1 3 36 -9 3 -2 -3\n") (in_exec_nested 1 2 ∷ steps ∷ []) "0 0 0 3 2 2\n2 0 4 0\n1 1 1 7 8 0\n2 2 1 1 1 3 6 1\n1 3 3 7 8 0\n"
    -- R55: the end of a cycle clears flags 2 and 3 and no other
    ∷ key (doing "") (in_exec 0 65535 ∷ steps ∷ []) "0 0 0 5\n0 1 3 0\n1 1 1 7 8 0\n2 2 1 1 0 0 65529 1\n"
    -- R56: in cycle 65,535 only the step that would end it is refused
    ∷ key "" (given (config [] [] 1 65534 1 0) ∷ steps ∷ []) "0 0 0 5\n0 65535 1 0\n"
    ∷ key "" (given (config [] [] 1 65535 1 0) ∷ steps ∷ []) "11 0 0\n1 65535 1 0\n"
    ∷ key (doing "") (given (config [] [] 1 65535 1 0) ∷ steps ∷ []) "0 0 0 2\n2 65535 1 0\n"
    ∷ key (doing "") (given (config (atom 1 1 7 8 0 ∷ []) (planned 0 0 2 ∷ []) 2 65535 3 0) ∷ steps ∷ []) "0 0 0 3 2 1\n2 65535 3 0\n1 1 1 7 8 0\n2 2 1 1 0 0 6 1\n"
    -- R66: waits tells the values of a and b, and only the waiting changes
    ∷ key (doing "1 1 3 31 0 9 -3 -1\n") (in_exec 1 2 ∷ steps ∷ []) "0 0 0 4 2 9 8 1\n2 0 3 2\n1 1 1 7 8 0\n2 2 1 1 1 0 2 1\n"
    -- "1 removes the step, 0 sets failed; both set stepped and end the waiting"
    ∷ key (doing "1 1 3 31 0 9 0 0\n") (in_exec 1 2 ∷ steps ∷ answers 1 ∷ []) "0 0 0\n2 0 3 0\n1 1 1 7 8 0\n2 2 1 1 0 0 6 1\n"
    ∷ key (doing "1 1 3 31 0 9 0 0\n") (in_exec 1 2 ∷ steps ∷ answers 0 ∷ []) "0 0 0\n2 0 3 0\n1 1 1 7 8 0\n2 2 1 1 1 0 14 1\n"
    -- R57: 6 before 7
    ∷ key (doing "1 1 3 31 0 9 0 0\n") (in_exec 1 2 ∷ answers 7 ∷ []) "6 0 0\n2 0 3 0\n1 1 1 7 8 0\n2 2 1 1 1 0 2 1\n"
    ∷ key (doing "1 1 3 31 0 9 0 0\n") (in_exec 1 2 ∷ steps ∷ answers 7 ∷ []) "7 0 0\n2 0 3 2\n1 1 1 7 8 0\n2 2 1 1 1 0 2 1\n"
    ∷ key (doing "1 1 3 31 0 9 0 0\n") (in_exec 1 2 ∷ steps ∷ answers 2 ∷ []) "7 0 0\n2 0 3 2\n1 1 1 7 8 0\n2 2 1 1 1 0 2 1\n"
    -- "call out of turn": in phase 0 a step; while a plan waits, each but answer
    ∷ key "" (steps ∷ []) "6 0 0\n0 0 1 0\n"
    ∷ key "" (answers 1 ∷ []) "6 0 0\n0 0 1 0\n"
    ∷ key (doing "1 1 3 31 0 9 0 0\n") (in_exec 1 2 ∷ steps ∷ senses [] ∷ []) "6 0 0\n2 0 3 2\n1 1 1 7 8 0\n2 2 1 1 1 0 2 1\n"
    ∷ key (doing "1 1 3 31 0 9 0 0\n") (in_exec 1 2 ∷ steps ∷ steps ∷ []) "6 0 0\n2 0 3 2\n1 1 1 7 8 0\n2 2 1 1 1 0 2 1\n"
    ∷ key (doing "1 1 3 31 0 9 0 0\n") (in_exec 1 2 ∷ steps ∷ runs 10 ∷ []) "6 0 0\n2 0 3 2\n1 1 1 7 8 0\n2 2 1 1 1 0 2 1\n"
    ∷ key (doing "1 1 3 31 0 9 0 0\n") (in_exec 1 2 ∷ steps ∷ deletes 1 ∷ []) "6 0 0\n2 0 3 2\n1 1 1 7 8 0\n2 2 1 1 1 0 2 1\n"
    ∷ []

-- two cycles of subgoals: atom 1, its plan 2, the subgoal 3, its plan 4, the subgoal 5
abbrev two_deep : List Act → List Act
two_deep acts = senses (add 1 4 4 ∷ []) ∷ runs 10 ∷ senses [] ∷ runs 10 ∷ acts

abbrev pub deleting : List Key
deleting =
    key (nesting "1") (two_deep []) "0 2 0 8 1\n0 2 6 0\n1 1 1 4 4 0\n2 2 1 1 1 3 0 1\n1 3 1 4 4 0\n2 4 1 1 1 5 0 3\n1 5 1 4 4 0\n"
    -- "exactly the instances reached from it by zero or more links"
    ∷ key (nesting "1") (two_deep (deletes 1 ∷ [])) "0 0 5\n0 2 6 0\n"
    ∷ key (nesting "1") (two_deep (deletes 2 ∷ [])) "0 0 4\n0 2 6 0\n1 1 1 4 4 0\n"
    -- "A plan with two justifications goes when either goes": withdrawn here, the other atom stays
    ∷ key two_reasons (senses (add 1 7 0 ∷ add 2 7 0 ∷ []) ∷ runs 10 ∷ senses (withdraw 1 7 0 ∷ []) ∷ []) "0 0 2\n1 1 4 0\n1 2 2 7 0 0\n"
    ∷ key two_reasons (senses (add 1 7 0 ∷ add 2 7 0 ∷ []) ∷ runs 10 ∷ senses (withdraw 2 7 0 ∷ []) ∷ []) "0 0 2\n1 1 4 0\n1 1 1 7 0 0\n"
    -- R67: a plan that survives and loses its subgoal loses its first step
    ∷ key (nesting "1") (two_deep (deletes 3 ∷ [])) "0 0 3\n0 2 6 0\n1 1 1 4 4 0\n2 2 1 1 0 0 0 1\n"
    ∷ key (nesting "1") (two_deep (deletes 4 ∷ [])) "0 0 2\n0 2 6 0\n1 1 1 4 4 0\n2 2 1 1 1 3 0 1\n1 3 1 4 4 0\n"
    -- "so does a deletion that works only the first time"; and an id is not alive twice
    ∷ key (nesting "1") (two_deep (deletes 5 ∷ deletes 3 ∷ [])) "0 0 2\n0 2 6 0\n1 1 1 4 4 0\n2 2 1 1 0 0 0 1\n"
    ∷ key (nesting "1") (two_deep (deletes 2 ∷ deletes 5 ∷ [])) "12 0 0\n0 2 6 0\n1 1 1 4 4 0\n"
    -- R67: its flags stay, and where it is not stepped it goes on in the same cycle
    ∷ key (doing "1 1 3 36 -9 3 -2 -3\n1 1 3 34 -9 5 0 0\n") (in_exec_nested 2 2 ∷ deletes 3 ∷ []) "0 0 1\n2 0 4 0\n1 1 1 7 8 0\n2 2 1 1 1 0 2 1\n"
    ∷ key (doing "1 1 3 36 -9 3 -2 -3\n1 1 3 34 -9 5 0 0\n") (in_exec_nested 2 2 ∷ deletes 3 ∷ steps ∷ []) "0 1 0 3 2 3\n2 0 5 0\n1 1 1 7 8 0\n2 2 1 1 0 0 6 1\n1 4 5 0 0 0\n"
    ∷ key (doing "1 1 3 36 -9 3 -2 -3\n1 1 3 34 -9 5 0 0\n") (in_exec_nested 2 6 ∷ deletes 3 ∷ steps ∷ []) "0 0 0 5\n0 1 4 0\n1 1 1 7 8 0\n2 2 1 1 1 0 0 1\n"
    -- R58: in any phase, which stays; any number that is no live id is 12; 6 comes before it
    ∷ key "0 0 0 41 0 1 0 0\n" (deletes 1 ∷ []) "0 0 1\n0 0 2 0\n"
    ∷ key "0 0 0 41 0 1 0 0\n" (senses [] ∷ deletes 1 ∷ []) "0 0 1\n1 0 2 0\n"
    ∷ key "0 0 0 41 0 1 0 0\n" (deletes 0 ∷ []) "12 0 0\n0 0 2 0\n1 1 1 0 0 0\n"
    ∷ key "0 0 0 41 0 1 0 0\n" (deletes 2 ∷ []) "12 0 0\n0 0 2 0\n1 1 1 0 0 0\n"
    ∷ key "0 0 0 41 0 1 0 0\n" (deletes 65536 ∷ []) "12 0 0\n0 0 2 0\n1 1 1 0 0 0\n"
    ∷ key "0 0 0 41 0 1 0 0\n" (deletes 1 ∷ deletes 1 ∷ []) "12 0 0\n0 0 2 0\n"
    ∷ key (doing "1 1 3 31 0 9 0 0\n") (in_exec 1 2 ∷ steps ∷ deletes 0 ∷ []) "6 0 0\n2 0 3 2\n1 1 1 7 8 0\n2 2 1 1 1 0 2 1\n"
    ∷ []

-- R68: an atom has the cycle in which it was made; an initial one has 0
abbrev pub dates : List Dated
dates =
    dated "0 0 0 41 0 1 0 0\n" (senses (add 2 0 0 ∷ []) ∷ steps ∷ senses (add 3 0 0 ∷ []) ∷ []) (0 ∷ 0 ∷ 1 ∷ [])
    ∷ dated "1 1 2 2 -9 7 -1 -9\n1 1 2 13 0 0 2 0\n1 1 3 21 -9 7 0 0\n" (senses [] ∷ runs 9 ∷ senses [] ∷ runs 9 ∷ senses [] ∷ runs 9 ∷ []) (2 ∷ [])
    ∷ []
