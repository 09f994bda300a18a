-- Programs and configurations handed in, whatever they are: for each clause of well-formedness one that breaks it, which every call
-- answers with 1, and one that only just keeps it. Then calls that are given another program.
use Rattle.std.specs.Prelude.{ℕ, List, [], ◌∷◌, replicate}
use Prim.Native.String.{String}
use Rattle.model.specs.Configuration.{Atom, Plan, Config, no_value}
use Rattle.model.specs.Play.{senses, steps, answers, deletes, runs, under, given, Key, key, add}
use Rattle.model.specs.CaseTools.{Handed, handed, handed_rows, joined, row, atom, plan, three, config, atoms_from, plans_from}

-- set 1: for each atom 1 a plan that makes the subgoal 3 (a, b), then acts; set 2: a meta rule
abbrev rules : String
rules = "1 1 1 1 -1 1 -2 -3\n1 1 3 36 -9 3 -2 -3\n1 1 3 31 0 9 -1 0\n2 1 2 13 0 0 -9 0\n2 1 3 22 1 0 0 0\n"

-- a rule without body
abbrev bodiless : String
bodiless = "1 1 1 1 -1 1 -2 -3\n"

-- the atom 1 4 5 with id 1; the subgoal 3 4 5 with id 3
abbrev reason : Atom
reason = atom 1 1 4 5 0

abbrev goal : Atom
goal = atom 3 3 4 5 0

-- the plan 2 with its subgoal 3; the same with left steps and no subgoal
abbrev nested : Plan
nested = plan 2 1 1 2 3 0 (1 ∷ []) (three 1 4 5)

abbrev with_left : ℕ → Plan
with_left left = plan 2 1 1 left 0 0 (1 ∷ []) (three 1 4 5)

-- an atom alone; scalars alone; a plan beside its reason; any atoms and plans
abbrev alone : Atom → ℕ → Handed
alone x n = handed rules (config (x ∷ []) [] 0 0 2 0) n

abbrev scalars : ℕ → ℕ → ℕ → ℕ → Handed
scalars phase cycle next n = handed rules (config [] [] phase cycle next 0) n

abbrev beside : Plan → ℕ → Handed
beside q n = handed rules (config (reason ∷ []) (q ∷ []) 0 0 3 0) n

abbrev all : List Atom → List Plan → ℕ → Handed
all xs qs n = handed rules (config xs qs 0 0 5 0) n

-- five atoms and plan 6 with these justifications
abbrev justified : List ℕ → ℕ → Handed
justified js n = handed bodiless (config (atoms_from 1 5) (plan 6 1 1 0 0 0 js (three 1 0 0) ∷ []) 0 0 7 0) n

-- "all limits above hold"
abbrev pub limits : List Handed
limits =
    -- "predicate p (1 to 255), arguments a and b (0 to 65,535), cycle in which it was made"
    alone (atom 1 1 0 0 0) 12
    ∷ alone (atom 1 0 0 0 0) 1
    ∷ alone (atom 1 255 65535 65535 0) 12
    ∷ alone (atom 1 256 0 0 0) 1
    ∷ alone (atom 1 1 65536 0 0) 1
    ∷ alone (atom 1 1 0 65536 0) 1
    -- R25: an atom's cycle is 0 to 65,535, and may be later than the present one
    ∷ alone (atom 1 1 0 0 9) 12
    ∷ alone (atom 1 1 0 0 65535) 12
    ∷ alone (atom 1 1 0 0 65536) 1
    -- "At most 256 alive."
    ∷ handed "" (config (atoms_from 1 256) [] 0 0 257 0) 12
    ∷ handed "" (config (atoms_from 1 257) [] 0 0 258 0) 1
    -- "At most 64 alive." R30: equal plans are not forbidden
    ∷ handed bodiless (config (atoms_from 1 1) (plans_from 2 64) 0 0 66 0) 12
    ∷ handed bodiless (config (atoms_from 1 1) (plans_from 2 65) 0 0 67 0) 1
    -- "Phase 0 to k+1", "cycle 0 to 65,535, next id 1 to 65,536"
    ∷ scalars 3 0 1 12
    ∷ scalars 4 0 1 1
    ∷ handed "" (config [] [] 1 0 1 0) 12
    ∷ handed "" (config [] [] 2 0 1 0) 1
    ∷ scalars 0 65535 1 12
    ∷ scalars 0 65536 1 1
    ∷ scalars 0 0 0 1
    ∷ scalars 0 0 65536 12
    ∷ scalars 0 0 65537 1
    -- R26: at most as many steps are left as the rule's body has
    ∷ beside (with_left 0) 12
    ∷ beside (with_left 2) 12
    ∷ beside (with_left 3) 1
    -- "1 to 4 justifications"
    ∷ justified [] 1
    ∷ justified (1 ∷ 2 ∷ 3 ∷ 4 ∷ []) 12
    ∷ justified (1 ∷ 2 ∷ 3 ∷ 4 ∷ 5 ∷ []) 1
    -- R30: flags are any 16-bit number
    ∷ beside (plan 2 1 1 2 0 65535 (1 ∷ []) (three 1 4 5)) 12
    ∷ beside (plan 2 1 1 2 0 65536 (1 ∷ []) (three 1 4 5)) 1
    -- a value is a 16-bit number, or 65,536 for none; there are eight
    ∷ beside (plan 2 1 1 2 0 0 (1 ∷ []) (three 65535 4 5)) 12
    ∷ beside (plan 2 1 1 2 0 0 (1 ∷ []) (three 65537 4 5)) 1
    ∷ beside (plan 2 1 1 2 0 0 (1 ∷ []) (replicate 7 0)) 1
    ∷ beside (plan 2 1 1 2 0 0 (1 ∷ []) (replicate 8 0)) 12
    ∷ []

-- the other clauses, in their order
abbrev pub clauses : List Handed
clauses =
    -- "a plan's justifications are distinct"; R31: they stand in rising id
    justified (1 ∷ 2 ∷ []) 12
    ∷ justified (1 ∷ 1 ∷ []) 1
    ∷ justified (2 ∷ 1 ∷ []) 1
    -- R27: each variable of the whole body has a value, whatever is left of it
    ∷ beside (plan 2 1 1 0 0 0 (1 ∷ []) (three no_value 4 5)) 1
    ∷ beside (plan 2 1 1 0 0 0 (1 ∷ []) (three 1 no_value 5)) 1
    ∷ beside (plan 2 1 1 0 0 0 (1 ∷ []) (three 1 4 no_value)) 1
    ∷ handed "1 1 1 1 -1 1 -2 -3\n1 1 3 35 -1 0 0 0\n" (config (reason ∷ []) (plan 2 1 1 0 0 0 (1 ∷ []) (three no_value 4 5) ∷ []) 0 0 3 0) 1
    -- R28: the values at variables that the body does not use are free
    ∷ beside (plan 2 1 1 0 0 0 (1 ∷ []) (1 ∷ 4 ∷ 5 ∷ replicate 5 9)) 12
    ∷ handed bodiless (config (reason ∷ []) (plan 2 1 1 0 0 0 (1 ∷ []) (replicate 8 no_value) ∷ []) 0 0 3 0) 12
    -- "ids in use are distinct, 1 or more and below next id"
    ∷ all (atom 1 1 4 5 0 ∷ atom 2 1 4 5 0 ∷ []) [] 12
    ∷ all (atom 1 1 4 5 0 ∷ atom 1 1 4 5 0 ∷ []) [] 1
    ∷ all (reason ∷ []) (with_left 2 ∷ with_left 2 ∷ []) 1
    ∷ all (reason ∷ atom 2 1 4 5 0 ∷ []) (with_left 2 ∷ []) 1
    ∷ all (atom 0 1 4 5 0 ∷ []) [] 1
    ∷ all (atom 4 1 4 5 0 ∷ []) [] 12
    ∷ all (atom 5 1 4 5 0 ∷ []) [] 1
    ∷ all (reason ∷ []) (plan 4 1 1 2 0 0 (1 ∷ []) (three 1 4 5) ∷ []) 12
    ∷ all (reason ∷ []) (plan 5 1 1 2 0 0 (1 ∷ []) (three 1 4 5) ∷ []) 1
    -- R31: atoms, and plans, stand in rising id
    ∷ all (atom 2 1 4 5 0 ∷ atom 1 1 4 5 0 ∷ []) [] 1
    ∷ all (reason ∷ []) (with_left 2 ∷ plan 3 1 1 2 0 0 (1 ∷ []) (three 1 4 5) ∷ []) 12
    ∷ all (reason ∷ []) (plan 3 1 1 2 0 0 (1 ∷ []) (three 1 4 5) ∷ with_left 2 ∷ []) 1
    -- "every link ends at a live instance": a justification, which is an atom; a subgoal, which is one too
    ∷ all [] (with_left 2 ∷ []) 1
    ∷ all (reason ∷ []) (with_left 2 ∷ plan 3 1 1 2 0 0 (2 ∷ []) (three 1 4 5) ∷ []) 1
    ∷ all (reason ∷ goal ∷ []) (nested ∷ []) 12
    ∷ all (reason ∷ []) (nested ∷ []) 1
    ∷ all (reason ∷ []) (nested ∷ plan 3 1 1 2 0 0 (1 ∷ []) (three 1 4 5) ∷ []) 1
    -- "and its id order rises (atom to the plan it justifies, plan to its subgoal atom)"
    ∷ all (atom 3 1 4 5 0 ∷ []) (plan 2 1 1 2 0 0 (3 ∷ []) (three 3 4 5) ∷ []) 1
    ∷ all (atom 3 1 4 5 0 ∷ []) (plan 4 1 1 2 0 0 (3 ∷ []) (three 3 4 5) ∷ []) 12
    ∷ all (reason ∷ atom 2 3 4 5 0 ∷ []) (plan 3 1 1 2 2 0 (1 ∷ []) (three 1 4 5) ∷ []) 1
    -- "no atom is the subgoal of two plans"
    ∷ all (reason ∷ atom 4 3 4 5 0 ∷ []) (plan 2 1 1 2 4 0 (1 ∷ []) (three 1 4 5) ∷ plan 3 1 1 2 4 0 (1 ∷ []) (three 1 4 5) ∷ []) 1
    ∷ all (reason ∷ atom 4 3 4 5 0 ∷ []) (plan 2 1 1 2 4 0 (1 ∷ []) (three 1 4 5) ∷ plan 3 1 1 2 0 0 (1 ∷ []) (three 1 4 5) ∷ []) 12
    -- "each plan's rule is an object rule of the program given"
    ∷ beside (plan 2 2 1 0 0 0 (1 ∷ []) (three 1 4 5)) 1
    ∷ beside (plan 2 1 2 0 0 0 (1 ∷ []) (three 1 4 5)) 1
    ∷ beside (plan 2 0 0 0 0 0 (1 ∷ []) (three 1 4 5)) 1
    -- "a plan with a subgoal has as first step a subgoal step equal to that atom"
    ∷ all (reason ∷ goal ∷ []) (plan 2 1 1 1 3 0 (1 ∷ []) (three 1 4 5) ∷ []) 1
    ∷ all (reason ∷ goal ∷ []) (plan 2 1 1 0 3 0 (1 ∷ []) (three 1 4 5) ∷ []) 1
    ∷ all (reason ∷ atom 3 9 1 0 0 ∷ []) (plan 2 1 1 1 3 0 (1 ∷ []) (three 1 4 5) ∷ []) 1
    ∷ all (reason ∷ atom 3 4 4 5 0 ∷ []) (nested ∷ []) 1
    ∷ all (reason ∷ atom 3 3 9 5 0 ∷ []) (nested ∷ []) 1
    ∷ all (reason ∷ atom 3 3 4 9 0 ∷ []) (nested ∷ []) 1
    -- "a waiting plan is alive, in exec phase, with an external action first"
    ∷ handed rules (config (reason ∷ []) (with_left 1 ∷ []) 3 0 3 2) 6
    ∷ handed rules (config (reason ∷ []) (with_left 1 ∷ []) 3 0 3 1) 1
    ∷ handed rules (config (reason ∷ []) (with_left 1 ∷ []) 3 0 3 9) 1
    ∷ handed rules (config (reason ∷ []) (with_left 1 ∷ []) 2 0 3 2) 1
    ∷ handed rules (config (reason ∷ []) (with_left 1 ∷ []) 0 0 3 2) 1
    ∷ handed rules (config (reason ∷ []) (with_left 2 ∷ []) 3 0 3 2) 1
    ∷ handed rules (config (reason ∷ []) (with_left 0 ∷ []) 3 0 3 2) 1
    -- R29: nothing is asked of its flags
    ∷ handed rules (config (reason ∷ []) (plan 2 1 1 1 0 4 (1 ∷ []) (three 1 4 5) ∷ []) 3 0 3 2) 6
    -- R24: a program is rows that some text loads to
    ∷ handed_rows [] (config [] [] 0 0 1 0) 12
    ∷ handed_rows (row 1 1 1 1 8 1 7 6 ∷ []) (config [] [] 0 0 1 0) 12
    ∷ handed_rows (row 1 2 1 1 8 1 7 6 ∷ []) (config [] [] 0 0 1 0) 1
    ∷ handed_rows (row 1 1 2 13 9 0 0 9 ∷ []) (config [] [] 0 0 1 0) 1
    ∷ handed_rows (row 1 1 1 1 8 1 65544 6 ∷ []) (config [] [] 0 0 1 0) 12
    ∷ handed_rows (row 1 1 1 1 8 1 65545 6 ∷ []) (config [] [] 0 0 1 0) 1
    ∷ []

-- a phase that no program without sets has
abbrev astray : Config
astray = config [] [] 5 0 1 0

-- an atom 1 7 8, a plan of one step for it, and a set that schedules every plan
abbrev one_step : String → String
one_step t = joined ("0 0 0 41 0 1 7 8\n1 1 1 1 -1 1 -2 -3\n" ∷ t ∷ "2 1 2 3 -1 0 -9 -9\n2 1 2 12 -1 0 2 0\n2 1 3 23 -1 0 2 0\n" ∷ [])

abbrev pub other_programs : List Key
other_programs =
    -- "Other calls test 1, 6, 7, 12": each call answers 1, whatever else is against it
    key "" (given astray ∷ senses (add 0 0 0 ∷ []) ∷ []) "1 0 0\n5 0 1 0\n"
    ∷ key "" (given astray ∷ steps ∷ []) "1 0 0\n5 0 1 0\n"
    ∷ key "" (given astray ∷ answers 7 ∷ []) "1 0 0\n5 0 1 0\n"
    ∷ key "" (given astray ∷ deletes 0 ∷ []) "1 0 0\n5 0 1 0\n"
    ∷ key "" (given astray ∷ runs 0 ∷ []) "1 0 0\n5 0 1 0\n"
    -- R29: the answer to a waiting plan that is not scheduled is taken
    ∷ key rules (given (config (reason ∷ []) (plan 2 1 1 1 0 4 (1 ∷ []) (three 1 4 5) ∷ []) 3 0 3 2) ∷ answers 1 ∷ [])
    "0 0 0\n3 0 3 0\n1 1 1 4 5 0\n2 2 1 1 0 0 4 1\n"
    -- R26: another program whose body is shorter than what is left; one whose body is longer
    ∷ key (one_step "1 1 3 31 0 9 0 0\n") (senses [] ∷ steps ∷ under (one_step "") ∷ steps ∷ []) "1 0 0\n1 0 3 0\n1 1 1 7 8 0\n2 2 1 1 1 0 0 1\n"
    ∷ key (one_step "1 1 3 31 0 9 0 0\n") (senses [] ∷ steps ∷ under (one_step "1 1 3 31 0 7 0 0\n1 1 3 31 0 8 0 0\n") ∷ steps ∷ steps ∷ steps ∷ steps ∷ [])
    "0 0 0 4 2 8 0 0\n3 0 3 2\n1 1 1 7 8 0\n2 2 1 1 1 0 2 1\n"
    -- R28: a plan keeps the values of all its rule's variables; another body may use them
    ∷ key (one_step "1 1 3 31 0 9 -1 0\n") (senses [] ∷ steps ∷ under (one_step "1 1 3 31 0 9 -3 0\n") ∷ steps ∷ steps ∷ steps ∷ steps ∷ [])
    "0 0 0 4 2 9 8 0\n3 0 3 2\n1 1 1 7 8 0\n2 2 1 1 1 0 2 1\n"
    -- R64: not the rule's kind; a value that the plan has not; another phase; another subgoal; no external action where the plan waits
    ∷ key (one_step "") (senses [] ∷ steps ∷ under "1 1 2 13 0 0 -9 0\n1 1 3 22 1 0 0 0\n" ∷ steps ∷ []) "1 0 0\n1 0 3 0\n1 1 1 7 8 0\n2 2 1 1 0 0 0 1\n"
    ∷ key (one_step "") (senses [] ∷ steps ∷ under "1 1 1 1 -1 1 -2 -4\n1 1 3 31 0 9 -4 0\n" ∷ steps ∷ []) "1 0 0\n1 0 3 0\n1 1 1 7 8 0\n2 2 1 1 0 0 0 1\n"
    ∷ key "1 1 1 1 -1 1 0 0\n2 1 1 1 -1 1 0 0\n" (senses [] ∷ steps ∷ steps ∷ under "1 1 1 1 -1 1 0 0\n" ∷ steps ∷ []) "1 0 0\n3 0 1 0\n"
    ∷ key (one_step "1 1 3 36 -9 3 -2 -3\n") (senses [] ∷ runs 5 ∷ under (one_step "1 1 3 36 -9 3 -3 -2\n") ∷ steps ∷ [])
    "1 0 0\n3 0 4 0\n1 1 1 7 8 0\n2 2 1 1 1 3 6 1\n1 3 3 7 8 0\n"
    ∷ key (one_step "1 1 3 31 0 9 0 0\n") (senses [] ∷ runs 5 ∷ under (one_step "1 1 3 34 -9 9 0 0\n") ∷ answers 1 ∷ [])
    "1 0 0\n3 0 3 2\n1 1 1 7 8 0\n2 2 1 1 1 0 2 1\n"
    -- R64: the rules, ceilings and phases of the program given are used, its initial atoms are not
    ∷ key "" (senses (add 1 7 8 ∷ []) ∷ under (one_step "") ∷ steps ∷ []) "0 1 0 1 1 1 2 2\n1 0 3 0\n1 1 1 7 8 0\n2 2 1 1 0 0 0 1\n"
    ∷ key "" (under "0 0 0 41 0 1 0 0\n0 0 0 40 0 1 10 2\n" ∷ senses (add 1 0 10 ∷ []) ∷ []) "0 1 0\n1 0 2 0\n1 1 2 0 10 0\n"
    ∷ key "1 1 1 1 -1 1 0 0\n" (senses [] ∷ steps ∷ under "1 1 1 1 -1 1 0 0\n2 1 1 1 -1 1 0 0\n" ∷ steps ∷ []) "0 0 0 2\n3 0 1 0\n"
    ∷ []
