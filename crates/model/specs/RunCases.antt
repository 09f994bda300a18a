-- run and keyrun, and the limits that a call's work meets.
use Rattle.std.specs.Prelude.{ℕ, List, [], ◌∷◌, replicate}
use Prim.Native.String.{String}
use Rattle.model.specs.Keys.{printed}
use Rattle.model.specs.Play.{Act, senses, steps, deletes, runs, given, Key, key, add, withdraw}
use Rattle.model.specs.CaseTools.{Counted, counted, Printed, prints, lists_atoms, repeat, joined, reading, atom, plan, three, config, atoms_from, plans_from}

-- a meta rule that makes an atom at every step
abbrev adding : String
adding = "1 1 2 13 0 0 -9 0\n1 1 3 21 -9 2 0 0\n"

-- an object rule with this body
abbrev doing : String → String
doing t = joined ("1 1 1 1 -1 1 -2 -3\n" ∷ t ∷ [])

abbrev pub running : List Key
running =
    -- R59: 6 before 7; a run whose first step would be refused takes none
    key "" (runs 0 ∷ []) "6 0 0\n0 0 1 0\n"
    ∷ key "" (senses [] ∷ runs 0 ∷ []) "7 0 0\n1 0 1 0\n"
    ∷ key "" (senses [] ∷ runs 10001 ∷ []) "7 0 0\n1 0 1 0\n"
    ∷ key "" (senses [] ∷ runs 10000 ∷ []) "0 0 0 1 1\n0 1 1 0\n"
    ∷ key "" (given (config [] [] 1 65535 1 0) ∷ runs 5 ∷ []) "0 0 0 0 4 11\n1 65535 1 0\n"
    -- R60: after a step phase 0 is told before the limit, waiting before it, and the limit before a refusal
    ∷ key "" (senses [] ∷ runs 1 ∷ []) "0 0 0 1 1\n0 1 1 0\n"
    ∷ key (doing "1 1 3 31 0 9 0 0\n") (given (config (atom 1 1 0 0 0 ∷ []) (plan 2 1 1 1 0 2 (1 ∷ []) (three 1 0 0) ∷ []) 2 0 3 0) ∷ runs 1 ∷ [])
    "0 0 0 1 2\n2 0 3 2\n1 1 1 0 0 0\n2 2 1 1 1 0 2 1\n"
    ∷ key adding (given (config [] [] 1 0 65535 0) ∷ runs 1 ∷ []) "0 1 0 1 3\n1 0 65536 0\n1 65535 2 0 0 0\n"
    ∷ key adding (given (config [] [] 1 0 65535 0) ∷ runs 2 ∷ []) "0 1 0 1 4 8\n1 0 65536 0\n1 65535 2 0 0 0\n"
    -- "takes steps until ..": from the middle of a cycle
    ∷ key printed (senses (add 1 3 1200 ∷ []) ∷ runs 2 ∷ runs 10 ∷ []) "0 1 0 4 1\n0 1 4 0\n1 1 1 3 1200 0\n2 2 1 1 1 3 0 1\n1 3 3 3 1200 0\n"
    ∷ key printed (senses (add 1 3 1200 ∷ []) ∷ runs 6 ∷ []) "0 2 0 6 1\n0 1 4 0\n1 1 1 3 1200 0\n2 2 1 1 1 3 0 1\n1 3 3 3 1200 0\n"
    ∷ key printed (senses (add 1 3 1200 ∷ []) ∷ runs 5 ∷ []) "0 2 0 5 3\n3 0 4 0\n1 1 1 3 1200 0\n2 2 1 1 1 3 6 1\n1 3 3 3 1200 0\n"
    ∷ []

-- 256 atoms, in this phase and with this next id
abbrev full : ℕ → ℕ → Act
full phase next = given (config (atoms_from 1 256) [] phase 0 next 0)

-- 256 atoms, and in exec phase a plan that is due
abbrev full_and_due : ℕ → Act
full_and_due next = given (config (atoms_from 1 256) (plan 257 1 1 1 0 2 (1 ∷ []) (three 1 0 0) ∷ []) 2 0 next 0)

-- two atoms, and plans for the first
abbrev with_plans : ℕ → ℕ → Act
with_plans n next = given (config (atoms_from 1 2) (plans_from 3 n) 1 0 next 0)

abbrev pub limits : List Counted
limits =
    -- "Atom 256 accepted, 257 refused 9, accepted after a delete."
    counted "" (given (config (atoms_from 1 255) [] 0 0 256 0) ∷ senses (add 1 0 0 ∷ []) ∷ []) "0 1 0\n1 0 257 0\n256 0\n"
    ∷ counted "" (full 0 257 ∷ senses (add 1 0 0 ∷ []) ∷ []) "9 0 0\n0 0 257 0\n256 0\n"
    ∷ counted "" (full 0 257 ∷ deletes 7 ∷ senses (add 1 0 0 ∷ []) ∷ []) "0 1 0\n1 0 258 0\n256 0\n"
    -- "0 to 64 rows"
    ∷ counted "" (senses (replicate 64 (add 1 0 0)) ∷ []) "0 64 0\n1 0 65 0\n64 0\n"
    ∷ counted "" (senses (replicate 65 (add 1 0 0)) ∷ []) "7 0 0\n0 0 1 0\n0 0\n"
    -- R41: 7 before 9
    ∷ counted "" (full 0 257 ∷ senses (add 1 0 0 ∷ reading 3 1 0 0 ∷ []) ∷ []) "7 0 0\n0 0 257 0\n256 0\n"
    -- R46: a place freed earlier in the call is used; what a refused call did is undone
    ∷ counted "" (given (config (atom 1 9 0 0 0 ∷ atoms_from 2 255) [] 0 0 257 0) ∷ senses (withdraw 9 0 0 ∷ add 1 0 0 ∷ []) ∷ []) "0 1 1\n1 0 258 0\n256 0\n"
    ∷ counted "" (given (config (atoms_from 1 255) [] 0 0 256 0) ∷ senses (add 1 0 0 ∷ add 1 0 0 ∷ []) ∷ []) "9 0 0\n0 0 256 0\n255 0\n"
    ∷ counted "1 1 2 13 0 0 -9 0\n1 1 3 22 1 0 0 0\n1 1 3 21 -9 1 0 0\n" (full 1 257 ∷ steps ∷ []) "0 1 1 1 1 1 1 257\n1 0 258 0\n256 0\n"
    ∷ counted "1 1 2 13 0 0 -9 0\n1 1 3 22 1 0 0 0\n1 1 3 21 -9 1 0 0\n1 1 3 21 -9 1 0 0\n" (full 1 257 ∷ steps ∷ []) "9 0 0\n1 0 257 0\n256 0\n"
    -- R45: a rule that matches is refused by a limit, and no later rule is tried; 8 before 9
    ∷ counted (joined (adding ∷ "1 2 2 13 0 0 -9 0\n1 2 3 22 1 0 0 0\n" ∷ [])) (full 1 257 ∷ steps ∷ []) "9 0 0\n1 0 257 0\n256 0\n"
    ∷ counted (joined (adding ∷ "1 2 2 13 0 0 -9 0\n1 2 3 22 1 0 0 0\n" ∷ [])) (full 1 65536 ∷ steps ∷ []) "8 0 0\n1 0 65536 0\n256 0\n"
    -- "next id 65,536 and one more needed"
    ∷ counted "" (given (config [] [] 0 0 65535 0) ∷ senses (add 1 0 0 ∷ []) ∷ []) "0 1 0\n1 0 65536 0\n1 0\n"
    ∷ counted "" (given (config [] [] 0 0 65536 0) ∷ senses (add 1 0 0 ∷ []) ∷ []) "8 0 0\n0 0 65536 0\n0 0\n"
    ∷ counted "" (given (config [] [] 0 0 65536 0) ∷ senses (withdraw 1 0 0 ∷ []) ∷ []) "0 0 0\n1 0 65536 0\n0 0\n"
    ∷ counted "" (full 0 65536 ∷ senses (add 1 0 0 ∷ []) ∷ []) "8 0 0\n0 0 65536 0\n256 0\n"
    -- 34 and 36 meet them too; 35 does not
    ∷ counted (doing "1 1 3 34 -9 5 0 0\n") (full_and_due 258 ∷ steps ∷ []) "9 0 0\n2 0 258 0\n256 1\n"
    ∷ counted (doing "1 1 3 36 -9 5 0 0\n") (full_and_due 258 ∷ steps ∷ []) "9 0 0\n2 0 258 0\n256 1\n"
    ∷ counted (doing "1 1 3 36 -9 5 0 0\n") (full_and_due 65536 ∷ steps ∷ []) "8 0 0\n2 0 65536 0\n256 1\n"
    ∷ counted (doing "1 1 3 35 2 0 0 0\n") (full_and_due 65536 ∷ steps ∷ []) "0 0 1 3 257 3\n2 0 65536 0\n255 1\n"
    -- "64 plans alive and one more needed"; a place freed is used; 8 before 10
    ∷ counted (doing "") (with_plans 63 66 ∷ steps ∷ []) "0 1 0 1 1 1 2 66\n1 0 67 0\n2 64\n"
    ∷ counted (doing "") (with_plans 64 67 ∷ steps ∷ []) "10 0 0\n1 0 67 0\n2 64\n"
    ∷ counted (doing "") (with_plans 64 67 ∷ deletes 9 ∷ steps ∷ []) "0 1 0 1 1 1 2 67\n1 0 68 0\n2 64\n"
    ∷ counted (doing "") (with_plans 64 65536 ∷ steps ∷ []) "8 0 0\n1 0 65536 0\n2 64\n"
    -- a refused step ends a run, which keeps the steps before it
    ∷ counted (doing "") (given (config (atoms_from 1 3) (plans_from 4 63) 1 0 67 0) ∷ runs 5 ∷ []) "0 1 0 1 4 10\n1 0 68 0\n3 64\n"
    ∷ []

-- R61: the listing; the number of a refused load or sense; and the listing where a run stops at a step that would be refused
abbrev pub keyruns : List Printed
keyruns =
    prints (joined ("set rule part op i p a b\n" ∷ printed ∷ [])) "kind id p a b sub\n1 1 1 3 1200 0\n2 2 1 1 1 3\n1 3 3 3 1200 0\n"
    ∷ prints "set rule part op i p a b\n" "kind id p a b sub\n1 1 1 3 1200 0\n"
    ∷ prints (joined ("set rule part op i p a b\n" ∷ adding ∷ []))
    "kind id p a b sub\n1 1 1 3 1200 0\n1 2 2 0 0 0\n1 3 2 0 0 0\n1 4 2 0 0 0\n1 5 2 0 0 0\n1 6 2 0 0 0\n1 7 2 0 0 0\n1 8 2 0 0 0\n1 9 2 0 0 0\n1 10 2 0 0 0\n1 11 2 0 0 0\n"
    ∷ prints "" "2\n"
    ∷ prints "set rule part op i p a b\n1 1 2 3 -1 0 -9 -9\n" "3\n"
    ∷ prints (joined ("set rule part op i p a b\n" ∷ repeat 256 "0 0 0 41 0 1 0 0\n" ∷ [])) "9\n"
    ∷ lists_atoms (joined (repeat 254 "0 0 0 41 0 1 0 0\n" ∷ adding ∷ [])) 254 "1 255 1 3 1200 0\n1 256 2 0 0 0\n"
    ∷ []
