-- "Keys from the test board": those with a star in the paper, as one table (`Play` says how a row reads).
use Prim.Native.String.{String}
use Rattle.std.specs.Prelude.{List, [], ◌∷◌}
use Rattle.model.specs.Play.{senses, steps, deletes, runs, Key, key, add, withdraw}

-- the printed program
abbrev pub printed : String
printed = "0 0 0 40 0 1 4095 2\n1 1 1 1 -1 1 -2 -3\n1 1 3 36 -9 3 -2 -3\n2 1 2 3 -1 0 -9 -9\n2 1 2 12 -1 0 2 0\n2 1 3 23 -1 0 2 0\n"

abbrev ceiling : String
ceiling = "0 0 0 40 0 1 4095 2\n"

abbrev pub two_reasons : String
two_reasons = "1 1 1 1 -9 1 -1 -9\n1 1 1 1 -9 2 -1 -9\n"

abbrev one_atom : String
one_atom = "1 1 1 1 -1 1 -9 -9\n1 1 1 1 -2 1 -9 -9\n"

abbrev own_reason : String
own_reason = "1 1 1 1 -1 1 -9 -9\n1 1 3 35 -1 0 0 0\n2 1 2 3 -1 0 -9 -9\n2 1 2 12 -1 0 2 0\n2 1 3 23 -1 0 2 0\n"

abbrev pub keys : List Key
keys =
    -- "the run above: phase 0, cycle 1, three alive"; "run takes 6 steps"
    key printed (senses (add 1 3 1200 ∷ []) ∷ runs 10 ∷ []) "0 2 0 6 1\n0 1 4 0\n1 1 1 3 1200 0\n2 2 1 1 1 3 0 1\n1 3 3 3 1200 0\n"
    -- "then withdraw 1 3 1200: gone 3, none alive"
    ∷ key printed (senses (add 1 3 1200 ∷ []) ∷ runs 10 ∷ senses (withdraw 1 3 1200 ∷ []) ∷ []) "0 0 3\n1 1 4 0\n"
    -- "depth 4094 stays predicate 1"
    ∷ key ceiling (senses (add 1 3 4094 ∷ []) ∷ []) "0 1 0\n1 0 2 0\n1 1 1 3 4094 0\n"
    -- "4095 becomes 2"
    ∷ key ceiling (senses (add 1 3 4095 ∷ []) ∷ []) "0 1 0\n1 0 2 0\n1 1 2 3 4095 0\n"
    -- "a withdrawal of 1 3 4095 removes 2 3 4095"
    ∷ key ceiling (senses (add 1 3 4095 ∷ []) ∷ steps ∷ senses (withdraw 1 3 4095 ∷ []) ∷ []) "0 0 1\n1 1 2 0\n"
    -- "deleting atom 3 above: plan 2 stays with 0 steps, no subgoal"
    ∷ key printed (senses (add 1 3 1200 ∷ []) ∷ runs 10 ∷ deletes 3 ∷ []) "0 0 1\n0 1 4 0\n1 1 1 3 1200 0\n2 2 1 1 0 0 0 1\n"
    -- "one of two justifications deleted: plan goes, other atom stays"
    ∷ key two_reasons (senses (add 1 7 0 ∷ add 2 7 0 ∷ []) ∷ steps ∷ deletes 1 ∷ []) "0 0 2\n1 0 4 0\n1 2 2 7 0 0\n"
    ∷ key two_reasons (senses (add 1 7 0 ∷ add 2 7 0 ∷ []) ∷ steps ∷ deletes 2 ∷ []) "0 0 2\n1 0 4 0\n1 1 1 7 0 0\n"
    -- "step 35 on the plan's own justification: both gone"
    ∷ key own_reason (senses (add 1 7 0 ∷ []) ∷ runs 5 ∷ []) "0 1 2 5 3\n3 0 3 0\n"
    -- "two reasons matching one atom: one justification"
    ∷ key one_atom (senses (add 1 7 0 ∷ []) ∷ steps ∷ []) "0 1 0 1 1 1 2 2\n1 0 3 0\n1 1 1 7 0 0\n2 2 1 1 0 0 0 1\n"
    -- "empty sense: phase 1, made 0"
    ∷ key printed (senses [] ∷ []) "0 0 0\n1 0 1 0\n"
    -- "Delete 0: 12"
    ∷ key printed (deletes 0 ∷ []) "12 0 0\n0 0 1 0\n"
    ∷ []
