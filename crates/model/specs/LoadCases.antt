-- Texts that load and texts that are refused, with number and line: lines and integers, the order of rows, and how many there may be
-- (`RowCases` has the rules of each op). A text stands without its names line, so that its first row is line 2. A text that only just
-- loads stands beside one that does not.
use Prim.Native.String.{String}
use Rattle.std.specs.Prelude.{List, [], ◌∷◌}
use Rattle.model.specs.CaseTools.{LoadCase, loads, refuses, whole, with_rows, repeat, joined, one_row_rules}

abbrev an_atom : String
an_atom = "0 0 0 41 0 1 0 0\n"

-- an object rule that needs no more rows, and the same as the second rule of its set
abbrev a_rule : String
a_rule = "1 1 1 1 -1 1 -2 -3\n"

abbrev a_second : String
a_second = "1 2 1 1 -1 1 -2 -3\n"

-- the context of a meta rule, which lacks its body; and a body
abbrev lacking : String
lacking = "1 1 2 3 -1 0 -9 -9\n"

abbrev an_action : String
an_action = "1 1 3 22 -1 0 0 0\n"

-- rows after a reason; after the context of a meta rule
abbrev after_reason : String → String
after_reason t = joined (a_rule ∷ t ∷ [])

abbrev after_context : String → String
after_context t = joined (lacking ∷ t ∷ [])

-- REFUSAL 2: lines and integers
abbrev pub layout : List LoadCase
layout =
    -- R1: each line is ended, the last too
    refuses "0 0 0 41 0 1 0 0" 2 2
    ∷ loads "0 0 0 41 0 1 0 0\n"
    ∷ refuses "0 0 0 41 0 1 0 0\n0 0 0 41 0 1 0 0" 2 3
    -- R2: what an empty text lacks is its names line; the names line alone is a program
    ∷ whole "" 2 1
    ∷ whole "set rule part op i p a b" 2 1
    ∷ whole "\n" 2 1
    ∷ whole "set rule part op i p a b\n" 0 0
    -- R3: the very bytes of the names; no CR, tab, further space or blank line
    ∷ whole "Set rule part op i p a b\n" 2 1
    ∷ whole "set rule part op i p a b \n" 2 1
    ∷ whole "set rule part op i p a b\r\n0 0 0 41 0 1 0 0\r\n" 2 1
    ∷ refuses "0 0 0 41 0 1 0 0\r\n" 2 2
    ∷ refuses "0 0 0 41 0 1 0 0\n\n" 2 3
    ∷ refuses "\n0 0 0 41 0 1 0 0\n" 2 2
    ∷ refuses "0 0 0 41  0 1 0 0\n" 2 2
    ∷ refuses "0 0 0\t41 0 1 0 0\n" 2 2
    ∷ refuses " 0 0 0 41 0 1 0 0\n" 2 2
    ∷ refuses "0 0 0 41 0 1 0 0 \n" 2 2
    -- R3: eight integers, spelled in one way
    ∷ refuses "0 0 0 41 0 1 0\n" 2 2
    ∷ refuses "0 0 0 41 0 1 0 0 0\n" 2 2
    ∷ refuses "0 0 0 41 -0 1 0 0\n" 2 2
    ∷ refuses "0 0 0 41 0 +1 0 0\n" 2 2
    ∷ refuses "0 0 0 41 0 01 0 0\n" 2 2
    ∷ refuses "00 0 0 41 0 1 0 0\n" 2 2
    ∷ refuses "1 1 1 1 -01 1 0 0\n" 2 2
    ∷ refuses "0 0 0 41 0 1_0 0 0\n" 2 2
    ∷ refuses "0 0 0 41 - 1 0 0\n" 2 2
    ∷ refuses "0 0 0 41 0 1 0 x\n" 2 2
    ∷ refuses "0 0 0 41 0 1 0 0\0\n" 2 2
    -- R4: every number's range is tested before anything else on the line
    ∷ refuses "9 1 1 1 -1 256 0 0\n" 2 2
    ∷ refuses "9 1 1 1 -1 255 0 0\n" 5 2
    ∷ refuses "1 1 1 99 -1 1 0 65536\n" 2 2
    ∷ refuses "1 1 1 99 -1 1 0 65535\n" 3 2
    -- R4: "p runs 0 to 255; the others 0 to 65,535, but i, a, b from -9"
    ∷ refuses "-1 1 1 1 -1 1 0 0\n" 2 2
    ∷ refuses "1 -1 1 1 -1 1 0 0\n" 2 2
    ∷ refuses "1 1 -1 1 -1 1 0 0\n" 2 2
    ∷ refuses "1 1 1 -1 -1 1 0 0\n" 2 2
    ∷ refuses "1 1 1 1 -1 -1 0 0\n" 2 2
    ∷ loads "1 1 1 1 -9 1 -9 -9\n"
    ∷ refuses "1 1 1 1 -10 1 -9 -9\n" 2 2
    ∷ refuses "1 1 1 1 -9 1 -10 -9\n" 2 2
    ∷ refuses "1 1 1 1 -9 1 -9 -10\n" 2 2
    ∷ loads "1 1 1 1 65535 255 65535 65535\n"
    ∷ refuses "1 1 1 1 65536 255 65535 65535\n" 2 2
    ∷ refuses "1 1 1 1 65535 255 65536 65535\n" 2 2
    ∷ refuses "65535 1 1 1 -1 1 0 0\n" 5 2
    ∷ refuses "65536 1 1 1 -1 1 0 0\n" 2 2
    ∷ refuses "1 65536 1 1 -1 1 0 0\n" 2 2
    ∷ refuses "1 1 65536 1 -1 1 0 0\n" 2 2
    ∷ refuses "1 1 1 65536 -1 1 0 0\n" 2 2
    ∷ refuses "0 0 0 41 0 1 99999999999999999999999 0\n" 2 2
    -- R5: an unreadable line tells nothing of a rule that lacks rows
    ∷ refuses (after_context "x\n") 2 3
    ∷ refuses (after_context "1 1 3 22 5 0 0 0") 2 3
    ∷ []

-- REFUSAL 3 by order, kind and what a rule lacks; REFUSAL 5
abbrev pub order : List LoadCase
order =
    -- R6: a line's fault comes before a later line's, whatever its number
    refuses "1 1 1 99 -1 1 0 0\nx\n" 3 2
    ∷ refuses "1 1 1 99 -1 1 0 0\n9 1 1 1 -1 1 0 0\n" 3 2
    -- R7: a lack is found by a readable row before that row's own faults
    ∷ refuses (after_context "9 1 1 1 -1 1 0 0\n") 3 2
    ∷ refuses (joined (lacking ∷ an_action ∷ "9 1 1 1 -1 1 0 0\n" ∷ [])) 5 4
    -- R8: a row of set 0 is a row of another rule
    ∷ refuses (after_context an_atom) 3 2
    ∷ refuses (joined (lacking ∷ an_action ∷ an_atom ∷ [])) 3 4
    -- R9: an object rule may have no body; a meta rule needs context and body
    ∷ loads a_rule
    ∷ refuses lacking 3 2
    ∷ loads (joined (lacking ∷ an_action ∷ []))
    ∷ refuses (joined (lacking ∷ lacking ∷ "1 2 2 3 -1 0 -9 -9\n" ∷ [])) 3 3
    ∷ refuses "1 1 3 22 5 0 0 0\n1 1 3 22 6 0 0 0\n" 3 3
    -- R10: a rule that begins with part 3 is read as a meta rule, and lacks rows at its end
    ∷ refuses "1 1 3 22 -1 0 0 0\n" 4 2
    ∷ refuses "1 1 3 31 0 1 0 0\n" 3 2
    ∷ refuses "1 1 3 22 5 0 0 0\n2 1 1 1 -1 1 0 0\n" 3 2
    -- R11: rule over 32 and too many initial atoms are 5 in any readable row; of 256 atoms each is accepted, or its line would be told
    ∷ refuses "0 33 0 41 0 1 0 0\n" 5 2
    ∷ refuses "0 32 0 41 0 1 0 0\n" 3 2
    ∷ refuses (joined (repeat 256 an_atom ∷ a_rule ∷ "0 0 0 41 1 1 0 0\n" ∷ [])) 5 259
    -- a ceiling, or op 41 in another set, is no initial atom
    ∷ loads (joined (repeat 256 an_atom ∷ "0 0 0 40 0 1 1 1\n" ∷ []))
    ∷ refuses (joined (repeat 256 an_atom ∷ a_rule ∷ "1 1 3 41 0 1 0 0\n" ∷ [])) 3 259
    -- R12: the rows of the rule being read are counted; one that goes back to an earlier rule is out of order
    ∷ refuses (joined (repeat 4 a_rule ∷ "1 1 2 1 -1 1 0 0\n" ∷ a_rule ∷ [])) 5 7
    ∷ refuses (joined (repeat 3 a_rule ∷ "1 1 2 1 -1 1 0 0\n" ∷ a_rule ∷ [])) 3 6
    ∷ refuses (joined (repeat 4 a_rule ∷ a_second ∷ a_rule ∷ [])) 3 7
    ∷ refuses (joined (repeat 3 a_rule ∷ a_second ∷ a_rule ∷ [])) 3 6
    -- "up to 4 rows of part 1 (reasons), 6 of part 2 (context), 8 of part 3 (body)"
    ∷ loads (joined (repeat 4 a_rule ∷ repeat 6 "1 1 2 1 -1 1 0 0\n" ∷ repeat 8 "1 1 3 31 0 1 0 0\n" ∷ []))
    ∷ refuses (repeat 5 a_rule) 5 6
    ∷ refuses (joined (a_rule ∷ repeat 7 "1 1 2 1 -1 1 0 0\n" ∷ [])) 5 9
    ∷ refuses (joined (a_rule ∷ repeat 9 "1 1 3 31 0 1 0 0\n" ∷ [])) 5 11
    ∷ loads (joined (repeat 6 lacking ∷ repeat 8 an_action ∷ []))
    ∷ refuses (repeat 7 lacking) 5 8
    ∷ refuses (joined (lacking ∷ repeat 9 an_action ∷ [])) 5 11
    -- R13: "At most 512 rows", those of set 0 among them; here in 8 sets of up to 32 rules
    ∷ with_rows (joined ("0 0 0 40 0 1 1 1\n" ∷ repeat 256 an_atom ∷ [])) (one_row_rules 256) 5 514
    -- "Sets 1 to 8, rules 1 to 32 in a set, both numbered from 1 without gaps, rows by set, rule, part"
    ∷ refuses "9 1 1 1 -1 1 0 0\n" 5 2
    ∷ refuses "8 1 1 1 -1 1 0 0\n" 3 2
    ∷ refuses "1 33 1 1 -1 1 0 0\n" 5 2
    ∷ refuses "1 32 1 1 -1 1 0 0\n" 3 2
    ∷ refuses "1 0 1 1 -1 1 0 0\n" 3 2
    ∷ refuses (after_reason "1 3 1 1 -1 1 0 0\n") 3 3
    ∷ refuses (after_reason "2 2 1 1 -1 1 0 0\n") 3 3
    ∷ refuses (after_reason "3 1 1 1 -1 1 0 0\n") 3 3
    ∷ refuses (joined (a_rule ∷ "2 1 1 1 -1 1 0 0\n" ∷ a_second ∷ [])) 3 4
    ∷ refuses (joined (a_rule ∷ a_second ∷ a_rule ∷ [])) 3 4
    ∷ refuses (joined (a_rule ∷ "1 1 3 31 0 1 0 0\n" ∷ "1 1 2 1 -1 1 0 0\n" ∷ [])) 3 4
    ∷ refuses (joined (lacking ∷ a_rule ∷ [])) 3 3
    ∷ refuses "1 1 0 1 -1 1 0 0\n" 3 2
    ∷ refuses (after_reason "1 1 4 31 0 1 0 0\n") 3 3
    -- R21: a rule against its set's kind is found at its first row, whatever follows it
    ∷ refuses (after_reason "1 2 3 31 0 1 0 0\n1 2 3 31 0 1 0 0\n") 3 3
    ∷ refuses (after_reason "1 2 3 22 5 0 0 0\n1 2 3 22 5 0 0 0\n") 3 3
    ∷ refuses (after_reason "1 2 2 1 -1 1 0 0\n1 2 3 22 5 0 0 0\n") 3 3
    ∷ refuses (joined (lacking ∷ an_action ∷ a_second ∷ [])) 3 4
    ∷ loads (joined (a_rule ∷ "2 1 2 3 -1 0 -9 -9\n" ∷ "2 1 3 22 -1 0 0 0\n" ∷ []))
    -- R22: ceilings and initial atoms stand before all rules, in any order
    ∷ loads (joined (an_atom ∷ "0 0 0 40 0 1 1 1\n" ∷ an_atom ∷ []))
    ∷ refuses (joined (a_rule ∷ an_atom ∷ [])) 3 3
    ∷ refuses (joined (a_rule ∷ "0 0 0 40 0 1 1 1\n" ∷ [])) 3 3
    ∷ []
