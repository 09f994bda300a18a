-- The causes of refusals in plain words, by their numbers in document 01's table.
use Rattle.std.specs.Prelude.{List, ℕ, eqb, if◌then◌else◌}
use Prim.Native.String.{String}
use Rattle.model.specs.Text.{bytes}

-- "| cause | no. |"
unfoldable pub cause : ℕ → String
cause n =
    if eqb n 1 then "program or configuration not well formed"
    else if eqb n 2 then "text not as laid out"
    else if eqb n 3 then "row breaks a rule of its op, part or order"
    else if eqb n 4 then "body variable without value"
    else if eqb n 5 then "set over 8, rule over 32, too many rows or initial atoms"
    else if eqb n 6 then "call out of turn"
    else if eqb n 7 then "sense row, number of sense rows, answer or run limit out of range"
    else if eqb n 8 then "next id 65536 and one more needed"
    else if eqb n 9 then "256 atoms alive and one more needed"
    else if eqb n 10 then "64 plans alive and one more needed"
    else if eqb n 11 then "cycle 65535 would end"
    else if eqb n 12 then "delete of an id not alive"
    else "unknown"

-- the words for a number
abbrev pub words : ℕ → List ℕ
words n = bytes (cause n)
