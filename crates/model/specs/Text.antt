-- "Program text": its lines, and the eight integers of a line.
use Rattle.std.specs.Prelude.{ℕ, zero, suc, ◌+◌, ◌-◌, ◌*◌, Bool, true, false, ◌&&◌, List, [], ◌∷◌, leb, eqb, get_or, if◌then◌else◌}
use Rattle.std.proofs.Math.Option.{Option, none, some}
use Prim.Native.String.{String}
use Prim.Native.String as S
use Prim.Native.Char.{code}
use Rattle.lists.specs.Lists.{within}
use Rattle.model.specs.Program.{Row}

-- the bytes of a string of this page
unfoldable pub bytes : String → List ℕ
bytes S.[] = []
bytes (S.◌∷◌ c s) = code c ∷ bytes s

-- "A line of names, `set rule part op i p a b`"
unfoldable pub names : List ℕ
names = bytes "set rule part op i p a b"

-- "each line ended by byte 10": lines, and perhaps bytes that no byte 10 follows
pub data Lines : Type 0 where
  end : Lines
  unended : Lines
  line : List ℕ → Lines → Lines

-- one more byte in front
unfoldable pub onto : ℕ → Lines → Lines
onto c end = unended
onto c unended = unended
onto c (line l ls) = line (c ∷ l) ls

unfoldable pub lines : List ℕ → Lines
lines [] = end
lines (c ∷ cs) = if eqb c 10 then line [] (lines cs) else onto c (lines cs)

-- an integer read off the front, held 9 higher, and what follows it
pub data Read : Type 0 where
  number : ℕ → List ℕ → Read
  unreadable : Read

abbrev pub digit? : ℕ → Bool
digit? c = within 48 57 c

-- the number whose digits so far make n, and what follows its digits
unfoldable pub digits : ℕ → List ℕ → ℕ × List ℕ
digits n [] = (n, [])
digits n (c ∷ cs) = elim (digit? c) [ true ↦ digits (n * 10 + (c - 48)) cs | false ↦ (n, c ∷ cs) ]

-- "no leading zero": a number from 1 on, and what follows it; 0 where none stands in front
unfoldable pub counting : List ℕ → ℕ × List ℕ
counting [] = (0, [])
counting (c ∷ cs) = if within 49 57 c then digits (c - 48) cs else (0, c ∷ cs)

-- "the others 0 to 65,535, but i, a, b from -9; outside that is 2"
unfoldable pub positive : ℕ × List ℕ → Read
positive d = if within 1 65535 d.0 then number (d.0 + 9) d.1 else unreadable

unfoldable pub negative : ℕ × List ℕ → Read
negative d = if within 1 9 d.0 then number (9 - d.0) d.1 else unreadable

-- "An integer has no plus sign, no leading zero, no minus zero."
unfoldable pub read_int : List ℕ → Read
read_int [] = unreadable
read_int (c ∷ cs) =
    if eqb c 48 then number 9 cs
    else if eqb c 45 then negative (counting cs)
    else positive (counting (c ∷ cs))

-- "lines of eight integers in that order, one space between"
unfoldable pub last_column : Read → Option (List ℕ)
last_column unreadable = none
last_column (number v []) = some (v ∷ [])
last_column (number v (c ∷ cs)) = none

unfoldable pub after : ℕ → Option (List ℕ) → Option (List ℕ)
after v none = none
after v (some vs) = some (v ∷ vs)

unfoldable pub column : (List ℕ → Option (List ℕ)) → Read → Option (List ℕ)
column more unreadable = none
column more (number v []) = none
column more (number v (c ∷ cs)) = elim (eqb c 32) [ true ↦ after v (more cs) | false ↦ none ]

-- n integers with a space after each, and one more that ends the line
unfoldable pub columns : ℕ → List ℕ → Option (List ℕ)
columns zero cs = last_column (read_int cs)
columns (suc n) cs = column (columns n) (read_int cs)

-- "p runs 0 to 255; the others 0 to 65,535, but i, a, b from -9"
unfoldable pub in_columns : List ℕ → Bool
in_columns v =
    leb 9 (get_or v 0 0) && leb 9 (get_or v 1 0) && leb 9 (get_or v 2 0) && leb 9 (get_or v 3 0) && within 9 264 (get_or v 5 0)

unfoldable pub row_of : Option (List ℕ) → Option Row
row_of none = none
row_of (some v) =
    if in_columns v
    then some (record {
      set = get_or v 0 0 - 9;
      rule = get_or v 1 0 - 9;
      part = get_or v 2 0 - 9;
      op = get_or v 3 0 - 9;
      i = get_or v 4 0;
      p = get_or v 5 0 - 9;
      a = get_or v 6 0;
      b = get_or v 7 0;
    })
    else none

-- "A line that does not read as eight integers ends the load."
unfoldable pub read_row : List ℕ → Option Row
read_row cs = row_of (columns 7 cs)

unfoldable pub opened : Unit {0}
unfolding bytes names onto lines digits counting positive negative read_int last_column after column columns in_columns row_of read_row
opened = tt
