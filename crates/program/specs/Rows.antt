-- A program as it is lent: words, eight to a row, in the order of the text's columns; operands are held 9 higher.
use Rattle.std.specs.Prelude.{ℕ, ◌/◌, ◌%◌, Bool, ◌&&◌, List, [], ◌∷◌, map, eqb, length, get_or}
use Rattle.lists.specs.Lists.{bind, count_up}
use Rattle.table.specs.Rows.{row}
use Rattle.model.specs.declared.Row.{Row}
use Rattle.model.specs.Render.{well_formed}

-- a row's eight words
abbrev pub row_of : List ℕ → Row
row_of r = record { set = get_or r 0 0; rule = get_or r 1 0; part = get_or r 2 0; op = get_or r 3 0; i = get_or r 4 0; p = get_or r 5 0; a = get_or r 6 0; b = get_or r 7 0 }

-- row k of the words
abbrev pub row_at : List ℕ → ℕ → Row
row_at words k = row_of (row 8 words k)

-- the rows from k on, n of them
abbrev pub rows_from : List ℕ → ℕ → ℕ → List Row
rows_from words k n = map (row_at words) (count_up k n)

-- all rows of the words
unfoldable pub rows_of : List ℕ → List Row
rows_of words = rows_from words 0 (length words / 8)

-- the words of a row, and of rows
unfoldable pub row_words : Row → List ℕ
row_words r = r.set ∷ r.rule ∷ r.part ∷ r.op ∷ r.i ∷ r.p ∷ r.a ∷ r.b ∷ []

unfoldable pub words_of : List Row → List ℕ
words_of rows = bind rows row_words

-- words that are a program: whole rows, and well formed
unfoldable pub program_formed : List ℕ → Bool
program_formed words = eqb (length words % 8) 0 && well_formed (rows_of words)

unfoldable pub opened : Unit {0}
unfolding rows_of row_words words_of program_formed
opened = tt
