-- What the reader's functions answer, by the definitions of the model's `Text`.
use Rattle.std.specs.Prelude.{ℕ, ◌+◌, ◌-◌, ◌≤◌, ◌<◌, min, ◌≡◌, List, length, drop, take, Option, Some, None, MatchOption}
use Rattle.std.proofs.Math.Option as Math
use Rattle.model.specs.declared.Row.{Row}
use Rattle.model.specs.Text as Text
use Rattle.model.specs.Text.{counting, read_int, row_of, read_row, lines, line, unended}
use Rattle.text.specs.declared.Digits.{Digits}

-- the number at a place, 65,536 standing for every one over 65,535, and the place after its digits; none where the model's is 0
pub record Reaches (text : List ℕ) (at : ℕ) (d : Digits) : Type 0 where
  pub positive : 1 ≤ d.value
  pub value : d.value ≡ min (counting (drop at text)).0 65536
  pub rest : drop d.next text ≡ (counting (drop at text)).1
  pub inside : d.next ≤ length text

abbrev pub Counted : List ℕ → ℕ → Option Digits → Type 0
Counted text at r = MatchOption r ((counting (drop at text)).0 ≡ 0) (Reaches text at)

-- an answer with the place at which the rest of the text begins
abbrev pub read_of : List ℕ → Text.Read → Option Digits
read_of text Text.unreadable = None
read_of text (Text.number v rest) = Some (record { value = v; next = length text - length rest })

-- the integer at a place
unfoldable pub int_at : List ℕ → ℕ → Option Digits
int_at text at = read_of text (read_int (drop at text))

abbrev pub as_line : Math.Option Row → Option Row
as_line Math.none = None
as_line (Math.some r) = Some r

-- the row that eight numbers are, and the row that bytes are
unfoldable pub row_line : List ℕ → Option Row
row_line v = as_line (row_of (Math.some v))

unfoldable pub line_of : List ℕ → Option Row
line_of bytes = as_line (read_row bytes)

-- the line that begins at a place ends at r: there stands byte 10, or the text has no more of them
pub record Ends (text : List ℕ) (from r : ℕ) : Type 0 where
  pub low : from ≤ r
  pub high : r ≤ length text
  pub ended : r < length text → lines (drop from text) ≡ line (take (r - from) (drop from text)) (lines (drop (r + 1) text))
  pub no_end : length text ≤ r → from < length text → lines (drop from text) ≡ unended
