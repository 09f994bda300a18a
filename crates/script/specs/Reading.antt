-- What the reader of a script's line answers.
use Rattle.std.specs.Prelude.{Option, Some, None, Result, Ok, Err, ◌≡◌, Bool, true, false, ◌&&◌, ◌||◌, ◌≢◌, List, [], ◌∷◌, ◌++◌, ℕ, ◌+◌, ◌-◌, ◌%◌, ◌≤◌, ◌<◌, eqb, leb, length, take, drop, get_or, if◌then◌else◌}
use Rattle.lists.specs.Lists.{bit, every, is_empty, same}
use Rattle.model.specs.Text.{digits, bytes}
use Rattle.script.specs.declared.Command.{Command}
use Rattle.script.specs.declared.Command.TheVariants.{Load, Program, Sense, Step, Answer, Delete, Run, Trace, Show, Dump, Config, Atom, Plan, Clock, Unknown}
use Rattle.script.specs.declared.Misread.{Misread}
use Rattle.script.specs.declared.Misread.TheVariants.{Miscounted, NoNumber}

-- digits and nothing behind them, at most 4,294,967,295
unfoldable pub whole : ℕ × List ℕ → Option ℕ
whole d = if is_empty d.1 && leb d.0 4294967295 then Some d.0 else None

-- a number in base ten, with no sign and no leading zero
unfoldable pub number_of : List ℕ → Option ℕ
number_of [] = None
number_of (c ∷ cs) = if eqb c 48 then (if is_empty cs then Some 0 else None) else whole (digits 0 (c ∷ cs))

-- blank lines, and lines that begin with `#`
unfoldable pub passed_over : List ℕ → Bool
passed_over [] = true
passed_over (c ∷ cs) = eqb c 35 || every (λ x. eqb x 32) (c ∷ cs)

-- how many spaces there are
unfoldable pub spaces_in : List ℕ → ℕ
spaces_in [] = 0
spaces_in (c ∷ cs) = bit (eqb c 32) + spaces_in cs

-- the bytes before the first space
unfoldable pub first_word : List ℕ → List ℕ
first_word [] = []
first_word (c ∷ cs) = if eqb c 32 then [] else c ∷ first_word cs

-- the word that begins at a place ends at r
pub record WordEnds (line : List ℕ) (from r : ℕ) : Type 0 where
  pub low : from ≤ r
  pub high : r ≤ length line
  pub word : take (r - from) (drop from line) ≡ first_word (drop from line)

-- the words behind the spaces
unfoldable pub later_words : List ℕ → List (List ℕ)
later_words [] = []
later_words (c ∷ cs) = if eqb c 32 then first_word cs ∷ later_words cs else later_words cs

-- the words from a place on where a space stands or the line ends
unfoldable pub words_from : List ℕ → List (List ℕ)
words_from [] = []
words_from (c ∷ cs) = first_word cs ∷ later_words cs

abbrev pub before : Option ℕ → List ℕ → List ℕ
before (Some n) ns = n ∷ ns
before None ns = []

-- the numbers of the words up to the first that is none
unfoldable pub leading : List (List ℕ) → List ℕ
leading [] = []
leading (w ∷ ws) = before (number_of w) (leading ws)

-- the numbers of a line: how many there are, or why they are not as they are wanted
abbrev pub Found : Type 0
Found = Result ℕ Misread

-- what was found stands within a line of n bytes
abbrev pub Within : ℕ → Found → Type 0
Within n (Ok count) = count ≤ n
Within n (Err (Miscounted wanted there)) = Unit {0}
Within n (Err (NoNumber k from to)) = (from ≤ to) × (to ≤ n)

-- what was found of words: all are numbers, or word k is the first that is none
abbrev pub Finds : List ℕ → List (List ℕ) → Found → Type 0
Finds line ws (Ok count) = (count ≡ length ws) × (count ≡ length (leading ws))
Finds line ws (Err (Miscounted wanted there)) = ⊥
Finds line ws (Err (NoNumber k from to)) =
    (k < length ws) × (k ≡ length (leading ws)) × (WordEnds line from to) × (get_or ws k [] ≡ first_word (drop from line))

-- the numbers stand first in the array, and behind them what stood there
pub record Reads (line : List ℕ) (from : ℕ) (lent left : List ℕ) (r : Found) : Type 0 where
  pub numbers : left ≡ leading (words_from (drop from line)) ++ drop (length (leading (words_from (drop from line)))) lent
  pub found : Finds line (words_from (drop from line)) r

-- as many numbers as are wanted, one behind each space
pub data Exact (line : List ℕ) (from wanted : ℕ) (lent left : List ℕ) : Found → Type 0 where
  counted : {r : Found} → spaces_in (drop from line) ≡ wanted → Reads line from lent left r → Exact line from wanted lent left r
  miscounted : {there : ℕ} → there ≡ spaces_in (drop from line) → there ≢ wanted → left ≡ lent → Exact line from wanted lent left (Err (Miscounted wanted there))

-- rows of four numbers: a word of a whole row that is no number is told before the count of the last row
pub data InFours (line : List ℕ) (from : ℕ) (lent left : List ℕ) : Found → Type 0 where
  whole_rows : {there : ℕ} {r : Found} → there ≡ spaces_in (drop from line) → there % 4 ≡ 0 → Reads line from lent left r → InFours line from lent left r
  in_a_row : {there k begin to : ℕ} → there ≡ spaces_in (drop from line) → k < there - there % 4 → Reads line from lent left (Err (NoNumber k begin to))
      → InFours line from lent left (Err (NoNumber k begin to))
  last_row : {there over : ℕ} → there ≡ spaces_in (drop from line) → over ≡ there % 4 → over ≢ 0
      → there - over ≤ length (leading (words_from (drop from line))) → InFours line from lent left (Err (Miscounted 4 over))

-- what is told where the last row has numbers over: a word of a whole row that is none comes before it
abbrev pub cut_short : ℕ → ℕ → Found → Misread
cut_short whole over (Ok count) = Miscounted 4 over
cut_short whole over (Err (Miscounted wanted there)) = Miscounted wanted there
cut_short whole over (Err (NoNumber k from to)) = if leb whole k then Miscounted 4 over else NoNumber k from to

-- the command that a word is: of the bench, or a call
unfoldable pub bench_named : List ℕ → Command
bench_named w =
    if same w (bytes "trace") then Trace
    else if same w (bytes "show") then Show
    else if same w (bytes "dump") then Dump
    else if same w (bytes "config") then Config
    else if same w (bytes "atom") then Atom
    else if same w (bytes "plan") then Plan
    else if same w (bytes "clock") then Clock
    else Unknown

unfoldable pub command_named : List ℕ → Command
command_named w =
    if same w (bytes "load") then Load
    else if same w (bytes "program") then Program
    else if same w (bytes "sense") then Sense
    else if same w (bytes "step") then Step
    else if same w (bytes "answer") then Answer
    else if same w (bytes "delete") then Delete
    else if same w (bytes "run") then Run
    else bench_named w
