-- What each cause of a refused load says of the text.
use Rattle.std.specs.Prelude.{Some, None, ℕ, ◌+◌, ◌-◌, ◌≤◌, ◌<◌, ◌≡◌, ◌≢◌, Bool, true, false, ◌&&◌, ◌||◌, not, List, leb, ltb, eqb, length, take, drop, get_or}
use Rattle.std.proofs.Math.Option.{none, some}
use Rattle.lists.specs.Lists.{within}
use Rattle.model.specs.declared.Row.{Row}
use Rattle.model.specs.declared.Scan.{Scan}
use Rattle.model.specs.Text.{Lines, end, unended, line, lines, read_row, names}
use Rattle.model.specs.Load.{Loaded, loaded, refused, load, lacking, begun, fault}
use Rattle.model.specs.Places.{LeavesLacking, Comes}
use Rattle.text.specs.Reading.{int_at, Ends}
use Rattle.script.specs.Reading.{WordEnds}
use Rattle.causes.specs.declared.Limit.{Limit}
use Rattle.causes.specs.declared.Lack.{Lack}
use Rattle.causes.specs.declared.Breach.{Breach}
use Rattle.causes.specs.declared.Unvalued.{Unvalued}
use Rattle.causes.specs.Causes.{Exceeds, Lacks, Breaches, LacksValue}
use Rattle.explain.specs.declared.Explained.{Explained}
use Rattle.explain.specs.declared.Layout.{Layout}
use Rattle.explain.specs.declared.Layout.TheVariants as layout
use Rattle.explain.specs.declared.Cause.{Cause}
use Rattle.explain.specs.declared.Cause.TheVariants as cause

-- "p runs 0 to 255; the others 0 to 65,535, but i, a, b from -9; outside that is 2": columns by number, integers 9 higher
abbrev pub outside : ℕ → ℕ → Bool
outside column x = (leb column 4 && ltb x 9) || (eqb column 6 && not (within 9 264 x))

-- "one space between": the columns before this one read as integers in range, each with a space behind it, and this one begins at `at`
pub data Begins (bytes : List ℕ) : ℕ → ℕ → Type 0 where
  first : Begins bytes 1 0
  next : {column at v n : ℕ} → Begins bytes column at → int_at bytes at ≡ Some (record { value = v; next = n }) → outside column v ≡ false
      → get_or bytes n 0 ≡ 32 → Begins bytes (column + 1) (n + 1)

-- what is wrong with the column that begins at `at`
pub data Wrong (bytes : List ℕ) (column at : ℕ) : Layout → Type 0 where
  cut : length bytes ≤ at → Wrong bytes column at (layout.Empty column)
  doubled : get_or bytes at 0 ≡ 32 → Wrong bytes column at (layout.Empty column)
  unread : {to : ℕ} → at < length bytes → get_or bytes at 0 ≢ 32 → int_at bytes at ≡ None → WordEnds bytes at to
      → Wrong bytes column at (layout.Integer column at to)
  far : {to v n : ℕ} → int_at bytes at ≡ Some (record { value = v; next = n }) → outside column v ≡ true → WordEnds bytes at to
      → Wrong bytes column at (layout.Integer column at to)
  more : {to v n : ℕ} → int_at bytes at ≡ Some (record { value = v; next = n }) → n < length bytes → get_or bytes n 0 ≢ 32 → WordEnds bytes at to
      → Wrong bytes column at (layout.Integer column at to)
  few : {v n : ℕ} → column < 8 → int_at bytes at ≡ Some (record { value = v; next = n }) → outside column v ≡ false → length bytes ≤ n
      → Wrong bytes column at (layout.Columns column)

-- 2: "lines of eight integers in that order, one space between": the first column that is wrong, or the eight that one more follows
pub data Misread (bytes : List ℕ) : Layout → Type 0 where
  at_column : {column at : ℕ} {c : Layout} → column ≤ 8 → Begins bytes column at → Wrong bytes column at c → Misread bytes c
  at_ninth : {at : ℕ} → Begins bytes 9 at → Misread bytes layout.Ninth

-- 5, 3, 4: the number that a row meets which leaves no rule lacking
abbrev pub Faults : Scan → Row → ℕ → Type 0
Faults s r n = (¬ LeavesLacking s r) × (fault s (begun s r) r ≡ n)

-- the row r after the scan s: the first of "5, 3, 4" that it meets, or what the rule before it lacks
pub data OfRow (s : Scan) (r : Row) : Cause → Type 0 where
  lack : {c : Lack} → LeavesLacking s r → Lacks s c → OfRow s r (cause.Lack c)
  limit : {c : Limit} → Faults s r 5 → Exceeds s r c → OfRow s r (cause.Limit c)
  breach : {c : Breach} → Faults s r 3 → Breaches s (begun s r) r c → OfRow s r (cause.Breach c)
  unvalued : {c : Unvalued} → Faults s r 4 → LacksValue (begun s r) r c → OfRow s r (cause.Unvalued c)

-- the paper's number of each cause; 0 for none
abbrev pub number_of : Cause → ℕ
number_of cause.Loads = 0
number_of (cause.Layout c) = 2
number_of (cause.Limit c) = 5
number_of (cause.Lack c) = 3
number_of (cause.Breach c) = 3
number_of (cause.Unvalued c) = 4

-- "2, line": the number and the line of a load, 0 and 0 where the text loads
abbrev pub told_by : Loaded → ℕ × ℕ
told_by (loaded rows) = (0, 0)
told_by (refused n k) = (n, k)

-- the line from `begin` to `to`
abbrev pub bytes_of : List ℕ → ℕ → ℕ → List ℕ
bytes_of text begin to = take (to - begin) (drop begin text)

-- The load comes to the place `begin`, after these rows: byte 10 stands before it, and these lines begin there.
pub record ComesTo (text : List ℕ) (begin : ℕ) (s : Scan) (rows : List Row) (ls : Lines) : Type 0 where
  pub behind : get_or text (begin - 1) 0 ≡ 10
  pub here : lines (drop begin text) ≡ ls
  pub comes : Comes text s rows ls

-- the cause is true at the place where the load ends, which is the line from `begin` to `to`
pub data Explains (text : List ℕ) (begin to : ℕ) : Cause → Type 0 where
  loads : {s : Scan} {rows : List Row} → ComesTo text begin s rows end → load text ≡ loaded rows → Explains text begin to cause.Loads
  not_names : begin ≡ 0 → ((ls : Lines) → lines text ≢ line names ls) → Explains text begin to (cause.Layout layout.Names)
  not_ended : {s : Scan} {rows : List Row} → ComesTo text begin s rows unended → Explains text begin to (cause.Layout layout.Unended)
  misread : {s : Scan} {rows : List Row} {ls : Lines} {c : Layout} → ComesTo text begin s rows (line (bytes_of text begin to) ls)
      → read_row (bytes_of text begin to) ≡ none → Misread (bytes_of text begin to) c → Explains text begin to (cause.Layout c)
  of_row : {s : Scan} {rows : List Row} {ls : Lines} {r : Row} {c : Cause} → ComesTo text begin s rows (line (bytes_of text begin to) ls)
      → read_row (bytes_of text begin to) ≡ some r → OfRow s r c → Explains text begin to c
  at_end : {s : Scan} {rows : List Row} {c : Lack} → ComesTo text begin s rows end → lacking s ≡ true → Lacks s c → Explains text begin to (cause.Lack c)

-- The number and the line are the load's, `begin` and `end` are those of a line, and the cause is true there. (Of a rule that lacks rows
-- the line is its last; `begin` and `end` are where it is found.)
pub record Told (text : List ℕ) (e : Explained) : Type 0 where
  pub answers : told_by (load text) ≡ (number_of e.cause, e.line)
  pub bounds : Ends text e.begin e.end
  pub explains : Explains text e.begin e.end e.cause
