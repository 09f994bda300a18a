-- The places that a load comes to, line by line, and where it is refused: as relations, with no load in them. That `load` says the
-- same is `LoadsRightly` of specs/Claims.
use Rattle.std.specs.Prelude.{◌≡◌, ◌≢◌, true, false, List, [], ◌∷◌, ◌++◌, ℕ, ◌+◌, length}
use Rattle.std.proofs.Math.Option.{none, some}
use Rattle.model.specs.Program.{Row}
use Rattle.model.specs.Text.{Lines, end, unended, line, lines, read_row, names}
use Rattle.model.specs.Load.{Scan, at_first, same_rule, lacking, too_many, begun, breaks, valueless, taken}

-- "a rule lacking rows is 3 at its last line, found when a readable row of another rule .. follows"
abbrev pub LeavesLacking : Scan → Row → Type 0
LeavesLacking s r = (lacking s ≡ true) × (same_rule s r ≡ false)

-- a readable row meets none of "5, 3, 4" after the scan s
pub record Passes (s : Scan) (r : Row) : Type 0 where
  pub leaves_whole : ¬ LeavesLacking s r
  pub within_limits : too_many s r ≡ false
  pub keeps_rules : breaks s (begun s r) r ≡ false
  pub has_values : valueless (begun s r) r ≡ false

-- "Load tests lines in order": the rows so far passed one after the other and left the scan s, and these lines follow
pub data Comes (text : List ℕ) : Scan → List Row → Lines → Type 0 where
  -- "Line 1 is the names line."
  behind_names : {ls : Lines} → lines text ≡ line names ls → Comes text at_first [] ls
  behind_row : {s : Scan} {rows : List Row} {l : List ℕ} {ls : Lines} {r : Row} → Comes text s rows (line l ls) → read_row l ≡ some r → Passes s r
      → Comes text (taken (begun s r) r) (rows ++ (r ∷ [])) ls

-- the load comes to the row r, after the scan s and as many rows
pub record ComesToRow (text : List ℕ) (s : Scan) (rows : List Row) (r : Row) : Type 0 where
  pub bytes : List ℕ
  pub behind : Lines
  pub comes : Comes text s rows (line bytes behind)
  pub reads : read_row bytes ≡ some r

-- Refused with this number at this line. The names line is 1, and row n stands on line n + 1. "Load tests lines in order, on each
-- 2, 5, 3, 4; a rule lacking rows is 3 at its last line"
pub data RefusedAt (text : List ℕ) : ℕ → ℕ → Type 0 where
  not_named : ((ls : Lines) → lines text ≢ line names ls) → RefusedAt text 2 1
  not_ended : {s : Scan} {rows : List Row} → Comes text s rows unended → RefusedAt text 2 (length rows + 2)
  not_read : {s : Scan} {rows : List Row} {l : List ℕ} {ls : Lines} → Comes text s rows (line l ls) → read_row l ≡ none → RefusedAt text 2 (length rows + 2)
  lacks_before : {s : Scan} {rows : List Row} {r : Row} → ComesToRow text s rows r → LeavesLacking s r → RefusedAt text 3 (length rows + 1)
  lacks_at_end : {s : Scan} {rows : List Row} → Comes text s rows end → lacking s ≡ true → RefusedAt text 3 (length rows + 1)
  over_limit : {s : Scan} {rows : List Row} {r : Row} → ComesToRow text s rows r → ¬ LeavesLacking s r → too_many s r ≡ true → RefusedAt text 5 (length rows + 2)
  against_rules : {s : Scan} {rows : List Row} {r : Row} → ComesToRow text s rows r → ¬ LeavesLacking s r → too_many s r ≡ false → breaks s (begun s r) r ≡ true
      → RefusedAt text 3 (length rows + 2)
  without_value : {s : Scan} {rows : List Row} {r : Row} → ComesToRow text s rows r → ¬ LeavesLacking s r → too_many s r ≡ false → breaks s (begun s r) r ≡ false
      → valueless (begun s r) r ≡ true → RefusedAt text 4 (length rows + 2)

-- accepted with these rows: all lines are taken, and the last rule lacks nothing
abbrev pub LoadedWith : List ℕ → List Row → Type 0
LoadedWith text rows = (s : Scan) × Comes text s rows end × (lacking s ≡ false)
