-- Where a part's rows begin.
use Rattle.std.specs.Prelude.{◌≡◌, Bool, true, false, ◌&&◌, ◌||◌, List, ℕ, ◌/◌, ◌<◌, ◌≤◌, ltb, eqb, length}
use Rattle.model.specs.declared.Row.{Row}
use Rattle.program.specs.Rows.{row_at}

-- "rows by set, rule, part": the row stands before part p of rule n of set s
abbrev pub before : ℕ → ℕ → ℕ → Row → Bool
before s n p r = ltb r.set s || (eqb r.set s && (ltb r.rule n || (eqb r.rule n && ltb r.part p)))

-- k is the first row that does not
pub record Bound (words : List ℕ) (s n p k : ℕ) : Type 0 where
  pub inside : k ≤ length words / 8
  pub earlier : (i : ℕ) → i < k → before s n p (row_at words i) ≡ true
  pub later : (i : ℕ) → k ≤ i → i < length words / 8 → before s n p (row_at words i) ≡ false
