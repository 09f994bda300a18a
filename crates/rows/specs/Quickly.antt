-- What the quick way through the tests on rows asks, and what it is sure of.
use Rattle.std.specs.Prelude.{◌≡◌, Bool, true, false, not, ◌&&◌, ◌||◌, List, [], ℕ, ◌+◌, ◌≤◌, ◌<◌, eqb, leb}
use Rattle.model.specs.declared.Row.{Row}
use Rattle.model.specs.declared.Scan.{Scan}
use Rattle.model.specs.Load.{same_rule, lacking, part_full, initial, in_order, set_0_row, names_atom, names_instance, action, plan_step, rule_row, against_kind, new_variable, valueless, taken, take_row, passed}
use Rattle.model.specs.Render.{in_range}
use Rattle.rows.specs.declared.quick.Place.{Place}
pub use Rattle.rows.specs.Scanning.{scan_at}
use Rattle.rows.specs.Scanning.{Small}

-- a place's numbers: one more fits
abbrev pub Low : Place → Type 0
Low s = Small (scan_at s 512 [] [])

-- the columns that a row of any op can have too large
pub record Bounded (r : Row) : Type 0 where
  pub i : r.i ≤ 65544
  pub p : r.p ≤ 255
  pub a : r.a ≤ 65544
  pub b : r.b ≤ 65544

-- a row in its place: 3 is not met by its order or kind or by the rule before it, nor 5 by its set or rule
pub record Placed (s : Scan) (r : Row) : Type 0 where
  pub ordered : in_order s r ≡ true
  pub kind : against_kind s r ≡ false
  pub whole : lacking s && not (same_rule s r) ≡ false
  pub set : r.set ≤ 8
  pub rule : r.rule ≤ 32

-- what `valueless` asks of a body row
abbrev pub lacks_value : List ℕ → Row → Bool
lacks_value valued r = new_variable valued r.a || new_variable valued r.b || (not (eqb r.op 21) && new_variable valued r.i)

-- an atom or an instance named by constants and by variables that have values
abbrev pub KnownAtom : List ℕ → Row → Type 0
KnownAtom v r = (names_atom r ≡ true) × (new_variable v r.a ≡ false) × (new_variable v r.b ≡ false)

abbrev pub KnownInstance : List ℕ → Row → Type 0
KnownInstance v r = (names_instance r ≡ true) × (new_variable v r.i ≡ false)

-- rows of an op that the model takes: a step of a plan, an action, of which no variable lacks a value
abbrev pub Stepping : List ℕ → Row → Type 0
Stepping v r = (plan_step r ≡ true) × (lacks_value v r ≡ false) × (r.op ≤ 36)

abbrev pub Acting : List ℕ → Row → Type 0
Acting v r = ((t : Scan) → t.valued ≡ v → action t r ≡ true) × (lacks_value v r ≡ false) × (r.op ≤ 36)

-- a row that its rule has room for and that fits its part; t is the scan as the row finds it
pub record Fitting (t : Scan) (r : Row) : Type 0 where
  pub row : rule_row t r ≡ true
  pub valued : valueless t r ≡ false
  pub room : part_full t r ≡ false
  pub parted : 1 ≤ r.part
  pub part : r.part ≤ 3
  pub op : r.op ≤ 36

-- a row that fits where it stands, and leaves the scan u
pub record Fits (t : Scan) (r : Row) (u : Scan) : Type 0 where
  pub row : (eqb r.set 0 && not (set_0_row t r)) || (leb 1 r.set && not (rule_row t r)) ≡ false
  pub valued : valueless t r ≡ false
  pub room : part_full t r ≡ false
  pub atoms : initial r && leb 256 t.atoms ≡ false
  pub part : r.part ≤ 3
  pub op : r.op ≤ 41
  pub next : u ≡ taken t r

-- a row of a rule leaves the place u and the variables w, whatever the ceilings are
abbrev pub FitsRule : Place → List ℕ → Row → Place → List ℕ → Type 0
FitsRule t v r u w = (k : ℕ) (c : List ℕ) → Fits (scan_at t k v c) r (scan_at u (k + 1) w c)

-- a row of set 0 leaves the place u and the ceilings d, whatever the variables are
abbrev pub FitsSet0 : Place → List ℕ → Row → Place → List ℕ → Type 0
FitsSet0 t c r u d = (k : ℕ) (v : List ℕ) → Fits (scan_at t k v c) r (scan_at u (k + 1) v d)

-- a row passes, behind less than 512 rows, and leaves the place u, the variables w and the ceilings d
abbrev pub Passes : Place → List ℕ → List ℕ → Row → Place → List ℕ → List ℕ → Type 0
Passes s v c r u w d = (in_range r ≡ true) × ((k : ℕ) → k < 512 → take_row (scan_at s k v c) r ≡ passed (scan_at u (k + 1) w d))
