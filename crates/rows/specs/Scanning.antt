-- What the tests on rows ask of a scan, and what their answer says.
use Rattle.std.specs.Prelude.{List, ℕ, ◌≤◌, Result, Ok, Err}
use Rattle.model.specs.declared.Scan.{Scan}
use Rattle.model.specs.declared.refusal.LoadError.{LoadError}
use Rattle.model.specs.Refusals.{number_of}
use Rattle.model.specs.Load as Load
use Rattle.model.specs.Load.{passed, refused_at}
use Rattle.rows.specs.declared.RuleScan.{RuleScan}
use Rattle.rows.specs.declared.quick.Place.{Place}

-- the scan after k rows: a place with the variables and the ceilings that are lent beside it
abbrev pub scan_at : Place → ℕ → List ℕ → List ℕ → Scan
scan_at s k valued ceilings = record {
  count = k;
  atoms = s.atoms;
  set = s.set;
  rule = s.rule;
  part = s.part;
  reasons = s.reasons;
  context = s.context;
  body = s.body;
  object = s.object;
  valued = valued;
  ceilings = ceilings;
}

-- with the ceilings that are lent beside it
abbrev pub whole : RuleScan → List ℕ → Scan
whole s ceilings = scan_at s.place s.count s.valued ceilings

-- a scan's numbers: one more fits
pub record Small (s : Scan) : Type 0 where
  pub count : s.count ≤ 512
  pub set : s.set ≤ 8
  pub rule : s.rule ≤ 32
  pub atoms : s.atoms ≤ s.count
  pub reasons : s.reasons ≤ s.count
  pub context : s.context ≤ s.count
  pub body : s.body ≤ s.count

-- the scan after a row that passed, with the ceilings that are lent beside it, or the refusal with its line
unfoldable pub verdict_of : Result RuleScan LoadError → List ℕ → Load.Verdict
verdict_of (Ok s) ceilings = passed (whole s ceilings)
verdict_of (Err e) ceilings = refused_at (number_of e.refusal) e.line
