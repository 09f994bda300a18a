-- What each part of the tests on a row tells where it finds nothing wrong. Together they are all that the load tests.
use Rattle.std.specs.Prelude.{⊤, Result, MatchResult, ◌+◌, ◌≡◌, Bool, true, false, ◌&&◌, ◌||◌, not, leb, eqb}
use Rattle.lists.specs.Lists.{within}
use Rattle.model.specs.declared.Row.{Row}
use Rattle.model.specs.declared.Scan.{Scan}
use Rattle.model.specs.Program.{any?, constant?, constant_within}
use Rattle.model.specs.Load.{in_order, against_kind, set_0_row, rule_row, new_variable}
use Rattle.causes.specs.declared.Breach.{Breach}
use Rattle.causes.specs.Causes.{Breaches, place_of, may_stand, must_be_zero, must_be_given, must_be_predicate, must_be_flag}

-- a breach that is true, or what holds where there is none
abbrev pub Checks : Scan → Scan → Row → Type 0 → Result ⊤ Breach → Type 0
Checks s t r holds c = MatchResult c (λ _. holds) (Breaches s t r)

-- "Set 0 rows have rule 0, part 0": if the last row is one, so has it
abbrev pub InSetZero : Scan → Type 0
InSetZero s = s.set ≡ 0 → (s.rule ≡ 0) × (s.part ≡ 0)

-- that a row of set 0 has rule 0 is seen by where it stands
abbrev pub Ordered : Scan → Row → Type 0
Ordered s r = (r.set ≡ 0 → r.rule ≡ 0) → in_order s r ≡ true

pub record Stands (t : Scan) (r : Row) : Type 0 where
  pub rule_0 : eqb r.set 0 && not (eqb r.rule 0) ≡ false
  pub part_0 : eqb r.set 0 && not (eqb r.part 0) ≡ false
  pub part : leb 1 r.set && not (within 1 3 r.part) ≡ false
  pub op : may_stand (place_of t r) r.op ≡ true

pub record Unused (r : Row) : Type 0 where
  pub i : must_be_zero r.op 5 r.i ≡ false
  pub p : must_be_zero r.op 6 (r.p + 9) ≡ false
  pub a : must_be_zero r.op 7 r.a ≡ false
  pub b : must_be_zero r.op 8 r.b ≡ false

pub record Given (r : Row) : Type 0 where
  pub i : must_be_given r.op 5 r.i ≡ false
  pub a : must_be_given r.op 7 r.a ≡ false
  pub b : must_be_given r.op 8 r.b ≡ false

pub record Used (r : Row) : Type 0 where
  pub predicate : must_be_predicate r.op r.p ≡ false
  pub flag : must_be_flag r.op r.a ≡ false
  pub made : (eqb r.op 34 || eqb r.op 36) && not (any? r.i) ≡ false

abbrev pub New : Scan → Row → Type 0
New t r = r.op ≡ 21 → any? r.i || new_variable t.valued r.i ≡ true

pub record Constants (r : Row) : Type 0 where
  pub first : eqb r.op 41 && not (constant? r.a) ≡ false
  pub second : eqb r.op 41 && not (constant? r.b) ≡ false
  pub threshold : eqb r.op 40 && not (constant_within 1 65535 r.a) ≡ false
  pub ceiling : eqb r.op 40 && not (constant_within 1 255 r.b) ≡ false

-- all that the tests ask of a row
pub record Faultless (s t : Scan) (r : Row) : Type 0 where
  pub ordered : Ordered s r
  pub kind : against_kind s r ≡ false
  pub stands : Stands t r
  pub unused : Unused r
  pub given : Given r
  pub used : Used r
  pub new : New t r
  pub constants : Constants r

-- 3: the load's tests on op and columns, s being the scan before the row, t as the row finds it
abbrev pub misfits : Scan → Scan → Row → Bool
misfits s t r = (eqb r.set 0 && not (set_0_row s r)) || (leb 1 r.set && not (rule_row t r))
