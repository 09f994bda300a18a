-- What comes of a row, and that a row that passes leaves the scan's numbers small.
use mathlib.Core.Path.{◌≡◌, ap, sym, subst, ◌∙◌}
use mathlib.Core.Bool.{Bool, true, false, not, ◌&&◌}
use mathlib.Core.List.{List, []}
use Prim.Native.Nat.{ℕ, ◌+◌, ◌≤◌}
use native.Mathlib.Omega.{arith}
use lib.Dec.{eqb}
use Rattle.lists.specs.Lists.{bit}
use Rattle.lists.proofs.Cuts.{if_either}
use Rattle.model.specs.declared.Row.{Row}
use Rattle.model.specs.declared.Scan.{Scan}
use Rattle.model.specs.Load.{same_rule, lacking, initial, begun, taken, fault, take_row, passed, at_first}
use Rattle.program_laws.proofs.Accepted.{passes}
use Rattle.program_laws.proofs.Places.{count_begun}
use Rattle.rows.specs.declared.RuleScan.{RuleScan}
use Rattle.rows.specs.Scanning.{whole, Small}

pub small_first : Small at_first
unfolding at_first
small_first = omega arith

module _ (r : Row) where
  pub small_begun : {s : Scan} → Small s → r.set ≤ 8 → r.rule ≤ 32 → Small (begun s r)
  unfolding begun
  small_begun {s} w h k =
      if_either Small (same_rule s r) w
      (record { count = w.count; set = h; rule = k; atoms = w.atoms; reasons = omega arith; context = omega arith; body = omega arith })

  small_taken : {t : Scan} → Small t → t.count ≤ 511 → r.set ≤ 8 → r.rule ≤ 32 → Small (taken t r)
  unfolding taken
  small_taken {t} w c h k = record {
    count = omega arith;
    set = h;
    rule = k;
    atoms = one_more (initial r) t.atoms w.atoms;
    reasons = one_more (eqb r.part 1) t.reasons w.reasons;
    context = one_more (eqb r.part 2) t.context w.context;
    body = one_more (eqb r.part 3) t.body w.body;
  }
    where
      one_more : (b : Bool) (n : ℕ) → n ≤ t.count → n + bit b ≤ t.count + 1
      one_more true n h = omega arith
      one_more false n h = omega arith

  -- a row that passes: there was room for it, it counts, and one more fits
  pub record Counted (s t : Scan) : Type 0 where
    pub room : s.count ≤ 511
    pub count : t.count ≡ s.count + 1
    pub small : Small t

  pub passed_counts : {s : Scan} (t : Scan) → Small s → take_row s r ≡ passed t → Counted s t
  unfolding taken
  passed_counts {s} t w e =
      let p = passes s r t e in
      let a = p.accepted in
      let n = count_begun s r in
      let c = a.count_small in
      record {
        room = c;
        count = ap (λ (t : Scan). t.count) p.next ∙ omega arith;
        small = subst Small (sym p.next) (small_taken (small_begun w a.set_small a.rule_small) (omega arith) a.set_small a.rule_small);
      }

-- the numbers of a scan are small whatever the ceilings are
pub small_any : (s : RuleScan) (c d : List ℕ) → Small (whole s c) → Small (whole s d)
small_any s c d w = record { count = w.count; set = w.set; rule = w.rule; atoms = w.atoms; reasons = w.reasons; context = w.context; body = w.body }

-- a row that meets no refusal leaves the scan small as it finds it
pub begun_small : (s t : RuleScan) (c : List ℕ) (r : Row) → lacking (whole s c) && not (same_rule (whole s c) r) ≡ false → whole t c ≡ begun (whole s c) r →
    Small (whole s c) → fault (whole s c) (whole t c) r ≡ 0 → Small (whole t [])
unfolding take_row
begun_small s t c r l g w f =
    let passed-on : take_row (whole s c) r ≡ passed (taken (whole t c) r) = rw (l, ← g, f) in
    let x = (passes (whole s c) r (taken (whole t c) r) passed-on).accepted in
    small_any t c [] (subst Small (sym g) (small_begun r w x.set_small x.rule_small))
