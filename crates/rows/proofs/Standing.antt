-- Where a row stands: of the rule of the last row, or the first of the next rule or set.
use mathlib.Core.Path.{◌≡◌, sym, subst}
use mathlib.Core.List.{List, []}
use Prim.Native.Nat.{ℕ}
use native.Mathlib.Omega.{arith}
use Rattle.model.specs.declared.Row.{Row}
use Rattle.model.specs.Load.{begun}
use Rattle.rows.specs.declared.quick.Place.{Place}
use Rattle.rows.specs.Scanning.{Small}
use Rattle.rows.specs.Quickly.{scan_at, Low, Placed}
use Rattle.rows.proofs.Scans.{small_begun}

-- the numbers of a place are small whatever stands beside it
pub low_any : (s : Place) (v c d e : List ℕ) → Small (scan_at s 512 v c) → Small (scan_at s 512 d e)
low_any s v c d e w = record { count = w.count; set = w.set; rule = w.rule; atoms = w.atoms; reasons = w.reasons; context = w.context; body = w.body }

pub low_begun : (s t : Place) (r : Row) (v w : List ℕ) → Low s → Placed (scan_at s 512 v []) r → scan_at t 512 w [] ≡ begun (scan_at s 512 v []) r → Low t
low_begun s t r v w l p e = low_any t w [] [] [] (subst Small (sym e) (small_begun r (low_any s [] [] v [] l) p.set p.rule))

pub low_of : (s : Place) (k : ℕ) (v c : List ℕ) → Small (scan_at s k v c) → Low s
low_of s k v c w =
    let n = w.count in
    let a = w.atoms in
    let x = w.reasons in
    let y = w.context in
    let z = w.body in
    record {
      count = omega arith;
      set = w.set;
      rule = w.rule;
      atoms = omega (arith, n, a);
      reasons = omega (arith, n, x);
      context = omega (arith, n, y);
      body = omega (arith, n, z);
    }
