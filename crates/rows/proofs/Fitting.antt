-- Rows that fit where they stand, and the scan that they leave.
use Rattle.std.specs.Prelude.{if◌then◌else◌}
use mathlib.Core.Path.{◌≡◌, ap, sym, ◌∙◌}
use mathlib.Core.Bool.{Bool, true, false, not, ◌&&◌, ◌||◌, and-false}
use mathlib.Core.Logic.{◌≢◌}
use mathlib.Core.List.{List}
use Prim.Native.Nat.{ℕ, ◌+◌, ◌≤◌, ◌<◌}
use native.Mathlib.Omega.{arith}
use lib.ListN.{set}
use lib.Dec.{eqb, leb, ltb}
use borrow.Author.Tests.{ne_eqb}
use Rattle.model.specs.declared.Row.{Row}
use Rattle.model.specs.declared.Scan.{Scan}
use Rattle.model.specs.Load.{initial, atom_row, ceiling_row, set_0_row, query, rule_row, valueless, gives, with_ceiling, taken}
use Rattle.rows.specs.declared.quick.Place.{Place}
use Rattle.rows.specs.Scanning.{scan_at}
use Rattle.rows.specs.Quickly.{Fitting, Fits}

-- a row of the context that its rule has room for
pub context_fits : (t : Scan) (r : Row) → r.part ≡ 2 → t.context < 6 → t.object && ltb 2 r.op ≡ false → query r ≡ true → r.op ≤ 14 → Fitting t r
unfolding rule_row valueless
context_fits t r h few short q low = record {
  row = grind arith;
  valued = grind arith;
  room = grind arith;
  parted = omega (arith, h);
  part = omega (arith, h);
  op = omega (arith, low);
}

-- a row of a rule marks no ceiling
unmarked : (r : Row) (c : List ℕ) → r.set ≢ 0 → with_ceiling r c ≡ c
unfolding with_ceiling
unmarked r c n = ap (λ (x : Bool). if x && eqb r.op 40 then set c r.p 1 else c) (ne_eqb r.set 0 n)

-- a row that fits its rule
pub rule_fits : (t u : Place) (r : Row) (k : ℕ) (v w c : List ℕ) → r.set ≢ 0 → Fitting (scan_at t k v c) r → w ≡ gives r v →
    scan_at u (k + 1) (gives r v) (with_ceiling r c) ≡ taken (scan_at t k v c) r → Fits (scan_at t k v c) r (scan_at u (k + 1) w c)
rule_fits t u r k v w c n f g e =
    let s = scan_at t k v c in
    let op = f.op in
    record {
      row = ap (λ (x : Bool). (x && not (set_0_row s r)) || (leb 1 r.set && not (rule_row s r))) (ne_eqb r.set 0 n)
          ∙ ap (λ (x : Bool). leb 1 r.set && not x) f.row ∙ and-false (leb 1 r.set);
      valued = f.valued;
      room = f.room;
      atoms = ap (λ (x : Bool). x && eqb r.op 41 && leb 256 t.atoms) (ne_eqb r.set 0 n);
      part = f.part;
      op = omega (arith, op);
      next = ap (λ (x : List ℕ). scan_at u (k + 1) x c) g ∙ sym (ap (scan_at u (k + 1) (gives r v)) (unmarked r c n)) ∙ e;
    }

-- a row of set 0 is an atom or a ceiling, and gives no variable a value
op_of : (t : Scan) (r : Row) → atom_row r || ceiling_row t r ≡ true → (40 ≤ r.op) × (r.op ≤ 41)
op_of t r e = grind arith

no_values : (r : Row) (v : List ℕ) → 40 ≤ r.op → gives r v ≡ v
unfolding gives
no_values r v h = grind arith

abbrev head : Row → Bool
head r = eqb r.rule 0 && eqb r.part 0 && leb 1 r.p && eqb r.i 9

pub set_0_fits : (t u : Place) (r : Row) (k : ℕ) (v c d : List ℕ) → r.set ≡ 0 → head r ≡ true → atom_row r || ceiling_row (scan_at t k v c) r ≡ true →
    initial r && leb 256 t.atoms ≡ false → d ≡ with_ceiling r c →
    scan_at u (k + 1) (gives r v) (with_ceiling r c) ≡ taken (scan_at t k v c) r → Fits (scan_at t k v c) r (scan_at u (k + 1) v d)
unfolding valueless
set_0_fits t u r k v c d z h x y g e =
    let o = op_of (scan_at t k v c) r x in
    let p : r.part ≡ 0 = grind arith in
    record {
      row = grind arith;
      valued = grind arith;
      room = grind arith;
      atoms = y;
      part = omega (arith, p);
      op = o.1;
      next = ap (λ (y : List ℕ). scan_at u (k + 1) v y) g ∙ sym (ap (λ (y : List ℕ). scan_at u (k + 1) y (with_ceiling r c)) (no_values r v o.0)) ∙ e;
    }
