-- A row that stands in its place and fits there passes the tests of a load.
use Rattle.std.specs.Prelude.{if◌then◌else◌}
use mathlib.Core.Path.{◌≡◌, refl, ap, sym, subst, ◌∙◌}
use mathlib.Core.Bool.{Bool, true, false, not, ◌&&◌, ◌||◌}
use Prim.Native.Nat.{ℕ, ◌<◌}
use native.Mathlib.Omega.{arith}
use lib.ListN.{replicate}
use lib.Dec.{eqb, leb, ltb}
use borrow.Author.Tests.{lt-leb, le-ltb}
use Rattle.model.specs.declared.Row.{Row}
use Rattle.model.specs.declared.Scan.{Scan}
use Rattle.model.specs.Load.{same_rule, lacking, part_full, initial, too_many, in_order, set_0_row, begun, rule_row, against_kind, breaks, valueless, taken, fault, take_row, passed}
use Rattle.model.specs.Render.{in_range}
use Rattle.program_laws.proofs.Range.{of_in_range}
use Rattle.rows.specs.Quickly.{Bounded, Placed, Fits}

module _ (s : Scan) (r : Row) where
  -- the scan as the row finds it
  abbrev fresh : Scan
  fresh = record {
    count = s.count;
    atoms = s.atoms;
    set = r.set;
    rule = r.rule;
    part = 0;
    reasons = 0;
    context = 0;
    body = 0;
    object = eqb r.part 1;
    valued = replicate 9 0;
    ceilings = s.ceilings;
  }

  begun_is : (b : Bool) → same_rule s r ≡ b → begun s r ≡ (if b then s else fresh)
  unfolding begun
  begun_is b h = ap (λ (x : Bool). if x then s else fresh) h

  set_0_same : set_0_row (begun s r) r ≡ set_0_row s r
  set_0_same = at (same_rule s r) refl
    where
      at : (b : Bool) → same_rule s r ≡ b → set_0_row (begun s r) r ≡ set_0_row s r
      at true h = ap (λ (q : Scan). set_0_row q r) (begun_is true h)
      at false h = ap (λ (q : Scan). set_0_row q r) (begun_is false h)

  atoms_same : (begun s r).atoms ≡ s.atoms
  atoms_same = at (same_rule s r) refl
    where
      at : (b : Bool) → same_rule s r ≡ b → (begun s r).atoms ≡ s.atoms
      at true h = ap (λ (q : Scan). q.atoms) (begun_is true h)
      at false h = ap (λ (q : Scan). q.atoms) (begun_is false h)

  no_room : part_full (begun s r) r ≡ false → same_rule s r && part_full s r ≡ false
  no_room e = at (same_rule s r) refl
    where
      at : (b : Bool) → same_rule s r ≡ b → same_rule s r && part_full s r ≡ false
      at true h = ap (λ (x : Bool). x && part_full s r) h ∙ sym (ap (λ (q : Scan). part_full q r) (begun_is true h)) ∙ e
      at false h = ap (λ (x : Bool). x && part_full s r) h

  many_is : (a b c d e : Bool) → ltb 8 r.set ≡ a → ltb 32 r.rule ≡ b → leb 512 s.count ≡ c → same_rule s r && part_full s r ≡ d →
      initial r && leb 256 s.atoms ≡ e → too_many s r ≡ (a || b || c || d || e)
  unfolding too_many
  many_is a b c d e h k l m n =
      ap (λ (x : Bool). x || ltb 32 r.rule || leb 512 s.count || (same_rule s r && part_full s r) || (initial r && leb 256 s.atoms)) h
      ∙ ap (λ (x : Bool). a || x || leb 512 s.count || (same_rule s r && part_full s r) || (initial r && leb 256 s.atoms)) k
      ∙ ap (λ (x : Bool). a || b || x || (same_rule s r && part_full s r) || (initial r && leb 256 s.atoms)) l
      ∙ ap (λ (x : Bool). a || b || c || x || (initial r && leb 256 s.atoms)) m
      ∙ ap (λ (x : Bool). a || b || c || d || x) n

  fault_is : (a b c : Bool) → too_many s r ≡ a → breaks s (begun s r) r ≡ b → valueless (begun s r) r ≡ c →
      fault s (begun s r) r ≡ (if a then 5 else if b then 3 else if c then 4 else 0)
  unfolding fault
  fault_is a b c h k l =
      ap (λ (x : Bool). if x then 5 else if breaks s (begun s r) r then 3 else if valueless (begun s r) r then 4 else 0) h
      ∙ ap (λ (x : Bool). if a then 5 else if x then 3 else if valueless (begun s r) r then 4 else 0) k
      ∙ ap (λ (x : Bool). if a then 5 else if b then 3 else if x then 4 else 0) l

  passed_by : lacking s && not (same_rule s r) ≡ false → fault s (begun s r) r ≡ 0 → take_row s r ≡ passed (taken (begun s r) r)
  unfolding take_row
  passed_by h k = rw (h, k)

  -- `breaks` by what it asks
  breaks_is : (o a b : Bool) → in_order s r ≡ o → against_kind s r ≡ a → (eqb r.set 0 && not (set_0_row s r)) ≡ b →
      breaks s (begun s r) r ≡ (not o || a || b || (leb 1 r.set && not (rule_row (begun s r) r)))
  unfolding breaks
  breaks_is o a b h k l =
      ap (λ (x : Bool). not x || against_kind s r || (eqb r.set 0 && not (set_0_row s r)) || (leb 1 r.set && not (rule_row (begun s r) r))) h
      ∙ ap (λ (x : Bool). not o || x || (eqb r.set 0 && not (set_0_row s r)) || (leb 1 r.set && not (rule_row (begun s r) r))) k
      ∙ ap (λ (x : Bool). not o || a || x || (leb 1 r.set && not (rule_row (begun s r) r))) l

  begun_passes : (u : Scan) → s.count < 512 → Placed s r → Fits (begun s r) r u → take_row s r ≡ passed u
  begun_passes u few p f =
      let fits = breaks_is true false _ p.ordered p.kind (ap (λ (x : Bool). eqb r.set 0 && not x) (sym set_0_same)) in
      let atoms = ap (λ (n : ℕ). initial r && leb 256 n) (sym atoms_same) ∙ f.atoms in
      let many = many_is false false false false false (le-ltb 8 r.set p.set) (le-ltb 32 r.rule p.rule) (lt-leb 512 s.count few)
      (no_room f.room) atoms in
      passed_by p.whole (fault_is false false false many (fits ∙ f.row) f.valued) ∙ ap passed (sym f.next)

  pub quick_passes : (t u : Scan) → s.count < 512 → Placed s r → t ≡ begun s r → Fits t r u → take_row s r ≡ passed u
  quick_passes t u few p b f = begun_passes u few p (subst (λ (q : Scan). Fits q r u) b f)

-- the columns of a row that passes are in range
pub row_in_range : (r : Row) (s t u : Scan) → Bounded r → Placed s r → Fits t r u → in_range r ≡ true
row_in_range r s t u w p f =
    let set = p.set in
    let rule = p.rule in
    let part = f.part in
    let op = f.op in
    of_in_range r (record {
      set = omega (arith, set);
      rule = omega (arith, rule);
      part = omega (arith, part);
      op = omega (arith, op);
      i = w.i;
      p = w.p;
      a = w.a;
      b = w.b;
    })
