-- What a scan says of the rows taken so far: its counts are theirs, they stand in order, and every law of a program holds of
-- them. A row that passes keeps this, since it belongs to the last rule or begins one that stands after every row.
use mathlib.Core.Path.{◌≡◌, refl, sym, ap, ◌∙◌, subst, subst₃}
use mathlib.Core.Bool.{Bool, true, false, not, ◌&&◌, false≢true}
use mathlib.Core.Logic.{◌⊎◌, inl, inr, ⊎_elim, ◌≢◌}
use mathlib.Core.List.{List, [], ◌∷◌, ◌++◌, append-nil, append_assoc}
use Prim.Native.Nat.{ℕ, zero, suc, ◌+◌, ◌≤◌}
use native.Mathlib.Omega.{arith}
use lib.Dec.{eqb}
use lib.ListN.{length, length-append, get_or, replicate}
use borrow.Author.Tests.{eqb-true, eqb-false, eq-eqb, ne_eqb, leb-false}
use Rattle.lists.specs.Lists.{In, first, Pairs, when, bit, is_empty}
use Rattle.lists.proofs.Lists.{test, clash, in_nil, in_left, in_right, in_append, all_snoc, pairs_snoc}
use Rattle.model.specs.declared.Row.{Row}
use Rattle.model.specs.declared.Scan.{Scan}
use Rattle.model.specs.Program.{part_of, reasons, context, body, initial_atoms}
use Rattle.model.specs.Load.{at_first, same_rule, initial, begun, gives, taken, Verdict, passed, refused_at, go_on, take_row}
use Rattle.model.specs.Render.{take_rows, is_loaded}
use Rattle.program_laws.specs.Lawful.{NotLater, Given}
use Rattle.program_laws.proofs.Tests.{and_left, and_right, and_other, misses}
use Rattle.program_laws.proofs.Rules.{RuleLawful, no_rows, given_in, with_reason, with_context, with_body, kind_is}
use Rattle.program_laws.proofs.Accepted.{Place, same, next_rule, next_set, RuleRow, reason, condition, step, act, Set0Row, Accepted, Passes, passes}
use Rattle.program_laws.proofs.Parts.{initial_snoc, part_own, part_other, part_none, length_when, when_hit, when_miss, some_rows, no_row, gives_cases}

-- the laws of one row
pub record RowLawful (r : Row) : Type 0 where
  pub in_set_0 : r.set ≡ 0 → Set0Row r
  pub in_rule : 1 ≤ r.set → (r.set ≤ 8) × (1 ≤ r.rule) × (r.rule ≤ 32) × (1 ≤ r.part) × (r.part ≤ 3)

-- the laws of a rule, of the kind that its reasons say
abbrev pub RuleOf : List Row → List Row → List Row → Type 0
RuleOf R C B = RuleLawful (not (is_empty R)) R C B

abbrev pub rows_of : List Row → ℕ → ℕ → List Row
rows_of done m n = reasons done m n ++ (context done m n ++ body done m n)

-- the place of the last row
abbrev last : Scan → Row
last s = record { set = s.set; rule = s.rule; part = s.part; op = 0; i = 0; p = 0; a = 0; b = 0 }

pub record Scanned (done : List Row) (s : Scan) : Type 0 where
  pub ordered : Pairs NotLater done
  pub past : (q : Row) → In q done → NotLater q (last s)
  pub count : s.count ≡ length done
  pub few_rows : s.count ≤ 512
  pub atom_count : s.atoms ≡ length (initial_atoms done)
  pub few_atoms : s.atoms ≤ 256
  pub reason_count : s.reasons ≡ length (reasons done s.set s.rule)
  pub context_count : s.context ≡ length (context done s.set s.rule)
  pub body_count : s.body ≡ length (body done s.set s.rule)
  pub rows : (q : Row) → In q done → RowLawful q
  pub rules : (m n : ℕ) → RuleOf (reasons done m n) (context done m n) (body done m n)
  pub kind : s.object ≡ not (is_empty (reasons done s.set s.rule))
  pub meta_part : 1 ≤ s.set → s.object ≡ false → 2 ≤ s.part
  pub numbered : 1 ≤ s.set → 1 ≤ s.rule
  pub valued : 1 ≤ s.set → (x : ℕ) → get_or s.valued x 0 ≢ 0 → Given (rows_of done s.set s.rule) x

-- the same of the scan t as the row r finds it
record Begun (done : List Row) (t : Scan) (r : Row) : Type 0 where
  past : (q : Row) → In q done → NotLater q r
  count : t.count ≡ length done
  few_rows : t.count ≤ 511
  atom_count : t.atoms ≡ length (initial_atoms done)
  few_atoms : t.atoms + bit (initial r) ≤ 256
  reason_count : t.reasons ≡ length (reasons done r.set r.rule)
  context_count : t.context ≡ length (context done r.set r.rule)
  body_count : t.body ≡ length (body done r.set r.rule)
  reason_room : r.part ≡ 1 → t.reasons ≤ 3
  context_room : r.part ≡ 2 → t.context ≤ 5
  body_room : r.part ≡ 3 → t.body ≤ 7
  rule : RuleLawful t.object (reasons done r.set r.rule) (context done r.set r.rule) (body done r.set r.rule)
  object : t.object ≡ true → (1 ≤ t.reasons) ⊎ (r.part ≡ 1)
  meta : t.object ≡ false → (t.reasons ≡ 0) × (r.part ≢ 1)
  numbered : 1 ≤ r.set → 1 ≤ r.rule
  valued : 1 ≤ r.set → (x : ℕ) → get_or t.valued x 0 ≢ 0 → Given (rows_of done r.set r.rule) x

-- the order goes on
module _ (s : Scan) (q r : Row) (n : NotLater q (last s)) where
  after_same : r.set ≡ s.set → r.rule ≡ s.rule → s.part ≤ r.part → NotLater q r
  after_same e f h = record {
    sets = let k = n.sets in omega arith;
    rules = λ d. let k = n.rules (d ∙ e) in omega arith;
    parts = λ d c. let k = n.parts (d ∙ e) (c ∙ f) in omega arith;
  }

  after_rule : r.set ≡ s.set → r.rule ≡ s.rule + 1 → NotLater q r
  after_rule e f = record {
    sets = let k = n.sets in omega arith;
    rules = λ d. let k = n.rules (d ∙ e) in omega arith;
    parts = λ d c. let k = n.rules (d ∙ e) in absurd (omega arith);
  }

  after_set : r.set ≡ s.set + 1 → NotLater q r
  after_set e = record {
    sets = let k = n.sets in omega arith;
    rules = λ d. let k = n.sets in absurd (omega arith);
    parts = λ d c. let k = n.sets in absurd (omega arith);
  }

-- a rule that begins with the row
abbrev new_rule : Scan → Row → Scan
new_rule s r = record {
  count = s.count;
  atoms = s.atoms;
  set = r.set;
  rule = r.rule;
  part = 0;
  reasons = 0;
  context = 0;
  body = 0;
  object = eqb r.part 1;
  valued = replicate 9 0;
  ceilings = s.ceilings;
}

-- no variable has a value yet
none_valued : (x : ℕ) → ◌≡◌ {A = ℕ} (get_or (replicate 9 0) x 0) 0
none_valued x = getD_none 9 x
  where
    getD_none : (n x : ℕ) → ◌≡◌ {A = ℕ} (get_or (replicate n 0) x 0) 0
    getD_none zero x = refl
    getD_none (suc n) zero = refl
    getD_none (suc n) (suc x) = getD_none n x

one_more : (b : Bool) (n : ℕ) → (b ≡ true → n ≤ 255) → n ≤ 256 → n + bit b ≤ 256
one_more true n h k = let l = h refl in omega arith
one_more false n h k = omega arith

module _ {done : List Row} {s : Scan} (w : Scanned done s) (r : Row) (a : Accepted s (begun s r) r) where
  begins_same : same_rule s r ≡ true → r.set ≡ s.set → r.rule ≡ s.rule → s.part ≤ r.part → Begun done s r
  begins_same q e f h = let full = a.part_room q in record {
    past = λ k i. after_same s k r (w.past k i) e f h;
    count = w.count;
    few_rows = a.count_small;
    atom_count = w.atom_count;
    few_atoms = one_more (initial r) s.atoms a.atoms_small w.few_atoms;
    reason_count = rw (e, f) w.reason_count;
    context_count = rw (e, f) w.context_count;
    body_count = rw (e, f) w.body_count;
    reason_room = λ p. let l = leb-false 4 s.reasons (and_other (eqb r.part 1) _ (search misses) (eq-eqb _ _ p)) in omega arith;
    context_room = λ p. let l = leb-false 6 s.context (and_other (eqb r.part 2) _ (search misses) (eq-eqb _ _ p)) in omega arith;
    body_room = λ p. let l = leb-false 8 s.body (and_other (eqb r.part 3) _ (search misses) (eq-eqb _ _ p)) in omega arith;
    rule = rw (e, f, w.kind) (w.rules s.set s.rule);
    object = λ o. let l = some_rows (reasons done s.set s.rule) (sym w.kind ∙ o) in let c = w.reason_count in inl (omega arith);
    meta = λ o. let l = no_row (reasons done s.set s.rule) (sym w.kind ∙ o) in let c = w.reason_count in (omega arith, not_reason o s.set refl);
    numbered = rw (e, f) w.numbered;
    valued = rw (e, f) w.valued;
  }
    where
      not_reason : s.object ≡ false → (n : ℕ) → s.set ≡ n → r.part ≢ 1
      not_reason o zero z p = let l = (a.in_set_0 (e ∙ z)).part in omega arith
      not_reason o (suc n) z p = let l = w.meta_part (omega arith) o in omega arith

  begins_new : ((q : Row) → In q done → NotLater q r) → ((q : Row) → In q done → q.set ≡ r.set → q.rule ≡ r.rule → ⊥) → (1 ≤ r.set → 1 ≤ r.rule) → Begun done (new_rule s r) r
  begins_new before none n =
      let eR = part_none done r none 1 in
      let eC = part_none done r none 2 in
      let eB = part_none done r none 3 in
      record {
        past = before;
        count = w.count;
        few_rows = a.count_small;
        atom_count = w.atom_count;
        few_atoms = one_more (initial r) s.atoms a.atoms_small w.few_atoms;
        reason_count = rw eR;
        context_count = rw eC;
        body_count = rw eB;
        reason_room = λ p. omega arith;
        context_room = λ p. omega arith;
        body_room = λ p. omega arith;
        rule = rw (eR, eC, eB) (no_rows (eqb r.part 1));
        object = λ o. inr (eqb-true _ _ o);
        meta = λ o. (refl, eqb-false _ _ o);
        numbered = n;
        valued = λ h x z. absurd (z (none_valued x));
      }

  begins : Begun done (begun s r) r
  unfolding begun
  begins = go a.place
    where
      go : Place s r → Begun done (begun s r) r
      go (same q e f h) = rw q (begins_same q e f h)
      go (next_rule q e l f) = rw q (begins_new (λ k i. after_rule s k r (w.past k i) e f) (λ k i d c. let h = (w.past k i).rules (d ∙ e) in omega arith) (λ h. omega arith))
      go (next_set q e f) = rw q (begins_new (λ k i. after_set s k r (w.past k i) e) (λ k i d c. let h = (w.past k i).sets in omega arith) (λ h. omega arith))

-- a part of the row's rule, before it and with it
abbrev own : List Row → Row → ℕ → List Row
own done r k = part_of done r.set r.rule k

abbrev grown : List Row → Row → ℕ → List Row
grown done r k = own done r k ++ when (eqb r.part k) r

module _ {done : List Row} {s t : Scan} (r : Row) (a : Accepted s t r) (b : Begun done t r) where
  hit : (k : ℕ) → r.part ≡ k → own done r k ++ (r ∷ []) ≡ grown done r k
  hit k e = sym (when_hit (own done r k) r r.part k e)

  miss : (k : ℕ) → r.part ≢ k → own done r k ≡ grown done r k
  miss k h = sym (when_miss (own done r k) r r.part k h)

  rule_grown : RuleLawful t.object (grown done r 1) (grown done r 2) (grown done r 3)
  rule_grown = go r.set refl
    where
      of_rule : 1 ≤ r.set → RuleRow t r → RuleLawful t.object (grown done r 1) (grown done r 2) (grown done r 3)
      of_rule l (reason p o h) =
          let n = b.reason_room p in
          let c = b.reason_count in
          subst₃ (RuleLawful t.object) (hit 1 p) (miss 2 (omega arith)) (miss 3 (omega arith)) (with_reason b.rule r (omega arith) o h)
      of_rule l (condition p q h) =
          let n = b.context_room p in
          let c = b.context_count in
          subst₃ (RuleLawful t.object) (miss 1 (omega arith)) (hit 2 p) (miss 3 (omega arith)) (with_context b.rule r (omega arith) q h)
      of_rule l (step p o h) =
          let n = b.body_room p in
          let c = b.body_count in
          subst₃ (RuleLawful t.object) (miss 1 (omega arith)) (miss 2 (omega arith)) (hit 3 p) (with_body b.rule r (omega arith) (λ o. h) (λ m. clash o m) (λ x u v. b.valued l x (a.has_value p x u v)))
      of_rule l (act p o h) =
          let n = b.body_room p in
          let c = b.body_count in
          subst₃ (RuleLawful t.object) (miss 1 (omega arith)) (miss 2 (omega arith)) (hit 3 p) (with_body b.rule r (omega arith) (λ m. clash m o) (λ m. (t, h)) (λ x u v. b.valued l x (a.has_value p x u v)))

      go : (n : ℕ) → r.set ≡ n → RuleLawful t.object (grown done r 1) (grown done r 2) (grown done r 3)
      go zero e =
          let p = (a.in_set_0 e).part in
          subst₃ (RuleLawful t.object) (miss 1 (omega arith)) (miss 2 (omega arith)) (miss 3 (omega arith)) b.rule
      go (suc n) e = let l : 1 ≤ r.set = omega arith in of_rule l (a.in_rule l)

  kind_grown : not (is_empty (grown done r 1)) ≡ t.object
  kind_grown =
      let c = b.reason_count in
      kind_is t.object (eqb r.part 1) (own done r 1) r
      (λ o. ⊎_elim (λ h. inl (omega arith)) (λ e. inr (eq-eqb _ _ e)) (b.object o))
      (λ o. let m = b.meta o in (omega arith, ne_eqb _ _ m.1))

  -- the row is among those of its rule, and so are the earlier ones
  own_row : RuleRow t r → In r (grown done r 1 ++ (grown done r 2 ++ grown done r 3))
  own_row (reason p o h) = in_left _ (subst (In r) (hit 1 p) (in_right (own done r 1) (first refl)))
  own_row (condition p q h) = in_right (grown done r 1) (in_left _ (subst (In r) (hit 2 p) (in_right (own done r 2) (first refl))))
  own_row (step p o h) = in_right (grown done r 1) (in_right (grown done r 2) (subst (In r) (hit 3 p) (in_right (own done r 3) (first refl))))
  own_row (act p o h) = in_right (grown done r 1) (in_right (grown done r 2) (subst (In r) (hit 3 p) (in_right (own done r 3) (first refl))))

  old_row : (q : Row) → In q (rows_of done r.set r.rule) → In q (grown done r 1 ++ (grown done r 2 ++ grown done r 3))
  old_row q h =
      ⊎_elim (λ i. in_left _ (in_left _ i)) (λ i. in_right (grown done r 1) (⊎_elim (λ j. in_left _ (in_left _ j)) (λ j. in_right (grown done r 2) (in_left _ j)) (in_append (own done r 2) (own done r 3) i)))
      (in_append (own done r 1) (own done r 2 ++ own done r 3) h)

  valued_grown : 1 ≤ r.set → (x : ℕ) → get_or (gives r t.valued) x 0 ≢ 0 → Given (grown done r 1 ++ (grown done r 2 ++ grown done r 3)) x
  valued_grown l x h = ⊎_elim (λ g. (r, own_row (a.in_rule l), g)) (λ z. given_in old_row (b.valued l x z)) (gives_cases r x t.valued h)

  row_lawful : RowLawful r
  row_lawful = record { in_set_0 = a.in_set_0; in_rule = λ l. (a.set_small, b.numbered l, a.rule_small, low (a.in_rule l), high (a.in_rule l)) }
    where
      low : RuleRow t r → 1 ≤ r.part
      low (reason p o h) = omega arith
      low (condition p q h) = omega arith
      low (step p o h) = omega arith
      low (act p o h) = omega arith

      high : RuleRow t r → r.part ≤ 3
      high (reason p o h) = omega arith
      high (condition p q h) = omega arith
      high (step p o h) = omega arith
      high (act p o h) = omega arith

  module _ (w : Scanned done s) where
    rules_grown : (m n : ℕ) → RuleOf (reasons (done ++ (r ∷ [])) m n) (context (done ++ (r ∷ [])) m n) (body (done ++ (r ∷ [])) m n)
    rules_grown m n = ⊎_elim in_own in_other (test (eqb r.set m && eqb r.rule n))
      where
        in_other : eqb r.set m && eqb r.rule n ≡ false → RuleOf (reasons (done ++ (r ∷ [])) m n) (context (done ++ (r ∷ [])) m n) (body (done ++ (r ∷ [])) m n)
        in_other e = subst₃ RuleOf (sym (part_other done r m n 1 e)) (sym (part_other done r m n 2 e)) (sym (part_other done r m n 3 e)) (w.rules m n)

        in_own : eqb r.set m && eqb r.rule n ≡ true → RuleOf (reasons (done ++ (r ∷ [])) m n) (context (done ++ (r ∷ [])) m n) (body (done ++ (r ∷ [])) m n)
        in_own e =
            let e₀ : m ≡ r.set = sym (eqb-true r.set m (and_left _ _ e)) in
            let e₁ : n ≡ r.rule = sym (eqb-true r.rule n (and_right (eqb r.set m) _ e)) in
            rw (e₀, e₁) (subst₃ RuleOf (sym (part_own done r 1)) (sym (part_own done r 2)) (sym (part_own done r 3)) (rw kind_grown rule_grown))

    takes : Scanned (done ++ (r ∷ [])) (taken t r)
    unfolding taken
    takes = record {
      ordered = pairs_snoc NotLater done r w.ordered b.past;
      past = all_snoc (λ (q : Row). NotLater q (last (taken t r))) done r (λ q i. moved q (b.past q i)) (record { sets = omega arith; rules = λ e. omega arith; parts = λ e f. omega arith });
      count = let c = b.count in omega (arith, length-append done (r ∷ []));
      few_rows = let c = b.few_rows in omega arith;
      atom_count = rw (initial_snoc done r, length_when) (ap (λ (n : ℕ). n + bit (initial r)) b.atom_count);
      few_atoms = b.few_atoms;
      reason_count = rw (part_own done r 1, length_when) (ap (λ (n : ℕ). n + bit (eqb r.part 1)) b.reason_count);
      context_count = rw (part_own done r 2, length_when) (ap (λ (n : ℕ). n + bit (eqb r.part 2)) b.context_count);
      body_count = rw (part_own done r 3, length_when) (ap (λ (n : ℕ). n + bit (eqb r.part 3)) b.body_count);
      rows = all_snoc RowLawful done r w.rows row_lawful;
      rules = rules_grown;
      kind = rw (part_own done r 1) (sym kind_grown);
      meta_part = λ l o. let m = (b.meta o).1 in let h = (row_lawful.in_rule l).3 in omega arith;
      numbered = b.numbered;
      valued = λ l. rw (part_own done r 1, part_own done r 2, part_own done r 3) (valued_grown l);
    }
      where
        moved : (q : Row) → NotLater q r → NotLater q (last (taken t r))
        moved q n = record { sets = n.sets; rules = n.rules; parts = n.parts }

-- before the first row
none_taken : Scanned [] at_first
unfolding at_first initial_atoms part_of
none_taken = record {
  ordered = tt;
  past = λ q i. in_nil i;
  count = refl;
  few_rows = omega arith;
  atom_count = refl;
  few_atoms = omega arith;
  reason_count = refl;
  context_count = refl;
  body_count = refl;
  rows = λ q i. in_nil i;
  rules = λ m n. no_rows false;
  kind = refl;
  meta_part = λ l o. omega arith;
  numbered = λ l. omega arith;
  valued = λ l. absurd (omega arith);
}

-- one row more
one_taken : (done : List Row) (s : Scan) (r : Row) (t : Scan) → Scanned done s → Passes s r t → Scanned (done ++ (r ∷ [])) t
one_taken done s r t w p = subst (Scanned (done ++ (r ∷ []))) (sym p.next) (takes r p.accepted (begins w r p.accepted) w)

-- the rows that a load takes to its end
scan_from : (s : Scan) (done rows : List Row) → Scanned done s → is_loaded (take_rows s done rows) ≡ true → (t : Scan) × Scanned (done ++ rows) t
unfolding take_rows go_on is_loaded
scan_from s done [] w e = (s, subst (λ (l : List Row). Scanned l s) (sym (append-nil done)) w)
scan_from s done (r ∷ rs) w e = go (take_row s r) refl (λ t. scan_from t (done ++ (r ∷ [])) rs) e
  where
    go : (v : Verdict) → take_row s r ≡ v → ((t : Scan) → Scanned (done ++ (r ∷ [])) t → is_loaded (take_rows t (done ++ (r ∷ [])) rs) ≡ true → (u : Scan) × Scanned (done ++ (r ∷ []) ++ rs) u) →
        is_loaded (go_on (λ t. take_rows t (done ++ (r ∷ [])) rs) v) ≡ true → (u : Scan) × Scanned (done ++ (r ∷ rs)) u
    go (refused_at n k) q ih e = absurd (false≢true e)
    go (passed t) q ih e =
        let x = ih t (one_taken done s r t w (passes s r t q)) e in
        (x.0, subst (λ (l : List Row). Scanned l x.0) (append_assoc done (r ∷ []) rs) x.1)

pub scanned : (rows : List Row) → is_loaded (take_rows at_first [] rows) ≡ true → (t : Scan) × Scanned rows t
scanned rows e = scan_from at_first [] rows none_taken e
