-- Candidates that are passed over: none of them fits, so what a row gives from the first of them on is what it gives behind the last.
use Rattle.std.specs.Prelude.{Option, Some, None}
use mathlib.Core.Path.{◌≡◌, refl, sym, ap, ap₂, ◌∙◌, subst}
use mathlib.Core.Bool.{Bool, true, false, not, ◌&&◌, and-eq-true_iff}
use mathlib.Core.List.{List, [], ◌++◌, map}
use Prim.Native.Nat.{ℕ, zero, suc, ◌+◌, ◌-◌, ◌*◌, ◌/◌, ◌%◌, ◌≤◌, ◌<◌}
use native.Mathlib.Omega.{arith}
use lib.Dec.{ltb}
use lib.ListN.{length, get_or}
use borrow.Author.Tests.{le-leb, ltb-true, ltb-false, le-ltb, not-false}
use Rattle.lists.specs.Lists.{within, when, bind}
use Rattle.lists.proofs.Lists.{or_right}
use Rattle.lists.proofs.Tests.{and2, or_left}
use Rattle.lists.proofs.Cuts.{within_above}
use Rattle.model.specs.declared.Row.{Row}
use Rattle.model.specs.Matching.{Candidate, candidate, Found, found}
use Rattle.state.specs.declared.Scalars.{Scalars}
use Rattle.state.specs.View.{atom_at, plan_at}
use Rattle.queries.specs.declared.Columns.{Columns}
use Rattle.queries.specs.View.{candidate_of, Wants, unlike, is_unlike, is_like, lacks}
use Rattle.queries.specs.Answers.{taken, atom_candidate, plan_candidate, justification_candidate, count_of, candidate_at, fit_at, hits, Missed, Skipped}
use Rattle.queries.proofs.Unlike.{unlike_fits_not}
use Rattle.queries.proofs.Answers.{hits_end, hits_skip}

-- a candidate that is not there; one with a column that is not the number wanted there; one that is not like what is wanted
module _ (i a b : Option ℕ) where
  pub missed_absent : (t : Bool) (k : Candidate) → t ≡ false → Missed i a b (when t k)
  missed_absent t k e = record { none = λ r f wi wa wb. ap (λ (v : Bool). bind (when v k) (λ x. taken r x f)) e }

  unlike_taken : (x : Columns) → is_unlike i a b x ≡ true → (r : Row) (f : Found) → Wants i r.i f.values → Wants a r.a f.values → Wants b r.b f.values → taken r (candidate x.i x.a x.b) f ≡ []
  unfolding taken
  unlike_taken x e r f wi wa wb = ap (map (found r (candidate x.i x.a x.b) f)) (unlike_fits_not r f.values i a b wi wa wb x e)

  missed_column : (t : Bool) (x : Columns) → is_unlike i a b x ≡ true → Missed i a b (when t (candidate x.i x.a x.b))
  missed_column false x e = missed_absent false (candidate x.i x.a x.b) refl
  missed_column true x e = record { none = λ r f wi wa wb. ap (λ (l : List Found). l ++ []) (unlike_taken x e r f wi wa wb) }

  pub missed_id : (t : Bool) (k m n : ℕ) → unlike i k ≡ true → Missed i a b (when t (candidate k m n))
  missed_id t k m n e = missed_column t (record { i = k; a = m; b = n }) (or_left _ e)

  pub missed_second : (t : Bool) (k m n : ℕ) → unlike a m ≡ true → Missed i a b (when t (candidate k m n))
  missed_second t k m n e = missed_column t (record { i = k; a = m; b = n }) (or_right (unlike i k) (or_left _ e))

  pub missed_third : (t : Bool) (k m n : ℕ) → unlike b n ≡ true → Missed i a b (when t (candidate k m n))
  missed_third t k m n e = missed_column t (record { i = k; a = m; b = n }) (or_right (unlike i k) (or_right (unlike a m) e))

  missed_unlike : (x : Option Columns) → is_like i a b x ≡ false → Missed i a b (candidate_of x)
  missed_unlike None e = missed_absent false (candidate 0 0 0) refl
  missed_unlike (Some x) e = missed_column true x (not-false _ e)

-- each of four
lacking : (a : Option ℕ) (l : List ℕ) → lacks a l ≡ true → (j : ℕ) → j < 4 → unlike a (get_or l j 0) ≡ true
lacking a l e = at
  where
    both : ((unlike a (get_or l 0 0) && unlike a (get_or l 1 0)) ≡ true) × ((unlike a (get_or l 2 0) && unlike a (get_or l 3 0)) ≡ true)
    both = (and-eq-true_iff (unlike a (get_or l 0 0) && unlike a (get_or l 1 0)) (unlike a (get_or l 2 0) && unlike a (get_or l 3 0))).0 e

    low : (unlike a (get_or l 0 0) ≡ true) × (unlike a (get_or l 1 0) ≡ true)
    low = (and-eq-true_iff (unlike a (get_or l 0 0)) (unlike a (get_or l 1 0))).0 both.0

    high : (unlike a (get_or l 2 0) ≡ true) × (unlike a (get_or l 3 0) ≡ true)
    high = (and-eq-true_iff (unlike a (get_or l 2 0)) (unlike a (get_or l 3 0))).0 both.1

    at : (j : ℕ) → j < 4 → unlike a (get_or l j 0) ≡ true
    at zero h = low.0
    at (suc zero) h = low.1
    at (suc (suc zero)) h = high.0
    at (suc (suc (suc zero))) h = high.1
    at (suc (suc (suc (suc j)))) h = absurd (omega arith)

-- the four numbers of plan k: the plan is another, it has no such atom, it has no justification there, or another atom
module _ (words : List ℕ) (i a b : Option ℕ) (k : ℕ) where
  pub other_plan : (id : ℕ) → id ≡ (plan_at words k).id → unlike i id ≡ true → (c : ℕ) → k * 4 ≤ c → c < k * 4 + 4 → Missed i a b (justification_candidate (plan_at words (c / 4)) (c % 4))
  other_plan id is e c p q =
      let h : k ≡ c / 4 = omega arith in
      let o : id ≡ (plan_at words (c / 4)).id = is ∙ ap (λ (n : ℕ). (plan_at words n).id) h in
      missed_id i a b (ltb (c % 4) (length (plan_at words (c / 4)).justifications)) (plan_at words (c / 4)).id (get_or (plan_at words (c / 4)).justifications (c % 4) 0) 0 (ap (unlike i) (sym o) ∙ e)

  pub no_such_atom : (n : Bool) → n ≡ lacks a (plan_at words k).justifications → n ≡ true → (c : ℕ) → k * 4 ≤ c → c < k * 4 + 4 → Missed i a b (justification_candidate (plan_at words (c / 4)) (c % 4))
  no_such_atom n is e c p q =
      let h : k ≡ c / 4 = omega arith in
      let g : c % 4 < 4 = omega arith in
      let o : lacks a (plan_at words (c / 4)).justifications ≡ true = subst (λ (m : ℕ). lacks a (plan_at words m).justifications ≡ true) h (sym is ∙ e) in
      missed_second i a b (ltb (c % 4) (length (plan_at words (c / 4)).justifications)) (plan_at words (c / 4)).id (get_or (plan_at words (c / 4)).justifications (c % 4) 0) 0 (lacking a (plan_at words (c / 4)).justifications o (c % 4) g)

  pub past_last : (n : ℕ) → n ≡ length (plan_at words k).justifications → (c : ℕ) → k * 4 + n ≤ c → c < k * 4 + 4 → Missed i a b (justification_candidate (plan_at words (c / 4)) (c % 4))
  past_last n is c p q =
      let h : k ≡ c / 4 = omega arith in
      let o : n ≡ length (plan_at words (c / 4)).justifications = is ∙ ap (λ (m : ℕ). length (plan_at words m).justifications) h in
      let g : length (plan_at words (c / 4)).justifications ≤ c % 4 = omega arith in
      missed_absent i a b (ltb (c % 4) (length (plan_at words (c / 4)).justifications)) (candidate (plan_at words (c / 4)).id (get_or (plan_at words (c / 4)).justifications (c % 4) 0) 0) (le-ltb (c % 4) (length (plan_at words (c / 4)).justifications) g)

  pub other_atom : (j n : ℕ) → j < 4 → n ≡ get_or (plan_at words k).justifications j 0 → unlike a n ≡ true → (c : ℕ) → k * 4 + j ≤ c → c < k * 4 + j + 1 → Missed i a b (justification_candidate (plan_at words (c / 4)) (c % 4))
  other_atom j n h is e c p q =
      let x : k ≡ c / 4 = omega arith in
      let y : j ≡ c % 4 = omega arith in
      let o : n ≡ get_or (plan_at words (c / 4)).justifications (c % 4) 0 = is ∙ ap₂ (λ (k j : ℕ). get_or (plan_at words k).justifications j 0) x y in
      missed_second i a b (ltb (c % 4) (length (plan_at words (c / 4)).justifications)) (plan_at words (c / 4)).id (get_or (plan_at words (c / 4)).justifications (c % 4) 0) 0 (ap (unlike a) (sym o) ∙ e)

-- the same candidates by another name
pub skip_as : {l m : ℕ → List Candidate} {i a b : Option ℕ} {from to : ℕ} → Skipped l i a b from to → ((c : ℕ) → l c ≡ m c) → Skipped m i a b from to
skip_as {i = i} {a = a} {b = b} s e = record { on = s.on; missed = λ c p q. subst (Missed i a b) (e c) (s.missed c p q) }

-- further and further
module _ (l : ℕ → List Candidate) (i a b : Option ℕ) (from : ℕ) where
  pub skip_none : Skipped l i a b from from
  skip_none = record { on = omega arith; missed = λ c h k. absurd (omega arith) }

  pub skip_to : (c d : ℕ) → Skipped l i a b from c → c ≤ d → ((k : ℕ) → c ≤ k → k < d → Missed i a b (l k)) → Skipped l i a b from d
  skip_to c d s h m = let g = s.on in record { on = omega arith; missed = λ k p q. at k p q (ltb k c) refl }
    where
      at : (k : ℕ) → from ≤ k → k < d → (t : Bool) → ltb k c ≡ t → Missed i a b (l k)
      at k p q true e = s.missed k p (ltb-true k c e)
      at k p q false e = m k (ltb-false k c e) q

  pub skip_one : (c : ℕ) → Skipped l i a b from c → Missed i a b (l c) → Skipped l i a b from (c + 1)
  skip_one c s m = skip_to c (c + 1) s (omega arith) (λ k p q. let e : c ≡ k = omega arith in subst (λ (n : ℕ). Missed i a b (l n)) e m)

-- candidates that were asked one by one, each unlike what is wanted
pub skipped_by : {l : ℕ → List Candidate} {i a b : Option ℕ} {from to : ℕ} {P : ℕ → Option Columns → Type 0} → from ≤ to →
    ((c : ℕ) → c < to → from ≤ c → (x : Option Columns) × P c x × (is_like i a b x ≡ false)) → ((c : ℕ) (x : Option Columns) → P c x → candidate_of x ≡ l c) → Skipped l i a b from to
skipped_by {i = i} {a = a} {b = b} h f g = record { on = h; missed = λ c p q. let x = f c q p in subst (Missed i a b) (g c x.0 x.1) (missed_unlike i a b x.0 x.2) }

-- what the row gives
module _ (words : List ℕ) (s : Scalars) (r : Row) (f : Found) where
  hits_pass : (c : ℕ) → fit_at words s r f c ≡ [] → hits words s r f c ≡ hits words s r f (c + 1)
  hits_pass c e = at (ltb c (count_of s r)) refl
    where
      at : (t : Bool) → ltb c (count_of s r) ≡ t → hits words s r f c ≡ hits words s r f (c + 1)
      at true h = hits_skip words s r f c (ltb-true c (count_of s r) h) e
      at false h = let g = ltb-false c (count_of s r) h in hits_end words s r f c g ∙ sym (hits_end words s r f (c + 1) (omega arith))

  hits_leap : (d c : ℕ) → ((k : ℕ) → c ≤ k → k < c + d → fit_at words s r f k ≡ []) → hits words s r f c ≡ hits words s r f (c + d)
  hits_leap zero c m = let e : c ≡ c + 0 = omega arith in ap (hits words s r f) e
  hits_leap (suc d) c m =
      let e : (c + 1) + d ≡ c + suc d = omega arith in
      hits_pass c (m c (omega arith) (omega arith)) ∙ hits_leap d (c + 1) (λ k p q. m k (omega arith) (omega arith)) ∙ ap (hits words s r f) e

  pub hits_skipped : (i a b : Option ℕ) (from to : ℕ) → Wants i r.i f.values → Wants a r.a f.values → Wants b r.b f.values → Skipped (candidate_at words s r) i a b from to → hits words s r f from ≡ hits words s r f to
  unfolding fit_at
  hits_skipped i a b from to wi wa wb k =
      let h = k.on in
      let e : from + (to - from) ≡ to = omega arith in
      hits_leap (to - from) from (λ c p q. (k.missed c p (omega arith)).none r f wi wa wb) ∙ ap (hits words s r f) e

-- where no number is known, every number will do
pub unknown_wants : (x : ℕ) (v : List ℕ) → Wants None x v
unknown_wants x v = record { misses = tt }

-- the candidates of a row that asks for an atom are the atoms
module _ (s : Scalars) (r : Row) (h : 1 ≤ r.op) (k : r.op ≤ 2) where
  asks_atoms : within 1 2 r.op ≡ true
  asks_atoms = and2 (le-leb 1 r.op h) (le-leb r.op 2 k)

  pub atoms_counted : count_of s r ≡ s.atoms
  unfolding count_of
  atoms_counted = rw asks_atoms

  pub atom_at_number : (words : List ℕ) (c : ℕ) → atom_candidate r.p (atom_at words c) ≡ candidate_at words s r c
  unfolding candidate_at
  atom_at_number words c = rw asks_atoms

  pub hits_past_atoms : (words : List ℕ) (f : Found) (a b : Option ℕ) (from to : ℕ) → Wants a r.a f.values → Wants b r.b f.values →
      Skipped (λ c. atom_candidate r.p (atom_at words c)) None a b from to → hits words s r f from ≡ hits words s r f to
  hits_past_atoms words f a b from to wa wb m =
      hits_skipped words s r f None a b from to (unknown_wants r.i f.values) wa wb (skip_as m (atom_at_number words))

-- those of a row that asks for a plan are the plans
module _ (s : Scalars) (r : Row) (h : 3 ≤ r.op) (k : r.op ≤ 4) where
  asks_plans : within 3 4 r.op ≡ true
  asks_plans = and2 (le-leb 3 r.op h) (le-leb r.op 4 k)

  pub plans_numbered : count_of s r ≡ s.plans
  unfolding count_of
  plans_numbered = rw (within_above 1 2 r.op (omega arith), asks_plans)

  pub plan_at_number : (words : List ℕ) (c : ℕ) → plan_candidate (plan_at words c) ≡ candidate_at words s r c
  unfolding candidate_at
  plan_at_number words c = rw (within_above 1 2 r.op (omega arith), asks_plans)
