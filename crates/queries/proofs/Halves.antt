-- An id that is wanted stands at one place only: no candidate at another fits.
use Rattle.std.specs.Prelude.{Option, Some, None, option_map, unwrap_or, if◌then◌else◌}
use Rattle.std.proofs.lemmas.Option.{none-some, same_Some}
use mathlib.Core.Path.{◌≡◌, refl, sym, ap, ◌∙◌, subst}
use mathlib.Core.Bool.{Bool, true, false, not, ◌&&◌}
use mathlib.Core.Logic.{◌≢◌}
use mathlib.Core.List.{List, [], ◌∷◌}
use Prim.Native.Nat.{ℕ, ◌+◌, ◌-◌, ◌*◌, ◌/◌, ◌%◌, ◌<◌, ◌≤◌}
use native.Mathlib.Omega.{arith}
use lib.Dec.{eqb, leb, ltb}
use lib.ListN.{length, get_or}
use borrow.Author.Tests.{ne_eqb, le-leb, leb-true, leb-false}
use Rattle.lists.specs.Lists.{within, when, Pairs}
use Rattle.lists.specs.Tables.{tabulate, index_of, PlaceOf}
use Rattle.lists.proofs.Lists.{pairs_map}
use Rattle.lists.proofs.Tests.{and2}
use Rattle.lists.proofs.Cuts.{within_above}
use Rattle.lists.proofs.Tables.{tabulate_length, tabulate_at, tabulate_map, index_at}
use Rattle.model.specs.declared.Row.{Row}
use Rattle.model.specs.declared.Atom.{Atom}
use Rattle.model.specs.Program.{constant}
use Rattle.model.specs.Configuration.{Plan, has_flag}
use Rattle.model.specs.Matching.{candidate, Found}
use Rattle.state.specs.declared.Scalars.{Scalars}
use Rattle.state.specs.View.{atom_at, plan_at, atoms_of, plans_of, atom_ids_of, plan_ids_of, AtomsRise, PlansRise}
use Rattle.queries.specs.declared.Columns.{Columns}
use Rattle.queries.specs.View.{candidate_of, Wants, unlike}
use Rattle.queries.specs.Answers.{plan_candidate, remainder_candidate, justification_candidate, subgoal_candidate, state_candidate, count_of, candidate_at, tried, hits, Missed, Skipped, Alone}
use Rattle.queries.proofs.Answers.{hits_end, hits_none, hits_one}
use Rattle.queries.proofs.Skips.{missed_id, hits_skipped, unknown_wants, atoms_counted}

-- numbers given by their places that rise: one of them stands at its index only
once : (n : ℕ) (f : ℕ → ℕ) (x m : ℕ) → Pairs (λ (y z : ℕ). y < z) (tabulate n f) → m < n → m ≢ index_of x (tabulate n f) → f m ≢ x
once n f x m p h d e =
    let z : length (tabulate n f) ≡ n = tabulate_length n f in
    let g : get_or (tabulate n f) m 0 ≡ x = tabulate_at n f m 0 h ∙ e in
    d (index_at (tabulate n f) m p (omega arith) ∙ ap (λ (y : ℕ). index_of y (tabulate n f)) g)

module _ (n : ℕ) (W : List ℕ) (x m : ℕ) where
  other_atom : AtomsRise n W → m < n → m ≢ index_of x (atom_ids_of n W) → (atom_at W m).id ≢ x
  other_atom p = subst (λ (l : List ℕ). Pairs (λ (y z : ℕ). y < z) l → m < n → m ≢ index_of x l → (atom_at W m).id ≢ x) (tabulate_map (λ (a : Atom). a.id) n (atom_at W)) (once n (λ (k : ℕ). (atom_at W k).id) x m)
      (pairs_map (λ (y z : ℕ). y < z) (λ (a : Atom). a.id) (atoms_of n W) p)

  other_plan : PlansRise n W → m < n → m ≢ index_of x (plan_ids_of n W) → (plan_at W m).id ≢ x
  other_plan p = subst (λ (l : List ℕ). Pairs (λ (y z : ℕ). y < z) l → m < n → m ≢ index_of x l → (plan_at W m).id ≢ x) (tabulate_map (λ (q : Plan). q.id) n (plan_at W)) (once n (λ (k : ℕ). (plan_at W k).id) x m)
      (pairs_map (λ (y z : ℕ). y < z) (λ (q : Plan). q.id) (plans_of n W) p)

unlike_other : (id n : ℕ) → n ≢ id → unlike (Some id) n ≡ true
unlike_other id n d = ap not (ne_eqb n id d)

unlike_plan : (id : ℕ) (words : List ℕ) (n : ℕ) → PlansRise n words → (k : ℕ) → k ≡ index_of id (plan_ids_of n words) →
    (c : ℕ) → c < n → c ≢ k → unlike (Some id) (plan_at words c).id ≡ true
unlike_plan id words n rise k is c p q = unlike_other id (plan_at words c).id (other_plan n words id c rise p (λ z. q (z ∙ sym is)))

-- past a range that does not hold it
over : (lo hi x : ℕ) → lo ≤ x → within lo hi x ≡ false → hi < x
over lo hi x h e = leb-false x hi (ap (λ (b : Bool). b && leb x hi) (sym (le-leb lo x h)) ∙ e)

-- an op from 3 to 12 is in one of the ranges
no_plans : (x : ℕ) → 3 ≤ x → x ≤ 12 → within 7 8 x ≡ false → within 3 4 x ≡ false → within 5 6 x ≡ false → within 9 10 x ≡ false → within 11 12 x ≡ false → ⊥
no_plans x h k j f g m n =
    let o = over 3 4 x h f in
    let p = over 5 6 x (omega arith) g in
    let q = over 7 8 x (omega arith) j in
    let t = over 9 10 x (omega arith) m in
    let v = over 11 12 x (omega arith) n in
    absurd (omega arith)

module _ (words : List ℕ) (s : Scalars) (r : Row) (id : ℕ) (a b : Option ℕ) where
  abbrev i : Option ℕ
  i = Some id

  -- a candidate of plan c, by the query
  plan_missed : (c : ℕ) → 3 ≤ r.op → r.op ≤ 12 → within 7 8 r.op ≡ false → unlike i (plan_at words c).id ≡ true → Missed i a b (candidate_at words s r c)
  unfolding candidate_at
  plan_missed c h k j e = rw (within_above 1 2 r.op (omega arith), j) (at (within 3 4 r.op) refl (within 5 6 r.op) refl (within 9 10 r.op) refl (within 11 12 r.op) refl)
    where
      at : (x : Bool) → within 3 4 r.op ≡ x → (y : Bool) → within 5 6 r.op ≡ y → (z : Bool) → within 9 10 r.op ≡ z → (u : Bool) → within 11 12 r.op ≡ u → Missed i a b
          (if x then plan_candidate (plan_at words c) else if y then remainder_candidate (plan_at words c) else if z then subgoal_candidate (plan_at words c)
          else if u then state_candidate r.a (plan_at words c) else (candidate 0 s.cycle 0 ∷ []))
      at true f y g z m u n = missed_id i a b true (plan_at words c).id (plan_at words c).set (plan_at words c).rule e
      at false f true g z m u n = missed_id i a b true (plan_at words c).id (plan_at words c).left 0 e
      at false f false g true m u n = missed_id i a b (not (eqb (plan_at words c).subgoal 0)) (plan_at words c).id (plan_at words c).subgoal 0 e
      at false f false g false m true n = missed_id i a b (has_flag (constant r.a) (plan_at words c).flags) (plan_at words c).id (constant r.a) 0 e
      at false f false g false m false n = absurd (no_plans r.op h k j f g m n)

  -- an atom at another place than its id's; the candidate of a plan at another
  pub atom_other : AtomsRise s.atoms words → within 1 2 r.op ≡ true → (k : ℕ) → k ≡ index_of id (atom_ids_of s.atoms words) →
      (c : ℕ) → c < s.atoms → c ≢ k → Missed i a b (candidate_at words s r c)
  unfolding candidate_at
  atom_other rise o k is c p q =
      let d = other_atom s.atoms words id c rise p (λ z. q (z ∙ sym is)) in
      let u = unlike_other id (atom_at words c).id d in
      rw o (missed_id i a b (eqb (atom_at words c).p r.p) (atom_at words c).id (atom_at words c).a (atom_at words c).b u)

  pub plan_other : PlansRise s.plans words → 3 ≤ r.op → r.op ≤ 12 → within 7 8 r.op ≡ false →
      (k : ℕ) → k ≡ index_of id (plan_ids_of s.plans words) → (c : ℕ) → c < s.plans → c ≢ k → Missed i a b (candidate_at words s r c)
  plan_other rise h u j k is c p q = plan_missed c h u j (unlike_plan id words s.plans rise k is c p q)

-- the candidates of a row that asks for plans, and not for their justifications, are as many as the plans
plans_counted : (s : Scalars) (r : Row) → 3 ≤ r.op → r.op ≤ 12 → within 7 8 r.op ≡ false → count_of s r ≡ s.plans
unfolding count_of
plans_counted s r h k j = rw (within_above 1 2 r.op (omega arith), j) (at (within 3 4 r.op) refl (within 5 6 r.op) refl (within 9 10 r.op) refl (within 11 12 r.op) refl)
  where
    at : (x : Bool) → within 3 4 r.op ≡ x → (y : Bool) → within 5 6 r.op ≡ y → (z : Bool) → within 9 10 r.op ≡ z → (u : Bool) → within 11 12 r.op ≡ u →
        (if x then s.plans else if y then s.plans else if z then s.plans else if u then s.plans else 1) ≡ s.plans
    at true f y g z m u n = refl
    at false f true g z m u n = refl
    at false f false g true m u n = refl
    at false f false g false m true n = refl
    at false f false g false m false n = absurd (no_plans r.op h k j f g m n)

-- what stands at one place only: it is found there, or nowhere
alone_by : (words : List ℕ) (s : Scalars) (r : Row) (id n : ℕ) (ids : List ℕ) → count_of s r ≡ n →
    ((a b : Option ℕ) (c : ℕ) → c < n → c ≢ index_of id ids → Missed (Some id) a b (candidate_at words s r c)) →
    (k : Option ℕ) → PlaceOf n id ids k → Alone words s r (Some id) (option_map (λ (x : ℕ). x + 1) k)
alone_by words s r id n ids is others None at = record { inside = tt; missed = λ a b c l d. others a b c (omega arith) (λ e. absurd (omega arith)) }
alone_by words s r id n ids is others (Some k) at = record {
  inside = let h = at.1 in (omega arith, omega arith);
  missed = λ a b c l d. others a b c (omega arith) (λ e. d (ap (λ (x : ℕ). Some (x + 1)) (at.0 ∙ sym e)));
}

-- the place where a number is looked for: the count where it does not stand
pub place_is : (n x : ℕ) (l : List ℕ) (k : Option ℕ) → PlaceOf n x l k → unwrap_or k n ≡ index_of x l
place_is n x l None h = sym h
place_is n x l (Some k) h = h.0

module _ (words : List ℕ) (s : Scalars) (r : Row) (id : ℕ) (k : Option ℕ) where
  pub atom_alone : AtomsRise s.atoms words → 1 ≤ r.op → r.op ≤ 2 → PlaceOf s.atoms id (atom_ids_of s.atoms words) k →
      Alone words s r (Some id) (option_map (λ (x : ℕ). x + 1) k)
  atom_alone rise h l = alone_by words s r id s.atoms (atom_ids_of s.atoms words) (atoms_counted s r h l)
      (λ a b. atom_other words s r id a b rise (and2 (le-leb 1 r.op h) (le-leb r.op 2 l)) _ refl) k

  pub plan_alone : PlansRise s.plans words → 3 ≤ r.op → r.op ≤ 12 → within 7 8 r.op ≡ false → PlaceOf s.plans id (plan_ids_of s.plans words) k →
      Alone words s r (Some id) (option_map (λ (x : ℕ). x + 1) k)
  plan_alone rise h l j = alone_by words s r id s.plans (plan_ids_of s.plans words) (plans_counted s r h l j)
      (λ a b. plan_other words s r id a b rise h l j _ refl) k

-- what a row gives by its id: nothing before the one candidate, and nothing behind it
module _ (words : List ℕ) (s : Scalars) (r : Row) (f : Found) (i n : Option ℕ) (wanted : Wants i r.i f.values) (alone : Alone words s r i n) where
  missed_elsewhere : (from to : ℕ) → from ≤ to → to ≤ count_of s r → ((c : ℕ) → from ≤ c → c < to → n ≢ Some (c + 1)) → hits words s r f from ≡ hits words s r f to
  missed_elsewhere from to h l d = hits_skipped words s r f i None None from to wanted (unknown_wants r.a f.values) (unknown_wants r.b f.values)
      (record { on = h; missed = λ c p q. alone.missed None None c (omega arith) (d c p q) })

  hits_past : (from : ℕ) → ((c : ℕ) → from ≤ c → n ≢ Some (c + 1)) → hits words s r f from ≡ []
  hits_past from h = at (leb from (count_of s r)) refl
    where
      at : (t : Bool) → leb from (count_of s r) ≡ t → hits words s r f from ≡ []
      at true e =
          let l = leb-true from (count_of s r) e in
          missed_elsewhere from (count_of s r) l (omega arith) (λ c p q. h c p) ∙ hits_end words s r f (count_of s r) (omega arith)
      at false e = let l = leb-false from (count_of s r) e in hits_end words s r f from (omega arith)

-- no candidate has the id
pub alone_none : (words : List ℕ) (s : Scalars) (r : Row) (f : Found) (i : Option ℕ) → Wants i r.i f.values → Alone words s r i None → (from : ℕ) → hits words s r f from ≡ []
alone_none words s r f i wanted alone from = hits_past words s r f i None wanted alone from (λ c p z. none-some (c + 1) z)

-- the one candidate, behind which number n stands: the numbers are past it, or it fits, or it does not
module _ (words : List ℕ) (s : Scalars) (r : Row) (f : Found) (i : Option ℕ) (n : ℕ) (wanted : Wants i r.i f.values) (alone : Alone words s r i (Some n)) (from : ℕ) where
  pub alone_past : n ≤ from → hits words s r f from ≡ []
  alone_past h = hits_past words s r f i (Some n) wanted alone from (λ c p z. let e = same_Some n (c + 1) z in absurd (omega arith))

  module _ (h : from < n) (x : Option Columns) (is : candidate_of x ≡ candidate_at words s r (n - 1)) (fits : Bool) (g : Found) (e : when fits g ≡ tried r x f) where
    last : n - 1 < count_of s r
    last = let m = alone.inside in omega arith

    behind_it : (n - 1) + 1 ≡ n
    behind_it = omega arith

    hits_to : hits words s r f from ≡ hits words s r f (n - 1)
    hits_to = let m = alone.inside in missed_elsewhere words s r f i (Some n) wanted alone from (n - 1) (omega arith) (omega arith) (λ c p q z. let e = same_Some n (c + 1) z in absurd (omega arith))

    pub alone_fits : fits ≡ true → hits words s r f from ≡ g ∷ hits words s r f n
    alone_fits y = hits_to ∙ hits_one words s r f (n - 1) last x is fits g e y ∙ ap (λ (k : ℕ). g ∷ hits words s r f k) behind_it

    pub alone_fails : fits ≡ false → hits words s r f from ≡ []
    alone_fails y = hits_to ∙ hits_none words s r f (n - 1) last x is fits g e y
        ∙ hits_past words s r f i (Some n) wanted alone (n - 1 + 1) (λ c p z. let e = same_Some n (c + 1) z in absurd (omega arith))

-- four numbers to a plan
pub justifications_leapt : (words : List ℕ) (s : Scalars) (id : ℕ) (a b : Option ℕ) (from to k : ℕ) → PlansRise s.plans words →
    k ≡ index_of id (plan_ids_of s.plans words) → (from ≤ to) × ((c : ℕ) → from ≤ c → c < to → (c < s.plans * 4) × (k * 4 ≤ c → k * 4 + 4 ≤ c)) →
    Skipped (λ c. justification_candidate (plan_at words (c / 4)) (c % 4)) (Some id) a b from to
justifications_leapt words s id a b from to k rise is l = record {
  on = l.0;
  missed = λ c p q.
      let g = l.1 c p q in
      let m = g.0 in
      let past = g.1 in
      let n : c / 4 < s.plans = omega arith in
      missed_id (Some id) a b (ltb (c % 4) (length (plan_at words (c / 4)).justifications)) (plan_at words (c / 4)).id
      (get_or (plan_at words (c / 4)).justifications (c % 4) 0) 0 (unlike_plan id words s.plans rise k is (c / 4) n (λ z. absurd (omega arith)));
}
