-- The answers of a row by number are the model's, in its order; and a row that is closed leaves everything as it was.
use Rattle.std.specs.Prelude.{Option, Some, None, is_some, if◌then◌else◌}
use mathlib.Core.Path.{◌≡◌, refl, sym, ap, ◌∙◌, subst}
use mathlib.Core.Bool.{Bool, true, false, not, ◌||◌, and-eq-true_iff}
use mathlib.Core.Logic.{◌≢◌}
use mathlib.Core.List.{List, [], ◌∷◌, ◌++◌}
use Prim.Native.Nat.{ℕ, ◌+◌, ◌*◌, ◌/◌, ◌%◌, ◌≤◌, ◌<◌}
use native.Mathlib.Nat.{sub-zero, add-zero}
use native.Mathlib.Omega.{arith}
use lib.Dec.{eqb}
use lib.ListN.{set}
use borrow.Author.Tests.{eq-eqb, ne_eqb, not-true}
use Rattle.lists.specs.Lists.{bit, within, when, is_empty, bind, count_up}
use Rattle.lists.specs.Tables.{tabulate}
use Rattle.lists.proofs.Lists.{clash}
use Rattle.lists.proofs.Cuts.{count_up_next, count_up_none}
use Rattle.lists.proofs.Search.{bind_assoc, map_keep_bind, bind_same, bind_tabulate, map_places, by_fours, Only, only_none, only_more, only_when, only_if, only_bind, only_chain, only_map}
use Rattle.model.specs.declared.Row.{Row}
use Rattle.model.specs.declared.Atom.{Atom}
use Rattle.model.specs.Program.{any?, constant?, constant}
use Rattle.model.specs.Configuration.{Plan, no_value, place, value_of}
use Rattle.model.specs.Matching.{Candidate, candidate, atom_candidates, justification_candidates, plan_candidates, candidates, meet, fit, Found, found, query_row, negation, after_row}
use Rattle.state.specs.declared.Scalars.{Scalars}
use Rattle.state.specs.View.{atom_at, plan_at, config_of}
use Rattle.queries.specs.declared.Columns.{Columns}
use Rattle.queries.specs.View.{found_in, room, Kept, candidate_of}
use Rattle.queries.specs.Answers.{taken, tried, atom_candidate, justification_candidate, count_of, candidate_at, fit_at, hits, answers, width, given_ids, onward, Next, settled, closed}
use Rattle.queries.proofs.Laws.{justifications_few}

module _ (words : List ℕ) (s : Scalars) (r : Row) (f : Found) (c : ℕ) where
  pub hits_end : count_of s r ≤ c → hits words s r f c ≡ []
  unfolding hits
  hits_end h = ap (λ (l : List ℕ). bind l (fit_at words s r f)) (count_up_none c (count_of s r) h)

  hits_step : c < count_of s r → hits words s r f c ≡ fit_at words s r f c ++ hits words s r f (c + 1)
  unfolding hits
  hits_step h = ap (λ (l : List ℕ). bind l (fit_at words s r f)) (count_up_next c (count_of s r) h)

  pub hits_skip : c < count_of s r → fit_at words s r f c ≡ [] → hits words s r f c ≡ hits words s r f (c + 1)
  hits_skip h e = hits_step h ∙ ap (λ (l : List Found). l ++ hits words s r f (c + 1)) e

  -- candidate c does not fit; it does
  module _ (h : c < count_of s r) (x : Option Columns) (is : candidate_of x ≡ candidate_at words s r c) (fits : Bool) (g : Found) (e : when fits g ≡ tried r x f) where
    fit_is : when fits g ≡ fit_at words s r f c
    unfolding tried fit_at
    fit_is = e ∙ ap (λ (l : List Candidate). bind l (λ k. taken r k f)) is

    pub hits_none : fits ≡ false → hits words s r f c ≡ hits words s r f (c + 1)
    hits_none n = hits_skip h (sym fit_is ∙ ap (λ (b : Bool). when b g) n)

    pub hits_one : fits ≡ true → hits words s r f c ≡ g ∷ hits words s r f (c + 1)
    hits_one n = hits_step h ∙ ap (λ (l : List Found). l ++ hits words s r f (c + 1)) (sym fit_is ∙ ap (λ (b : Bool). when b g) n)

-- an answer with what comes after it: there is none, or there is
pub none_is : (n : Option ℕ) → is_some n ≡ false → n ≡ None
none_is None e = refl
none_is (Some k) e = clash refl e

onward_none : (rest : ℕ → List Found) (f : Found) (n : Option ℕ) → is_some n ≡ false → onward rest f n ≡ []
onward_none rest f None e = refl
onward_none rest f (Some k) e = clash refl e

is_empty_onward : (rest : ℕ → List Found) (f : Found) (n : Option ℕ) → is_some n ≡ true → is_empty (onward rest f n) ≡ false
is_empty_onward rest f None e = clash e refl
is_empty_onward rest f (Some k) e = refl

-- a negation has one answer at most, and it adds no id
module _ (r : Row) (z : r.op % 2 ≡ 0) where
  pub one_wide : (s : Scalars) → width s r ≡ 1
  unfolding width
  one_wide s = rw (eq-eqb (r.op % 2) 0 z)

  pub found_still : (v u m l : List ℕ) (n : ℕ) → u ≡ v → Kept n m l → ◌≡◌ {A = Found} (found_in v m n) (found_in u l (n + given_ids r))
  unfolding given_ids
  found_still v u m l n e k = rw (eq-eqb (r.op % 2) 0 z, add-zero n, k, e)

-- the answers of a query are the candidates that fit
module _ (r : Row) (odd : r.op % 2 ≡ 1) where
  asks : negation r ≡ false
  asks = ne_eqb (r.op % 2) 0 (λ z. absurd (omega (arith, z, odd)))

  answers_hits : (words : List ℕ) (s : Scalars) (f : Found) (c : ℕ) → answers words s r f c ≡ hits words s r f c
  unfolding answers
  answers_hits words s f c = rw asks

  wide : (s : Scalars) → width s r ≡ count_of s r
  unfolding width
  wide s = rw asks

  given : (n : ℕ) → n + given_ids r ≡ room r n
  unfolding given_ids
  given n = rw asks

  pub query_next : (words : List ℕ) (s : Scalars) (f : Found) (c : ℕ) (v m : List ℕ) (n : ℕ) (k : Option ℕ) → Next (hits words s r f) c (count_of s r) (found_in v m (room r n)) k →
      Next (answers words s r f) c (width s r) (found_in v m (n + given_ids r)) k
  query_next words s f c v m n None e = record { is = answers_hits words s f c ∙ e.is; further = tt }
  query_next words s f c v m n (Some k) e = record {
    is = answers_hits words s f c ∙ e.is ∙ cc (answers_hits words s f k, given n);
    further = rw (wide s) e.further;
  }

-- a row adds an id at most if it is a reason
pub ids_few : (r : Row) → given_ids r ≤ bit (eqb r.part 1)
unfolding given_ids
ids_few r = at (negation r)
  where
    at : (b : Bool) → (if b then 0 else bit (eqb r.part 1)) ≤ bit (eqb r.part 1)
    at true = omega arith
    at false = omega arith

-- what a negation gives
module _ (words : List ℕ) (s : Scalars) (r : Row) (f : Found) (z : r.op % 2 ≡ 0) where
  denied : answers words s r f 0 ≡ when (is_empty (hits words s r f 0)) f
  unfolding answers
  denied = rw (eq-eqb (r.op % 2) 0 z)

  pub negation_later : (c : ℕ) → c ≢ 0 → answers words s r f c ≡ []
  unfolding answers
  negation_later c n = rw (eq-eqb (r.op % 2) 0 z, ne_eqb c 0 n)

  module _ (g : Found) (n : Option ℕ) (is : hits words s r f 0 ≡ onward (hits words s r f) g n) where
    -- no candidate fits
    pub negation_holds : is_some n ≡ false → answers words s r f 0 ≡ f ∷ answers words s r f 1
    negation_holds e =
        denied ∙ ap (λ (l : List Found). when (is_empty l) f) (is ∙ onward_none (hits words s r f) g n e)
        ∙ ap {B = List Found} (λ (l : List Found). f ∷ l) (sym (negation_later 1 (λ q. absurd (omega (arith, q)))))

    -- one does
    pub negation_fails : is_some n ≡ true → answers words s r f 0 ≡ []
    negation_fails e = denied ∙ ap (λ (b : Bool). when b f) (ap is_empty is ∙ is_empty_onward (hits words s r f) g n e)

-- a choice between two kinds of candidates, each by number
either : {A : Type 0} (b : Bool) (X Y : List A) (f g : ℕ → List A) (n m : ℕ) → X ≡ bind (count_up 0 n) f → Y ≡ bind (count_up 0 m) g →
    (if b then X else Y) ≡ bind (count_up 0 (if b then n else m)) (λ c. if b then f c else g c)
either true X Y f g n m x y = x
either false X Y f g n m x y = y

module _ (words : List ℕ) (s : Scalars) (r : Row) where
  of_plans : (p : Plan → Bool) (g : Plan → Candidate) → plan_candidates p g (config_of words s) ≡ bind (count_up 0 s.plans) (λ k. when (p (plan_at words k)) (g (plan_at words k)))
  unfolding plan_candidates
  of_plans p g = map_keep_bind p g (tabulate s.plans (plan_at words)) ∙ bind_tabulate s.plans (plan_at words) _

  of_atoms : atom_candidates r.p (config_of words s) ≡ bind (count_up 0 s.atoms) (λ k. atom_candidate r.p (atom_at words k))
  unfolding atom_candidates
  of_atoms = map_keep_bind (λ (x : Atom). eqb x.p r.p) _ (tabulate s.atoms (atom_at words)) ∙ bind_tabulate s.atoms (atom_at words) _

  of_justifications : justification_candidates (config_of words s) ≡ bind (count_up 0 (s.plans * 4)) (λ c. justification_candidate (plan_at words (c / 4)) (c % 4))
  unfolding justification_candidates
  of_justifications =
      bind_tabulate s.plans (plan_at words) _
      ∙ bind_same _ (λ k. bind (count_up 0 4) (justification_candidate (plan_at words k)))
      (λ k. map_places 0 (plan_at words k).justifications (λ (j : ℕ). candidate (plan_at words k).id j 0) 4 (justifications_few words k))
      (count_up 0 s.plans)
      ∙ by_fours (λ k j. justification_candidate (plan_at words k) j) 0 s.plans

  -- the candidates by number are the model's
  candidates_all : candidates (config_of words s) r ≡ bind (count_up 0 (count_of s r)) (candidate_at words s r)
  unfolding candidates candidate_at count_of
  candidates_all =
      either (within 1 2 r.op) _ _ _ _ _ _ of_atoms
      (either (within 3 4 r.op) _ _ _ _ _ _ (of_plans _ _)
      (either (within 5 6 r.op) _ _ _ _ _ _ (of_plans _ _)
      (either (within 7 8 r.op) _ _ _ _ _ _ of_justifications
      (either (within 9 10 r.op) _ _ _ _ _ _ (of_plans _ _)
      (either (within 11 12 r.op) _ _ _ _ _ 1 (of_plans _ _) refl)))))

module _ (words : List ℕ) (s : Scalars) (r : Row) (f : Found) where
  hits_all : query_row (config_of words s) r f ≡ hits words s r f 0
  unfolding query_row hits fit_at taken
  hits_all =
      ap (λ (l : List Candidate). bind l (λ k. taken r k f)) (candidates_all words s r)
      ∙ bind_assoc (count_up 0 (count_of s r)) (candidate_at words s r) (λ k. taken r k f)
      ∙ ap (λ (n : ℕ). bind (count_up 0 n) (fit_at words s r f)) (sym (sub-zero (count_of s r)))

  -- the answers by number are the model's
  pub answers_all : after_row (config_of words s) r f ≡ answers words s r f 0
  unfolding after_row answers
  answers_all = rw hits_all

-- a row that leaves everything as it was
only_meet : (v : List ℕ) (x n : ℕ) → settled v x ≡ true → Only v (meet x n v)
unfolding meet
only_meet v x n h = at (any? x) (constant? x) (eqb (value_of v x) no_value) h
  where
    at : (a b d : Bool) → (a || (b || not d)) ≡ true → Only v (if a then v ∷ [] else if b then when (eqb (constant x) n) v else if d then set v (place x) n ∷ [] else when (eqb (value_of v x) n) v)
    at true b d e = only_more refl only_none
    at false true d e = only_when v (eqb (constant x) n)
    at false false true e = clash e refl
    at false false false e = only_when v (eqb (value_of v x) n)

only_taken : (r : Row) (k : Candidate) (f : Found) → closed r f.values ≡ true → Only f (taken r k f)
unfolding taken closed fit found
only_taken r k f h =
    let v = f.values in
    let p = (and-eq-true_iff (not (eqb r.part 1)) _).0 h in
    let i = (and-eq-true_iff (settled v r.i) _).0 p.1 in
    let a = (and-eq-true_iff (settled v r.a) (settled v r.b)).0 i.1 in
    let fits : Only v (fit r k v) = only_chain _ (only_meet v r.i k.i i.0) (only_chain _ (only_meet v r.a k.a a.0) (only_meet v r.b k.b a.1)) in
    rw (not-true (eqb r.part 1) p.0) at (only_map (found r k f) fits)

pub only_answers : (words : List ℕ) (s : Scalars) (r : Row) (f : Found) → closed r f.values ≡ true → Only f (answers words s r f 0)
unfolding answers query_row taken
only_answers words s r f h =
    only_if (negation r) (only_when f (is_empty (hits words s r f 0)))
    (subst (Only f) (hits_all words s r f) (only_bind f (candidates (config_of words s) r) (λ k. taken r k f) (λ k. only_taken r k f h)))
