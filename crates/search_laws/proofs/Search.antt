-- The search finds every way in which the rows hold, and its first answer is the first in the paper's order.
use mathlib.Core.Path.{◌≡◌, refl, sym, ap, ◌∙◌, subst}
use mathlib.Core.Bool.{Bool, true, false, true≢false}
use mathlib.Core.Logic.{◌⊎◌, inl, inr, ⊎_elim}
use mathlib.Core.List.{List, [], ◌∷◌, ◌++◌, map}
use Rattle.lists.specs.Lists.{In, first, later, Pairs, when, put, keep, bind, is_empty}
use Rattle.lists.proofs.Lists.{test, clash, in_nil, in_cons, in_one, in_map, map_in, in_cast, in_keep}
use Rattle.lists.proofs.Bind.{append-nil, keep_append, bind_in, in_bind, bind_append}
use Rattle.model.specs.declared.Row.{Row}
use Rattle.model.specs.Configuration.{Config}
use Rattle.model.specs.Matching.{Candidate, candidates, fit, Found, found, query_row, after_row, negation, matches}
use Rattle.model.specs.Meaning.{Takes, Solves, Earlier, NotAfter}
use Rattle.search_laws.proofs.Shown.{in_shown}
use Rattle.search_laws.proofs.Fits.{fits_in, in_fits, is_found, takes, takes_in, in_takes, none_empty, empty_none, Short, empty, single, short_fit}

-- what a row gives, by its kind
negated : (c : Config) (r : Row) (f : Found) → negation r ≡ true → after_row c r f ≡ when (is_empty (query_row c r f)) f
unfolding after_row
negated c r f e = rw e

asked : (c : Config) (r : Row) (f : Found) → negation r ≡ false → after_row c r f ≡ query_row c r f
unfolding after_row
asked c r f e = rw e

when_holds : (b : Bool) (f g : Found) → In g (when b f) → (b ≡ true) × (g ≡ f)
when_holds true f g h = (refl, in_one h)
when_holds false f g h = in_nil h

module _ (c : Config) where
  pub solved : (rs : List Row) (f g : Found) → In g (matches c rs f) → (ks : List Candidate) × Solves c rs f ks g
  unfolding matches
  solved [] f g h = ([], (refl, in_one h))
  solved (r ∷ rs) f g h =
      let x = bind_in (matches c rs) (after_row c r f) h in
      let s = solved rs x.0 g x.2 in
      ⊎_elim
      (λ e. let w = when_holds (is_empty (query_row c r f)) f x.0 (subst (In x.0) (negated c r f e) x.1) in
      (s.0, inl (e, empty_none c r f w.0, subst (λ (u : Found). Solves c rs u s.0 g) w.1 s.1)))
      (λ e. let t = takes_in c r f x.0 (subst (In x.0) (asked c r f e) x.1) in
      (t.0 ∷ s.0, inr (e, (t.0, x.0, s.0, refl, t.1, s.1))))
      (test (negation r))

  pub found_by_search : (rs : List Row) (f : Found) (ks : List Candidate) (g : Found) → Solves c rs f ks g → In g (matches c rs f)
  unfolding matches
  found_by_search [] f ks g s = first s.1
  found_by_search (r ∷ rs) f ks g (inl s) =
      in_bind (matches c rs) (subst (In f) (sym (negated c r f s.0 ∙ ap (λ (b : Bool). when b f) (none_empty c r f s.1))) (first refl)) (found_by_search rs f ks g s.2)
  found_by_search (r ∷ rs) f ks g (inr (e, (k, h, ls, p, t, s))) =
      in_bind (matches c rs) (subst (In h) (sym (asked c r f e)) (in_takes c r f k h t)) (found_by_search rs h ls g s)

nil_not : {A C : Type 0} {x : A} {l : List A} → [] ≡ x ∷ l → C
nil_not e = absurd (true≢false (ap is_empty e))

module _ (c : Config) (p : Found → Bool) where
  -- g solves the rows, and no solution that passes the test comes before it
  abbrev Leads : List Row → Found → Found → Type 0
  Leads rs f g = (ks : List Candidate) × Solves c rs f ks g × ((ls : List Candidate) (h : Found) → Solves c rs f ls h → p h ≡ true → NotAfter ks ls)

  abbrev FirstLeads : List Row → Type 0
  FirstLeads rs = (f g : Found) (rest : List Found) → keep p (matches c rs f) ≡ g ∷ rest → Leads rs f g

  -- the same for a query's row, over its candidates
  pub record LeadsAmong (r : Row) (rs : List Row) (f : Found) (cs : List Candidate) (g : Found) : Type 0 where
    pub k : Candidate
    pub h : Found
    pub ks : List Candidate
    pub among : In k cs
    pub taken : Takes c r k f h
    pub solves : Solves c rs h ks g
    pub least : (l : Candidate) → In l cs → (u : Found) (ls : List Candidate) (w : Found) → Takes c r l f u → Solves c rs u ls w → p w ≡ true → Earlier k l ⊎ ((k ≡ l) × NotAfter ks ls)

  module _ (r : Row) (rs : List Row) (f : Found) (ih : FirstLeads rs) where
    abbrev answers : Candidate → List Found
    answers k = map (found r k f) (fit r k f.values)

    abbrev from : List Candidate → List Found
    from cs = keep p (bind (bind cs answers) (matches c rs))

    answer_in : (k : Candidate) (u : Found) → Takes c r k f u → In u (answers k)
    answer_in k u t = in_cast (is_found c r f k u t.notes) (in_map (found r k f) (in_fits r k f.values u.values t.fits))

    answer_takes : (k : Candidate) → In k (candidates c r) → (u : Found) → In u (answers k) → Takes c r k f u
    answer_takes k i u j = let y = map_in (found r k f) (fit r k f.values) j in subst (Takes c r k f) (sym y.2) (takes c r f k i y.0 (fits_in r k f.values y.0 y.1))

    short_answers : (k : Candidate) → Short (answers k)
    short_answers k = at (short_fit r k f.values)
      where
        at : Short (fit r k f.values) → Short (answers k)
        at (empty e) = rw e (empty refl)
        at (single v e) = rw e (single (found r k f v) refl)

    split : (k : Candidate) (cs : List Candidate) → from (k ∷ cs) ≡ keep p (bind (answers k) (matches c rs)) ++ from cs
    split k cs = ap (keep p) (bind_append (matches c rs) (answers k) (bind cs answers)) ∙ keep_append p (bind (answers k) (matches c rs)) (bind (bind cs answers) (matches c rs))

    one : (k : Candidate) (h : Found) → answers k ≡ h ∷ [] → keep p (bind (answers k) (matches c rs)) ≡ keep p (matches c rs h)
    one k h e = ap (λ (l : List Found). keep p (bind l (matches c rs))) e ∙ ap (keep p) (append-nil (matches c rs h))

    among_candidates : (cs : List Candidate) → Pairs Earlier cs → ((k : Candidate) → In k cs → In k (candidates c r)) → (g : Found) (rest : List Found) → from cs ≡ g ∷ rest → LeadsAmong r rs f cs g
    among_candidates [] o i g rest e = nil_not e
    among_candidates (k ∷ cs) o i g rest e = at (keep p (bind (answers k) (matches c rs))) refl (among_candidates cs o.1 (λ l j. i l (later j)) g rest)
      where
        -- no solution goes through k
        skipped : keep p (bind (answers k) (matches c rs)) ≡ [] → LeadsAmong r rs f cs g → LeadsAmong r rs f (k ∷ cs) g
        skipped z a = record {
          k = a.k;
          h = a.h;
          ks = a.ks;
          among = later a.among;
          taken = a.taken;
          solves = a.solves;
          least = λ l j u ls w t s q. ⊎_elim
              (λ m. in_nil (subst (In w) z (in_keep p (in_bind (matches c rs) (answer_in k u (subst (λ (v : Candidate). Takes c r v f u) m t)) (found_by_search c rs u ls w s)) q)))
              (λ m. a.least l m u ls w t s q)
              (in_cons j);
        }

        -- the first solution goes through k
        through : (h : Found) (n : List Found) → answers k ≡ h ∷ [] → keep p (matches c rs h) ≡ g ∷ n → LeadsAmong r rs f (k ∷ cs) g
        through h n q z =
            let a = ih h g n z in
            record {
              k = k;
              h = h;
              ks = a.0;
              among = first refl;
              taken = answer_takes k (i k (first refl)) h (subst (In h) (sym q) (first refl));
              solves = a.1;
              least = λ l m u ls w t s d. ⊎_elim
                  (λ b. inr (sym b, a.2 ls w (subst (λ (v : Found). Solves c rs v ls w) (in_one (subst (In u) q (answer_in k u (subst (λ (v : Candidate). Takes c r v f u) b t)))) s) d))
                  (λ b. inl (o.0 l b))
                  (in_cons m);
            }

        starts : (x : Found) (X : List Found) → keep p (bind (answers k) (matches c rs)) ≡ x ∷ X → Short (answers k) → LeadsAmong r rs f (k ∷ cs) g
        starts x X z (empty q) = nil_not (sym (ap (λ (l : List Found). keep p (bind l (matches c rs))) q) ∙ z)
        starts x X z (single h q) =
            let same : x ∷ (X ++ from cs) ≡ g ∷ rest = sym (split k cs ∙ ap (λ (l : List Found). l ++ from cs) z) ∙ e in
            let head : x ≡ g = cc same in
            through h X q (sym (one k h q) ∙ z ∙ ap (λ (y : Found). y ∷ X) head)

        at : (X : List Found) → keep p (bind (answers k) (matches c rs)) ≡ X → (from cs ≡ g ∷ rest → LeadsAmong r rs f cs g) → LeadsAmong r rs f (k ∷ cs) g
        at [] z more = skipped z (more (sym (split k cs ∙ ap (λ (l : List Found). l ++ from cs) z) ∙ e))
        at (x ∷ X) z more = starts x X z (short_answers k)

  -- where the candidates of each row stand in the paper's order, the first answer leads
  pub first_leads : ((r : Row) → Pairs Earlier (candidates c r)) → (rs : List Row) → FirstLeads rs
  unfolding matches query_row
  first_leads o [] f g rest e = at (p f) refl e
    where
      at : (b : Bool) → p f ≡ b → put b f [] ≡ g ∷ rest → Leads [] f g
      at true q z = let head : f ≡ g = cc z in ([], (refl, sym head), λ ls h s d. tt)
      at false q z = nil_not z
  first_leads o (r ∷ rs) f g rest e = ⊎_elim
      (λ q. closed q (is_empty (query_row c r f)) refl (ap (λ (l : List Found). keep p (bind l (matches c rs))) (sym (negated c r f q)) ∙ e) (first_leads o rs))
      (λ q. open_row q (among_candidates r rs f (first_leads o rs) (candidates c r) (o r) (λ k i. i) g rest (ap (λ (l : List Found). keep p (bind l (matches c rs))) (sym (asked c r f q)) ∙ e)))
      (test (negation r))
    where
      closed : negation r ≡ true → (b : Bool) → is_empty (query_row c r f) ≡ b → keep p (bind (when (is_empty (query_row c r f)) f) (matches c rs)) ≡ g ∷ rest → FirstLeads rs → Leads (r ∷ rs) f g
      closed q true z d ih =
          let a = ih f g rest (sym (ap (λ (b : Bool). keep p (bind (when b f) (matches c rs))) z ∙ ap (keep p) (append-nil (matches c rs f))) ∙ d) in
          (a.0, inl (q, empty_none c r f z, a.1), λ ls h s t. ⊎_elim (λ u. a.2 ls h u.2 t) (λ u. clash q u.0) s)
      closed q false z d ih = nil_not (sym (ap (λ (b : Bool). keep p (bind (when b f) (matches c rs))) z) ∙ d)

      open_row : negation r ≡ false → LeadsAmong r rs f (candidates c r) g → Leads (r ∷ rs) f g
      open_row q a = (a.k ∷ a.ks, inr (q, (a.k, a.h, a.ks, refl, a.taken, a.solves)), λ ls h s t. ⊎_elim (λ u. clash u.0 q) (λ u. after ls h t u.1) s)
        where
          after : (ls : List Candidate) (w : Found) → p w ≡ true → (k : Candidate) × (h : Found) × (ms : List Candidate) × (ls ≡ k ∷ ms) × Takes c r k f h × Solves c rs h ms w → NotAfter (a.k ∷ a.ks) ls
          after ls w t (k, h, ms, e, y, s) = subst (NotAfter (a.k ∷ a.ks)) (sym e) (a.least k (in_shown c r k y.among) h ms w y s t)
