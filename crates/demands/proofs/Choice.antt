-- The rule that a step fires, and the match that it fires with.
use mathlib.Core.Path.{◌≡◌, refl, sym, ap, ◌∙◌, subst}
use mathlib.Core.Logic.{⊎_elim}
use mathlib.Core.List.{List, [], ◌∷◌, ◌++◌, map}
use Prim.Native.Nat.{ℕ, ◌<◌}
use native.Mathlib.Omega.{arith}
use lib.Dec.{eqb}
use Rattle.lists.specs.Lists.{In, first, later, Pairs, keep, first_of, bind, highest}
use Rattle.lists.proofs.Lists.{in_nil, in_cons}
use Rattle.lists.proofs.Tests.{count_up_rises}
use Rattle.model.specs.declared.Row.{Row}
use Rattle.model.specs.Program.{rules_of}
use Rattle.model.specs.Configuration.{Config}
use Rattle.model.specs.Graph.{Sound}
use Rattle.model.specs.Deletion.{graph}
use Rattle.model.specs.Matching.{Found, rule_matches, Firing, firing}
use Rattle.model.specs.Meaning.{HasMatch, FirstMatch, FirstWithMatch}
use Rattle.model.specs.Claims.{NoMatch}
use Rattle.search_laws.proofs.Exact.{match_in, in_match, search_exact}

-- which rule fires
module _ {A B : Type 0} (answers : ℕ → List A) (made : ℕ → A → B) where
  -- the first answer, and whose it is
  data FirstAnswer (ns : List ℕ) (l : List B) : Type 0 where
    none : l ≡ [] → ((n : ℕ) → In n ns → answers n ≡ []) → FirstAnswer ns l
    one : (n : ℕ) (x : A) (rest : List A) → l ≡ made n x ∷ [] → In n ns → answers n ≡ x ∷ rest → ((m : ℕ) → In m ns → m < n → answers m ≡ []) → FirstAnswer ns l

  first_answer : (ns : List ℕ) → Pairs (λ (x y : ℕ). x < y) ns → FirstAnswer ns (first_of (bind ns (λ n. map (made n) (answers n))))
  first_answer [] o = none refl (λ n i. in_nil i)
  first_answer (n ∷ ns) o = at (answers n) refl (first_answer ns o.1)
    where
      at : (l : List A) → answers n ≡ l → FirstAnswer ns (first_of (bind ns (λ m. map (made m) (answers m)))) → FirstAnswer (n ∷ ns) (first_of (map (made n) (answers n) ++ bind ns (λ m. map (made m) (answers m))))
      at (x ∷ l) e more = rw e (one n x l refl (first refl) e (λ m i h. ⊎_elim (λ q. absurd (omega arith)) (λ q. let g = o.0 m q in absurd (omega arith)) (in_cons i)))
      at [] e (none z h) = rw e (none z (λ m i. ⊎_elim (λ q. ap answers q ∙ e) (λ q. h m q) (in_cons i)))
      at [] e (one m x rest z i q h) = rw e (one m x rest z (later i) q (λ k j g. ⊎_elim (λ w. ap answers w ∙ e) (λ w. h k w g) (in_cons j)))

module _ (program : List Row) (c : Config) (s : ℕ) where
  no_match : (n : ℕ) → rule_matches program c s n ≡ [] → ¬ HasMatch program c s n
  no_match n e h = in_nil (subst (In h.1) e (match_in program c s n h.0 h.1 h.2))

  has_match : Sound (graph c) → (n : ℕ) (f : Found) (rest : List Found) → rule_matches program c s n ≡ f ∷ rest → HasMatch program c s n
  has_match z n f rest e = let m = in_match program c s n z f (subst (In f) (sym e) (first refl)) in (m.0, f, m.1)

  rule_firing : ℕ → Found → Firing
  rule_firing n f = record { rule = n; match = f }

  -- the rule that fires is the first with a match, its match is the first, and none fires where no rule has one
  pub record FiresWith (f : Firing) : Type 0 where
    pub first_rule : FirstWithMatch program c s f.rule
    pub first_match : FirstMatch program c s f.rule f.match
    pub among : In f.match (rule_matches program c s f.rule)

  pub data Chosen : List Firing → Type 0 where
    none_chosen : NoMatch program c s → Chosen []
    chosen : (f : Firing) → FiresWith f → Chosen (f ∷ [])

  pub choice : Sound (graph c) → Chosen (firing program c s)
  unfolding firing rules_of rule_firing
  choice z = at (first_answer (rule_matches program c s) rule_firing (rules_of program s) (count_up_rises 1 (highest (map (λ (r : Row). r.rule) (keep (λ (r : Row). eqb r.set s) program)))))
    where
      at : FirstAnswer (rule_matches program c s) rule_firing (rules_of program s) (firing program c s) → Chosen (firing program c s)
      at (none e h) = rw e (none_chosen (λ n i. no_match n (h n i)))
      at (one n x rest e i q h) = rw e (chosen (rule_firing n x) (record {
        first_rule = record { in_set = i; has = has_match z n x rest q; none_before = λ m j g. no_match m (h m j g) };
        first_match = search_exact.first_of_all program c s n x rest z q;
        among = subst (In x) (sym q) (first refl);
      }))
