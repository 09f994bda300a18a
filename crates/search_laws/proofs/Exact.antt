-- The search finds a rule's match exactly when there is one, and then the first in the paper's order.
use mathlib.Core.Path.{◌≡◌, refl, sym, subst}
use mathlib.Core.List.{List, [], ◌∷◌}
use Prim.Native.Nat.{ℕ}
use Rattle.lists.specs.Lists.{In, first}
use Rattle.lists.proofs.Lists.{in_nil, in_keep, keep_in}
use Rattle.model.specs.declared.Row.{Row}
use Rattle.model.specs.Configuration.{Config}
use Rattle.model.specs.Graph.{Sound}
use Rattle.model.specs.Deletion.{graph}
use Rattle.model.specs.Matching.{Candidate, Found, nothing_found, matches, counts, rule_rows, rule_matches}
use Rattle.model.specs.Meaning.{Match, FirstMatch}
use Rattle.model.specs.Claims.{SearchExact}
use Rattle.search_laws.proofs.Search.{solved, found_by_search, first_leads}
use Rattle.search_laws.proofs.Order.{candidates_earlier}
use Rattle.search_laws.proofs.Counting.{counted, counts_so}

module _ (program : List Row) (c : Config) (s n : ℕ) where
  pub match_in : (ks : List Candidate) (g : Found) → Match program c s n ks g → In g (rule_matches program c s n)
  unfolding rule_matches
  match_in ks g m = in_keep (counts program c s n) (found_by_search c (rule_rows program s n) nothing_found ks g m.solves) (counts_so program c s n g m.counting)

  pub in_match : Sound (graph c) → (g : Found) → In g (rule_matches program c s n) → (ks : List Candidate) × Match program c s n ks g
  unfolding rule_matches
  in_match z g h =
      let k = keep_in (counts program c s n) (matches c (rule_rows program s n) nothing_found) h in
      let x = solved c (rule_rows program s n) nothing_found g k.0 in
      (x.0, record { solves = x.1; counting = counted program c s n g z k.1 })

  first_match : (g : Found) (rest : List Found) → Sound (graph c) → rule_matches program c s n ≡ g ∷ rest → FirstMatch program c s n g
  unfolding rule_matches
  first_match g rest z e =
      let a = first_leads c (counts program c s n) (candidates_earlier c z) (rule_rows program s n) nothing_found g rest e in
      let k = keep_in (counts program c s n) (matches c (rule_rows program s n) nothing_found) (subst (In g) (sym e) (first refl)) in
      (a.0, record { solves = a.1; counting = counted program c s n g z k.1 }, λ ls h m. a.2 ls h m.solves (counts_so program c s n h m.counting))

pub search_exact : SearchExact
search_exact = record {
  finds = λ program c s n h. some_first (rule_matches program c s n) (match_in program c s n h.0 h.1 h.2);
  first_of_all = λ program c s n g rest z e. first_match program c s n g rest z e;
}
  where
    some_first : {g : Found} (l : List Found) → In g l → (h : Found) × (rest : List Found) × (l ≡ h ∷ rest)
    some_first [] i = in_nil i
    some_first (x ∷ l) i = (x, l, refl)
