-- Atoms that are passed over by their columns.
use Rattle.std.specs.Prelude.{Option, Some, None}
use mathlib.Core.Path.{◌≡◌, refl, sym, ap, ◌∙◌, subst}
use mathlib.Core.Bool.{Bool, true, false, not, ◌&&◌, false≢true}
use mathlib.Core.List.{List}
use Prim.Native.Nat.{ℕ, ◌+◌, ◌<◌, ◌≤◌}
use native.Mathlib.Omega.{arith}
use lib.Dec.{eqb, ltb}
use lib.ListN.{get_or}
use borrow.Author.Tests.{ltb-true, ltb-false}
use Rattle.model.specs.Matching.{candidate}
use Rattle.state.specs.View.{atom_p, atom_a, atom_b, atom_at}
use Rattle.queries.specs.View.{unlike, column_of, sought_of, stands_at, Without}
use Rattle.queries.specs.Answers.{atom_candidate, Missed, Skipped}
use Rattle.queries.proofs.Skips.{missed_absent, missed_second, missed_third}

-- further and further
module _ (W : List ℕ) (p y v z w from : ℕ) where
  pub without_none : Without W p y v z w from from
  without_none = record { on = omega arith; none = λ k h g. absurd (omega arith) }

  pub without_to : (c d : ℕ) → Without W p y v z w from c → c ≤ d → ((k : ℕ) → c ≤ k → k < d → stands_at W p y v z w k ≡ false) → Without W p y v z w from d
  without_to c d s h m = let g = s.on in record { on = omega arith; none = λ k q r. at k q r (ltb k c) refl }
    where
      at : (k : ℕ) → from ≤ k → k < d → (t : Bool) → ltb k c ≡ t → stands_at W p y v z w k ≡ false
      at k q r true e = s.none k q (ltb-true k c e)
      at k q r false e = m k (ltb-false k c e) r

  pub without_one : (c : ℕ) → Without W p y v z w from c → stands_at W p y v z w c ≡ false → Without W p y v z w from (c + 1)
  without_one c s e = without_to c (c + 1) s (omega arith) (λ k q r. let h : c ≡ k = omega arith in subst (λ (n : ℕ). stands_at W p y v z w n ≡ false) h e)

-- an atom that does not stand so is missed
module _ (W : List ℕ) (p : ℕ) (i a b : Option ℕ) where
  pub not_standing : (c : ℕ) → stands_at W p (column_of a atom_a) (sought_of a p) (column_of b atom_b) (sought_of b p) c ≡ false → Missed i a b (atom_candidate p (atom_at W c))
  unfolding atom_at
  not_standing c e = first (eqb (get_or W (atom_p + c) 0) p) refl
    where
      unlike_of : (x : Option ℕ) (at : ℕ) → eqb (get_or W (atom_p + c) 0) p ≡ true → eqb (get_or W (column_of x at + c) 0) (sought_of x p) ≡ false → unlike x (get_or W (at + c) 0) ≡ true
      unlike_of None at h q = absurd (false≢true (sym q ∙ h))
      unlike_of (Some m) at h q = ap not q

      third : (t : Bool) → eqb (get_or W (column_of a atom_a + c) 0) (sought_of a p) ≡ t → eqb (get_or W (atom_p + c) 0) p ≡ true → (t && eqb (get_or W (column_of b atom_b + c) 0) (sought_of b p)) ≡ false → Missed i a b (atom_candidate p (atom_at W c))
      third false q h g = missed_second i a b (eqb (get_or W (atom_p + c) 0) p) (get_or W c 0) (get_or W (atom_a + c) 0) (get_or W (atom_b + c) 0) (unlike_of a atom_a h q)
      third true q h g = missed_third i a b (eqb (get_or W (atom_p + c) 0) p) (get_or W c 0) (get_or W (atom_a + c) 0) (get_or W (atom_b + c) 0) (unlike_of b atom_b h g)

      first : (t : Bool) → eqb (get_or W (atom_p + c) 0) p ≡ t → Missed i a b (atom_candidate p (atom_at W c))
      first false q = missed_absent i a b (eqb (get_or W (atom_p + c) 0) p) (candidate (get_or W c 0) (get_or W (atom_a + c) 0) (get_or W (atom_b + c) 0)) q
      first true q = third (eqb (get_or W (column_of a atom_a + c) 0) (sought_of a p)) refl q (sym (ap (λ (t : Bool). t && (eqb (get_or W (column_of a atom_a + c) 0) (sought_of a p) && eqb (get_or W (column_of b atom_b + c) 0) (sought_of b p))) q) ∙ e)

  pub skipped_without : (from to : ℕ) → Without W p (column_of a atom_a) (sought_of a p) (column_of b atom_b) (sought_of b p) from to → Skipped (λ c. atom_candidate p (atom_at W c)) i a b from to
  skipped_without from to s = record { on = s.on; missed = λ c h g. not_standing c (s.none c h g) }

  pub skipped_chain : (from c r y v z w : ℕ) → y ≡ column_of a atom_a → v ≡ sought_of a p → z ≡ column_of b atom_b → w ≡ sought_of b p → stands_at W p y v z w from ≡ false → Without W p y v z w (from + 1) c → Without W p y v z w c r →
      Skipped (λ k. atom_candidate p (atom_at W k)) i a b from r
  skipped_chain from c r y v z w ey ev ez ew e s t =
      let one : Without W p y v z w from (from + 1) = without_one W p y v z w from from (without_none W p y v z w from) e in
      let two : Without W p y v z w from c = without_to W p y v z w from (from + 1) c one s.on s.none in
      let three : Without W p y v z w from r = without_to W p y v z w from c r two t.on t.none in
      skipped_without from r
      (subst (λ (m : ℕ). Without W p (column_of a atom_a) (sought_of a p) (column_of b atom_b) m from r) ew
      (subst (λ (m : ℕ). Without W p (column_of a atom_a) (sought_of a p) m w from r) ez
      (subst (λ (m : ℕ). Without W p (column_of a atom_a) m z w from r) ev
      (subst (λ (m : ℕ). Without W p m v z w from r) ey three))))
