-- The words of a plan: its four justifications against the list that they hold; ids of atoms.
use mathlib.Core.Path.{◌≡◌, refl, sym, ap, ◌∙◌}
use mathlib.Core.Bool.{Bool, true, false, ◌&&◌, and-true, and-false}
use mathlib.Core.List.{List, [], ◌∷◌}
use mathlib.Core.Logic.{⊎_elim, ◌≢◌}
use Prim.Native.Nat.{ℕ, zero, suc, ◌+◌, ◌≤◌, ◌<◌}
use native.Mathlib.Omega.{arith}
use lib.Dec.{leb, ltb}
use lib.ListN.{length, get_or, length-map}
use borrow.Author.Tests.{ne_eqb, le-leb, lt-ltb, le-ltb}
use Rattle.lists.specs.Lists.{is_empty, every, rises, member}
use Rattle.lists.specs.Tables.{trim_cons, trimmed}
use Rattle.lists.proofs.Lists.{map_in, out_member}
use Rattle.lists.proofs.Tables.{tabulate_get, tabulate_length, tabulate_at, in_get, pairs_get, equal_or_not}
use Rattle.lists.proofs.Counted.{trimmed_few}
use Rattle.model.specs.declared.Atom.{Atom}
use Rattle.state.specs.View.{atom_at, plan_at, atoms_of, atom_ids_of}
use Rattle.state.proofs.View.{justification_words}
use Rattle.formed_plans.specs.Plans.{AtomsStand, alive_below, may_follow, justified}

middle_swap : (a b c d : Bool) → (a && b) && (c && d) ≡ (a && c) && (b && d)
middle_swap true true c d = refl
middle_swap true false true d = refl
middle_swap true false false d = refl
middle_swap false b c d = refl

left_swap : (a b c : Bool) → a && (b && c) ≡ b && (a && c)
left_swap true b c = refl
left_swap false true c = refl
left_swap false false c = refl

module _ (alive : ℕ → Bool) where
  -- each word may follow the one before it
  abbrev chained : ℕ → List ℕ → Bool
  chained i [] = true
  chained i (j ∷ l) = may_follow alive i j && chained j l

  -- behind a 0 stand zeros alone
  none_follow : (l : List ℕ) → chained 0 l ≡ is_empty (trimmed l)
  unfolding trimmed
  none_follow [] = refl
  none_follow (zero ∷ l) = none_follow l ∙ at (trimmed l)
    where
      at : (t : List ℕ) → is_empty t ≡ is_empty (trim_cons 0 t)
      at [] = refl
      at (y ∷ t) = refl
  none_follow (suc j ∷ l) = let e = ne_eqb (suc j) 0 (λ q. omega arith) in rw e

  chained_is : (i : ℕ) (l : List ℕ) → chained (suc i) l ≡ rises (suc i ∷ trimmed l) && every alive (trimmed l)
  unfolding trimmed rises every
  chained_is i [] = refl
  chained_is i (zero ∷ l) = none_follow l ∙ at (trimmed l)
    where
      at : (t : List ℕ) → is_empty t ≡ rises (suc i ∷ trim_cons 0 t) && every alive (trim_cons 0 t)
      at [] = refl
      at (y ∷ t) = let e : ltb (suc i) 0 ≡ false = le-ltb (suc i) 0 (omega arith) in rw e
  chained_is i (suc j ∷ l) =
      let e = ne_eqb (suc j) 0 (λ q. omega arith) in
      let h : ltb 0 (suc i) ≡ true = lt-ltb 0 (suc i) (omega arith) in
      rw (e, h, chained_is j l) (middle_swap (ltb (suc i) (suc j)) (alive (suc j)) (rises (suc j ∷ trimmed l)) (every alive (trimmed l)))

  four_justified : alive 0 ≡ false → (j : ℕ) (l : List ℕ) → length l ≤ 3 →
      alive j && chained j l ≡ justified alive (trimmed (j ∷ l))
  unfolding trimmed rises every
  four_justified z zero l h = rw z (at (trimmed l))
    where
      at : (t : List ℕ) → false ≡ justified alive (trim_cons 0 t)
      at [] = refl
      at (y ∷ t) = simp (z, and-false)
  four_justified z (suc j) l h =
      let s = trimmed_few l in
      let a : leb 1 (suc (length (trimmed l))) ≡ true = le-leb 1 (suc (length (trimmed l))) (omega arith) in
      let b : leb (suc (length (trimmed l))) 4 ≡ true = le-leb (suc (length (trimmed l))) 4 (omega arith) in
      rw (a, b, chained_is j l) (left_swap (alive (suc j)) (rises (suc j ∷ trimmed l)) (every alive (trimmed l)))

  -- the four words of a plan's justifications
  pub words_justified : alive 0 ≡ false → (js : List ℕ) → length js ≡ 4 →
      alive (get_or js 0 0) && (may_follow alive (get_or js 0 0) (get_or js 1 0) && (may_follow alive (get_or js 1 0) (get_or js 2 0) && may_follow alive (get_or js 2 0) (get_or js 3 0))) ≡ justified alive (trimmed js)
  words_justified z js h =
      ap (λ (b : Bool). alive (get_or js 0 0) && (may_follow alive (get_or js 0 0) (get_or js 1 0) && (may_follow alive (get_or js 1 0) (get_or js 2 0) && b))) (sym (and-true (may_follow alive (get_or js 2 0) (get_or js 3 0))))
      ∙ four_justified z (get_or js 0 0) (get_or js 1 0 ∷ get_or js 2 0 ∷ get_or js 3 0 ∷ []) (omega arith)
      ∙ ap (λ (l : List ℕ). justified alive (trimmed l)) (tabulate_get 4 js 0 h)

-- those of plan k of some words
pub plan_justified : (W : List ℕ) (n k : ℕ) → length W ≡ 2432 → k < 64 → AtomsStand W n →
    let ids = atom_ids_of n W in
    let id = (plan_at W k).id in
    let js = (plan_at W k).justifications in
    let alive = alive_below ids id in
    alive (get_or js 0 0) && (may_follow alive (get_or js 0 0) (get_or js 1 0) && (may_follow alive (get_or js 1 0) (get_or js 2 0) && may_follow alive (get_or js 2 0) (get_or js 3 0))) ≡ justified alive js
plan_justified W n k long few w =
    let js = (plan_at W k).justifications in
    let alive = alive_below (atom_ids_of n W) (plan_at W k).id in
    let z = w.no_zero in
    words_justified alive (rw z) (get_or js 0 0 ∷ get_or js 1 0 ∷ get_or js 2 0 ∷ get_or js 3 0 ∷ []) refl ∙ ap (justified alive) (justification_words W k long few)

-- as many ids as atoms
pub atom_ids_long : (words : List ℕ) (n : ℕ) → length (atom_ids_of n words) ≡ n
atom_ids_long words n = length-map (atoms_of n words) (λ (x : Atom). x.id) ∙ tabulate_length n (atom_at words)

-- an id above that of the last atom is no atom's
pub past_absent : (words : List ℕ) (n k id : ℕ) → AtomsStand words n → k + 1 ≡ n → (atom_at words k).id < id → member id (atom_ids_of n words) ≡ false
past_absent words n k id w e h = out_member id (atom_ids_of n words) (λ i.
    let x = map_in (λ (x : Atom). x.id) (atoms_of n words) i in
    let p = in_get (atom_at words 0) x.1 in
    let long : length (atoms_of n words) ≡ n = tabulate_length n (atom_at words) in
    let l : p.0 < n = omega (arith, p.1) in
    let y : id ≡ (atom_at words p.0).id = x.2 ∙ ap (λ (x : Atom). x.id) (sym p.2 ∙ tabulate_at n (atom_at words) p.0 (atom_at words 0) l) in
    ⊎_elim
    (λ (q : p.0 ≡ k). let z = ap (λ (m : ℕ). (atom_at words m).id) q in omega arith)
    (λ (q : p.0 ≢ k).
    let z = pairs_get (λ (x y : Atom). x.id < y.id) (atoms_of n words) (atom_at words 0) p.0 k w.rise (omega arith) (omega arith) in
    let u = rw (tabulate_at n (atom_at words) p.0 (atom_at words 0) l, tabulate_at n (atom_at words) k (atom_at words 0) (omega arith)) at z in
    omega arith)
    (equal_or_not p.0 k))
