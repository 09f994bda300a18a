-- An id that is looked for near a guess: where it stands, or that it stands nowhere.
use mathlib.Core.Path.{◌≡◌, refl, sym, ap, ◌∙◌}
use mathlib.Core.Bool.{Bool, true, false, not}
use mathlib.Core.List.{List}
use mathlib.Core.Logic.{⊎_elim, ◌≢◌}
use Prim.Native.Nat.{ℕ, ◌+◌, ◌<◌, ◌≤◌}
use native.Mathlib.Omega.{arith}
use lib.Dec.{ltb}
use lib.ListN.{length, get_or}
use borrow.Author.Tests.{ltb-true, ltb-false}
use Rattle.std.specs.Prelude.{Option, None, Some, is_some}
use Rattle.lists.specs.Lists.{member}
use Rattle.lists.specs.Tables.{tabulate, index_of, PlaceOf}
use Rattle.lists.proofs.Tables.{pairs_get}
use Rattle.lists.proofs.Tables.{equal_or_not, less_or_more, tabulate_at, tabulate_length, tabulate_map, index_tabulated_is, index_member}
use Rattle.model.specs.declared.Atom.{Atom}
use Rattle.state.specs.View.{atom_at, atom_ids_of, AtomsRise}
use Rattle.state.proofs.Room.{found}

module _ (W : List ℕ) (n : ℕ) where
  -- the ids by their places
  ids : tabulate n (λ (k : ℕ). get_or W k 0) ≡ atom_ids_of n W
  unfolding atom_at
  ids = tabulate_map (λ (x : Atom). x.id) n (atom_at W)

  ids_long : length (atom_ids_of n W) ≡ n
  ids_long = ap length (sym ids) ∙ tabulate_length n (λ (k : ℕ). get_or W k 0)

  -- it is a member exactly if it was found
  pub found_is : (id : ℕ) (r : Option ℕ) → PlaceOf n id (atom_ids_of n W) r → is_some r ≡ member id (atom_ids_of n W)
  found_is id r e = sym (found n id (atom_ids_of n W) r e) ∙ ap (ltb (index_of id (atom_ids_of n W))) (sym ids_long) ∙ index_member id (atom_ids_of n W)

  module _ (rise : AtomsRise n W) where
    lower : (i j : ℕ) → i < j → j < n → get_or W i 0 < get_or W j 0
    unfolding atom_at
    lower i j h k =
        let z : length (tabulate n (atom_at W)) ≡ n = tabulate_length n (atom_at W) in
        let q = pairs_get (λ (x y : Atom). x.id < y.id) (tabulate n (atom_at W)) (atom_at W 0) i j rise h (omega arith) in
        rw (tabulate_at n (atom_at W) i (atom_at W 0) (omega arith), tabulate_at n (atom_at W) j (atom_at W 0) k) at q

    not_higher : (i j : ℕ) → i ≤ j → j < n → get_or W i 0 ≤ get_or W j 0
    not_higher i j h k = ⊎_elim (λ (e : i ≡ j). let q = ap (λ (m : ℕ). get_or W m 0) e in omega arith) (λ (ne : i ≢ j). ⊎_elim (λ (l : i < j). let q = lower i j l k in omega arith) (λ (l : j < i). absurd (omega arith)) (less_or_more i j ne)) (equal_or_not i j)

    pub near_is : (k id : ℕ) → k < n → get_or W k 0 ≡ id → PlaceOf n id (atom_ids_of n W) (Some k)
    near_is k id h e = (
      index_tabulated_is n (λ (k : ℕ). get_or W k 0) id k (omega arith) (λ j p f. let q = lower j k p h in omega arith) (λ p. e)
          ∙ ap (index_of id) ids,
      h,
    )

    gap_at : (g id : ℕ) → g + 1 < n → get_or W g 0 < id → id < get_or W (g + 1) 0 → PlaceOf n id (atom_ids_of n W) None
    gap_at g id h l m = sym
        (index_tabulated_is n (λ (k : ℕ). get_or W k 0) id n (omega arith) (λ j p e. nowhere j p e (ltb j (g + 1)) refl) (λ p. absurd (omega arith))
        ∙ ap (index_of id) ids)
      where
        nowhere : (j : ℕ) → j < n → get_or W j 0 ≡ id → (t : Bool) → ltb j (g + 1) ≡ t → ⊥
        nowhere j p e true q = let r = ltb-true j (g + 1) q in let z = not_higher j g (omega arith) (omega arith) in omega arith
        nowhere j p e false q = let r = ltb-false j (g + 1) q in let z = not_higher (g + 1) j (omega arith) p in omega arith

    pub gap_free : (g id : ℕ) → g + 1 < n → get_or W g 0 < id → id < get_or W (g + 1) 0 → true ≡ not (member id (atom_ids_of n W))
    gap_free g id h l m = ap not (found_is id None (gap_at g id h l m))
