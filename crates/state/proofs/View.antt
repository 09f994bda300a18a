-- Laws of what the words say: atoms and plans by their places, their columns, their ids.
use mathlib.Core.Path.{◌≡◌, sym, ap, ◌∙◌}
use mathlib.Core.List.{List, [], ◌∷◌}
use Prim.Native.Nat.{ℕ, ◌+◌, ◌-◌, ◌*◌, ◌<◌}
use native.Mathlib.Omega.{arith}
use lib.ListN.{length, take, drop, get_or, length-drop}
use lib.Seq.{get_or-drop, get_or-take, length-take-le}
use Rattle.lists.specs.Lists.{Pairs}
use Rattle.lists.specs.Tables.{tabulate, trimmed}
use Rattle.lists.proofs.Lists.{pairs_map}
use Rattle.lists.proofs.Tables.{get_within, tabulate_get, tabulate_same, tabulate_map, trimmed_at}
use Rattle.lists.proofs.Counted.{trimmed_four}
use Rattle.table.specs.Rows.{row, key, keys}
use Rattle.table.proofs.Rows.{row_long}
use Rattle.table.proofs.Parts.{with_part, rest_is, rest_same}
use Rattle.model.specs.declared.Atom.{Atom}
use Rattle.model.specs.Configuration.{Plan, no_value}
use Rattle.state.specs.View.{atom_p, atom_a, atom_b, atom_cycle, plans_at, atom_at, plan_at, atoms_of, plans_of, atom_ids_of, plan_ids_of, AtomsRise, PlansRise, plan_word}

-- a call is lent the words behind plans_at, and leaves ys there
pub plans_lent : (W : List ℕ) → length W ≡ 2432 → take 1152 (drop plans_at W) ≡ drop plans_at W
plans_lent W long = let e : length W - plans_at ≡ 1152 = omega arith in rw e at (rest_is plans_at W [])

pub plans_left : (W ys : List ℕ) → length W ≡ 2432 → drop plans_at (with_part plans_at 1152 W ys) ≡ ys
plans_left W ys long = let e : length W - plans_at ≡ 1152 = omega arith in rw e at (rest_same plans_at W ys (omega arith))

-- the columns of a plan
module _ (l : List ℕ) (k : ℕ) where
  pub plan_justification_is : (j : ℕ) → j < 4 → plan_word l k (6 + j) ≡ get_or (plan_at l k).justifications j 0
  unfolding plan_at
  plan_justification_is j h =
      let r = row 18 (drop plans_at l) k in
      sym (trimmed_at (take 4 (drop 6 r)) j ∙ get_or-take 4 (drop 6 r) j 0 h ∙ get_or-drop 6 r j 0)

  module _ (long : length l ≡ 2432) (few : k < 64) where
    pub plan_words_long : length (row 18 (drop plans_at l) k) ≡ 18
    plan_words_long = let z : length (drop plans_at l) ≡ length l - plans_at = length-drop plans_at l in row_long 18 (drop plans_at l) k (omega arith)

    pub values_long : length (plan_at l k).values ≡ 8
    unfolding plan_at
    values_long =
        let z = plan_words_long in
        let d = length-drop 10 (row 18 (drop plans_at l) k) in
        length-take-le 8 (drop 10 (row 18 (drop plans_at l) k)) (omega arith)

    -- the four words of its justifications, and the eight of its values
    pub justification_words : let js = (plan_at l k).justifications in trimmed (get_or js 0 0 ∷ get_or js 1 0 ∷ get_or js 2 0 ∷ get_or js 3 0 ∷ []) ≡ js
    unfolding plan_at
    justification_words =
        let z = plan_words_long in
        let d = length-drop 6 (row 18 (drop plans_at l) k) in
        trimmed_four (take 4 (drop 6 (row 18 (drop plans_at l) k))) (length-take-le 4 (drop 6 (row 18 (drop plans_at l) k)) (omega arith))

    pub value_words : tabulate 8 (λ (i : ℕ). get_or (plan_at l k).values i no_value) ≡ (plan_at l k).values
    value_words = tabulate_get 8 (plan_at l k).values no_value values_long

    pub plan_value_is : (i : ℕ) → i < 8 → plan_word l k (10 + i) ≡ get_or (plan_at l k).values i no_value
    unfolding plan_at
    plan_value_is i h =
        let r = row 18 (drop plans_at l) k in
        let v = values_long in
        sym (get_or-take 8 (drop 10 r) i 0 h ∙ get_or-drop 10 r i 0) ∙ get_within (take 8 (drop 10 r)) i 0 no_value (omega arith)

-- ids are the first words
pub atom_keys : (n : ℕ) (l : List ℕ) → keys 1 n l ≡ atom_ids_of n l
unfolding atom_at row
atom_keys n l =
    sym (tabulate_map key n (row 1 l))
    ∙ tabulate_same n (λ (k : ℕ). key (row 1 l k)) (λ (k : ℕ). (atom_at l k).id)
    (λ k h. let e : k * 1 + 0 ≡ k = omega arith in get_or-take 1 (drop (k * 1) l) 0 0 (omega arith) ∙ get_or-drop (k * 1) l 0 0 ∙ ap (λ (m : ℕ). get_or l m 0) e)
    ∙ tabulate_map (λ (x : Atom). x.id) n (atom_at l)

-- an atom stands where the words before plans_at do
pub atom_same : (W X : List ℕ) (k : ℕ) → k < 256 → ((j : ℕ) → j < plans_at → get_or X j 0 ≡ get_or W j 0) → atom_at X k ≡ atom_at W k
unfolding atom_at
atom_same W X k h e =
    let x0 = e k (omega arith) in
    let x1 = e (atom_p + k) (omega arith) in
    let x2 = e (atom_a + k) (omega arith) in
    let x3 = e (atom_b + k) (omega arith) in
    let x4 = e (atom_cycle + k) (omega arith) in
    λ i. record { id = x0 i; p = x1 i; a = x2 i; b = x3 i; cycle = x4 i }

pub plan_keys : (n : ℕ) (l : List ℕ) → keys 18 n (drop plans_at l) ≡ plan_ids_of n l
unfolding plan_at
plan_keys n l = sym (tabulate_map key n (row 18 (drop plans_at l))) ∙ tabulate_map (λ (q : Plan). q.id) n (plan_at l)

pub atom_keys_rise : (n : ℕ) (l : List ℕ) → AtomsRise n l → Pairs (λ (x y : ℕ). x < y) (keys 1 n l)
atom_keys_rise n l h = rw (atom_keys n l) (pairs_map (λ (x y : ℕ). x < y) (λ (x : Atom). x.id) (atoms_of n l) h)

pub plan_keys_rise : (n : ℕ) (l : List ℕ) → PlansRise n l → Pairs (λ (x y : ℕ). x < y) (keys 18 n (drop plans_at l))
plan_keys_rise n l h = rw (plan_keys n l) (pairs_map (λ (x y : ℕ). x < y) (λ (q : Plan). q.id) (plans_of n l) h)
