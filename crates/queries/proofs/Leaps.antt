-- Past what stands at one place only: the candidates that are leapt over have other ids than the one that is wanted.
use Rattle.std.specs.Prelude.{Option, Some}
use mathlib.Core.Path.{◌≡◌, ◌∙◌}
use mathlib.Core.Bool.{true, false, and-eq-true_iff}
use mathlib.Core.List.{List}
use Prim.Native.Nat.{ℕ, ◌+◌, ◌*◌, ◌/◌, ◌%◌, ◌<◌, ◌≤◌}
use native.Mathlib.Omega.{arith}
use lib.Dec.{leb}
use lib.ListN.{length, length-map}
use borrow.Author.Tests.{leb-true}
use Rattle.lists.specs.Lists.{within}
use Rattle.lists.specs.Tables.{index_of}
use Rattle.lists.proofs.Cuts.{within_above}
use Rattle.lists.proofs.Tables.{tabulate_length, index_within}
use Rattle.model.specs.declared.Row.{Row}
use Rattle.model.specs.declared.Atom.{Atom}
use Rattle.state.specs.declared.Scalars.{Scalars}
use Rattle.state.specs.View.{atom_at, plan_at, atoms_of, atom_ids_of, plan_ids_of, AtomsRise, PlansRise}
use Rattle.queries.specs.Answers.{justification_candidate, candidate_at, Skipped}
use Rattle.queries.proofs.Skips.{skip_as}
use Rattle.queries.proofs.Halves as halves

module _ (words : List ℕ) (s : Scalars) (r : Row) (id : ℕ) (a b : Option ℕ) (from to : ℕ) where
  pub atoms_leapt : AtomsRise s.atoms words → within 1 2 r.op ≡ true → (k : ℕ) → k ≡ index_of id (atom_ids_of s.atoms words) →
      (from ≤ to) × ((c : ℕ) → from ≤ c → c < to → (c < s.atoms) × (k ≤ c → k + 1 ≤ c)) → Skipped (candidate_at words s r) (Some id) a b from to
  atoms_leapt rise o k is l = record { on = l.0; missed = λ c p q. let g = l.1 c p q in let past = g.1 in halves.atom_other words s r id a b rise o k is c g.0 (λ z. absurd (omega arith)) }

  module _ (rise : PlansRise s.plans words) (h : 3 ≤ r.op) (k : ℕ) (is : k ≡ index_of id (plan_ids_of s.plans words)) where
    pub plans_leapt : r.op ≤ 12 → within 7 8 r.op ≡ false → (from ≤ to) × ((c : ℕ) → from ≤ c → c < to → (c < s.plans) × (k ≤ c → k + 1 ≤ c)) →
        Skipped (candidate_at words s r) (Some id) a b from to
    plans_leapt u j l = record { on = l.0; missed = λ c p q. let g = l.1 c p q in let past = g.1 in halves.plan_other words s r id a b rise h u j k is c g.0 (λ z. absurd (omega arith)) }

    by_four : within 7 8 r.op ≡ true → (c : ℕ) → justification_candidate (plan_at words (c / 4)) (c % 4) ≡ candidate_at words s r c
    unfolding candidate_at
    by_four j c =
        let low = leb-true 7 r.op ((and-eq-true_iff (leb 7 r.op) (leb r.op 8)).0 j).0 in
        rw (within_above 1 2 r.op (omega arith), within_above 3 4 r.op (omega arith), within_above 5 6 r.op (omega arith), j)

    pub justifications_leapt : within 7 8 r.op ≡ true → (from ≤ to) × ((c : ℕ) → from ≤ c → c < to → (c < s.plans * 4) × (k * 4 ≤ c → k * 4 + 4 ≤ c)) →
        Skipped (candidate_at words s r) (Some id) a b from to
    justifications_leapt j l = skip_as (halves.justifications_leapt words s id a b from to k rise is l) (by_four j)

-- the place of an atom's id is within the count
pub atom_place : (n : ℕ) (W : List ℕ) (x k : ℕ) → k ≡ index_of x (atom_ids_of n W) → k ≤ n
atom_place n W x k e =
    let h = index_within x (atom_ids_of n W) in
    let l : length (atom_ids_of n W) ≡ n = length-map (atoms_of n W) (λ (a : Atom). a.id) ∙ tabulate_length n (atom_at W) in
    omega arith
