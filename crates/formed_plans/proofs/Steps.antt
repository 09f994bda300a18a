-- A rule with reasons; a plan's subgoal is the atom that stands where it is found.
use mathlib.Core.Path.{◌≡◌, sym, ap}
use mathlib.Core.Bool.{false, not, ◌&&◌, and-false}
use mathlib.Core.List.{List, [], ◌∷◌}
use Prim.Native.Nat.{ℕ, ◌-◌, ◌≤◌, ◌<◌}
use native.Mathlib.Omega.{arith}
use lib.Dec.{ltb, eqb}
use lib.ListN.{length, get_or}
use borrow.Author.Tests.{lt-ltb, le-ltb}
use Rattle.lists.specs.Lists.{is_empty, some}
use Rattle.lists.specs.Tables.{index_of}
use Rattle.lists.proofs.Lists.{pairs_map}
use Rattle.lists.proofs.Tables.{tabulate_length, tabulate_at}
use Rattle.lists.proofs.Counted.{some_found, some_absent, counted_long}
use Rattle.model.specs.declared.Row.{Row}
use Rattle.model.specs.declared.Atom.{Atom}
use Rattle.model.specs.Program.{part_of, is_object}
use Rattle.model.specs.Configuration.{Plan}
use Rattle.model.specs.WellFormed.{makes_atom, is_subgoal_step}
use Rattle.program.specs.Rows.{row_at, rows_of, rows_from}
use Rattle.state.specs.declared.Scalars.{Scalars}
use Rattle.state.specs.View.{atom_at, atoms_of, config_of, atom_ids_of}
use Rattle.formed_plans.specs.Plans.{AtomsStand}

-- a rule with reasons is an object rule
pub object_is : (P : List ℕ) (s n a b : ℕ) → rows_from P a (b - a) ≡ part_of (rows_of P) s n 1 → ltb a b ≡ is_object (rows_of P) s n
unfolding is_object
object_is P s n a b e = rw (← e) (at (rows_from P a (b - a)) (counted_long (row_at P) a (b - a)))
  where
    at : (l : List Row) → length l ≡ b - a → ltb a b ≡ not (is_empty l)
    at [] h = le-ltb a b (omega arith)
    at (x ∷ l) h = lt-ltb a b (omega arith)

-- the atom that is the subgoal
module _ (W : List ℕ) (s : Scalars) (q : Plan) (r : Row) (w : AtomsStand W s.atoms) where
  pub subgoal_found : (i : ℕ) → i ≡ index_of q.subgoal (atom_ids_of s.atoms W) → i < s.atoms → eqb r.op 36 && makes_atom q.values r (atom_at W i) ≡ is_subgoal_step (config_of W s) q r
  unfolding is_subgoal_step
  subgoal_found i e h =
      let xs = atoms_of s.atoms W in
      let n = index_of q.subgoal (atom_ids_of s.atoms W) in
      let l = tabulate_length s.atoms (atom_at W) in
      let f : some (λ x. eqb x.id q.subgoal && makes_atom q.values r x) xs ≡ makes_atom q.values r (get_or xs n (atom_at W 0)) =
      some_found (λ (x : Atom). x.id) (makes_atom q.values r) q.subgoal xs (atom_at W 0) (pairs_map (λ (x y : ℕ). x < y) (λ (x : Atom). x.id) xs w.rise) (omega arith) in
      rw (f, ← e) (ap (λ (x : Atom). eqb r.op 36 && makes_atom q.values r x) (sym (tabulate_at s.atoms (atom_at W) i (atom_at W 0) h)))

  pub subgoal_absent : s.atoms ≤ index_of q.subgoal (atom_ids_of s.atoms W) → is_subgoal_step (config_of W s) q r ≡ false
  unfolding is_subgoal_step
  subgoal_absent h =
      let xs = atoms_of s.atoms W in
      let l = tabulate_length s.atoms (atom_at W) in
      let f : some (λ x. eqb x.id q.subgoal && makes_atom q.values r x) xs ≡ false = some_absent (λ (x : Atom). x.id) (makes_atom q.values r) q.subgoal xs (omega arith) in
      rw f (and-false (eqb r.op 36))
