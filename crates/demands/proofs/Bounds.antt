-- Every candidate of a row is of 16 bits.
use Rattle.std.specs.Prelude.{if◌then◌else◌}
use mathlib.Core.Path.{◌≡◌, sym, subst}
use mathlib.Core.Bool.{Bool, true, false}
use mathlib.Core.List.{List}
use Prim.Native.Nat.{ℕ, ◌≤◌}
use native.Mathlib.Omega.{arith}
use lib.Dec.{eqb}
use borrow.Author.Tests.{eqb-false, not-true}
use Rattle.lists.specs.Lists.{In, keep, within}
use Rattle.lists.proofs.Lists.{in_one, in_map, map_in, keep_in}
use Rattle.lists.proofs.Bind.{bind_in}
use Rattle.model.specs.declared.Row.{Row}
use Rattle.model.specs.declared.Atom.{Atom}
use Rattle.model.specs.Configuration.{Plan, Config}
use Rattle.model.specs.Graph.{Sound}
use Rattle.model.specs.Deletion.{node, graph}
use Rattle.model.specs.Matching.{Candidate, candidate, atom_candidates, justification_candidates, plan_candidates, candidates}
use Rattle.program_laws.specs.Lawful.{Lawful}
use Rattle.program_laws.proofs.Rows.{constant_small, object_place}
use Rattle.demands.proofs.Shape.{Shaped}
use Rattle.demands.proofs.Values.{Bounded}

module _ (program : List Row) (c : Config) (l : Lawful program) (s : Sound (graph c)) (w : Shaped program c) where
  abbrev AllBounded : List Candidate → Type 0
  AllBounded ks = (k : Candidate) → In k ks → Bounded k

  id_small : (n : ℕ) → In n (graph c).atoms → n ≤ 65535
  id_small n i = let h = s.atom_given n i in omega (arith, w.next_fits)

  pub atom_small : (x : Atom) → In x c.atoms → x.id ≤ 65535
  atom_small x i = id_small x.id (in_map (λ (x : Atom). x.id) i)

  plan_small : (q : Plan) → In q c.plans → q.id ≤ 65535
  plan_small q i = let h = s.plan_given (node q) (in_map node i) in omega (arith, w.next_fits)

  atoms_bounded : (p : ℕ) → AllBounded (atom_candidates p c)
  unfolding atom_candidates
  atoms_bounded p k i =
      let r = map_in (λ (x : Atom). candidate x.id x.a x.b) (keep (λ (x : Atom). eqb x.p p) c.atoms) i in
      let j = (keep_in (λ (x : Atom). eqb x.p p) c.atoms r.1).0 in
      let f = w.atoms_formed r.0 j in
      subst Bounded (sym r.2) (atom_small r.0 j, f.a_fits, f.b_fits)

  plans_bounded : (f : Plan → Bool) (g : Plan → Candidate) → ((q : Plan) → In q c.plans → f q ≡ true → Bounded (g q)) → AllBounded (plan_candidates f g c)
  unfolding plan_candidates
  plans_bounded f g h k i =
      let r = map_in g (keep f c.plans) i in
      let j = keep_in f c.plans r.1 in
      subst Bounded (sym r.2) (h r.0 j.0 j.1)

  justifications_bounded : AllBounded (justification_candidates c)
  unfolding justification_candidates
  justifications_bounded k i =
      let r = bind_in _ c.plans i in
      let j = map_in (λ (j : ℕ). candidate r.0.id j 0) r.0.justifications r.2 in
      subst Bounded (sym j.2) (plan_small r.0 r.1, id_small j.0 (s.just_alive (node r.0) (in_map node r.1) j.0 j.1).0, omega arith)

  pub candidates_bounded : (r : Row) → r.a ≤ 65544 → AllBounded (candidates c r)
  unfolding candidates
  candidates_bounded r a = either (within 1 2 r.op) _ _ (atoms_bounded r.p)
      (either (within 3 4 r.op) _ _ (plans_bounded _ _ (λ q i e. let h = object_place l q.set q.rule (w.plans_formed q i).object in (plan_small q i, omega arith, omega arith)))
      (either (within 5 6 r.op) _ _ (plans_bounded _ _ (λ q i e. let h = l.short_body q.set q.rule in let f = w.plans_formed q i in (plan_small q i, omega (arith, f.left_fits), omega arith)))
      (either (within 7 8 r.op) _ _ justifications_bounded
      (either (within 9 10 r.op) _ _ (plans_bounded _ _ (λ q i e. (plan_small q i, id_small q.subgoal (s.sub_alive (node q) (in_map node i) (eqb-false q.subgoal 0 (not-true _ e))).0, omega arith)))
      (either (within 11 12 r.op) _ _ (plans_bounded _ _ (λ q i e. (plan_small q i, constant_small r.a a, omega arith)))
      (λ k i. subst Bounded (sym (in_one i)) (omega arith, w.cycle_fits, omega arith)))))))
    where
      either : (b : Bool) (X Y : List Candidate) → AllBounded X → AllBounded Y → AllBounded (if b then X else Y)
      either true X Y h k = h
      either false X Y h k = k
