-- The candidates of every row stand in rising id, for 7 by plan and then atom.
use Rattle.std.specs.Prelude.{if◌then◌else◌}
use mathlib.Core.Path.{◌≡◌, refl, ap}
use mathlib.Core.Bool.{Bool, true, false, not}
use mathlib.Core.Logic.{inl, inr}
use mathlib.Core.List.{List, [], ◌∷◌, map}
use Prim.Native.Nat.{ℕ, ◌<◌}
use lib.Dec.{eqb}
use Rattle.lists.specs.Lists.{In, first, later, Pairs, keep, within}
use Rattle.lists.proofs.Lists.{in_map, map_in, in_nil, pairs_keep, pairs_map}
use Rattle.lists.proofs.Bind.{pairs_bind}
use Rattle.lists.proofs.Tests.{map_pairs}
use Rattle.model.specs.declared.Row.{Row}
use Rattle.model.specs.declared.Atom.{Atom}
use Rattle.model.specs.Program.{constant}
use Rattle.model.specs.Configuration.{Plan, Config, has_flag}
use Rattle.model.specs.Graph.{Node, Sound}
use Rattle.model.specs.Deletion.{node, graph}
use Rattle.model.specs.Matching.{Candidate, candidate, atom_candidates, justification_candidates, plan_candidates, candidates}
use Rattle.model.specs.Meaning.{Earlier}

pairs_weaken : {A : Type 0} (R S : A → A → Type 0) (l : List A) → ((x : A) → In x l → (y : A) → R x y → S x y) → Pairs R l → Pairs S l
pairs_weaken R S [] h k = tt
pairs_weaken R S (x ∷ l) h k = (λ y i. h x (first refl) y (k.0 y i), pairs_weaken R S l (λ z j. h z (later j)) k.1)

module _ (c : Config) (s : Sound (graph c)) where
  atoms_in_order : Pairs (λ (x y : Atom). x.id < y.id) c.atoms
  atoms_in_order = map_pairs (λ (x y : ℕ). x < y) (λ (x : Atom). x.id) c.atoms s.atoms_rise

  plans_in_order : Pairs (λ (p q : Plan). p.id < q.id) c.plans
  plans_in_order = map_pairs (λ (p q : Node). p.id < q.id) node c.plans s.plans_rise

  atoms_earlier : (p : ℕ) → Pairs Earlier (atom_candidates p c)
  unfolding atom_candidates
  atoms_earlier p = pairs_map Earlier (λ (x : Atom). candidate x.id x.a x.b) (keep (λ (x : Atom). eqb x.p p) c.atoms)
      (pairs_weaken (λ (x y : Atom). x.id < y.id) _ (keep (λ (x : Atom). eqb x.p p) c.atoms) (λ x i y h. inl h) (pairs_keep (λ (x y : Atom). x.id < y.id) (λ (x : Atom). eqb x.p p) c.atoms atoms_in_order))

  plans_earlier : (f : Plan → Bool) (g : Plan → Candidate) → ((q : Plan) → (g q).i ≡ q.id) → Pairs Earlier (plan_candidates f g c)
  unfolding plan_candidates
  plans_earlier f g e = pairs_map Earlier g (keep f c.plans)
      (pairs_weaken (λ (p q : Plan). p.id < q.id) _ (keep f c.plans) (λ p i q h. inl (rw (e p, e q) h)) (pairs_keep (λ (p q : Plan). p.id < q.id) f c.plans plans_in_order))

  justifications_earlier : Pairs Earlier (justification_candidates c)
  unfolding justification_candidates
  justifications_earlier = pairs_bind Earlier (λ (q : Plan). map (λ (j : ℕ). candidate q.id j 0) q.justifications) c.plans
      (λ q i. pairs_map Earlier (λ (j : ℕ). candidate q.id j 0) q.justifications (pairs_weaken (λ (i j : ℕ). i < j) _ q.justifications (λ i m j h. inr (refl, h)) (s.just_fine (node q) (in_map node i)).2))
      (pairs_weaken (λ (p q : Plan). p.id < q.id) _ c.plans (λ p i q h. λ u j v k. inl (between p q h u j v k)) plans_in_order)
    where
      between : (p q : Plan) → p.id < q.id → (u : Candidate) → In u (map (λ (j : ℕ). candidate p.id j 0) p.justifications) → (v : Candidate) → In v (map (λ (j : ℕ). candidate q.id j 0) q.justifications) → u.i < v.i
      between p q h u j v k =
          let x = map_in (λ (j : ℕ). candidate p.id j 0) p.justifications j in
          let y = map_in (λ (j : ℕ). candidate q.id j 0) q.justifications k in
          rw (ap (λ (w : Candidate). w.i) x.2, ap (λ (w : Candidate). w.i) y.2) h

  pub candidates_earlier : (r : Row) → Pairs Earlier (candidates c r)
  unfolding candidates
  candidates_earlier r = at (within 1 2 r.op) (within 3 4 r.op) (within 5 6 r.op) (within 7 8 r.op) (within 9 10 r.op) (within 11 12 r.op)
    where
      one : (b : Bool) (X : List Candidate) → Pairs Earlier X → Pairs Earlier (if b then X else candidate 0 c.cycle 0 ∷ [])
      one true X h = h
      one false X h = (λ y i. in_nil i, tt)

      or_else : (b : Bool) (X Y : List Candidate) → Pairs Earlier X → Pairs Earlier Y → Pairs Earlier (if b then X else Y)
      or_else true X Y h k = h
      or_else false X Y h k = k

      at : (b1 b3 b5 b7 b9 b11 : Bool) → Pairs Earlier (
          if b1 then atom_candidates r.p c
          else if b3 then plan_candidates (λ (q : Plan). true) (λ (q : Plan). candidate q.id q.set q.rule) c
          else if b5 then plan_candidates (λ (q : Plan). true) (λ (q : Plan). candidate q.id q.left 0) c
          else if b7 then justification_candidates c
          else if b9 then plan_candidates (λ (q : Plan). not (eqb q.subgoal 0)) (λ (q : Plan). candidate q.id q.subgoal 0) c
          else if b11 then plan_candidates (λ (q : Plan). has_flag (constant r.a) q.flags) (λ (q : Plan). candidate q.id (constant r.a) 0) c
          else candidate 0 c.cycle 0 ∷ [])
      at b1 b3 b5 b7 b9 b11 =
          or_else b1 _ _ (atoms_earlier r.p)
          (or_else b3 _ _ (plans_earlier _ _ (λ q. refl))
          (or_else b5 _ _ (plans_earlier _ _ (λ q. refl))
          (or_else b7 _ _ justifications_earlier
          (or_else b9 _ _ (plans_earlier _ _ (λ q. refl))
          (one b11 _ (plans_earlier _ _ (λ q. refl)))))))
