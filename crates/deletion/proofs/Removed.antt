-- What the marks keep, with the target's owner unlinked, is what the model's deletion leaves, and as many went.
use Rattle.std.specs.Prelude.{if◌then◌else◌}
use mathlib.Core.Path.{◌≡◌, refl, ap, sym, ◌∙◌, subst}
use mathlib.Core.Bool.{Bool, true, false, not, ◌&&◌}
use mathlib.Core.List.{List, map}
use mathlib.Core.Logic.{⊎_elim, ◌≢◌}
use Prim.Native.Nat.{ℕ, ◌-◌, ◌≤◌}
use native.Mathlib.Omega.{arith}
use lib.Dec.{eqb}
use lib.ListN.{length, drop, length-drop}
use lib.Seq.{get_or-drop}
use borrow.Author.Tests.{eq-eqb, ne_eqb, not-true}
use Rattle.lists.specs.Lists.{In, keep, bit, member}
use Rattle.lists.specs.Tables.{keep_by}
use Rattle.lists.proofs.Lists.{in_map, in_cast, in_member, out_member, member_out, keep_in}
use Rattle.lists.proofs.Tables.{equal_or_not, map_same_in, map_keep_by, keep_by_test}
use Rattle.model.specs.Graph.{Reach, here, onward, reached, survives, loses_subgoal, choose, Sound}
use Rattle.model.specs.Events.{deletion}
use Rattle.model.specs.declared.Atom.{Atom}
use Rattle.model.specs.Configuration.{Plan, Config}
use Rattle.model.specs.Deletion.{node, graph, links_in, plan_without, remove}
use Rattle.graph_laws.proofs.Links.{owner_of, reached_is}
use Rattle.graph_laws.proofs.Keeps.{keeps, loses_member, loses_zero}
use Rattle.graph_laws.proofs.Turns.{turns_remove}
use Rattle.state.specs.declared.Scalars.{Scalars}
use Rattle.state.specs.View.{atom_at, plan_at, atoms_of, plans_of, config_of, SoundWords, counts_put}
use Rattle.state.proofs.Made.{config_path}
use Rattle.deletion.specs.Marks.{Marked, subgoal_lost, unlinked_from}

-- a plan with or without its subgoal
left_as : (b : Bool) (q : Plan) →
    ◌≡◌ {A = Plan} (record { id = q.id; set = q.set; rule = q.rule; values = q.values; left = q.left - bit b; justifications = q.justifications; subgoal = choose b 0 q.subgoal; flags = q.flags })
    (if b then subgoal_lost q else q)
left_as true q = refl
left_as false q =
    let e : q.left - 0 ≡ q.left = omega arith in
    λ i. record { id = q.id; set = q.set; rule = q.rule; values = q.values; left = e i; justifications = q.justifications; subgoal = q.subgoal; flags = q.flags }

module _ (W : List ℕ) (s : Scalars) (h : SoundWords W s) (t : ℕ) where
  abbrev c : Config
  c = config_of W s

  abbrev D : List ℕ
  D = reached (links_in c) t

  -- what is reached is the target, or the end of a link from what is reached
  reached_by : (x : ℕ) → Reach (links_in c) t x → x ≢ t → (a : ℕ) × Reach (links_in c) t a × In (record { from = a; to = x }) (links_in c)
  reached_by x (here e) ne = absurd (ne e)
  reached_by x (onward {a = a} r i) ne = (a, r, i)

  -- a subgoal that is not the target goes with its owner alone
  subgoal_stays : (q : Plan) → In q c.plans → survives D q.id ≡ true → q.subgoal ≢ 0 → q.subgoal ≢ t → member q.subgoal D ≡ false
  subgoal_stays q i e some ne = out_member q.subgoal D (λ k.
      let r = reached_by q.subgoal ((reached_is (graph c) h.sound t q.subgoal).0 k) ne in
      let o = owner_of (graph c).plans (record { from = r.0; to = q.subgoal }) r.2 in
      let alive = (h.sound.sub_alive (node q) (in_map node i) some).0 in
      ⊎_elim
      (λ u. h.sound.apart o.0 o.1 q.subgoal alive u.1)
      (λ u.
      let same : o.0.id ≡ q.id = h.sound.sub_one o.0 o.1 (node q) (in_map node i) (λ z. some (u.1 ∙ z)) (sym u.1) in
      member_out (not-true (member q.id D) e) (in_cast (sym (u.0 ∙ same)) ((reached_is (graph c) h.sound t r.0).1 r.1)))
      o.2)

  loses_is : (q : Plan) → In q c.plans → survives D q.id ≡ true → loses_subgoal D q.subgoal ≡ (not (eqb t 0) && eqb q.subgoal t)
  loses_is q i e = ⊎_elim
      (λ (z : q.subgoal ≡ 0). loses_zero D q.subgoal z ∙ none z)
      (λ (some : q.subgoal ≢ 0). loses_member D q.subgoal some ∙ ⊎_elim
      (λ (own : q.subgoal ≡ t).
      let tz : t ≢ 0 = λ z. some (own ∙ z) in
      rw (ne_eqb t 0 tz, eq-eqb q.subgoal t own) (in_member (in_cast own ((reached_is (graph c) h.sound t t).1 (here refl)))))
      (λ (ne : q.subgoal ≢ t). subgoal_stays q i e some ne ∙ other ne)
      (equal_or_not q.subgoal t))
      (equal_or_not q.subgoal 0)
    where
      and-false : (b : Bool) → false ≡ (b && false)
      and-false true = refl
      and-false false = refl

      other : q.subgoal ≢ t → false ≡ (not (eqb t 0) && eqb q.subgoal t)
      other ne = rw (ne_eqb q.subgoal t ne) (and-false (not (eqb t 0)))

      none : q.subgoal ≡ 0 → false ≡ (not (eqb t 0) && eqb q.subgoal t)
      none z = ⊎_elim
          (λ (k : t ≡ 0). rw (eq-eqb t 0 k))
          (λ (k : t ≢ 0). other (λ e. k (sym e ∙ z)))
          (equal_or_not t 0)

  without_is : (q : Plan) → In q c.plans → survives D q.id ≡ true → unlinked_from t q ≡ plan_without D q
  unfolding unlinked_from
  without_is q i e = sym (left_as (loses_subgoal D q.subgoal) q ∙ ap (λ (b : Bool). if b then subgoal_lost q else q) (loses_is q i e))

  module _ (left : List Bool) (long : length left ≡ 320) (m : Marked W s D left) where
    atoms_left : keep_by left (atoms_of s.atoms W) ≡ keep (λ (x : Atom). survives D x.id) (atoms_of s.atoms W)
    atoms_left = keep_by_test left (λ (x : Atom). survives D x.id) (atom_at W) s.atoms (omega (arith, h.few_atoms)) m.atoms

    plans_left : keep_by (drop 256 left) (map (unlinked_from t) (plans_of s.plans W)) ≡ map (plan_without D) (keep (λ (q : Plan). survives D q.id) (plans_of s.plans W))
    plans_left =
        let ps : List Plan = plans_of s.plans W in
        let alive : Plan → Bool = λ q. survives D q.id in
        let z : length (drop 256 left) ≡ length left - 256 = length-drop 256 left in
        sym (map_keep_by (unlinked_from t) (drop 256 left) ps)
        ∙ ap (map (unlinked_from t)) (keep_by_test (drop 256 left) alive (plan_at W) s.plans (omega (arith, h.few_plans)) (λ k hk. get_or-drop 256 left k false ∙ m.plans k hk))
        ∙ map_same_in (unlinked_from t) (plan_without D) (keep alive ps) (λ q i. let r = keep_in alive ps i in without_is q r.0 r.1)

    module _ (X : List ℕ) (n p : ℕ) (atoms : atoms_of n X ≡ keep_by left (atoms_of s.atoms W)) (plans : plans_of p X ≡ keep_by (drop 256 left) (map (unlinked_from t) (plans_of s.plans W))) where
      pub removed : config_of X (counts_put n p s) ≡ remove t c
      removed = config_path s s.next (atoms ∙ atoms_left) (plans ∙ plans_left) refl

      -- what is left is sound
      pub left_sound : (r : Scalars) → r ≡ counts_put n p s → n ≤ s.atoms → p ≤ s.plans → SoundWords X r
      left_sound r e hn hp =
          rw e record { few_atoms = omega (arith, h.few_atoms); few_plans = omega (arith, h.few_plans); sound = subst Sound (sym (ap graph removed ∙ turns_remove t c)) (keeps (graph c) (deletion t) h.sound tt) }
