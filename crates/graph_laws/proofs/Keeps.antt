-- Every event that fits keeps a graph sound.
use mathlib.Core.Path.{◌≡◌, refl, sym, ap, ◌∙◌}
use mathlib.Core.Bool.{Bool, true, false, not}
use mathlib.Core.Logic.{◌⊎◌, inl, inr, ⊎_elim, ◌≢◌}
use mathlib.Core.List.{List, [], ◌∷◌, ◌++◌, map}
use Prim.Native.Nat.{ℕ, zero, suc, ◌≤◌, ◌<◌}
use native.Mathlib.Omega.{arith}
use lib.Dec.{eqb}
use lib.ListN.{length}
use borrow.Author.Tests.{eqb-true, not-true}
use Rattle.lists.specs.Lists.{rising_set, In, first, keep, Pairs, member}
use Rattle.lists.proofs.Lists.{clash, in_cast, in_left, in_right, in_keep, in_member, out_member, all_snoc, all_map, all_keep, pairs_snoc, pairs_map, pairs_keep}
use Rattle.model.specs.Graph.{Link, Node, Graph, links, reached, survives, loses_subgoal, choose, unlinked, without, Sound}
use Rattle.model.specs.Events.{linked, Event, atom_made, plan_made, subgoal_made, deletion, change, changes, Fits, AllFit}
use Rattle.graph_laws.proofs.Sweep.{reached_closed}
use Rattle.graph_laws.proofs.Links.{in_links, ordered_graph}
use Rattle.lists.proofs.RisingSet.{rising_set_in}

pub choose_cases : (b : Bool) (s o : ℕ) → ((b ≡ true) × (choose b s o ≡ s)) ⊎ ((b ≡ false) × (choose b s o ≡ o))
choose_cases true s o = inl (refl, refl)
choose_cases false s o = inr (refl, refl)

pub loses_member : (D : List ℕ) (s : ℕ) → s ≢ 0 → loses_subgoal D s ≡ member s D
loses_member D zero h = absurd (h refl)
loses_member D (suc s) h = refl

pub loses_zero : (D : List ℕ) (s : ℕ) → s ≡ 0 → loses_subgoal D s ≡ false
loses_zero D zero h = refl
loses_zero D (suc s) h = absurd (omega arith)

-- the clauses of soundness that speak of one plan, with the atoms and the next id
abbrev Given : ℕ → Node → Type 0
Given n q = (1 ≤ q.id) × (q.id < n)

abbrev Apart : List ℕ → Node → Type 0
Apart xs q = (x : ℕ) → In x xs → x ≢ q.id

abbrev Few : Node → Type 0
Few q = (1 ≤ length q.justifications) × (length q.justifications ≤ 4) × Pairs (λ (i j : ℕ). i < j) q.justifications

abbrev Justified : List ℕ → Node → Type 0
Justified xs q = (j : ℕ) → In j q.justifications → In j xs × (j < q.id)

abbrev HasSubgoal : List ℕ → Node → Type 0
HasSubgoal xs q = q.subgoal ≢ 0 → In q.subgoal xs × (q.id < q.subgoal)

-- two plans, in order; one subgoal belongs to one plan
abbrev Older : Node → Node → Type 0
Older p q = p.id < q.id

abbrev SameOwner : Node → Node → Type 0
SameOwner p q = p.subgoal ≢ 0 → p.subgoal ≡ q.subgoal → p.id ≡ q.id

abbrev OnlyOwner : List Node → Node → Type 0
OnlyOwner qs p = (q : Node) → In q qs → SameOwner p q

module _ (g : Graph) (s : Sound g) where
  -- AN ATOM MORE
  abbrev more : List ℕ
  more = g.atoms ++ (g.next ∷ [])

  more_rise : Pairs (λ (x y : ℕ). x < y) more
  more_rise = pairs_snoc (λ (x y : ℕ). x < y) g.atoms g.next s.atoms_rise (λ x i. (s.atom_given x i).1)

  more_given : (x : ℕ) → In x more → (1 ≤ x) × (x < suc g.next)
  more_given = all_snoc (λ (x : ℕ). (1 ≤ x) × (x < suc g.next)) g.atoms g.next
      (λ x i. let h = s.atom_given x i in omega arith)
      (omega (arith, s.next_pos))

  more_apart : (q : Node) → In q g.plans → Apart more q
  more_apart q i = all_snoc (λ (x : ℕ). x ≢ q.id) g.atoms g.next (s.apart q i) (let h = s.plan_given q i in omega arith)

  keeps_atom : Sound (change g atom_made)
  keeps_atom = record {
    atoms_rise = more_rise;
    plans_rise = s.plans_rise;
    next_pos = omega arith;
    atom_given = more_given;
    plan_given = λ q i. let h = s.plan_given q i in omega arith;
    apart = more_apart;
    just_fine = s.just_fine;
    just_alive = λ q i j k. let h = s.just_alive q i j k in (in_left (g.next ∷ []) h.0, h.1);
    sub_alive = λ q i z. let h = s.sub_alive q i z in (in_left (g.next ∷ []) h.0, h.1);
    sub_one = s.sub_one;
  }

  -- A SUBGOAL ATOM MORE, for the plan k
  module _ (k : ℕ) where
    abbrev link : Node → Node
    link = linked k g.next

    subgoal_more : (q : Node) → In q g.plans → HasSubgoal more (link q)
    subgoal_more q i z = ⊎_elim
        (λ c. (in_right g.atoms (first c.1), let h = s.plan_given q i in omega (arith, c.1)))
        (λ c. let h = s.sub_alive q i (λ e. z (c.1 ∙ e)) in (in_left (g.next ∷ []) (in_cast c.1 h.0), omega (arith, c.1)))
        (choose_cases (eqb q.id k) g.next q.subgoal)

    -- the new atom is nobody's subgoal yet
    subgoal_new : (q : Node) → In q g.plans → q.subgoal ≢ 0 → g.next ≡ q.subgoal → ⊥
    subgoal_new q i z e = let h = s.atom_given q.subgoal (s.sub_alive q i z).0 in omega arith

    subgoal_once : (p : Node) → In p g.plans → (q : Node) → In q g.plans → SameOwner (link p) (link q)
    subgoal_once p i q j z e = ⊎_elim
        (λ c. ⊎_elim
        (λ d. eqb-true p.id k c.0 ∙ sym (eqb-true q.id k d.0))
        (λ d. absurd (subgoal_new q j (λ v. z (e ∙ d.1 ∙ v)) (sym c.1 ∙ e ∙ d.1)))
        (choose_cases (eqb q.id k) g.next q.subgoal))
        (λ c. ⊎_elim
        (λ d. absurd (subgoal_new p i (λ v. z (c.1 ∙ v)) (sym (sym c.1 ∙ e ∙ d.1))))
        (λ d. s.sub_one p i q j (λ v. z (c.1 ∙ v)) (sym c.1 ∙ e ∙ d.1))
        (choose_cases (eqb q.id k) g.next q.subgoal))
        (choose_cases (eqb p.id k) g.next p.subgoal)

    keeps_subgoal : Sound (change g (subgoal_made k))
    keeps_subgoal = record {
      atoms_rise = more_rise;
      plans_rise = pairs_map Older link g.plans s.plans_rise;
      next_pos = omega arith;
      atom_given = more_given;
      plan_given = all_map (Given (suc g.next)) link g.plans keeps_atom.plan_given;
      apart = all_map (Apart more) link g.plans more_apart;
      just_fine = all_map Few link g.plans s.just_fine;
      just_alive = all_map (Justified more) link g.plans keeps_atom.just_alive;
      sub_alive = all_map (HasSubgoal more) link g.plans subgoal_more;
      sub_one = all_map (OnlyOwner (map link g.plans)) link g.plans (λ p i. all_map (SameOwner (link p)) link g.plans (subgoal_once p i));
    }

  -- A PLAN MORE
  module _ (js : List ℕ) (ok : Fits g (plan_made js)) where
    abbrev new_node : Node
    new_node = record { id = g.next; justifications = rising_set js; subgoal = 0 }

    keeps_plan : Sound (change g (plan_made js))
    keeps_plan = record {
      atoms_rise = s.atoms_rise;
      plans_rise = pairs_snoc Older g.plans new_node s.plans_rise (λ q i. (s.plan_given q i).1);
      next_pos = omega arith;
      atom_given = λ x i. let h = s.atom_given x i in omega arith;
      plan_given = all_snoc (Given (suc g.next)) g.plans new_node keeps_atom.plan_given (omega (arith, s.next_pos));
      apart = all_snoc (Apart g.atoms) g.plans new_node s.apart (λ x i. let h = s.atom_given x i in omega arith);
      just_fine = all_snoc Few g.plans new_node s.just_fine (ok.0, ok.1, ok.2);
      just_alive = all_snoc (Justified g.atoms) g.plans new_node s.just_alive (λ j i. let k = ok.3 j (rising_set_in js j i) in (k, (s.atom_given j k).1));
      sub_alive = all_snoc (HasSubgoal g.atoms) g.plans new_node s.sub_alive (λ z. absurd (z refl));
      sub_one = all_snoc (OnlyOwner (g.plans ++ (new_node ∷ []))) g.plans new_node
          (λ p i. all_snoc (SameOwner p) g.plans new_node (s.sub_one p i) (λ z e. absurd (z e)))
          (λ q i z e. absurd (z refl));
    }

  -- A DELETION: with an instance, what its links lead to is among D
  module _ (D : List ℕ) (shut : (l : Link) → In l (links g.plans) → In l.from D → In l.to D) where
    abbrev stays : Node → Bool
    stays q = survives D q.id

    free : (x : ℕ) → survives D x ≡ true → In x D → ⊥
    free x e h = clash (in_member h) (not-true (member x D) e)

    -- a justification of a plan that stays, stays
    pub just_stays : (q : Node) → In q g.plans → stays q ≡ true → (j : ℕ) → In j q.justifications → survives D j ≡ true
    just_stays q i e j k =
        let l : Link = record { from = j; to = q.id } in
        ap not (out_member j D (λ h. free q.id e (shut l (in_links l i (inl (k, refl))) h)))

    -- a subgoal that is left is the one that was, and it stays
    pub subgoal_left : (q : Node) → (unlinked D q).subgoal ≢ 0 → ((unlinked D q).subgoal ≡ q.subgoal) × (survives D q.subgoal ≡ true)
    subgoal_left q z = ⊎_elim
        (λ c. absurd (z c.1))
        (λ c. (c.1, ap not (sym (loses_member D q.subgoal (λ v. z (c.1 ∙ v))) ∙ c.0)))
        (choose_cases (loses_subgoal D q.subgoal) 0 q.subgoal)

    all_stay : (P : Node → Type 0) → ((q : Node) → In q g.plans → stays q ≡ true → P (unlinked D q)) →
        (q : Node) → In q (without D g).plans → P q
    all_stay P h = all_map P (unlinked D) (keep stays g.plans) (all_keep (λ (q : Node). P (unlinked D q)) stays g.plans h)

    without_keeps : Sound (without D g)
    without_keeps = record {
      atoms_rise = pairs_keep (λ (x y : ℕ). x < y) (survives D) g.atoms s.atoms_rise;
      plans_rise = pairs_map Older (unlinked D) (keep stays g.plans) (pairs_keep Older stays g.plans s.plans_rise);
      next_pos = s.next_pos;
      atom_given = all_keep (λ (x : ℕ). (1 ≤ x) × (x < g.next)) (survives D) g.atoms (λ x i e. s.atom_given x i);
      plan_given = all_stay (Given g.next) (λ q i e. s.plan_given q i);
      apart = all_stay (Apart (keep (survives D) g.atoms)) (λ q i e. all_keep (λ (x : ℕ). x ≢ q.id) (survives D) g.atoms (λ x k v. s.apart q i x k));
      just_fine = all_stay Few (λ q i e. s.just_fine q i);
      just_alive = all_stay (Justified (keep (survives D) g.atoms))
          (λ q i e j k. let h = s.just_alive q i j k in (in_keep (survives D) h.0 (just_stays q i e j k), h.1));
      sub_alive = all_stay (HasSubgoal (keep (survives D) g.atoms))
          (λ q i e z. let c = subgoal_left q z in
          let h = s.sub_alive q i (λ v. z (c.0 ∙ v)) in
          (in_cast c.0 (in_keep (survives D) h.0 c.1), omega (arith, c.0)));
      sub_one = all_stay (OnlyOwner (without D g).plans) (λ p i e. all_stay (SameOwner (unlinked D p))
          (λ q j v z w. let c = subgoal_left p z in
          let d = subgoal_left q (λ v. z (w ∙ v)) in
          s.sub_one p i q j (λ v. z (c.0 ∙ v)) (sym c.0 ∙ w ∙ d.0)));
    }

pub keeps : (g : Graph) (e : Event) → Sound g → Fits g e → Sound (change g e)
keeps g atom_made s ok = keeps_atom g s
keeps g (plan_made js) s ok = keeps_plan g s js ok
keeps g (subgoal_made k) s ok = keeps_subgoal g s k
keeps g (deletion t) s ok = without_keeps g s (reached (links g.plans) t) (reached_closed (links g.plans) (ordered_graph g s) t)

pub keeps_all : (g : Graph) (es : List Event) → Sound g → AllFit g es → Sound (changes g es)
keeps_all g [] s ok = s
keeps_all g (e ∷ es) s ok = keeps_all (change g e) es (keeps g e s ok.0) ok.1
