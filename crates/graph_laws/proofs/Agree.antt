-- The graph and the journal, fed with the same events, go on saying the same.
use mathlib.Core.Path.{◌≡◌, refl, sym, ap, ◌∙◌, subst}
use mathlib.Core.Bool.{Bool, true, not, ◌&&◌, and-eq-true_iff}
use mathlib.Core.Logic.{inl, inr, ⊎_elim, ◌↔◌, ◌≢◌}
use mathlib.Core.List.{List, [], ◌∷◌, ◌++◌, map}
use Prim.Native.Nat.{ℕ, suc, ◌<◌}
use native.Mathlib.Omega.{arith}
use lib.Dec.{eqb}
use borrow.Author.Tests.{eqb-true, eq-eqb, not-true}
use Rattle.lists.specs.Lists.{rising_set, In, first, keep, member}
use Rattle.lists.proofs.Lists.{in_one, in_cast, in_left, in_right, in_append, in_map, map_in, in_keep, keep_in, keep_same, member_same, all_append, map_append, map_map, map_keep, pairs_append, pairs_all, pairs_keep, pairs_either}
use Rattle.model.specs.Graph.{Link, Node, Graph, node_ids, justification_links, links, reached, survives, choose, unlinked, Sound, Alive}
use Rattle.model.specs.Events.{linked, Event, atom_made, plan_made, subgoal_made, deletion, change, changes, Fits, AllFit}
use Rattle.model.specs.Journal.{Journal, Same, entered, all_entered, Exact}
use Rattle.graph_laws.proofs.Sweep.{Before, Ordered, reach_more, swept, reached_closed}
use Rattle.graph_laws.proofs.Links.{Of, link_from, link_to, owner_of, in_links, ordered_graph, graph_links, reached_is}
use Rattle.graph_laws.proofs.Keeps.{choose_cases, loses_member, just_stays, subgoal_left, keeps}
use Rattle.lists.proofs.RisingSet.{rising_set_in, in_rising_set}

-- what goes along with each event: the two say the same, and the journal's links stand in order
pub record Agree (g : Graph) (b : Journal) : Type 0 where
  pub same : Same g b
  pub order : Ordered b.links

abbrev stays : List ℕ → Node → Bool
stays D q = survives D q.id

abbrev link : ℕ → ℕ → Link
link j k = record { from = j; to = k }

pub ids_unlinked : (D : List ℕ) (qs : List Node) → node_ids (map (unlinked D) (keep (stays D) qs)) ≡ keep (survives D) (node_ids qs)
ids_unlinked D qs = map_map (unlinked D) (λ (q : Node). q.id) (keep (stays D) qs) ∙ map_keep (λ (q : Node). q.id) (survives D) qs

-- links whose starts are old, with one new end, go behind the old links
order_more : (L M : List Link) (k : ℕ) → Ordered L →
    ((l : Link) → In l L → l.from < k) → ((m : Link) → In m M → (m.to ≡ k) × (m.from < k)) → Ordered (L ++ M)
order_more L M k o old new = record {
  no_loop = all_append (λ (l : Link). l.from ≢ l.to) L M o.no_loop (λ m i. let h = new m i in omega arith);
  earlier = pairs_append Before L M o.earlier
      (pairs_all Before M (λ l i m j. let h = new l i in let e = new m j in omega arith))
      (λ l i m j. let h = old l i in let e = new m j in omega arith);
}

module _ (g : Graph) (s : Sound g) where
  pub alive_below : (x : ℕ) → Alive g x → x < g.next
  alive_below x (inl i) = (s.atom_given x i).1
  alive_below x (inr i) =
      let r = map_in (λ (q : Node). q.id) g.plans i in
      let h = s.plan_given r.0 r.1 in
      omega (arith, r.2)

  pub plan_one : (p : Node) → In p g.plans → (q : Node) → In q g.plans → p.id ≡ q.id → p ≡ q
  plan_one p i q j e = ⊎_elim
      (λ h. h)
      (λ h. ⊎_elim (λ k. absurd (omega arith)) (λ k. absurd (omega arith)) h)
      (pairs_either (λ (p q : Node). p.id < q.id) s.plans_rise i j)

  module _ (b : Journal) (a : Agree g b) where
    old_link : (l : Link) → In l b.links → l.from < b.next
    old_link l i =
        let h = graph_links g s l ((a.same.same_links l).1 i) in
        let v = alive_below l.from h.1.0 in
        omega (arith, a.same.same_next)

    -- AN ATOM MORE
    agree_atom : Agree (change g atom_made) (entered b atom_made)
    agree_atom = record {
      same = record {
        same_atoms = cc (a.same.same_atoms, a.same.same_next);
        same_plans = a.same.same_plans;
        same_next = ap suc a.same.same_next;
        same_links = a.same.same_links;
      };
      order = a.order;
    }

    -- A PLAN MORE
    module _ (js : List ℕ) (ok : Fits g (plan_made js)) where
      abbrev new_node : Node
      new_node = record { id = g.next; justifications = rising_set js; subgoal = 0 }

      abbrev new_links : List Link
      new_links = justification_links b.next js

      plan_links : (l : Link) → In l (links (g.plans ++ (new_node ∷ []))) ↔ In l (b.links ++ new_links)
      plan_links l = (
        λ h. there (owner_of (g.plans ++ (new_node ∷ [])) l h),
        λ h. ⊎_elim back_old back_new (in_append b.links new_links h),
      )
        where
          new : Of new_node l → In l (b.links ++ new_links)
          new (inl u) = in_right b.links (in_cast (λ i. link l.from ((u.1 ∙ a.same.same_next) i)) (in_map (λ (j : ℕ). link j b.next) (rising_set_in js l.from u.0)))
          new (inr d) = absurd (d.2 refl)

          there : (q : Node) × In q (g.plans ++ (new_node ∷ [])) × Of q l → In l (b.links ++ new_links)
          there (q, i, o) = ⊎_elim
              (λ k. in_left new_links ((a.same.same_links l).0 (in_links l k o)))
              (λ k. new (subst (λ (p : Node). Of p l) (in_one k) o))
              (in_append g.plans (new_node ∷ []) i)

          back_old : In l b.links → In l (links (g.plans ++ (new_node ∷ [])))
          back_old k = let r = owner_of g.plans l ((a.same.same_links l).1 k) in in_links l (in_left (new_node ∷ []) r.1) r.2

          back_new : In l new_links → In l (links (g.plans ++ (new_node ∷ [])))
          back_new k =
              let r = map_in (λ (j : ℕ). link j b.next) js k in
              in_links l (in_right g.plans (first refl)) (inl (in_cast (link_from r.2) (in_rising_set js r.0 r.1), link_to r.2 ∙ sym a.same.same_next))

      agree_plan : Agree (change g (plan_made js)) (entered b (plan_made js))
      agree_plan = record {
        same = record {
          same_atoms = a.same.same_atoms;
          same_plans = map_append (λ (q : Node). q.id) g.plans (new_node ∷ []) ∙ cc (a.same.same_plans, a.same.same_next);
          same_next = ap suc a.same.same_next;
          same_links = plan_links;
        };
        order = order_more b.links new_links b.next a.order old_link
            (λ m i. let r = map_in (λ (j : ℕ). link j b.next) js i in
            let f : m.from ≡ r.0 = link_from r.2 in
            let h = s.atom_given r.0 (ok.3 r.0 r.1) in
            (link_to r.2, omega (arith, a.same.same_next)));
      }

    -- A SUBGOAL ATOM MORE, for the plan k
    module _ (k : ℕ) (ok : Fits g (subgoal_made k)) where
      abbrev with_link : Node → Node
      with_link = linked k g.next

      abbrev new_link : List Link
      new_link = link k b.next ∷ []

      subgoal_links : (l : Link) → In l (links (map with_link g.plans)) ↔ In l (b.links ++ new_link)
      subgoal_links l = (
        λ h. there (owner_of (map with_link g.plans) l h),
        λ h. ⊎_elim back_old back_new (in_append b.links new_link h),
      )
        where
          of : (q : Node) → In q g.plans → Of (with_link q) l → In l (b.links ++ new_link)
          of q i (inl u) = in_left new_link ((a.same.same_links l).0 (in_links l i (inl u)))
          of q i (inr d) = ⊎_elim
              (λ c. in_right b.links (first (λ z. link ((d.0 ∙ eqb-true q.id k c.0) z) ((d.1 ∙ c.1 ∙ a.same.same_next) z))))
              (λ c. in_left new_link ((a.same.same_links l).0 (in_links l i (inr (d.0, d.1 ∙ c.1, λ v. d.2 (c.1 ∙ v))))))
              (choose_cases (eqb q.id k) g.next q.subgoal)

          there : (q : Node) × In q (map with_link g.plans) × Of q l → In l (b.links ++ new_link)
          there (q, i, o) = let r = map_in with_link g.plans i in of r.0 r.1 (subst (λ (p : Node). Of p l) r.2 o)

          back : (q : Node) → In q g.plans → Of q l → In l (links (map with_link g.plans))
          back q i (inl u) = in_links l (in_map with_link i) (inl u)
          back q i (inr d) = ⊎_elim
              (λ c. let e : q ≡ ok.0 = plan_one q i ok.0 ok.1 (eqb-true q.id k c.0 ∙ sym ok.2) in
              absurd (d.2 (ap (λ (p : Node). p.subgoal) e ∙ ok.3)))
              (λ c. in_links l (in_map with_link i) (inr (d.0, d.1 ∙ sym c.1, λ v. d.2 (sym c.1 ∙ v))))
              (choose_cases (eqb q.id k) g.next q.subgoal)

          back_old : In l b.links → In l (links (map with_link g.plans))
          back_old h = let r = owner_of g.plans l ((a.same.same_links l).1 h) in back r.0 r.1 r.2

          back_new : In l new_link → In l (links (map with_link g.plans))
          back_new h =
              let e = in_one h in
              let w : (with_link ok.0).subgoal ≡ g.next = ap (λ (t : Bool). choose t g.next ok.0.subgoal) (eq-eqb ok.0.id k ok.2) in
              let z = s.next_pos in
              in_links l (in_map with_link ok.1)
              (inr (link_from e ∙ sym ok.2, link_to e ∙ sym a.same.same_next ∙ sym w, λ v. absurd (omega (arith, w, v))))

      agree_subgoal : Agree (change g (subgoal_made k)) (entered b (subgoal_made k))
      agree_subgoal = record {
        same = record {
          same_atoms = cc (a.same.same_atoms, a.same.same_next);
          same_plans = map_map with_link (λ (q : Node). q.id) g.plans ∙ a.same.same_plans;
          same_next = ap suc a.same.same_next;
          same_links = subgoal_links;
        };
        order = order_more b.links new_link b.next a.order old_link
            (λ m i. let e = in_one i in
            let f : m.from ≡ k = link_from e in
            let h = s.plan_given ok.0 ok.1 in
            (link_to e, omega (arith, a.same.same_next, ok.2)));
      }

    -- A DELETION
    module _ (t : ℕ) where
      abbrev D : List ℕ
      D = reached (links g.plans) t

      abbrev E : List ℕ
      E = reached b.links t

      -- the journal's own pass finds what the graph's finds
      pub same_reached : (x : ℕ) → member x D ≡ member x E
      same_reached x = member_same x D E
          (λ h. (swept b.links a.order t x).1 (reach_more (λ l i. (a.same.same_links l).0 i) ((reached_is g s t x).0 h)))
          (λ h. (reached_is g s t x).1 (reach_more (λ l i. (a.same.same_links l).1 i) ((swept b.links a.order t x).0 h)))

      same_survives : (x : ℕ) → survives D x ≡ survives E x
      same_survives x = ap not (same_reached x)

      both_survive : (l : Link) → survives D l.from ≡ true → survives D l.to ≡ true → (survives E l.from && survives E l.to) ≡ true
      both_survive l f h = (and-eq-true_iff _ _).1 (sym (same_survives l.from) ∙ f, sym (same_survives l.to) ∙ h)

      deletion_links : (l : Link) → In l (links (change g (deletion t)).plans) ↔ In l (entered b (deletion t)).links
      deletion_links l = (λ h. there (owner_of (change g (deletion t)).plans l h), λ h. back (keep_in _ b.links h))
        where
          shut : (m : Link) → In m (links g.plans) → In m.from D → In m.to D
          shut = reached_closed (links g.plans) (ordered_graph g s) t

          of : (q : Node) → In q g.plans → stays D q ≡ true → Of (unlinked D q) l → In l (entered b (deletion t)).links
          of q i e (inl u) =
              in_keep _ ((a.same.same_links l).0 (in_links l i (inl u)))
              (both_survive l (just_stays g s D shut q i e l.from u.0) (ap (survives D) u.1 ∙ e))
          of q i e (inr d) =
              let c = subgoal_left g s D shut q d.2 in
              in_keep _ ((a.same.same_links l).0 (in_links l i (inr (d.0, d.1 ∙ c.0, λ v. d.2 (c.0 ∙ v)))))
              (both_survive l (ap (survives D) d.0 ∙ e) (ap (survives D) (d.1 ∙ c.0) ∙ c.1))

          there : (q : Node) × In q (change g (deletion t)).plans × Of q l → In l (entered b (deletion t)).links
          there (q, i, o) =
              let r = map_in (unlinked D) (keep (stays D) g.plans) i in
              let k = keep_in (stays D) g.plans r.1 in
              of r.0 k.0 k.1 (subst (λ (p : Node). Of p l) r.2 o)

          left : (q : Node) → In q g.plans → Of q l → survives D l.from ≡ true → survives D l.to ≡ true → In l (links (change g (deletion t)).plans)
          left q i (inl u) f h = in_links l (in_map (unlinked D) (in_keep (stays D) i (ap (survives D) (sym u.1) ∙ h))) (inl u)
          left q i (inr d) f h =
              let kept = not-true (member q.subgoal D) (ap (survives D) (sym d.1) ∙ h) in
              let w : (unlinked D q).subgoal ≡ q.subgoal = ap (λ (c : Bool). choose c 0 q.subgoal) (loses_member D q.subgoal d.2 ∙ kept) in
              in_links l (in_map (unlinked D) (in_keep (stays D) i (ap (survives D) (sym d.0) ∙ f))) (inr (d.0, d.1 ∙ sym w, λ v. d.2 (sym w ∙ v)))

          back : In l b.links × ((survives E l.from && survives E l.to) ≡ true) → In l (links (change g (deletion t)).plans)
          back (h, e) =
              let r = owner_of g.plans l ((a.same.same_links l).1 h) in
              let k = (and-eq-true_iff _ _).0 e in
              left r.0 r.1 r.2 (same_survives l.from ∙ k.0) (same_survives l.to ∙ k.1)

      pub agree_deletion : Agree (change g (deletion t)) (entered b (deletion t))
      agree_deletion = record {
        same = record {
          same_atoms = keep_same _ _ g.atoms same_survives ∙ ap (keep (survives E)) a.same.same_atoms;
          same_plans = ids_unlinked D g.plans ∙ keep_same _ _ (node_ids g.plans) same_survives ∙ ap (keep (survives E)) a.same.same_plans;
          same_next = a.same.same_next;
          same_links = deletion_links;
        };
        order = record {
          no_loop = λ l i. a.order.no_loop l (keep_in _ b.links i).0;
          earlier = pairs_keep Before _ b.links a.order.earlier;
        };
      }

pub agree : (g : Graph) (e : Event) (b : Journal) → Sound g → Fits g e → Agree g b → Agree (change g e) (entered b e)
agree g atom_made b s ok a = agree_atom g s b a
agree g (plan_made js) b s ok a = agree_plan g s b a js ok
agree g (subgoal_made k) b s ok a = agree_subgoal g s b a k ok
agree g (deletion t) b s ok a = agree_deletion g s b a t

pub agree_all : (g : Graph) (es : List Event) (b : Journal) → Sound g → AllFit g es → Agree g b → Agree (changes g es) (all_entered b es)
agree_all g [] b s ok a = a
agree_all g (e ∷ es) b s ok a = agree_all (change g e) es (entered b e) (keeps g e s ok.0) ok.1 (agree g e b s ok.0 a)

-- at each deletion the journal's pass is exact
exact_one : (g : Graph) (e : Event) (es : List Event) (b : Journal) → Agree g b → Exact (entered b e) es → Exact b (e ∷ es)
exact_one g atom_made es b a h = h
exact_one g (plan_made js) es b a h = h
exact_one g (subgoal_made k) es b a h = h
exact_one g (deletion t) es b a h = (swept b.links a.order t, h)

pub exact_all : (g : Graph) (es : List Event) (b : Journal) → Sound g → AllFit g es → Agree g b → Exact b es
exact_all g [] b s ok a = tt
exact_all g (e ∷ es) b s ok a = exact_one g e es b a (exact_all (change g e) es (entered b e) (keeps g e s ok.0) ok.1 (agree g e b s ok.0 a))
