-- Who is alive after a list of events, and which ids were given.
use mathlib.Core.Path.{◌≡◌, refl, sym, ap, subst}
use mathlib.Core.Bool.{true, not}
use mathlib.Core.Logic.{◌⊎◌, inl, inr, ⊎_elim, ◌↔◌}
use mathlib.Core.List.{List, [], ◌∷◌, ◌++◌}
use Prim.Native.Nat.{ℕ, ◌+◌}
use native.Mathlib.Omega.{arith}
use borrow.Author.Tests.{not-true}
use Rattle.lists.specs.Lists.{rising_set, In, first, keep, member, count_up}
use Rattle.lists.proofs.Lists.{in_one, in_left, in_right, in_append, in_keep, keep_in, out_member, member_out, map_append, map_map}
use Rattle.lists.proofs.Tests.{count_up_more}
use Rattle.model.specs.Graph.{Node, Graph, node_ids, links, Reach, reached, survives, Sound, Alive}
use Rattle.model.specs.Events.{linked, Event, atom_made, plan_made, subgoal_made, deletion, change, changes, AllFit, all_made}
use Rattle.model.specs.Journal.{Makes, ids_given, Spared, Born}
use Rattle.graph_laws.proofs.Links.{reached_is}
use Rattle.graph_laws.proofs.Keeps.{keeps}
use Rattle.graph_laws.proofs.Agree.{ids_unlinked}

-- `Spared` and `Born` by recursion on the events
abbrev Missed : Graph → Event → ℕ → Type 0
Missed g atom_made x = Unit {0}
Missed g (plan_made js) x = Unit {0}
Missed g (subgoal_made k) x = Unit {0}
Missed g (deletion t) x = ¬ Reach (links g.plans) t x

abbrev SparedFrom : Graph → List Event → ℕ → Type 0
SparedFrom g [] x = Unit {0}
SparedFrom g (e ∷ es) x = Missed g e x × SparedFrom (change g e) es x

abbrev BornFrom : Graph → List Event → ℕ → Type 0
BornFrom g [] x = ⊥
BornFrom g (e ∷ es) x = (Makes e × (x ≡ g.next) × SparedFrom (change g e) es x) ⊎ BornFrom (change g e) es x

module _ (x : ℕ) where
  spared_at : (g : Graph) (before : List Event) (t : ℕ) (after : List Event) →
      SparedFrom g (before ++ deletion t ∷ after) x → ¬ Reach (links (changes g before).plans) t x
  spared_at g [] t after h = h.0
  spared_at g (e ∷ es) t after h = spared_at (change g e) es t after h.1

  spared_to : (g : Graph) (es : List Event) → SparedFrom g es x → Spared g es x
  spared_to g es h before t after q = spared_at g before t after (subst (λ (fs : List Event). SparedFrom g fs x) q h)

  missed : (g : Graph) (e : Event) (es : List Event) → Spared g (e ∷ es) x → Missed g e x
  missed g atom_made es h = tt
  missed g (plan_made js) es h = tt
  missed g (subgoal_made k) es h = tt
  missed g (deletion t) es h = h [] t es refl

  spared_back : (g : Graph) (es : List Event) → Spared g es x → SparedFrom g es x
  spared_back g [] h = tt
  spared_back g (e ∷ es) h =
      (missed g e es h, spared_back (change g e) es (λ before t after q. h (e ∷ before) t after (ap {B = List Event} (λ (l : List Event). e ∷ l) q)))

  born_to : (g : Graph) (es : List Event) → BornFrom g es x → Born g es x
  born_to g [] h = absurd h
  born_to g (e ∷ es) (inl h) = record {
    before = [];
    event = e;
    after = es;
    stands = refl;
    makes = h.0;
    gets = h.1;
    spared = spared_to (change g e) es h.2;
  }
  born_to g (e ∷ es) (inr h) =
      let r = born_to (change g e) es h in
      record {
        before = e ∷ r.before;
        event = r.event;
        after = r.after;
        stands = ap {B = List Event} (λ (l : List Event). e ∷ l) r.stands;
        makes = r.makes;
        gets = r.gets;
        spared = r.spared;
      }

  born_at : (g : Graph) (before : List Event) (e : Event) (after : List Event) →
      Makes e → x ≡ (changes g before).next → SparedFrom (change (changes g before) e) after x → BornFrom g (before ++ e ∷ after) x
  born_at g [] e after m n h = inl (m, n, h)
  born_at g (d ∷ ds) e after m n h = inr (born_at (change g d) ds e after m n h)

  born_back : (g : Graph) (es : List Event) → Born g es x → BornFrom g es x
  born_back g es b = subst (λ (fs : List Event). BornFrom g fs x) (sym b.stands)
      (born_at g b.before b.event b.after b.makes b.gets
      (spared_back (change (changes g b.before) b.event) b.after b.spared))

  -- who is alive after one event: x was and was missed, or x is new
  atom_more : (xs ys : List ℕ) (k : ℕ) → (In x (xs ++ (k ∷ [])) ⊎ In x ys) ↔ (((In x xs ⊎ In x ys) × Unit {0}) ⊎ (Unit {0} × (x ≡ k)))
  atom_more xs ys k = (
    ⊎_elim (λ i. ⊎_elim (λ h. inl (inl h, tt)) (λ h. inr (tt, in_one h)) (in_append xs (k ∷ []) i)) (λ i. inl (inr i, tt)),
    ⊎_elim (λ h. ⊎_elim (λ i. inl (in_left (k ∷ []) i)) (λ i. inr i) h.0) (λ h. inl (in_right xs (first h.1))),
  )

  plan_more : (xs ys : List ℕ) (k : ℕ) → (In x xs ⊎ In x (ys ++ (k ∷ []))) ↔ (((In x xs ⊎ In x ys) × Unit {0}) ⊎ (Unit {0} × (x ≡ k)))
  plan_more xs ys k = (
    ⊎_elim (λ i. inl (inl i, tt)) (λ i. ⊎_elim (λ h. inl (inr h, tt)) (λ h. inr (tt, in_one h)) (in_append ys (k ∷ []) i)),
    ⊎_elim (λ h. ⊎_elim (λ i. inl i) (λ i. inr (in_left (k ∷ []) i)) h.0) (λ h. inr (in_right ys (first h.1))),
  )

  fewer : (D xs ys : List ℕ) (m : ℕ) (R : Type 0) → (In x D ↔ R) →
      (In x (keep (survives D) xs) ⊎ In x (keep (survives D) ys)) ↔ (((In x xs ⊎ In x ys) × (¬ R)) ⊎ (⊥ × (x ≡ m)))
  fewer D xs ys m R r = (
    ⊎_elim
        (λ i. let k = keep_in (survives D) xs i in inl (inl k.0, out k.1))
        (λ i. let k = keep_in (survives D) ys i in inl (inr k.0, out k.1)),
    ⊎_elim
        (λ h. ⊎_elim (λ i. inl (in_keep (survives D) i (safe h.1))) (λ i. inr (in_keep (survives D) i (safe h.1))) h.0)
        (λ h. absurd h.0),
  )
    where
      out : survives D x ≡ true → ¬ R
      out e h = member_out (not-true (member x D) e) (r.1 h)

      safe : ¬ R → survives D x ≡ true
      safe h = ap not (out_member x D (λ i. h (r.0 i)))

  alive_after : (g : Graph) (e : Event) → Sound g → Alive (change g e) x ↔ ((Alive g x × Missed g e x) ⊎ (Makes e × (x ≡ g.next)))
  alive_after g atom_made s = atom_more g.atoms (node_ids g.plans) g.next
  alive_after g (plan_made js) s =
      rw (map_append (λ (q : Node). q.id) g.plans (record { id = g.next; justifications = rising_set js; subgoal = 0 } ∷ []))
      (plan_more g.atoms (node_ids g.plans) g.next)
  alive_after g (subgoal_made k) s =
      rw (map_map (linked k g.next) (λ (q : Node). q.id) g.plans)
      (atom_more g.atoms (node_ids g.plans) g.next)
  alive_after g (deletion t) s =
      rw (ids_unlinked (reached (links g.plans) t) g.plans)
      (fewer (reached (links g.plans) t) g.atoms (node_ids g.plans) g.next (Reach (links g.plans) t x) (reached_is g s t x))

  history_from : (g : Graph) (es : List Event) → Sound g → AllFit g es → Alive (changes g es) x ↔ ((Alive g x × SparedFrom g es x) ⊎ BornFrom g es x)
  history_from g [] s ok = (λ h. inl (h, tt), ⊎_elim (λ k. k.0) (λ k. absurd k))
  history_from g (e ∷ es) s ok = join (alive_after g e s) (history_from (change g e) es (keeps g e s ok.0) ok.1)
    where
      join : Alive (change g e) x ↔ ((Alive g x × Missed g e x) ⊎ (Makes e × (x ≡ g.next))) →
          Alive (changes g (e ∷ es)) x ↔ ((Alive (change g e) x × SparedFrom (change g e) es x) ⊎ BornFrom (change g e) es x) →
          Alive (changes g (e ∷ es)) x ↔ ((Alive g x × SparedFrom g (e ∷ es) x) ⊎ BornFrom g (e ∷ es) x)
      join a r = (
        λ h. ⊎_elim
            (λ k. ⊎_elim (λ u. inl (u.0, (u.1, k.1))) (λ u. inr (inl (u.0, u.1, k.1))) (a.0 k.0))
            (λ k. inr (inr k))
            (r.0 h),
        ⊎_elim
            (λ k. r.1 (inl (a.1 (inl (k.0, k.1.0)), k.1.1)))
            (⊎_elim (λ k. r.1 (inl (a.1 (inr (k.0, k.1)), k.2))) (λ k. r.1 (inr k))),
      )

  pub history : (g : Graph) (es : List Event) → Sound g → AllFit g es → Alive (changes g es) x ↔ ((Alive g x × Spared g es x) ⊎ Born g es x)
  history g es s ok = let r = history_from g es s ok in (
    λ h. ⊎_elim (λ k. inl (k.0, spared_to g es k.1)) (λ k. inr (born_to g es k)) (r.0 h),
    λ h. r.1 (⊎_elim (λ k. inl (k.0, spared_back g es k.1)) (λ k. inr (born_back g es k)) h),
  )

-- ids are given in turn
pub given_in_turn : (g : Graph) (es : List Event) → ids_given g es ≡ count_up g.next (all_made es)
given_in_turn g [] = refl
given_in_turn g (atom_made ∷ es) = count_up_more g.next (all_made es) (given_in_turn (change g atom_made) es)
given_in_turn g (plan_made js ∷ es) = count_up_more g.next (all_made es) (given_in_turn (change g (plan_made js)) es)
given_in_turn g (subgoal_made k ∷ es) = count_up_more g.next (all_made es) (given_in_turn (change g (subgoal_made k)) es)
given_in_turn g (deletion t ∷ es) = let h : 0 + all_made es ≡ all_made es = omega arith in rw h (given_in_turn (change g (deletion t)) es)
