-- A deletion removes exactly what is reached, in the paper's words, on every configuration whose graph is sound.
use mathlib.Core.Path.{◌≡◌, refl, sym, ap, ◌∙◌}
use mathlib.Core.Bool.{Bool, true, false, not, and-eq-true_iff}
use mathlib.Core.Logic.Iff
use mathlib.Core.Logic.{◌⊎◌, inl, inr}
use mathlib.Core.List.{List}
use Prim.Native.Nat.{ℕ, zero, suc, ◌-◌}
use native.Mathlib.Omega.{arith}
use borrow.Author.Tests.{not-true}
use Rattle.lists.specs.Lists.{In, keep, member, bit}
use Rattle.lists.proofs.Lists.{in_cast, in_map, in_keep, keep_in, in_member, out_member, member_out, map_map, map_keep}
use Rattle.model.specs.Graph.{Graph, node_ids, reached, survives, loses_subgoal, choose, Sound}
use Rattle.model.specs.Journal.{Journal}
use Rattle.model.specs.declared.Atom.{Atom}
use Rattle.model.specs.Configuration.{Plan, Config, plan_ids}
use Rattle.model.specs.Deletion.{graph, links_in, plan_without, remove, LeadsTo, Deleted}
use Rattle.model.specs.Claims.{ReachedExactly, DeletesExactly}
use Rattle.graph_laws.proofs.Links.{ordered_graph, reached_is}
use Rattle.graph_laws.proofs.Keeps.{loses_member, loses_zero}
use Rattle.graph_laws.proofs.Agree.{Agree, agree_deletion}
use Rattle.graph_laws.proofs.Turns.{turns_remove}

module _ (c : Config) (s : Sound (graph c)) (t : ℕ) where
  D : List ℕ
  D = reached (links_in c) t

  out : (x : ℕ) → survives D x ≡ true → ¬ LeadsTo c t x
  unfolding D
  out x e h = member_out (not-true (member x D) e) ((reached_is (graph c) s t x).1 h)

  safe : (x : ℕ) → ¬ LeadsTo c t x → survives D x ≡ true
  unfolding D
  safe x h = ap not (out_member x D (λ i. h ((reached_is (graph c) s t x).0 i)))

  -- the graph's own links, as a journal
  journal : Journal
  journal = record { atoms = (graph c).atoms; plans = node_ids (graph c).plans; links = links_in c; next = c.next }

  agrees : Agree (graph c) journal
  unfolding journal
  agrees = record {
    same = record { same_atoms = refl; same_plans = refl; same_next = refl; same_links = λ l. Iff.rfl };
    order = ordered_graph (graph c) s;
  }

  -- a plan that survives, with or without its subgoal
  left_as : Bool → Plan → Plan
  left_as b q = record {
    id = q.id;
    set = q.set;
    rule = q.rule;
    values = q.values;
    left = q.left - bit b;
    justifications = q.justifications;
    subgoal = choose b 0 q.subgoal;
    flags = q.flags;
  }

  stays : (q : Plan) (b : Bool) → In q c.plans → ¬ LeadsTo c t q.id → loses_subgoal D q.subgoal ≡ b → In (left_as b q) (remove t c).plans
  unfolding D left_as
  stays q b i h e = in_cast (ap (λ (v : Bool). left_as v q) (sym e)) (in_map (plan_without D) (in_keep (λ (p : Plan). survives D p.id) i (safe q.id h)))

  whole : (q : Plan) → q ≡ left_as false q
  unfolding left_as
  whole q =
      let e : q.left ≡ q.left - 0 = omega arith in
      λ i. record {
        id = q.id;
        set = q.set;
        rule = q.rule;
        values = q.values;
        left = e i;
        justifications = q.justifications;
        subgoal = q.subgoal;
        flags = q.flags;
      }

  pub deleted : Deleted t c (remove t c)
  unfolding D left_as journal
  deleted = record {
    atoms_left = λ x. (
      λ h. let k = keep_in (λ (y : Atom). survives D y.id) c.atoms h in (k.0, out x.id k.1),
      λ h. in_keep (λ (y : Atom). survives D y.id) h.0 (safe x.id h.1),
    );
    plans_left = λ k. rw ids_left (
      λ h. let r = keep_in (survives D) (plan_ids c) h in (r.0, out k r.1),
      λ h. in_keep (survives D) h.0 (safe k h.1),
    );
    links_left = λ l. rw (ap (λ (g : Graph). g.plans) (turns_remove t c)) (
      λ h. let r = keep_in _ (links_in c) (((agree_deletion (graph c) s journal agrees t).same.same_links l).0 h) in
          let b = (and-eq-true_iff _ _).0 r.1 in
          (r.0, out l.from b.0, out l.to b.1),
      λ h. ((agree_deletion (graph c) s journal agrees t).same.same_links l).1
          (in_keep _ h.0 ((and-eq-true_iff _ _).1 (safe l.from h.1, safe l.to h.2))),
    );
    plan_kept = λ q i h w. in_cast (whole q) (stays q false i h (kept q.subgoal w));
    plan_shortened = λ q i h z w. stays q true i h (loses_member D q.subgoal z ∙ in_member ((reached_is (graph c) s t q.subgoal).1 w));
    next_kept = refl;
    scalars_kept = record { same_phase = refl; same_cycle = refl; same_waiting = refl };
  }
    where
      ids_left : plan_ids (remove t c) ≡ keep (survives D) (plan_ids c)
      ids_left =
          map_map (plan_without D) (λ (q : Plan). q.id) (keep (λ (q : Plan). survives D q.id) c.plans)
          ∙ map_keep (λ (q : Plan). q.id) (survives D) c.plans

      kept : (k : ℕ) → (k ≡ 0) ⊎ (¬ LeadsTo c t k) → loses_subgoal D k ≡ false
      kept k (inl e) = loses_zero D k e
      kept zero (inr h) = refl
      kept (suc k) (inr h) = not-true (member (suc k) D) (safe (suc k) h)

pub reached_exactly : ReachedExactly
unfolding ReachedExactly
reached_exactly c s t x = reached_is (graph c) s t x

pub deletes_exactly : DeletesExactly
unfolding DeletesExactly
deletes_exactly c s t = deleted c s t
