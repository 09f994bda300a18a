-- What a call emits tells what it does to the graph: at the start, after each emission, and in its answer.
use mathlib.Core.Path.{◌≡◌, refl, sym, ap, ◌∙◌}
use mathlib.Core.List.{List, [], ◌∷◌}
use Prim.Native.Nat.{ℕ, ◌+◌}
use native.Mathlib.Omega.{arith}
use Rattle.model.specs.Graph.{Graph, Sound}
use Rattle.model.specs.Events.{Event, atom_made, plan_made, subgoal_made, deletion, change, changes, Fits, made_by, gone_by, all_made}
use Rattle.model.specs.Configuration.{Config, add_atom, add_plan, add_subgoal}
use Rattle.model.specs.Deletion.{graph, remove}
use Rattle.model.specs.Log.{Log, begin, emit, emit_atom, emit_plan, emit_subgoal, emit_deletion, quiet, report, Did, Outcome, refused, accepted, answer_of, events_of}
use Rattle.graph_laws.specs.Faithful.{Faithful, After, Emits}
use Rattle.graph_laws.proofs.Keeps.{keeps_all}
use Rattle.graph_laws.proofs.Turns.{changes_append, fit_append, gone_append, turns_atom, turns_plan, turns_subgoal, turns_remove}
use Rattle.lists.specs.Lists.{rising_set}

pub faithful_begin : (c : Config) → Faithful c (begin c)
faithful_begin c = record { fits = tt; turns = refl; gone_is = refl }

module _ (c : Config) (L : Log) (f : Faithful c L) where
  pub faithful_emit : (d : Config) (e : Event) → Fits (graph L.config) e → graph d ≡ change (graph L.config) e → Faithful c (emit L d e)
  faithful_emit d e ok t = record {
    fits = fit_append (graph c) L.events (e ∷ []) f.fits (rw (← f.turns) (ok, tt));
    turns = t ∙ ap (λ (g : Graph). change g e) f.turns ∙ sym (changes_append (graph c) L.events (e ∷ []));
    gone_is =
        let a = gone_append (graph c) L.events (e ∷ []) in
        let b : gone_by (graph L.config) e ≡ gone_by (changes (graph c) L.events) e = ap (λ (g : Graph). gone_by g e) f.turns in
        omega (arith, f.gone_is);
  }

  pub faithful_atom : (p a b : ℕ) → Faithful c (emit_atom p a b L)
  faithful_atom p a b = faithful_emit (add_atom p a b L.config) atom_made tt (turns_atom p a b L.config)

  pub faithful_plan : (s n : ℕ) (values : List ℕ) (left : ℕ) (js : List ℕ) → Fits (graph L.config) (plan_made js) →
      Faithful c (emit_plan s n values left js L)
  faithful_plan s n values left js ok = faithful_emit (add_plan s n values left (rising_set js) L.config) (plan_made js) ok (turns_plan s n values left js L.config)

  pub faithful_subgoal : (k p a b : ℕ) → Fits (graph L.config) (subgoal_made k) → Faithful c (emit_subgoal k p a b L)
  faithful_subgoal k p a b ok = faithful_emit (add_subgoal k p a b L.config) (subgoal_made k) ok (turns_subgoal k p a b L.config)

  pub faithful_deletion : (t : ℕ) → Faithful c (emit_deletion t L)
  faithful_deletion t = faithful_emit (remove t L.config) (deletion t) tt (turns_remove t L.config)

  pub faithful_quiet : (h : Config → Config) → graph (h L.config) ≡ graph L.config → Faithful c (quiet h L)
  faithful_quiet h e = record { fits = f.fits; turns = e ∙ f.turns; gone_is = f.gone_is }

  pub faithful_report : (d : Did) → Faithful c (report d L)
  faithful_report d = record { fits = f.fits; turns = f.turns; gone_is = f.gone_is }

  -- soundness goes along
  pub faithful_sound : Sound (graph c) → Sound (graph L.config)
  faithful_sound s = rw f.turns (keeps_all (graph c) L.events s f.fits)

-- what is made raises the next id
pub change_next : (g : Graph) (e : Event) → (change g e).next ≡ g.next + made_by e
change_next g atom_made = omega arith
change_next g (plan_made js) = omega arith
change_next g (subgoal_made k) = omega arith
change_next g (deletion t) = omega arith

pub changes_next : (g : Graph) (es : List Event) → (changes g es).next ≡ g.next + all_made es
changes_next g [] = omega arith
changes_next g (e ∷ es) = let a = change_next g e in let b = changes_next (change g e) es in omega arith

-- what demand 3 asks of a call, from what its work emitted
pub emits : (c : Config) (o : Outcome) → Sound (graph c) → After (Faithful c) o → Emits c (answer_of c o) (events_of o)
unfolding After answer_of events_of
emits c (refused n) s h = record { stays = s; fits = tt; turns = refl; made_is = refl; gone_is = refl }
emits c (accepted L) s f = record {
  stays = faithful_sound c L f s;
  fits = f.fits;
  turns = f.turns;
  made_is =
      let a = changes_next (graph c) L.events in
      let b : L.config.next ≡ (changes (graph c) L.events).next = ap (λ (g : Graph). g.next) f.turns in
      omega arith;
  gone_is = f.gone_is;
}
