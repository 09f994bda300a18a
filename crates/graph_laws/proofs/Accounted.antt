-- Demand 3: over every list of events that fit, and over every list of calls whose work is faithful.
use mathlib.Core.Path.{◌≡◌, refl, sym, ap, ◌∙◌}
use mathlib.Core.Logic.{inl, inr, ⊎_elim}
use mathlib.Core.List.{List, [], ◌∷◌}
use Prim.Native.Nat.{ℕ, suc, ◌<◌}
use native.Mathlib.Omega.{arith}
use Rattle.lists.specs.Lists.{In, count_up}
use Rattle.lists.proofs.Lists.{in_nil, pairs_append}
use Rattle.lists.proofs.Tests.{count_up_in, count_up_rises, count_up_append, length_count_up}
use Rattle.model.specs.Graph.{Graph, Sound, Alive, initial_graph}
use Rattle.model.specs.Events.{Event, changes, AllFit, all_made, all_gone}
use Rattle.model.specs.Journal.{new_journal}
use Rattle.model.specs.Configuration.{Config}
use Rattle.model.specs.Deletion.{graph}
use Rattle.model.specs.Log.{events_of}
use Rattle.model.specs.Claims.{Accounted, Call, work, reply, config_after, events_after, made_after, gone_after}
use Rattle.graph_laws.specs.Faithful.{Faithful, After, Emits}
use Rattle.graph_laws.proofs.Links.{graph_links}
use Rattle.graph_laws.proofs.Keeps.{keeps_all}
use Rattle.graph_laws.proofs.Agree.{agree_all, exact_all}
use Rattle.graph_laws.proofs.Initial.{initial_sound, initial_agree}
use Rattle.graph_laws.proofs.History.{history, given_in_turn}
use Rattle.graph_laws.proofs.Count.{changes_size, same_gone_all}
use Rattle.graph_laws.proofs.Turns.{changes_append, fit_append, made_append, gone_append}
use Rattle.graph_laws.proofs.Faithful.{emits}

-- for every list of events that fit
pub accounted_for : (i : ℕ) (es : List Event) → AllFit (initial_graph i) es →
    Accounted i es (changes (initial_graph i) es) (all_made es) (all_gone (initial_graph i) es)
accounted_for i es ok = record {
  sound = s;
  links_rise = λ l h. (graph_links g s l h).0;
  links_alive = λ l h. (graph_links g s l h).1;
  ids_once = rw (given_in_turn (initial_graph i) es) (pairs_append (λ (x y : ℕ). x < y) (count_up 1 i) (count_up (suc i) (all_made es))
      (count_up_rises 1 i)
      (count_up_rises (suc i) (all_made es))
      (λ x h y k. let a = count_up_in 1 i x h in let b = count_up_in (suc i) (all_made es) y k in omega arith));
  ids_in_turn = rw (given_in_turn (initial_graph i) es) (count_up_append 1 i (all_made es) (suc i) (omega arith));
  alive_when = λ x. (
    λ h. ⊎_elim (λ k. inl (only x k.0, k.1)) (λ k. inr k) ((history x (initial_graph i) es (initial_sound i) ok).0 h),
    λ h. (history x (initial_graph i) es (initial_sound i) ok).1 (⊎_elim (λ k. inl (inl k.0, k.1)) (λ k. inr k) h),
  );
  as_journal = (agree_all (initial_graph i) es (new_journal i) (initial_sound i) ok (initial_agree i)).same;
  journal_exact = exact_all (initial_graph i) es (new_journal i) (initial_sound i) ok (initial_agree i);
  adds_up = let a = changes_size (initial_graph i) es in let b = length_count_up 1 i in omega arith;
  gone_as_journal = same_gone_all (initial_graph i) es (new_journal i) (initial_sound i) ok (initial_agree i);
}
  where
    g : Graph
    g = changes (initial_graph i) es

    s : Sound (changes (initial_graph i) es)
    s = keeps_all (initial_graph i) es (initial_sound i) ok

    only : (x : ℕ) → Alive (initial_graph i) x → In x (count_up 1 i)
    only x (inl h) = h
    only x (inr h) = in_nil h

-- for every list of calls
module _ (each : (k : Call) (c : Config) → Sound (graph c) → After (Faithful c) (work k c)) where
  emits_each : (k : Call) (c : Config) → Sound (graph c) → Emits c (reply k c) (events_of (work k c))
  emits_each k c s = emits c (work k c) s (each k c s)

  pub all_fit : (c : Config) (ks : List Call) → Sound (graph c) → AllFit (graph c) (events_after c ks)
  all_fit c [] s = tt
  all_fit c (k ∷ ks) s =
      let e = emits_each k c s in
      fit_append (graph c) (events_of (work k c)) (events_after (reply k c).config ks) e.fits (rw (← e.turns) (all_fit (reply k c).config ks e.stays))

  pub all_turn : (c : Config) (ks : List Call) → Sound (graph c) → graph (config_after c ks) ≡ changes (graph c) (events_after c ks)
  all_turn c [] s = refl
  all_turn c (k ∷ ks) s =
      let e = emits_each k c s in
      all_turn (reply k c).config ks e.stays
      ∙ ap (λ (g : Graph). changes g (events_after (reply k c).config ks)) e.turns
      ∙ sym (changes_append (graph c) (events_of (work k c)) (events_after (reply k c).config ks))

  made_sums : (c : Config) (ks : List Call) → Sound (graph c) → made_after c ks ≡ all_made (events_after c ks)
  made_sums c [] s = refl
  made_sums c (k ∷ ks) s =
      let e = emits_each k c s in
      let a = made_sums (reply k c).config ks e.stays in
      let b = made_append (events_of (work k c)) (events_after (reply k c).config ks) in
      omega (arith, e.made_is)

  gone_sums : (c : Config) (ks : List Call) → Sound (graph c) → gone_after c ks ≡ all_gone (graph c) (events_after c ks)
  gone_sums c [] s = refl
  gone_sums c (k ∷ ks) s =
      let e = emits_each k c s in
      let rest : List Event = events_after (reply k c).config ks in
      let a = gone_sums (reply k c).config ks e.stays in
      let b = gone_append (graph c) (events_of (work k c)) rest in
      let d : all_gone (graph (reply k c).config) rest ≡ all_gone (changes (graph c) (events_of (work k c))) rest =
      ap (λ (g : Graph). all_gone g rest) e.turns in
      omega (arith, e.gone_is)

  pub accounted : (i : ℕ) (c : Config) → graph c ≡ initial_graph i → (ks : List Call) →
      Accounted i (events_after c ks) (graph (config_after c ks)) (made_after c ks) (gone_after c ks)
  accounted i c z ks =
      let s : Sound (graph c) = rw z (initial_sound i) in
      rw (all_turn c ks s, made_sums c ks s, gone_sums c ks s, z) (accounted_for i (events_after c ks) (rw z at (all_fit c ks s)))
