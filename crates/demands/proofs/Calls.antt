-- Every call keeps what is well formed, and demand 3.
use mathlib.Core.Path.{◌≡◌, refl, sym, ap, subst}
use mathlib.Core.Bool.{true, not, and-eq-true_iff}
use mathlib.Core.List.{List, [], ◌∷◌}
use Prim.Native.Nat.{ℕ, ◌+◌, ◌≤◌}
use native.Mathlib.Omega.{arith}
use lib.Dec.{eqb, leb, ltb}
use lib.ListN.{length}
use borrow.Author.Tests.{eqb-true, eqb-false, leb-true, leb-false, not-false}
use Rattle.lists.specs.Lists.{In, first, keep, every}
use Rattle.lists.proofs.Lists.{keep_in}
use Rattle.lists.proofs.Tests.{and2}
use Rattle.program_laws.proofs.Tests.{or_neither_right}
use Rattle.model.specs.declared.Row.{Row}
use Rattle.model.specs.Program.{sets, initial_atoms}
use Rattle.model.specs.Configuration.{Config, fresh, with_phase}
use Rattle.model.specs.Graph.{Graph, Sound}
use Rattle.model.specs.Deletion.{graph}
use Rattle.model.specs.Render.{well_formed}
use Rattle.model.specs.WellFormed.{config_formed, given_well}
use Rattle.model.specs.Matching.{Firing, firing}
use Rattle.model.specs.Log.{moved_on, Log, begin, Outcome, refused, accepted, unless, answer_of}
use Rattle.model.specs.Calls.{Reading, in_range, sense_rows, sense, fire_first, is_due, step, answer, delete}
use Rattle.model.specs.Claims.{Call, to_sense, to_step, to_answer, to_delete, work, program_of, reply, DemandThree, KeepsWellFormed}
use Rattle.graph_laws.specs.Faithful.{Faithful, After}
use Rattle.graph_laws.proofs.After.{after_then, after_unless, after_if, after_done, after_map, after_of}
use Rattle.graph_laws.proofs.Faithful.{faithful_quiet, faithful_report, faithful_sound, changes_next}
use Rattle.graph_laws.proofs.Initial.{initial_sound}
use Rattle.graph_laws.proofs.Accounted.{accounted}
use Rattle.program_laws.specs.Lawful.{Lawful}
use Rattle.program_laws.proofs.Lawful.{lawful}
use Rattle.program_laws.proofs.WellFormed.{loads_well_formed}
use Rattle.demands.proofs.Shape.{Shaped, formed_shaped, shaped_formed}
use Rattle.demands.proofs.Kept.{shaped_phase}
use Rattle.demands.proofs.Good.{Kept, Good, kept, good_begin, good_deletion, good_rows, good_sensed, kept_answer}
use Rattle.demands.proofs.Fire.{fire_good}
use Rattle.demands.proofs.Exec.{exec_kept}
use Rattle.demands.proofs.Fresh.{fresh_graph, fresh_shaped}

module _ (program : List Row) (c : Config) where
  -- at the end of an accepted call: in shape, its events told; and what its first test said
  pub record Ends (L : Log) : Type 0 where
    pub ends : Kept program c L
    pub sound : Sound (graph c)
    pub lawful_program : well_formed program ≡ true

  -- refusal 1 is tested first
  guarded : (o : Outcome) → (Lawful program → Sound (graph c) → Shaped program c → After (Kept program c) o) → After Ends (unless (not (given_well program c)) 1 o)
  unfolding given_well
  guarded o h = after_unless Ends _ _ _ (λ e.
      let a = (and-eq-true_iff (well_formed program) (config_formed program c)).0 (not-false _ e) in
      let b = formed_shaped program c a.1 in
      after_map (Kept program c) Ends o (λ L k. record { ends = k; sound = b.0; lawful_program = a.0 }) (h (lawful program a.0) b.0 b.1))

  sense_ends : (rs : List Reading) → After Ends (sense program c rs)
  unfolding sense
  sense_ends rs = guarded _ (λ l s w. after_unless (Kept program c) _ _ _ (λ e. after_unless (Kept program c) _ _ _ (λ f.
      after_then (Good program c) (Kept program c) (sense_rows program rs (begin c)) _
      (good_rows program c l rs (not-false (every in_range rs) (or_neither_right (ltb 64 (length rs)) (not (every in_range rs)) f)) (begin c) (good_begin program c w (eqb-true c.waiting 0 (not-false _ (or_neither_right (not (eqb c.phase 0)) (not (eqb c.waiting 0)) e)))))
      (λ L g. after_done (Kept program c) _ (good_sensed program c L g)))))

  fire_first_kept : Lawful program → Sound (graph c) → Shaped program c → c.waiting ≡ 0 → c.phase ≤ sets program → (fs : List Firing) → ((f : Firing) → In f fs → In f (firing program c c.phase)) → After (Kept program c) (fire_first program c fs)
  unfolding fire_first
  fire_first_kept l s w z h [] k = after_done (Kept program c) _ (record { faithful = faithful_report c _ (faithful_quiet c (begin c) (good_begin program c w z).faithful (with_phase (c.phase + 1)) refl) moved_on; shaped = shaped_phase program c w z (c.phase + 1) (omega arith) })
  fire_first_kept l s w z h (f ∷ fs) k = after_map (Good program c) (Kept program c) _ (kept program c) (fire_good program c l s w z c.phase f (k f (first refl)))

  pub step_ends : After Ends (step program c)
  unfolding step
  step_ends = guarded _ (λ l s w. after_unless (Kept program c) _ _ _ (λ e.
      let z = eqb-true c.waiting 0 (not-false _ (or_neither_right (eqb c.phase 0) (not (eqb c.waiting 0)) e)) in
      after_if (Kept program c) (leb c.phase (sets program)) _ _
      (λ f. fire_first_kept l s w z (leb-true c.phase (sets program) f) (firing program c c.phase) (λ g i. i))
      (λ f. exec_kept program c l s w z (leb-false c.phase (sets program) f) (keep is_due c.plans) (λ q i. (keep_in is_due c.plans i).0))))

  answer_ends : (n : ℕ) → After Ends (answer program c n)
  unfolding answer
  answer_ends n = guarded _ (λ l s w. after_unless (Kept program c) _ _ _ (λ e. after_unless (Kept program c) _ _ _ (λ f. after_done (Kept program c) _ (kept_answer program c s w (eqb-false c.waiting 0 e) n))))

  delete_ends : (t : ℕ) → After Ends (delete program c t)
  unfolding delete
  delete_ends t = guarded _ (λ l s w. after_unless (Kept program c) _ _ _ (λ e. after_unless (Kept program c) _ _ _ (λ f.
      after_done (Kept program c) _ (kept program c _ (good_deletion program c (begin c) (good_begin program c w (eqb-true c.waiting 0 (not-false _ e))) t)))))

call_ends : (k : Call) (c : Config) → After (Ends (program_of k) c) (work k c)
unfolding work
call_ends (to_sense program rs) c = sense_ends program c rs
call_ends (to_step program) c = step_ends program c
call_ends (to_answer program n) c = answer_ends program c n
call_ends (to_delete program t) c = delete_ends program c t

-- the next id rises by what is made
next_rises : (k : Call) (c : Config) → (reply k c).config.next ≡ c.next + (reply k c).made
unfolding answer_of
next_rises k c = at (work k c) (call_ends k c)
  where
    at : (o : Outcome) → After (Ends (program_of k) c) o → (answer_of c o).config.next ≡ c.next + (answer_of c o).made
    at (refused n) h = omega arith
    at (accepted L) h =
        let e = after_of (Ends (program_of k) c) h refl in
        let a = changes_next (graph c) L.events in
        let b : L.config.next ≡ (graph L.config).next = refl in
        let d = ap (λ (g : Graph). g.next) e.ends.faithful.turns in
        omega arith

pub keeps_well_formed : KeepsWellFormed
unfolding given_well answer_of
keeps_well_formed = record {
  loads_well = λ text program e.
      let a = loads_well_formed text program e in
      let s : Sound (graph (fresh program)) = subst Sound (sym (fresh_graph program)) (initial_sound (length (initial_atoms program))) in
      and2 a (shaped_formed program (fresh program) s (fresh_shaped program (lawful program a)));
  calls_keep = λ k c L e.
      let h = after_of (Ends (program_of k) c) (call_ends k c) e in
      and2 h.lawful_program (shaped_formed (program_of k) L.config (faithful_sound c L h.ends.faithful h.sound) h.ends.shaped);
  made_rises = next_rises;
}

pub demand_three : DemandThree
unfolding DemandThree
demand_three text program e ks = accounted
    (λ k c s. after_map (Ends (program_of k) c) (Faithful c) (work k c) (λ L h. h.ends.faithful) (call_ends k c))
    (length (initial_atoms program)) (fresh program) (fresh_graph program) ks
