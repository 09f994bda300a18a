-- A call at work keeps the configuration in shape and tells its events: the primitives, and sense, answer and delete.
use Rattle.std.specs.Prelude.{if◌then◌else◌}
use mathlib.Core.Path.{◌≡◌, refl, sym, ap, ◌∙◌}
use mathlib.Core.Bool.{Bool, true, false, and-eq-true_iff}
use mathlib.Core.Logic.{inl, ⊎_elim, ◌≢◌}
use mathlib.Core.List.{List, [], ◌∷◌}
use Prim.Native.Nat.{ℕ, ◌≤◌, ◌<◌}
use native.Mathlib.Omega.{arith}
use lib.Dec.{eqb, leb}
use lib.ListN.{length}
use borrow.Author.Tests.{eqb-true, eqb-false, leb-true, leb-false}
use Rattle.lists.specs.Lists.{In, first, keep, every, within}
use Rattle.lists.proofs.Lists.{keep_in, pairs_either}
use Rattle.lists.proofs.Tests.{map_pairs}
use Rattle.model.specs.declared.Row.{Row}
use Rattle.model.specs.Configuration.{Plan, Config, most_atoms, last_next, remainder, atom_alive, stepped, failed, with_flag, with_flags, step_removed, change_plan, with_phase, with_waiting}
use Rattle.model.specs.Graph.{Node, Sound}
use Rattle.model.specs.Deletion.{node, graph}
use Rattle.model.specs.Log.{Did, Log, begin, emit_atom, emit_deletion, quiet, report}
use Rattle.model.specs.Calls.{Reading, in_range, applies, replaced, taken_as, equal_atoms, withdraw_if, withdraw, make_atom, sense_row, sense_rows, set_stepped, set_failed, remove_step, answered}
use Rattle.graph_laws.specs.Faithful.{Faithful, After}
use Rattle.graph_laws.proofs.Turns.{change_plan_turns_not}
use Rattle.graph_laws.proofs.Faithful.{faithful_begin, faithful_atom, faithful_deletion, faithful_quiet, faithful_report}
use Rattle.graph_laws.proofs.After.{after_then, after_if, after_done}
use Rattle.program_laws.specs.Lawful.{Lawful}
use Rattle.demands.proofs.Shape.{SubgoalFirst, PlanFormed, WaitingFirst, Shaped}
use Rattle.demands.proofs.Kept.{plan_flags, plan_step_removed, shaped_atom, shaped_remove, shaped_change, shaped_phase}
use Rattle.demands.proofs.Flags.{with_flag_fits}
use Rattle.demands.proofs.Steps.{after_room}

-- plans with one id are one plan
pub plan_once : (c : Config) → Sound (graph c) → (p q : Plan) → In p c.plans → In q c.plans → p.id ≡ q.id → p ≡ q
plan_once c s p q i j e = ⊎_elim (λ h. h) (λ h. ⊎_elim (λ k. absurd (omega arith)) (λ k. absurd (omega arith)) h)
    (pairs_either (λ (p q : Plan). p.id < q.id) (map_pairs (λ (p q : Node). p.id < q.id) node c.plans s.plans_rise) i j)

module _ (program : List Row) (c : Config) where
  -- at the end of a call, and on the way, while nothing waits
  pub record Kept (L : Log) : Type 0 where
    pub faithful : Faithful c L
    pub shaped : Shaped program L.config

  pub record Good (L : Log) : Type 0 where
    pub faithful : Faithful c L
    pub shaped : Shaped program L.config
    pub idle : L.config.waiting ≡ 0

  pub kept : (L : Log) → Good L → Kept L
  kept L g = record { faithful = g.faithful; shaped = g.shaped }

  pub good_begin : Shaped program c → c.waiting ≡ 0 → Good (begin c)
  good_begin w z = record { faithful = faithful_begin c; shaped = w; idle = z }

  module _ (L : Log) (g : Good L) where
    pub good_report : (d : Did) → Good (report d L)
    good_report d = record { faithful = faithful_report c L g.faithful d; shaped = g.shaped; idle = g.idle }

    pub good_atom : (p a b : ℕ) → 1 ≤ p → p ≤ 255 → a ≤ 65535 → b ≤ 65535 → eqb L.config.next last_next ≡ false → leb most_atoms (length L.config.atoms) ≡ false → Good (emit_atom p a b L)
    good_atom p a b h i j k n m = record {
      faithful = faithful_atom c L g.faithful p a b;
      shaped = shaped_atom program L.config g.shaped p a b h i j k (let e = eqb-false L.config.next last_next n in omega (arith, g.shaped.next_fits)) (leb-false most_atoms (length L.config.atoms) m);
      idle = g.idle;
    }

    pub good_deletion : (t : ℕ) → Good (emit_deletion t L)
    good_deletion t = record { faithful = faithful_deletion c L g.faithful t; shaped = shaped_remove program L.config g.shaped g.idle t; idle = g.idle }

    pub good_change : (k : ℕ) (f : Plan → Plan) → ((q : Plan) → node (f q) ≡ node q) → ((q : Plan) → In q L.config.plans → q.id ≡ k → PlanFormed program L.config.atoms (f q)) → Good (quiet (change_plan k f) L)
    good_change k f n h = record { faithful = faithful_quiet c L g.faithful (change_plan k f) (change_plan_turns_not k f n L.config); shaped = shaped_change program L.config g.shaped g.idle k f h; idle = g.idle }

    pub good_flags : (k : ℕ) (f : ℕ → ℕ) → ((n : ℕ) → n ≤ 65535 → f n ≤ 65535) → Good (quiet (change_plan k (with_flags f)) L)
    good_flags k f h = good_change k (with_flags f) (λ q. refl) (λ q i e. plan_flags program L.config.atoms q (g.shaped.plans_formed q i) f (h q.flags))

  -- a plan that is done or fails: its first step off, where it has no subgoal; its flags set
  pub good_stepped : (L : Log) → Good L → (k : ℕ) → Good (quiet (set_stepped k) L)
  good_stepped L g k = good_flags L g k (with_flag stepped) (λ n. with_flag_fits stepped n (omega arith) (omega arith))

  pub good_done : (L : Log) → Good L → (k : ℕ) → ((q : Plan) → In q L.config.plans → q.id ≡ k → q.subgoal ≡ 0) → Good (quiet (λ d. set_stepped k (remove_step k d)) L)
  good_done L g k z = good_stepped (quiet (remove_step k) L)
      (good_change L g k step_removed (λ q. refl) (λ q i e. plan_step_removed program L.config.atoms q (g.shaped.plans_formed q i) (z q i e))) k

  pub good_failed : (L : Log) → Good L → (k : ℕ) → Good (quiet (λ d. set_stepped k (set_failed k d)) L)
  good_failed L g k = good_stepped (quiet (set_failed k) L) (good_flags L g k (with_flag failed) (λ n. with_flag_fits failed n (omega arith) (omega arith))) k

  -- SENSE
  module _ (l : Lawful program) where
    taken_fits : (r : Reading) → 1 ≤ r.p → r.p ≤ 255 → (1 ≤ taken_as program r) × (taken_as program r ≤ 255)
    unfolding taken_as replaced applies
    taken_fits r a b = at (keep (applies r) program) (λ w i. keep_in (applies r) program i)
      where
        at : (ws : List Row) → ((w : Row) → In w ws → In w program × (applies r w ≡ true)) → (1 ≤ replaced r.p ws) × (replaced r.p ws ≤ 255)
        at [] h = (a, b)
        at (w ∷ ws) h =
            let i = h w (first refl) in
            let e = (and-eq-true_iff _ _).0 i.1 in
            let f = (and-eq-true_iff _ _).0 e.1 in
            let d = l.ceilings w i.0 (eqb-true w.set 0 e.0) (eqb-true w.op 40 f.0) in
            let k = (and-eq-true_iff (leb 10 w.b) (leb w.b 264)).0 d in
            let x = leb-true 10 w.b k.0 in
            let y = leb-true w.b 264 k.1 in
            omega arith

    good_withdraw : (ts : List ℕ) (L : Log) → Good L → Good (withdraw ts L)
    unfolding withdraw withdraw_if
    good_withdraw [] L g = g
    good_withdraw (t ∷ ts) L g = good_withdraw ts (withdraw_if (atom_alive L.config t) t L) (at (atom_alive L.config t))
      where
        at : (b : Bool) → Good (withdraw_if b t L)
        at true = good_deletion L g t
        at false = g

    pub good_row : (r : Reading) → in_range r ≡ true → (L : Log) → Good L → After Good (sense_row program r L)
    unfolding sense_row make_atom in_range
    good_row r h L g =
        let b = (and-eq-true_iff (within 1 2 r.sign) _).0 h in
        let d = (and-eq-true_iff (within 1 255 r.p) _).0 b.1 in
        let e = (and-eq-true_iff _ _).0 d.1 in
        let p = (and-eq-true_iff (leb 1 r.p) (leb r.p 255)).0 d.0 in
        let t = taken_fits r (leb-true 1 r.p p.0) (leb-true r.p 255 p.1) in
        after_if Good (eqb r.sign 1) _ _
        (λ i. after_room Good L _ (λ j k. after_done Good _ (good_atom L g (taken_as program r) r.a r.b t.0 t.1 (leb-true r.a 65535 e.0) (leb-true r.b 65535 e.1) j k)))
        (λ i. after_done Good _ (good_withdraw (equal_atoms (taken_as program r) r.a r.b L.config) L g))

    pub good_rows : (rs : List Reading) → every in_range rs ≡ true → (L : Log) → Good L → After Good (sense_rows program rs L)
    unfolding sense_rows every
    good_rows [] h L g = after_done Good L g
    good_rows (r ∷ rs) h L g =
        let a = (and-eq-true_iff (in_range r) (every in_range rs)).0 h in
        after_then Good Good (sense_row program r L) (sense_rows program rs) (good_row r a.0 L g) (λ M k. good_rows rs a.1 M k)

  pub good_sensed : (L : Log) → Good L → Kept (quiet (with_phase 1) L)
  good_sensed L g = record { faithful = faithful_quiet c L g.faithful (with_phase 1) refl; shaped = shaped_phase program L.config g.shaped g.idle 1 (omega arith) }

  -- ANSWER
  -- the waiting plan has no subgoal
  waiting_free : Sound (graph c) → Shaped program c → c.waiting ≢ 0 → (q : Plan) → In q c.plans → q.id ≡ c.waiting → q.subgoal ≡ 0
  waiting_free s w z q i e = ⊎_elim (λ h. absurd (z h)) (λ h. ⊎_elim (λ k. k) (λ k. absurd (not_both h.1 k)) (w.plans_formed q i).subgoal_first) w.waiting_formed
    where
      not_both : WaitingFirst program c.waiting c.plans → SubgoalFirst program c.atoms q → ⊥
      not_both a b =
          let same : a.plan ≡ q = plan_once c s a.plan q a.alive i (a.is_it ∙ sym e) in
          let rows : a.row ∷ a.rest ≡ b.row ∷ b.rest = sym a.stands ∙ ap (remainder program) same ∙ b.stands in
          let row : a.row ≡ b.row = cc rows in
          let op : a.row.op ≡ b.row.op = ap (λ (r : Row). r.op) row in
          omega (arith, a.is_31, b.is_36)

  -- the configuration once the waiting is over
  good_idle : Shaped program c → Good (quiet (with_waiting 0) (begin c))
  good_idle w = record {
    faithful = faithful_quiet c (begin c) (faithful_begin c) (with_waiting 0) refl;
    shaped = record {
      few_atoms = w.few_atoms;
      few_plans = w.few_plans;
      phase_fits = w.phase_fits;
      cycle_fits = w.cycle_fits;
      next_fits = w.next_fits;
      atoms_formed = w.atoms_formed;
      plans_formed = w.plans_formed;
      waiting_formed = inl refl;
    };
    idle = refl;
  }

  pub kept_answer : Sound (graph c) → Shaped program c → c.waiting ≢ 0 → (n : ℕ) → Kept (quiet (answered n) (begin c))
  unfolding answered
  kept_answer s w z n = kept _ (at (eqb n 1))
    where
      at : (b : Bool) → Good (quiet (λ d. set_stepped c.waiting (if b then remove_step c.waiting (with_waiting 0 d) else set_failed c.waiting (with_waiting 0 d))) (begin c))
      at true = good_done (quiet (with_waiting 0) (begin c)) (good_idle w) c.waiting (waiting_free s w z)
      at false = good_failed (quiet (with_waiting 0) (begin c)) (good_idle w) c.waiting
