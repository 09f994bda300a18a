-- Demand 1: each number has its cause, those that are tested before the work are given wherever theirs holds, and a refused call leaves
-- all as it was.
use Rattle.std.specs.Prelude.{if◌then◌else◌}
use mathlib.Core.Path.{◌≡◌, refl, sym, ap, ◌∙◌, subst}
use mathlib.Core.Bool.{Bool, true, false, ◌&&◌, ◌||◌, not, and-eq-true_iff}
use mathlib.Core.Logic.{◌⊎◌, ◌↔◌, inl, inr, ⊎_elim, ◌≢◌}
use mathlib.Core.List.{List, [], ◌∷◌}
use Prim.Native.Nat.{ℕ, ◌≤◌, ◌<◌}
use native.Mathlib.Omega.{arith}
use lib.Dec.{eqb, leb, ltb}
use lib.ListN.{length}
use borrow.Author.Tests.{eqb-true, eqb-false, eq-eqb, leb-true, leb-false, le-leb, ltb-true, ltb-false, not-true, not-false}
use Rattle.lists.specs.Lists.{In, first, later, within, every, keep}
use Rattle.lists.proofs.Lists.{test, clash, in_nil, in_cons, keep_in, member_in, in_member, or_cases, map_map}
use Rattle.lists.proofs.Tests.{and2, every_all}
use Rattle.lists.proofs.Cuts.{within_in}
use Rattle.model.specs.declared.Row.{Row}
use Rattle.model.specs.Program.{sets}
use Rattle.model.specs.Configuration.{Plan, Config, atom_ids, plan_ids, atom_alive, plan_alive}
use Rattle.model.specs.Graph.{Node, Alive, node_ids}
use Rattle.model.specs.Deletion.{node, graph}
use Rattle.model.specs.WellFormed.{given_well}
use Rattle.model.specs.Matching.{Firing, firing}
use Rattle.model.specs.Log.{called, Log, begin, Outcome, refused, accepted, answer_of}
use Rattle.model.specs.Calls.{Reading, in_range, sense_rows, sense, fire_first, is_due, end_cycle, execute, step, answer, delete, Call, to_sense, to_step, to_answer, to_delete, work, program_of, reply}
use Rattle.model.specs.Run.{RunOutcome, run_refused, ran, run, steps_of}
use Rattle.model.specs.Effects.{NoneDue}
use Rattle.model.specs.Refusing.{refusals_of, OutOfTurn, ReadingFits, OutOfRange, NotAlive, LastCycle, NoRoomForAtom, NoRoomForPlan, NoRoom, at_reading, at_plan, at_action, at_step, Cause, not_well, out_of_turn, out_of_range, not_alive, last_cycle, no_room, RunCause}
use Rattle.model.specs.Refusing as Refusing
use Rattle.model.specs.Claims.{RefusedRightly, LoadsRightly, DemandOne}
use Rattle.program_laws.proofs.Tests.{or_neither_left, or_neither_right}
use Rattle.demands.proofs.Outcomes.{unless_true, unless_false}
use Rattle.demands.proofs.Good.{good_begin}
use Rattle.demands.proofs.Told.{Told, told_done, told_unless, told_if, told_then, told_map, told_refused}
use Rattle.demands.proofs.Choice.{Chosen, none_chosen, chosen, choice}
use Rattle.demands.proofs.SenseEffects.{RowBarred, rows_told}
use Rattle.demands.proofs.FireEffects.{FireBarred, fire_told}
use Rattle.demands.proofs.ExecEffects.{ExecBarred, exec_told, due}
use Rattle.demands.proofs.DemandTwo.{Given, given}

-- TESTS

-- a test, and what it decides
record Decides (b : Bool) (P : Type 0) : Type 0 where
  pub yes : b ≡ true → P
  pub no : b ≡ false → ¬ P

holds : {b : Bool} {P : Type 0} → Decides b P → P → b ≡ true
holds {b} d p = ⊎_elim (λ e. e) (λ e. absurd (d.no e p)) (test b)

fails : {b : Bool} {P : Type 0} → Decides b P → ¬ P → b ≡ false
fails {b} d n = ⊎_elim (λ e. absurd (n (d.yes e))) (λ e. e) (test b)

either : {a b : Bool} {P Q : Type 0} → Decides a P → Decides b Q → Decides (a || b) (P ⊎ Q)
either {a} {b} p q = record {
  yes = λ e. ⊎_elim (λ f. inl (p.yes f)) (λ f. inr (q.yes f)) (or_cases a b e);
  no = λ e x. ⊎_elim (p.no (or_neither_left a b e)) (q.no (or_neither_right a b e)) x;
}

is_zero : (n : ℕ) → Decides (eqb n 0) (n ≡ 0)
is_zero n = record { yes = eqb-true n 0; no = eqb-false n 0 }

not_zero : (n : ℕ) → Decides (not (eqb n 0)) (n ≢ 0)
not_zero n = record { yes = λ e. eqb-false n 0 (not-true _ e); no = λ e z. z (eqb-true n 0 (not-false _ e)) }

above : (m n : ℕ) → Decides (ltb m n) (m < n)
above m n = record { yes = ltb-true m n; no = λ e h. let k = ltb-false m n e in omega arith }

ill : (program : List Row) (c : Config) → Decides (not (given_well program c)) (given_well program c ≡ false)
ill program c = record { yes = λ e. not-true _ e; no = λ e f. clash (not-false _ e) f }

fits_tested : (r : Reading) → in_range r ≡ true → ReadingFits r
unfolding in_range
fits_tested r e =
    let a = (and-eq-true_iff (within 1 2 r.sign) _).0 e in
    let b = (and-eq-true_iff (within 1 255 r.p) _).0 a.1 in
    let d = (and-eq-true_iff (leb r.a 65535) (leb r.b 65535)).0 b.1 in
    let s = (and-eq-true_iff (leb 1 r.sign) (leb r.sign 2)).0 a.0 in
    let p = (and-eq-true_iff (leb 1 r.p) (leb r.p 255)).0 b.0 in
    let low = leb-true 1 r.sign s.0 in
    let high = leb-true r.sign 2 s.1 in
    record {
      sign_fits = ⊎_elim (λ t. inl (eqb-true r.sign 1 t)) (λ t. let n = eqb-false r.sign 1 t in inr (omega arith)) (test (eqb r.sign 1));
      p_low = leb-true 1 r.p p.0;
      p_high = leb-true r.p 255 p.1;
      a_fits = leb-true r.a 65535 d.0;
      b_fits = leb-true r.b 65535 d.1;
    }

tests_fit : (r : Reading) → ReadingFits r → in_range r ≡ true
unfolding in_range
tests_fit r f =
    let s : (1 ≤ r.sign) × (r.sign ≤ 2) = ⊎_elim (λ e. (omega arith, omega arith)) (λ e. (omega arith, omega arith)) f.sign_fits in
    and2 (within_in 1 2 r.sign s.0 s.1) (and2 (within_in 1 255 r.p f.p_low f.p_high) (and2 (le-leb r.a 65535 f.a_fits) (le-leb r.b 65535 f.b_fits)))

unfit_first : (r : Reading) (rs : List Reading) (b : Bool) → in_range r ≡ b → b && every in_range rs ≡ false → (every in_range rs ≡ false → (q : Reading) × In q rs × (¬ ReadingFits q)) →
    (q : Reading) × In q (r ∷ rs) × (¬ ReadingFits q)
unfit_first r rs true d e more = let m = more e in (m.0, later m.1, m.2)
unfit_first r rs false d e more = (r, first refl, λ f. clash (tests_fit r f) d)

unfit : (rs : List Reading) → every in_range rs ≡ false → (r : Reading) × In r rs × (¬ ReadingFits r)
unfolding every
unfit [] e = clash refl e
unfit (r ∷ rs) e = unfit_first r rs (in_range r) refl e (unfit rs)

some_unfit : (rs : List Reading) → Decides (not (every in_range rs)) ((r : Reading) × In r rs × (¬ ReadingFits r))
some_unfit rs = record { yes = λ e. unfit rs (not-true _ e); no = λ e x. x.2 (fits_tested x.0 (every_all in_range rs (not-false _ e) x.0 x.1)) }

-- alive, as an atom or as a plan
alive : (c : Config) (t : ℕ) → Decides (not (atom_alive c t || plan_alive c t)) (¬ Alive (graph c) t)
unfolding atom_alive plan_alive
alive c t = record {
  yes = λ e h. let f = not-true (atom_alive c t || plan_alive c t) e in
      ⊎_elim (λ i. clash (in_member i) (or_neither_left (atom_alive c t) (plan_alive c t) f)) (λ i. clash (in_member (plan_there i)) (or_neither_right (atom_alive c t) (plan_alive c t) f)) h;
  no = λ e n. n (⊎_elim (λ h. inl (member_in t (atom_ids c) h)) (λ h. inr (there_plan (member_in t (plan_ids c) h))) (or_cases (atom_alive c t) (plan_alive c t) (not-false (atom_alive c t || plan_alive c t) e)));
}
  where
    ids : node_ids (graph c).plans ≡ plan_ids c
    ids = map_map node (λ (q : Node). q.id) c.plans

    plan_there : In t (node_ids (graph c).plans) → In t (plan_ids c)
    plan_there i = subst (In t) ids i

    there_plan : In t (plan_ids c) → In t (node_ids (graph c).plans)
    there_plan i = subst (In t) (sym ids) i

-- THE CAUSES

module _ (program : List Row) (c : Config) where
  sense_turn : Decides (not (eqb c.phase 0) || not (eqb c.waiting 0)) ((c.phase ≢ 0) ⊎ (c.waiting ≢ 0))
  sense_turn = either (not_zero c.phase) (not_zero c.waiting)

  step_turn : Decides (eqb c.phase 0 || not (eqb c.waiting 0)) ((c.phase ≡ 0) ⊎ (c.waiting ≢ 0))
  step_turn = either (is_zero c.phase) (not_zero c.waiting)

  sense_range : (rs : List Reading) → Decides (ltb 64 (length rs) || not (every in_range rs)) (OutOfRange (to_sense program rs))
  sense_range rs = either (above 64 (length rs)) (some_unfit rs)

  abbrev Any : Log → Type 0
  Any L = Unit {0}

  sense_cause : (rs : List Reading) → Told Any (Cause (to_sense program rs) c) (sense program c rs)
  unfolding sense
  sense_cause rs =
      let Because = Cause (to_sense program rs) c in
      told_unless Any Because _ 1 _ (λ e. not_well (not-true _ e))
      (λ e. told_unless Any Because _ 6 _ (λ f. out_of_turn (not-false _ e) (sense_turn.yes f))
      (λ f. told_unless Any Because _ 7 _ (λ g. out_of_range (not-false _ e) (sense_turn.no f) ((sense_range rs).yes g))
      (λ g.
      let w = given program c (not-false _ e) in
      let idle = eqb-true c.waiting 0 (not-false _ (or_neither_right (not (eqb c.phase 0)) (not (eqb c.waiting 0)) f)) in
      let fits = not-false (every in_range rs) (or_neither_right (ltb 64 (length rs)) (not (every in_range rs)) g) in
      told_then Any Any Because (sense_rows program rs (begin c)) _
      (told_map _ Any (RowBarred program c w.lawful_rows w.sound rs c) Because _ (λ L x. tt)
      (λ n x. no_room (not-false _ e) (sense_turn.no f) ((sense_range rs).no g) (at_reading x.before x.row x.after x.stands x.is_add x.so_far x.full))
      (rows_told program c w.lawful_rows w.sound rs fits (begin c) (good_begin program c w.shaped idle)))
      (λ L x. told_done Any Because _ tt))))

  answer_cause : (n : ℕ) → Told Any (Cause (to_answer program n) c) (answer program c n)
  unfolding answer
  answer_cause n =
      let Because = Cause (to_answer program n) c in
      told_unless Any Because _ 1 _ (λ e. not_well (not-true _ e))
      (λ e. told_unless Any Because _ 6 _ (λ f. out_of_turn (not-false _ e) ((is_zero c.waiting).yes f))
      (λ f. told_unless Any Because _ 7 _ (λ g. out_of_range (not-false _ e) ((is_zero c.waiting).no f) ((above 1 n).yes g)) (λ g. told_done Any Because _ tt)))

  delete_cause : (t : ℕ) → Told Any (Cause (to_delete program t) c) (delete program c t)
  unfolding delete
  delete_cause t =
      let Because = Cause (to_delete program t) c in
      told_unless Any Because _ 1 _ (λ e. not_well (not-true _ e))
      (λ e. told_unless Any Because _ 6 _ (λ f. out_of_turn (not-false _ e) ((not_zero c.waiting).yes f))
      (λ f. told_unless Any Because _ 12 _ (λ g. not_alive (not-false _ e) ((not_zero c.waiting).no f) (λ z. z) ((alive c t).yes g)) (λ g. told_done Any Because _ tt)))

  -- a step's work
  module _ (e : given_well program c ≡ true) (f : ¬ OutOfTurn (to_step program) c) (idle : c.waiting ≡ 0) where
    abbrev Because : ℕ → Type 0
    Because = Cause (to_step program) c

    abbrev w : Given program c
    w = given program c e

    fire_cause : c.phase ≤ sets program → Told Any Because (fire_first program c (firing program c c.phase))
    unfolding fire_first
    fire_cause h = at (firing program c c.phase) (choice program c c.phase w.sound)
      where
        at : (fs : List Firing) → Chosen program c c.phase fs → Told Any Because (fire_first program c fs)
        at fs (none_chosen nm) = told_done Any Because _ tt
        at fs (chosen x v) = told_map _ Any (FireBarred program c w.lawful_rows w.sound w.shaped idle c.phase x.rule x.match v.among) Because _ (λ L y. tt)
            (λ n y. no_room e f (λ z. z) (⊎_elim
            (λ b. at_plan h v.first_rule b.0 b.1)
            (λ b. let a = b.1 in at_action a.before a.row a.after h v.first_rule b.0 v.first_match a.stands a.is_21 a.so_far a.full) y))
            (fire_told program c w.lawful_rows w.sound w.shaped idle c.phase x.rule x.match v.among)

    exec_cause : sets program < c.phase → Told Any Because (execute program c (keep is_due c.plans))
    exec_cause h = told_map _ Any (ExecBarred program c w.lawful_rows w.sound w.shaped) Because _ (λ L y. tt) barred (exec_told program c w.lawful_rows w.sound w.shaped)
      where
        barred : (n : ℕ) → ExecBarred program c w.lawful_rows w.sound w.shaped n → Because n
        barred n (inl b) = subst Because (sym b.0) (last_cycle e f (h, b.1, b.2))
        barred n (inr b) = no_room e f (λ z. z) (at_step h b.first_due b.stands b.free b.makes_one b.full)

  step_cause : Told Any (Cause (to_step program) c) (step program c)
  unfolding step
  step_cause =
      let Because = Cause (to_step program) c in
      told_unless Any Because _ 1 _ (λ e. not_well (not-true _ e))
      (λ e. told_unless Any Because _ 6 _ (λ f. out_of_turn (not-false _ e) (step_turn.yes f))
      (λ f.
      let idle = eqb-true c.waiting 0 (not-false _ (or_neither_right (eqb c.phase 0) (not (eqb c.waiting 0)) f)) in
      told_if Any Because (leb c.phase (sets program)) _ _
      (λ g. fire_cause (not-false _ e) (step_turn.no f) idle (leb-true c.phase (sets program) g))
      (λ g. exec_cause (not-false _ e) (step_turn.no f) idle (leb-false c.phase (sets program) g))))

call_cause : (k : Call) (c : Config) → Told (λ L. Unit {0}) (Cause k c) (work k c)
unfolding work
call_cause (to_sense program rs) c = sense_cause program c rs
call_cause (to_step program) c = step_cause program c
call_cause (to_answer program n) c = answer_cause program c n
call_cause (to_delete program t) c = delete_cause program c t

-- THE NUMBERS that are tested before the work, wherever their cause holds

module _ (c : Config) where
  number_1 : (k : Call) → given_well (program_of k) c ≡ false → work k c ≡ refused 1
  unfolding work sense step answer delete
  number_1 (to_sense program rs) e = unless_true _ 1 _ (holds (ill program c) e)
  number_1 (to_step program) e = unless_true _ 1 _ (holds (ill program c) e)
  number_1 (to_answer program n) e = unless_true _ 1 _ (holds (ill program c) e)
  number_1 (to_delete program t) e = unless_true _ 1 _ (holds (ill program c) e)

  -- behind the first test, and behind the second
  given_so : (program : List Row) → given_well program c ≡ true → not (given_well program c) ≡ false
  given_so program e = ap not e

  number_6 : (k : Call) → given_well (program_of k) c ≡ true → OutOfTurn k c → work k c ≡ refused 6
  unfolding work sense step answer delete
  number_6 (to_sense program rs) e f = unless_false _ 1 _ (given_so program e) ∙ unless_true _ 6 _ (holds (sense_turn program c) f)
  number_6 (to_step program) e f = unless_false _ 1 _ (given_so program e) ∙ unless_true _ 6 _ (holds (step_turn program c) f)
  number_6 (to_answer program n) e f = unless_false _ 1 _ (given_so program e) ∙ unless_true _ 6 _ (holds (is_zero c.waiting) f)
  number_6 (to_delete program t) e f = unless_false _ 1 _ (given_so program e) ∙ unless_true _ 6 _ (holds (not_zero c.waiting) f)

  number_7 : (k : Call) → given_well (program_of k) c ≡ true → ¬ OutOfTurn k c → OutOfRange k → work k c ≡ refused 7
  unfolding work sense answer
  number_7 (to_sense program rs) e f g = unless_false _ 1 _ (given_so program e) ∙ unless_false _ 6 _ (fails (sense_turn program c) f) ∙ unless_true _ 7 _ (holds (sense_range program c rs) g)
  number_7 (to_step program) e f g = absurd g
  number_7 (to_answer program n) e f g = unless_false _ 1 _ (given_so program e) ∙ unless_false _ 6 _ (fails (is_zero c.waiting) f) ∙ unless_true _ 7 _ (holds (above 1 n) g)
  number_7 (to_delete program t) e f g = absurd g

  number_12 : (k : Call) → given_well (program_of k) c ≡ true → ¬ OutOfTurn k c → NotAlive k c → work k c ≡ refused 12
  unfolding work delete
  number_12 (to_sense program rs) e f g = absurd g
  number_12 (to_step program) e f g = absurd g
  number_12 (to_answer program n) e f g = absurd g
  number_12 (to_delete program t) e f g = unless_false _ 1 _ (given_so program e) ∙ unless_false _ 6 _ (fails (not_zero c.waiting) f) ∙ unless_true _ 12 _ (holds (alive c t) g)

  none_kept : NoneDue c → keep is_due c.plans ≡ []
  none_kept n = at (keep is_due c.plans) (λ q i. let k = keep_in is_due c.plans i in n q k.0 (due q k.1))
    where
      at : (l : List Plan) → ((q : Plan) → ¬ In q l) → l ≡ []
      at [] h = refl
      at (q ∷ l) h = absurd (h q (first refl))

  last_ends : (program : List Row) → NoneDue c → c.cycle ≡ 65535 → execute program c (keep is_due c.plans) ≡ refused 11
  unfolding execute end_cycle
  last_ends program n e = rw (none_kept n) (unless_true _ 11 _ (eq-eqb c.cycle 65535 e))

  number_11 : (k : Call) → given_well (program_of k) c ≡ true → ¬ OutOfTurn k c → LastCycle k c → work k c ≡ refused 11
  unfolding work step
  number_11 (to_sense program rs) e f g = absurd g
  number_11 (to_step program) e f g =
      unless_false _ 1 _ (given_so program e) ∙ unless_false _ 6 _ (fails (step_turn program c) f)
      ∙ ap (λ (b : Bool). if b then fire_first program c (firing program c c.phase) else execute program c (keep is_due c.plans)) (past c.phase (sets program) g.0) ∙ last_ends program g.1 g.2
    where
      past : (m n : ℕ) → n < m → leb m n ≡ false
      past m n h = ⊎_elim (λ t. let k = leb-true m n t in absurd (omega arith)) (λ t. t) (test (leb m n))
  number_11 (to_answer program n) e f g = absurd g
  number_11 (to_delete program t) e f g = absurd g

  -- 8, 9 and 10 are none of these
  atom_number : {d : Config} {n : ℕ} → NoRoomForAtom d n → (8 ≤ n) × (n ≤ 9)
  atom_number (Refusing.no_id e) = (omega arith, omega arith)
  atom_number (Refusing.no_place e f) = (omega arith, omega arith)

  plan_number : {n : ℕ} → NoRoomForPlan c n → (n ≡ 8) ⊎ (n ≡ 10)
  plan_number (Refusing.no_id e) = inl refl
  plan_number (Refusing.no_place e f) = inr refl

  room_number : (k : Call) {n : ℕ} → NoRoom k c n → (8 ≤ n) × (n ≤ 10)
  room_number k (at_reading b r a e f s z) = let h = atom_number z in (h.0, omega (arith, h.1))
  room_number k (at_plan h m o z) = ⊎_elim (λ e. (omega arith, omega arith)) (λ e. (omega arith, omega arith)) (plan_number z)
  room_number k (at_action b r a h m o g e f s z) = let h = atom_number z in (h.0, omega (arith, h.1))
  room_number k (at_step h q e f o z) = let h = atom_number z in (h.0, omega (arith, h.1))

  not_early : (n : ℕ) → 8 ≤ n → n ≤ 10 → In n (1 ∷ 6 ∷ 7 ∷ 11 ∷ 12 ∷ []) → ⊥
  not_early n h k i =
      ⊎_elim (λ e. omega arith) (λ i. ⊎_elim (λ e. omega arith) (λ i. ⊎_elim (λ e. omega arith) (λ i. ⊎_elim (λ e. omega arith) (λ i. ⊎_elim (λ e. omega arith) (λ i. in_nil i) (in_cons i)) (in_cons i)) (in_cons i)) (in_cons i)) (in_cons i)

  gives_number : (k : Call) {n : ℕ} → work k c ≡ refused n → (reply k c).number ≡ n
  unfolding answer_of
  gives_number k e = ap (λ (o : Outcome). (answer_of c o).number) e

  wherever : (k : Call) (n : ℕ) → In n (1 ∷ 6 ∷ 7 ∷ 11 ∷ 12 ∷ []) → Cause k c n → (reply k c).number ≡ n
  wherever k n i (not_well e) = gives_number k (number_1 k e)
  wherever k n i (out_of_turn e f) = gives_number k (number_6 k e f)
  wherever k n i (out_of_range e f g) = gives_number k (number_7 k e f g)
  wherever k n i (not_alive e f g h) = gives_number k (number_12 k e f h)
  wherever k n i (last_cycle e f g) = gives_number k (number_11 k e f g)
  wherever k n i (no_room e f g h) = let b = room_number k h in absurd (not_early n b.0 b.1 i)

  -- a call's numbers
  at_1 : (k : Call) → In 1 (refusals_of k)
  at_1 (to_sense program rs) = first refl
  at_1 (to_step program) = first refl
  at_1 (to_answer program n) = first refl
  at_1 (to_delete program t) = first refl

  at_6 : (k : Call) → In 6 (refusals_of k)
  at_6 (to_sense program rs) = later (first refl)
  at_6 (to_step program) = later (first refl)
  at_6 (to_answer program n) = later (first refl)
  at_6 (to_delete program t) = later (first refl)

  at_7 : (k : Call) → OutOfRange k → In 7 (refusals_of k)
  at_7 (to_sense program rs) g = later (later (first refl))
  at_7 (to_step program) g = absurd g
  at_7 (to_answer program n) g = later (later (first refl))
  at_7 (to_delete program t) g = absurd g

  at_12 : (k : Call) → NotAlive k c → In 12 (refusals_of k)
  at_12 (to_sense program rs) g = absurd g
  at_12 (to_step program) g = absurd g
  at_12 (to_answer program n) g = absurd g
  at_12 (to_delete program t) g = later (later (first refl))

  at_11 : (k : Call) → LastCycle k c → In 11 (refusals_of k)
  at_11 (to_sense program rs) g = absurd g
  at_11 (to_step program) g = later (later (later (later (later (first refl)))))
  at_11 (to_answer program n) g = absurd g
  at_11 (to_delete program t) g = absurd g

  -- 8 or 9, at their place among the numbers of a step
  in_step : {d : Config} {n : ℕ} → NoRoomForAtom d n → In n (1 ∷ 6 ∷ 8 ∷ 9 ∷ 10 ∷ 11 ∷ [])
  in_step (Refusing.no_id e) = later (later (first refl))
  in_step (Refusing.no_place e f) = later (later (later (first refl)))

  in_sense : {d : Config} {n : ℕ} → NoRoomForAtom d n → In n (1 ∷ 6 ∷ 7 ∷ 8 ∷ 9 ∷ [])
  in_sense (Refusing.no_id e) = later (later (later (first refl)))
  in_sense (Refusing.no_place e f) = later (later (later (later (first refl))))

  in_raise : {n : ℕ} → NoRoomForPlan c n → In n (1 ∷ 6 ∷ 8 ∷ 9 ∷ 10 ∷ 11 ∷ [])
  in_raise (Refusing.no_id e) = later (later (first refl))
  in_raise (Refusing.no_place e f) = later (later (later (later (first refl))))

  at_room : (k : Call) {n : ℕ} → NoRoom k c n → In n (refusals_of k)
  at_room k (at_reading b r a e f s z) = in_sense z
  at_room k (at_plan h m o z) = in_raise z
  at_room k (at_action b r a h m o g e f s z) = in_step z
  at_room k (at_step h q e f o z) = in_step z

  cause_among : (k : Call) {n : ℕ} → Cause k c n → In n (refusals_of k)
  cause_among k (not_well e) = at_1 k
  cause_among k (out_of_turn e f) = at_6 k
  cause_among k (out_of_range e f g) = at_7 k g
  cause_among k (not_alive e f g h) = at_12 k h
  cause_among k (last_cycle e f g) = at_11 k g
  cause_among k (no_room e f g h) = at_room k h

-- an answer with a number is that of a refused work
refused_with : (c : Config) (o : Outcome) (n : ℕ) → n ≢ 0 → (answer_of c o).number ≡ n → o ≡ refused n
unfolding answer_of
refused_with c (refused m) n z e = ap refused e
refused_with c (accepted L) n z e = absurd (z (sym e))

refusal_is : (c : Config) (o : Outcome) (n : ℕ) → o ≡ refused n → answer_of c o ≡ record { number = n; did = called; config = c; made = 0; gone = 0 }
unfolding answer_of
refusal_is c o n e = ap (answer_of c) e

call_refused : (k : Call) (c : Config) → RefusedRightly k c (reply k c)
call_refused k c = record {
  among = ⊎_elim (λ e. first (eqb-true (reply k c).number 0 e)) (λ e. later (cause_among c k (because (reply k c).number (eqb-false (reply k c).number 0 e) refl))) (test (eqb (reply k c).number 0));
  for_cause = because;
  wherever = wherever c k;
  leaves_all = λ n z e. refusal_is c (work k c) n (refused_with c (work k c) n z e);
}
  where
    because : (n : ℕ) → n ≢ 0 → (reply k c).number ≡ n → Cause k c n
    because n z e = told_refused (λ L. Unit {0}) (Cause k c) (call_cause k c) (refused_with c (work k c) n z e)

-- RUN
limit_range : (n : ℕ) → Decides (not (within 1 10000 n)) ((n ≡ 0) ⊎ (10000 < n))
limit_range n = record {
  yes = λ e. let f = not-true _ e in ⊎_elim (λ z. inl (eqb-true n 0 z)) (λ z. let p = eqb-false n 0 z in inr (over f (omega arith))) (test (eqb n 0));
  no = λ e x.
      let a = (and-eq-true_iff (leb 1 n) (leb n 10000)).0 (not-false _ e) in
      let b = leb-true 1 n a.0 in
      let d = leb-true n 10000 a.1 in
      ⊎_elim (λ z. omega arith) (λ z. omega arith) x;
}
  where
    over : within 1 10000 n ≡ false → 1 ≤ n → 10000 < n
    over f h = ⊎_elim (λ t. clash (within_in 1 10000 n h (leb-true n 10000 t)) f) (λ t. leb-false n 10000 t) (test (leb n 10000))

abbrev run_number : RunOutcome → ℕ
run_number (run_refused n) = n
run_number (ran r) = 0

abbrev is_refused : RunOutcome → ℕ
is_refused (run_refused n) = 1
is_refused (ran r) = 0

module _ (program : List Row) (c : Config) (limit : ℕ) where
  abbrev Because_run : ℕ → Type 0
  Because_run = RunCause program c limit

  run_because : (a b d : Bool) → not (given_well program c) ≡ a → (eqb c.phase 0 || not (eqb c.waiting 0)) ≡ b → not (within 1 10000 limit) ≡ d → (n : ℕ) →
      (if a then run_refused 1 else if b then run_refused 6 else if d then run_refused 7 else ran (steps_of program limit c)) ≡ run_refused n → RunCause program c limit n
  run_because true b d p q r n e = subst Because_run (ap run_number e) (Refusing.not_well (not-true _ p))
  run_because false true d p q r n e = subst Because_run (ap run_number e) (Refusing.out_of_turn (not-false _ p) ((step_turn program c).yes q))
  run_because false false true p q r n e = subst Because_run (ap run_number e)
      (Refusing.out_of_range (not-false _ p) (λ z. (step_turn program c).no q (inl z)) (eqb-true c.waiting 0 (not-false _ (or_neither_right (eqb c.phase 0) (not (eqb c.waiting 0)) q))) ((limit_range limit).yes r))
  run_because false false false p q r n e = let z : ◌≡◌ {A = ℕ} 0 1 = ap is_refused e in absurd (omega arith)

  run_given : (n : ℕ) → RunCause program c limit n → run program c limit ≡ run_refused n
  unfolding run
  run_given n (Refusing.not_well e) = rw e
  run_given n (Refusing.out_of_turn e f) = rw (e, holds (step_turn program c) f)
  run_given n (Refusing.out_of_range e f g h) = rw (e, fails (step_turn program c) (λ x. ⊎_elim (λ z. f z) (λ z. z g) x), holds (limit_range limit) h)

  pub run_refuses : (n : ℕ) → (run program c limit ≡ run_refused n) ↔ RunCause program c limit n
  unfolding run
  run_refuses n = (λ e. run_because (not (given_well program c)) (eqb c.phase 0 || not (eqb c.waiting 0)) (not (within 1 10000 limit)) refl refl refl n e, run_given n)

pub demand_one : LoadsRightly → DemandOne
demand_one loads = record { of_loads = loads; of_calls = call_refused; of_runs = run_refuses }
