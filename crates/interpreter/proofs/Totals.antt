-- What calls come to from a loaded text: their sums are small, and demand 3 holds of them.
use Rattle.std.specs.Prelude.{Result, Ok, Err}
use Rattle.std.specs.Result.{result_unwrap_or}
use mathlib.Core.Path.{◌≡◌, refl, sym, ap, ◌∙◌, subst}
use mathlib.Core.Bool.{true, and-eq-true_iff}
use mathlib.Core.Logic.{◌≢◌}
use mathlib.Core.List.{List, [], ◌∷◌}
use Prim.Native.Nat.{ℕ, ◌+◌, ◌<◌, ◌≤◌}
use native.Mathlib.Nat.{zero-add, add-zero, pos_of_ne-zero}
use native.Mathlib.Omega.{arith}
use lib.ListN.{length, drop, length-drop}
use lib.Seq.{drop-drop}
use Rattle.model.specs.declared.Row.{Row}
use Rattle.model.specs.declared.refusal.Refusal.{Refusal}
use Rattle.model.specs.declared.refusal.LoadError.{LoadError}
use Rattle.model.specs.Program.{initial_atoms}
use Rattle.model.specs.Configuration.{Config, fresh}
use Rattle.model.specs.Graph.{Graph}
use Rattle.model.specs.Deletion.{graph}
use Rattle.model.specs.WellFormed.{config_formed, given_well}
use Rattle.model.specs.Render.{well_formed}
use Rattle.model.specs.Load.{loaded, load}
use Rattle.model.specs.Log.{Outcome, refused, accepted, Answer, answer_of}
use Rattle.model.specs.Claims.{Call, work, program_of, reply, config_after, events_after, made_after, gone_after, Accounted, DemandThree}
use Rattle.demands.proofs.Shape.{formed_shaped}
use Rattle.demands.proofs.Fresh.{fresh_graph}
use Rattle.demands.proofs.Calls.{keeps_well_formed, demand_three}
use Rattle.in_place.specs.declared.Counts.{Counts}
use Rattle.in_place.specs.Given.{given_rows}
use Rattle.in_place.specs.Answers.{answered}
use Rattle.interpreter.specs.declared.Worked.{Worked}
use Rattle.interpreter.specs.declared.Played.{Played}
use Rattle.interpreter.specs.Calls.{conf}
use Rattle.interpreter.specs.Playing.{call_size, first_call, calls_of, PlayOutcome, after_calls, after_load, playing, come_to, outcome, AccountedFor, call_answer, Begun, and_counted}
use Rattle.interpreter.proofs.Words.{sized, no_calls, more_calls}

-- NEXT ID: it rises by what is made, and stays in its limit
well_fits : (program : List Row) (c : Config) → given_well program c ≡ true → c.next ≤ 65536
unfolding given_well
well_fits program c e = (formed_shaped program c ((and-eq-true_iff (well_formed program) (config_formed program c)).0 e).1).1.next_fits

call_fits : (k : Call) (c : Config) → c.next ≤ 65536 → (reply k c).config.next ≤ 65536
unfolding answer_of
call_fits k c h = at (work k c) refl
  where
    at : (o : Outcome) → work k c ≡ o → (reply k c).config.next ≤ 65536
    at (refused n) e = rw e h
    at (accepted L) e = rw e (well_fits (program_of k) L.config (keeps_well_formed.calls_keep k c L e))

next_fits : (ks : List Call) (c : Config) → c.next ≤ 65536 → (config_after c ks).next ≤ 65536
next_fits [] c h = h
next_fits (k ∷ ks) c h = next_fits ks (reply k c).config (call_fits k c h)

next_rises : (ks : List Call) (c : Config) → (config_after c ks).next ≡ c.next + made_after c ks
next_rises [] c = omega arith
next_rises (k ∷ ks) c = omega (arith, keeps_well_formed.made_rises k c, next_rises ks (reply k c).config)

-- OF A LOADED TEXT
module _ (text : List ℕ) (program : List Row) (l : load text ≡ loaded program) (ks : List Call) where
  stands : Accounted (length (initial_atoms program)) (events_after (fresh program) ks) (graph (config_after (fresh program) ks)) (made_after (fresh program) ks) (gone_after (fresh program) ks)
  unfolding DemandThree
  stands = demand_three text program l ks

  ends_in_limit : (config_after (fresh program) ks).next ≤ 65536
  ends_in_limit = next_fits ks (fresh program) (well_fits program (fresh program) (keeps_well_formed.loads_well text program l))

  made_small : made_after (fresh program) ks ≤ 65536
  made_small = omega (arith, next_rises ks (fresh program), ends_in_limit)

  -- no more are gone than were there at first and made
  gone_small : gone_after (fresh program) ks ≤ 65536
  gone_small =
      let first = ap (λ (g : Graph). g.next) (fresh_graph program) in
      omega (arith, first, stands.adds_up, next_rises ks (fresh program), ends_in_limit)

left_by : (c : Config) (r : Result Worked LoadError) → (come_to c r).config ≡ c
left_by c (Ok w) = refl
left_by c (Err e) = refl

pub accounts : (text words : List ℕ) (r : Played) → outcome r ≡ playing text words → AccountedFor text words r
unfolding AccountedFor after_load
accounts text words r e program l =
    let ks = calls_of program words in
    let events = events_after (fresh program) ks in
    subst (λ (c : Config). Accounted (length (initial_atoms program)) events (graph c) (outcome r).made (outcome r).gone) (left_by (conf r.config) r.worked)
    (subst (λ (x : PlayOutcome). Accounted (length (initial_atoms program)) events (graph x.config) x.made x.gone) (sym (e ∙ ap (after_load words) l))
    (stands text program l ks))

-- ON THE WAY: what the calls that are left bring to what was worked
abbrev pub carried : Config → Worked → List Call → PlayOutcome
carried c w ks = record {
  config = config_after c ks;
  number = 0;
  line = 0;
  calls = w.calls + length ks;
  made = w.made + made_after c ks;
  gone = w.gone + gone_after c ks;
}

-- what a call tells, where a refused one tells of nothing
abbrev pub told : Result Counts Refusal → Counts
told r = result_unwrap_or r (record { made = 0; gone = 0 })

record Tells (c : Config) (r : Result Counts Refusal) (a : Answer) : Type 0 where
  config : a.config ≡ c
  made : a.made ≡ (told r).made
  gone : a.gone ≡ (told r).gone

tells : (c : Config) (r : Result Counts Refusal) (a : Answer) → answered c r ≡ call_answer a → Tells c r a
tells c (Ok t) a e = record {
  config = sym (ap (λ (x : Answer). x.config) e);
  made = sym (ap (λ (x : Answer). x.made) e);
  gone = sym (ap (λ (x : Answer). x.gone) e);
}
tells c (Err x) a e = record {
  config = sym (ap (λ (x : Answer). x.config) e);
  made = sym (ap (λ (x : Answer). x.made) e);
  gone = sym (ap (λ (x : Answer). x.gone) e);
}

onward : (c d : Config) (w : Worked) (r : Result Counts Refusal) (k : Call) (ks : List Call) → answered d r ≡ call_answer (reply k c) →
    carried c w (k ∷ ks) ≡ carried d (and_counted w (told r)) ks
onward c d w r k ks e =
    let t = tells d r (reply k c) e in
    let calls : w.calls + length (k ∷ ks) ≡ w.calls + 1 + length ks = omega arith in
    let made : w.made + made_after c (k ∷ ks) ≡ w.made + (told r).made + made_after d ks = omega (arith, t.made, ap (λ (x : Config). made_after x ks) t.config) in
    let gone : w.gone + gone_after c (k ∷ ks) ≡ w.gone + (told r).gone + gone_after d ks = omega (arith, t.gone, ap (λ (x : Config). gone_after x ks) t.config) in
    λ i. record { config = config_after (t.config i) ks; number = 0; line = 0; calls = calls i; made = made i; gone = gone i }

-- the words before `at` were played, and what is left brings the whole
pub record Underway (program words : List ℕ) (c : Config) (w : Worked) (at : ℕ) : Type 0 where
  pub fits : at ≤ length words
  pub few : w.calls ≤ at
  pub whole : after_calls (given_rows program) (calls_of (given_rows program) words) ≡ carried c w (calls_of (given_rows program) (drop at words))

pub begins : (program words : List ℕ) (c : Config) → Begun program c → Underway program words c (record { calls = 0; made = 0; gone = 0 }) 0
begins program words c b = record { fits = omega arith; few = omega arith; whole = rw b.starts (simp zero-add) }

-- the rest stands at `at`
module _ {program words : List ℕ} {c : Config} {w : Worked} {at : ℕ} (u : Underway program words c w at) {rest : List ℕ} (f : rest ≡ drop at words) where
  to_play : after_calls (given_rows program) (calls_of (given_rows program) words) ≡ carried c w (calls_of (given_rows program) rest)
  to_play = u.whole ∙ ap (λ (l : List ℕ). carried c w (calls_of (given_rows program) l)) (sym f)

  pub ends : call_size rest ≡ 0 → come_to c (Ok w) ≡ after_calls (given_rows program) (calls_of (given_rows program) words)
  ends z = sym (to_play ∙ ap (carried c w) (no_calls (given_rows program) rest z) ∙ simp add-zero)

  -- its first call takes this many words
  module _ {size : ℕ} (s : (call_size rest ≡ size) × (call_size rest ≢ 0)) where
    pub moved : (at + size ≤ length words) × (0 < size)
    moved = let d = sized rest s.1 in (omega (arith, s.0, d.size, d.fits, ap length f, length-drop at words, u.fits), omega (arith, s.0, pos_of_ne-zero s.1))

    module _ (d : Config) (r : Result Counts Refusal) (e : answered d r ≡ call_answer (reply (first_call (given_rows program) rest) c)) where
      worked : after_calls (given_rows program) (calls_of (given_rows program) words) ≡
          carried d (and_counted w (told r)) (calls_of (given_rows program) (drop (at + size) words))
      worked =
          let left : drop (call_size rest) rest ≡ drop (at + size) words = (λ i. drop (s.0 i) (f i)) ∙ drop-drop size at words in
          to_play ∙ ap (carried c w) (more_calls (given_rows program) rest s.1)
          ∙ onward c d w r (first_call (given_rows program) rest) (calls_of (given_rows program) (drop (call_size rest) rest)) e
          ∙ ap (λ (l : List ℕ). carried d (and_counted w (told r)) (calls_of (given_rows program) l)) left

      module _ {t : Counts} (q : t ≡ told r) where
        pub small : {b : Config} → Begun program b → (w.made + t.made ≤ 65536) × (w.gone + t.gone ≤ 65536)
        small b =
            let ks = calls_of (given_rows program) words in
            let m = made_small b.text (given_rows program) b.loads ks in
            let g = gone_small b.text (given_rows program) b.loads ks in
            rw q (omega (arith, ap (λ (x : PlayOutcome). x.made) worked), omega (arith, ap (λ (x : PlayOutcome). x.gone) worked))

        pub goes_on : {v : Worked} → v ≡ and_counted w t → Underway program words d v (at + size)
        goes_on e = rw (e, q) (record { fits = moved.0; few = omega (arith, moved.1, u.few); whole = worked })
