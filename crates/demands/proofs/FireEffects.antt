-- What a rule that fires does is what `Fired` says; where it is refused, one more instance was needed and there was no room.
use Rattle.std.specs.Prelude.{if◌then◌else◌}
use mathlib.Core.Path.{◌≡◌, refl, sym, ap, ◌∙◌, subst}
use mathlib.Core.Bool.{Bool, true, false, not}
use mathlib.Core.Logic.{◌⊎◌, inl, inr}
use mathlib.Core.List.{List, [], ◌∷◌, ◌++◌}
use Prim.Native.Nat.{ℕ, ◌≤◌}
use native.Mathlib.Omega.{arith}
use lib.Dec.{eqb, leb}
use lib.ListN.{length}
use borrow.Author.Tests.{eqb-true, eqb-false, leb-true, not-false, not-true}
use Rattle.lists.specs.Lists.{In}
use Rattle.lists.proofs.Lists.{member_in, member_out}
use Rattle.lists.proofs.Bind.{append_assoc}
use Rattle.model.specs.declared.Row.{Row}
use Rattle.model.specs.Program.{constant, body, is_object}
use Rattle.model.specs.Configuration.{Config, most_atoms, last_next, operand, with_flag, without_flag, with_flags, atom_ids, plan_ids, atom_alive, plan_alive}
use Rattle.model.specs.Graph.{Sound}
use Rattle.model.specs.Deletion.{graph}
use Rattle.model.specs.Matching.{Found, rule_matches}
use Rattle.model.specs.Log.{Made, nothing, an_atom, fired, Log, begin, report, accepted, unless}
use Rattle.model.specs.Calls.{room_for_atom, fire_object, Action, acted, stopped, barred, acted_on, add_action, act, after_action, act_all, fire}
use Rattle.model.specs.Effects.{TakesId, Moment, target, ActsOnce, adds_atom, deletes_atom, sets_flag, clears_flag, deletes_plan, ActsInTurn, no_action, onward, NotLive, Acts, before_acting, Fired, raises, acts}
use Rattle.model.specs.Refusing.{NoRoomForAtom, NoRoomForPlan}
use Rattle.model.specs.Refusing as Refusing
use Rattle.graph_laws.proofs.Faithful.{faithful_sound}
use Rattle.graph_laws.proofs.Deletion.{deleted}
use Rattle.program_laws.specs.Lawful.{Lawful}
use Rattle.program_laws.proofs.Rows.{ActionRow}
use Rattle.demands.proofs.Told.{Told, told_done, told_if, told_map, told_plan}
use Rattle.demands.proofs.Effects.{atom_made, plan_changed, plan_made}
use Rattle.demands.proofs.Shape.{Shaped}
use Rattle.demands.proofs.Actions.{AfterAction, values_after, log_after}
use Rattle.demands.proofs.Fire.{Acting, action, one_action, acting_first}

-- what an action tells: P of the values and the log after it, S where it stops, R of the limit that it meets
unfoldable ToldAction : (List ℕ → Log → Type 0) → Type 0 → (ℕ → Type 0) → Action → Type 0
ToldAction P S R (acted v L) = P v L
ToldAction P S R stopped = S
ToldAction P S R (barred n) = R n

module _ (P : List ℕ → Log → Type 0) (S : Type 0) (R : ℕ → Type 0) where
  either : (b : Bool) (x y : Action) → (b ≡ true → ToldAction P S R x) → (b ≡ false → ToldAction P S R y) → ToldAction P S R (if b then x else y)
  either true x y h k = h refl
  either false x y h k = k refl

  adding : (s n : ℕ) (r : Row) (v : List ℕ) (L : Log) → length L.config.atoms ≤ most_atoms → ((m : ℕ) → NoRoomForAtom L.config m → R m) → P (values_after r v L) (log_after s n r v L) → ToldAction P S R (add_action s n r v L)
  unfolding add_action room_for_atom unless acted_on ToldAction
  adding s n r v L few none h = at (eqb L.config.next last_next) (leb most_atoms (length L.config.atoms)) refl refl
    where
      at : (a b : Bool) → eqb L.config.next last_next ≡ a → leb most_atoms (length L.config.atoms) ≡ b →
          ToldAction P S R (acted_on (values_after r v L) (unless a 8 (unless b 9 (accepted (log_after s n r v L)))))
      at true b p q = none 8 (Refusing.no_id (eqb-true L.config.next last_next p))
      at false true p q = let h = leb-true most_atoms (length L.config.atoms) q in none 9 (Refusing.no_place (eqb-false L.config.next last_next p) (omega arith))
      at false false p q = h

-- an action by its op
module _ (s n : ℕ) (r : Row) (row : ActionRow r) (v : List ℕ) (made : Made) (L : Log) (is : L.did ≡ fired s n made) (few : length L.config.atoms ≤ most_atoms) (z : Sound (graph L.config)) where
  abbrev now : Moment
  now = record { values = v; made = made; config = L.config }

  -- the moment after it
  record ActedTo (w : List ℕ) (M : Log) : Type 0 where
    pub next_made : Made
    pub says : M.did ≡ fired s n next_made
    pub once : ActsOnce r now (record { values = w; made = next_made; config = M.config })

  abbrev Met : ℕ → Type 0
  Met m = (r.op ≡ 21) × NoRoomForAtom L.config m

  takes_id : TakesId r.i L.config.next v (values_after r v L)
  takes_id = (λ e. rw e, λ e. rw e)

  live_atom : atom_alive L.config (target r now) ≡ true → In (target r now) (atom_ids L.config)
  unfolding atom_alive
  live_atom e = member_in (target r now) (atom_ids L.config) e

  dead_atom : atom_alive L.config (target r now) ≡ false → ¬ In (target r now) (atom_ids L.config)
  unfolding atom_alive
  dead_atom e = member_out e

  live_plan : plan_alive L.config (target r now) ≡ true → In (target r now) (plan_ids L.config)
  unfolding plan_alive
  live_plan e = member_in (target r now) (plan_ids L.config) e

  dead_plan : plan_alive L.config (target r now) ≡ false → ¬ In (target r now) (plan_ids L.config)
  unfolding plan_alive
  dead_plan e = member_out e

  act_told : ToldAction ActedTo (NotLive r now) Met (act s n r v L)
  unfolding act ToldAction
  act_told =
      let k = target r now in
      let low = row.low in
      let high = row.high in
      let either = either ActedTo (NotLive r now) Met in
      either (eqb r.op 21) _ _
      (λ e. let o = eqb-true r.op 21 e in
      adding ActedTo (NotLive r now) Met s n r v L few (λ m h. (o, h)) (record { next_made = an_atom L.config.next; says = refl; once = adds_atom o (atom_made r.p (operand v r.a) (operand v r.b) L.config) takes_id }))
      (λ e. either (eqb r.op 22) _ _
      (λ f. let o = eqb-true r.op 22 f in
      either (atom_alive L.config k) _ _
      (λ g. record { next_made = made; says = is; once = deletes_atom o (live_atom g) (deleted L.config z k) })
      (λ g. inl (o, dead_atom g)))
      (λ f. let a = eqb-false r.op 21 e in let b = eqb-false r.op 22 f in
      either (not (plan_alive L.config k)) _ _
      (λ g. inr (omega arith, dead_plan (not-true _ g)))
      (λ g. let alive = live_plan (not-false _ g) in
      either (eqb r.op 23) _ _
      (λ h. record { next_made = made; says = is; once = sets_flag (eqb-true r.op 23 h) alive (plan_changed k (with_flags (with_flag (constant r.a))) L.config) })
      (λ h. either (eqb r.op 24) _ _
      (λ i. record { next_made = made; says = is; once = clears_flag (eqb-true r.op 24 i) alive (plan_changed k (with_flags (without_flag (constant r.a))) L.config) })
      (λ i. let d = eqb-false r.op 23 h in let m = eqb-false r.op 24 i in
      record { next_made = made; says = is; once = deletes_plan (omega arith) alive (deleted L.config z k) })))))

module _ (program : List Row) (c : Config) (l : Lawful program) (s : Sound (graph c)) (w : Shaped program c) (z : c.waiting ≡ 0) (t n : ℕ) (g : Found) (i : In g (rule_matches program c t n)) where
  abbrev at_log : List ℕ → Made → Log → Moment
  at_log v made L = record { values = v; made = made; config = L.config }

  -- the actions from a moment on, up to where they end or stop
  record Acted (rs : List Row) (m : Moment) (M : Log) : Type 0 where
    pub last : Moment
    pub acts_so : Acts rs m last
    pub config_is : M.config ≡ last.config
    pub says : M.did ≡ fired t n last.made

  pub record ActionBarred (rs : List Row) (m : Moment) (k : ℕ) : Type 0 where
    pub before : List Row
    pub row : Row
    pub after : List Row
    pub moment : Moment
    pub stands : rs ≡ before ++ (row ∷ after)
    pub is_21 : row.op ≡ 21
    pub so_far : ActsInTurn before m moment
    pub full : NoRoomForAtom moment.config k

  -- one action more in front
  module _ (r : Row) (rs : List Row) (m d : Moment) (x : ActsOnce r m d) where
    acted_more : (M : Log) → Acted rs d M → Acted (r ∷ rs) m M
    acted_more M y = record {
      last = y.last;
      acts_so = record {
        before = r ∷ y.acts_so.before;
        after = y.acts_so.after;
        stands = ap (λ (q : List Row). r ∷ q) y.acts_so.stands;
        in_turn = onward x y.acts_so.in_turn;
        stops = y.acts_so.stops;
      };
      config_is = y.config_is;
      says = y.says;
    }

    barred_more : (k : ℕ) → ActionBarred rs d k → ActionBarred (r ∷ rs) m k
    barred_more k y = record {
      before = r ∷ y.before;
      row = y.row;
      after = y.after;
      moment = y.moment;
      stands = ap (λ (q : List Row). r ∷ q) y.stands;
      is_21 = y.is_21;
      so_far = onward x y.so_far;
      full = y.full;
    }

  abbrev Done : List Row → List ℕ → Log → Type 0
  Done = Acting program c l s w z t n g i

  acts_from : is_object program t n ≡ false → (rs before : List Row) → body program t n ≡ before ++ rs → (v : List ℕ) (made : Made) (L : Log) → Done before v L → L.did ≡ fired t n made →
      Told (Acted rs (at_log v made L)) (ActionBarred rs (at_log v made L)) (act_all t n rs v L)
  unfolding act_all after_action ToldAction AfterAction Told
  acts_from o [] before e v made L a d = record {
    last = at_log v made L;
    acts_so = record { before = []; after = []; stands = refl; in_turn = no_action; stops = tt };
    config_is = refl;
    says = d;
  }
  acts_from o (r ∷ rs) before e v made L a d =
      go (act t n r v L) (one_action program c l s w z t n g i o before r rs e v L a)
      (act_told t n r (action program c l s w z t n g i o before r rs e v L a) v made L d a.good.shaped.few_atoms (faithful_sound c L a.good.faithful s))
      (λ u m M b f. acts_from o rs (before ++ (r ∷ [])) (e ∙ sym (append_assoc before (r ∷ []) rs)) u m M b f)
    where
      To : List ℕ → Log → Type 0
      To = ActedTo t n r (action program c l s w z t n g i o before r rs e v L a) v made L d a.good.shaped.few_atoms (faithful_sound c L a.good.faithful s)

      go : (x : Action) → AfterAction (Done (before ++ (r ∷ []))) x → ToldAction To (NotLive r (at_log v made L)) (λ k. (r.op ≡ 21) × NoRoomForAtom L.config k) x →
          ((u : List ℕ) (m : Made) (M : Log) → Done (before ++ (r ∷ [])) u M → M.did ≡ fired t n m → Told (Acted rs (at_log u m M)) (ActionBarred rs (at_log u m M)) (act_all t n rs u M)) →
          Told (Acted (r ∷ rs) (at_log v made L)) (ActionBarred (r ∷ rs) (at_log v made L)) (after_action (λ u M. act_all t n rs u M) L x)
      go (acted u M) b y more = told_map _ _ _ _ (act_all t n rs u M)
          (acted_more r rs (at_log v made L) (at_log u y.next_made M) y.once) (barred_more r rs (at_log v made L) (at_log u y.next_made M) y.once)
          (more u y.next_made M b y.says)
      go stopped b y more = record {
        last = at_log v made L;
        acts_so = record { before = []; after = r ∷ rs; stands = refl; in_turn = no_action; stops = y };
        config_is = refl;
        says = d;
      }
      go (barred k) b y more = record { before = []; row = r; after = rs; moment = at_log v made L; stands = refl; is_21 = y.0; so_far = no_action; full = y.1 }

  abbrev pub FireBarred : ℕ → Type 0
  FireBarred k = ((is_object program t n ≡ true) × NoRoomForPlan c k) ⊎ ((is_object program t n ≡ false) × ActionBarred (body program t n) (before_acting g c) k)

  pub fire_told : Told (λ M. Fired program t n g c M.config M.did) FireBarred (fire program t (record { rule = n; match = g }) (begin c))
  unfolding fire fire_object
  fire_told = told_if _ _ (is_object program t n) _ _
      (λ o. told_plan _ _ (begin c) _ w.few_plans (λ k h. inl (o, h)) (told_done _ _ _ (raises o (plan_made program t n g c))))
      (λ o. told_map (Acted (body program t n) (before_acting g c)) _ (ActionBarred (body program t n) (before_acting g c)) _ _
      (λ M x. subst (λ (d : Config). Fired program t n g c d M.did) (sym x.config_is) (subst (Fired program t n g c x.last.config) (sym x.says) (acts x.last o x.acts_so)))
      (λ k x. inr (o, x))
      (acts_from o (body program t n) [] refl g.values nothing (report (fired t n nothing) (begin c)) (acting_first program c l s w z t n g i) refl))
