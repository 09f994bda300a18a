-- A rule that fires keeps the configuration in shape and tells its events.
use Rattle.std.specs.Prelude.{if◌then◌else◌}
use mathlib.Core.Path.{◌≡◌, refl, sym, ap, ◌∙◌, subst}
use mathlib.Core.Bool.{Bool, true, false, true≢false}
use mathlib.Core.Logic.{◌⊎◌, inl, inr, ⊎_elim, ◌≢◌}
use mathlib.Core.List.{List, [], ◌∷◌, ◌++◌, map}
use Prim.Native.Nat.{ℕ, ◌≤◌}
use native.Mathlib.Omega.{arith}
use lib.Dec.{eqb, leb}
use lib.ListN.{length, set}
use borrow.Author.Tests.{eqb-false, leb-false}
use Rattle.lists.specs.Lists.{In, first, keep, first_of, within, rising_set}
use Rattle.lists.proofs.Lists.{in_nil, in_one, in_left, in_right, in_append, in_map, map_in, keep_in}
use Rattle.lists.proofs.Bind.{append-nil, bind_in}
use Rattle.lists.proofs.RisingSet.{rising_set_rises, rising_set_few, rising_set_some}
use Rattle.model.specs.declared.Row.{Row}
use Rattle.model.specs.declared.Atom.{Atom}
use Rattle.model.specs.Program.{variable?, constant, reasons, context, body, rules_of, is_object}
use Rattle.model.specs.Configuration.{Config, most_atoms, most_plans, last_next, place, operand, new_plan, with_flag, without_flag}
use Rattle.model.specs.Graph.{Sound}
use Rattle.model.specs.Deletion.{graph}
use Rattle.model.specs.Events.{Fits, plan_made}
use Rattle.model.specs.Matching.{Candidate, candidate, atom_candidates, candidates, negation, Found, nothing_found, rule_rows, rule_matches, Firing, firing}
use Rattle.model.specs.Meaning.{Match}
use Rattle.model.specs.Log.{nothing, a_plan, fired, Log, begin, emit_plan, report}
use Rattle.model.specs.Calls.{room_for_plan, fire_object, act, act_all, fire}
use Rattle.graph_laws.specs.Faithful.{After}
use Rattle.graph_laws.proofs.Faithful.{faithful_plan, faithful_report}
use Rattle.graph_laws.proofs.After.{after_unless, after_if, after_done}
use Rattle.search_laws.proofs.Exact.{in_match}
use Rattle.program_laws.specs.Lawful.{Lawful, Gives, Given, Uses}
use Rattle.program_laws.proofs.Rows.{part_row, row_range, object_step, meta_action, object_reasons, ActionRow, action_flag}
use Rattle.demands.proofs.Shape.{PlanFormed, Shaped}
use Rattle.demands.proofs.Kept.{shaped_plan}
use Rattle.demands.proofs.Values.{Valued, Values, Grows, Solved, set_values, set_grows, set_valued, variable_bounds, solves_values, solves_split, reasons_match, context_matches}
use Rattle.demands.proofs.Bounds.{candidates_bounded}
use Rattle.demands.proofs.Operands.{operand_fits, no_values_fit, there_value, values_row, in_split}
use Rattle.demands.proofs.Queries.{odd_positive, odd_small, query_small}
use Rattle.demands.proofs.Flags.{with_flag_fits, without_flag_fits}
use Rattle.demands.proofs.Actions.{AfterAction, values_after, log_after, after_act, after_actions}
use Rattle.demands.proofs.Good.{Good, good_begin, good_report, good_atom, good_deletion, good_flags}

-- the rule that fires does so with one of its matches
first_among : {A : Type 0} (l : List A) {x : A} → In x (first_of l) → In x l
first_among [] h = h
first_among (y ∷ l) h = first (in_one h)

pub firing_matches : (program : List Row) (c : Config) (s : ℕ) (f : Firing) → In f (firing program c s) → In f.match (rule_matches program c s f.rule)
unfolding firing
firing_matches program c s f h =
    let r = bind_in _ (rules_of program s) (first_among _ h) in
    let m = map_in (λ (g : Found). record { rule = r.0; match = g }) (rule_matches program c s r.0) r.2 in
    subst (λ (w : Firing). In w.match (rule_matches program c s w.rule)) (sym m.2) m.1

module _ (program : List Row) (c : Config) (l : Lawful program) (s : Sound (graph c)) (w : Shaped program c) (z : c.waiting ≡ 0) (t n : ℕ) (g : Found) (i : In g (rule_matches program c t n)) where
  ks : List Candidate
  ks = (in_match program c t n s g i).0

  match : Match program c t n ks g
  unfolding ks
  match = (in_match program c t n s g i).1

  -- the rows that match stand in the program
  row_among : (r : Row) → In r (rule_rows program t n) → In r program
  row_among r h = ⊎_elim (λ k. (part_row program t n 1 r k).among) (λ k. (part_row program t n 2 r k).among) (in_append (reasons program t n) (context program t n) h)

  solved : Solved c (rule_rows program t n) nothing_found g
  solved = solves_values c (rule_rows program t n) nothing_found ks g (λ r h. candidates_bounded program c l s w r (row_range l r (row_among r h)).a) no_values_fit match.solves

  -- what reasons and context give a value has one
  query_valued : (x : ℕ) → variable? x ≡ true → (r : Row) → In r (rule_rows program t n) → Gives r x → Valued g.values x
  query_valued x o r h (inl (e, m)) = solved.valued x o r h (odd_positive r e) m
  query_valued x o r h (inr (e, m)) = ⊎_elim
      (λ k. let q = l.reason_rows t n r k in absurd (omega arith))
      (λ k. let q = query_small r (l.context_rows t n r k) in absurd (omega arith))
      (in_append (reasons program t n) (context program t n) h)

  -- "justifications (ids its reasons matched, each once)"
  atom_id : (r : Row) → r.op ≡ 1 → (k : Candidate) → In k (candidates c r) → In k.i (graph c).atoms
  unfolding candidates atom_candidates
  atom_id r e k h =
      let b : within 1 2 r.op ≡ true = rw e in
      let j : In k (map (λ (x : Atom). candidate x.id x.a x.b) (keep (λ (x : Atom). eqb x.p r.p) c.atoms)) = rw b at h in
      let m = map_in (λ (x : Atom). candidate x.id x.a x.b) (keep (λ (x : Atom). eqb x.p r.p) c.atoms) j in
      let a = keep_in (λ (x : Atom). eqb x.p r.p) c.atoms m.1 in
      subst (λ (y : Candidate). In y.i (graph c).atoms) (sym m.2) (in_map (λ (x : Atom). x.id) a.0)

  reason_ids : (length g.matched ≡ length (reasons program t n)) × ((j : ℕ) → In j g.matched → In j (graph c).atoms)
  reason_ids =
      let p = solves_split c (reasons program t n) (context program t n) nothing_found ks g match.solves in
      let a = reasons_match c (λ (j : ℕ). In j (graph c).atoms) (reasons program t n) nothing_found p.1.0 p.0
      (λ r h. let q = l.reason_rows t n r h in ((part_row program t n 1 r h).part, odd r q.0, atom_id r q.0)) (λ j h. in_nil h) p.1.1 in
      let b : g.matched ≡ p.0.matched = context_matches c (context program t n) p.0 p.2.0 g (λ r h. let q = part_row program t n 2 r h in let d = q.part in omega arith) p.2.1 in
      (ap length b ∙ a.0 ∙ omega arith, λ j h. a.1 j (subst (In j) b h))
    where
      odd : (r : Row) → r.op ≡ 1 → negation r ≡ false
      odd r e = rw e

  pub fits : is_object program t n ≡ true → Fits (graph c) (plan_made g.matched)
  fits o =
      let a = reason_ids in
      let some = object_reasons l t n o in
      let few = l.few_reasons t n in
      let most = rising_set_few g.matched in
      (rising_set_some g.matched (omega (arith, a.0)), omega (arith, a.0), rising_set_rises g.matched, a.1)

  -- OBJECT RULES
  body_valued : is_object program t n ≡ true → (r : Row) → In r (body program t n) → (x : ℕ) → Uses r x → variable? x ≡ true → Valued g.values x
  body_valued o r h x u v =
      let p = in_split h in
      let a = l.valued t n p.0 r p.1 p.2 x u v in
      ⊎_elim (λ k. query_valued x v a.0 (in_left (context program t n) k) a.2)
      (λ k. ⊎_elim (λ m. query_valued x v a.0 (in_right (reasons program t n) m) a.2)
      (λ m. absurd (no_step a.0 (subst (In a.0) (sym p.2) (in_left (r ∷ p.1) m)) a.2))
      (in_append (context program t n) p.0 k)) (in_append (reasons program t n) (context program t n ++ p.0) a.1)
    where
      no_step : (r : Row) → In r (body program t n) → Gives r x → ⊥
      no_step r h (inl (e, m)) = let a = object_step l t n o r h in let b = odd_small r e in let d = a.low in omega arith
      no_step r h (inr (e, m)) = let a = object_step l t n o r h in let d = a.low in omega arith

  new_formed : is_object program t n ≡ true → PlanFormed program c.atoms (new_plan c t n g.values (length (body program t n)) (rising_set g.matched))
  new_formed o = record {
    object = o;
    left_fits = omega arith;
    values_long = solved.values.long;
    values_fit = solved.values.fit;
    values_given = λ r h. values_row g.values r
        (there_value g.values r.i (body_valued o r h r.i (inr (inr (refl, let a = object_step l t n o r h in let b = a.low in omega arith)))))
        (there_value g.values r.a (body_valued o r h r.a (inl refl)))
        (there_value g.values r.b (body_valued o r h r.b (inr (inl refl))));
    flags_fit = omega arith;
    subgoal_first = inl refl;
  }

  pub object_good : is_object program t n ≡ true → After (Good program c) (fire_object program t n g (begin c))
  unfolding fire_object room_for_plan
  object_good o = after_unless (Good program c) _ _ _ (λ e. after_unless (Good program c) _ _ _ (λ f. after_done (Good program c) _ (record {
    faithful = faithful_report c (emit_plan t n g.values (length (body program t n)) g.matched (begin c)) (faithful_plan c (begin c) (good_begin program c w z).faithful t n g.values (length (body program t n)) g.matched (fits o)) (fired t n (a_plan c.next));
    shaped = shaped_plan program c w t n g.values (length (body program t n)) (rising_set g.matched) (new_formed o) (let d = eqb-false c.next last_next e in omega (arith, w.next_fits)) (leb-false most_plans (length c.plans) f);
    idle = z;
  })))

  -- META RULES: after the rows `before` of the body, what they and the queries give has a value
  pub record Acting (before : List Row) (v : List ℕ) (L : Log) : Type 0 where
    pub good : Good program c L
    pub values : Values v
    pub valued : (x : ℕ) → variable? x ≡ true → Given (reasons program t n ++ (context program t n ++ before)) x → Valued v x

  given_split : (before : List Row) (r : Row) (x : ℕ) → Given (reasons program t n ++ (context program t n ++ (before ++ (r ∷ [])))) x → Given (reasons program t n ++ (context program t n ++ before)) x ⊎ Gives r x
  given_split before r x (q, h, e) = ⊎_elim (λ k. inl (q, in_left (context program t n ++ before) k, e))
      (λ k. ⊎_elim (λ m. inl (q, in_right (reasons program t n) (in_left before m), e))
      (λ m. ⊎_elim (λ d. inl (q, in_right (reasons program t n) (in_right (context program t n) d), e)) (λ d. inr (subst (λ (u : Row). Gives u x) (in_one d) e)) (in_append before (r ∷ []) m))
      (in_append (context program t n) (before ++ (r ∷ [])) k))
      (in_append (reasons program t n) (context program t n ++ (before ++ (r ∷ []))) h)

  module _ (o : is_object program t n ≡ false) (before : List Row) (r : Row) (after : List Row) (e : body program t n ≡ before ++ (r ∷ after)) (v : List ℕ) (L : Log) (a : Acting before v L) where
    here : In r (body program t n)
    here = subst (In r) (sym e) (in_right before (first refl))

    pub action : ActionRow r
    action = meta_action l t n o r here

    -- an action but 21 gives nothing
    gives_none : r.op ≢ 21 → (x : ℕ) → Gives r x → ⊥
    gives_none h x (inl (d, m)) = let k = odd_small r d in let q = action.low in omega arith
    gives_none h x (inr (d, m)) = h d

    still : (M : Log) → r.op ≢ 21 → Good program c M → Acting (before ++ (r ∷ [])) v M
    still M h g = record { good = g; values = a.values; valued = λ x u d. ⊎_elim (λ k. a.valued x u k) (λ k. absurd (gives_none h x k)) (given_split before r x d) }

    uses : (x : ℕ) → Uses r x → variable? x ≡ true → Valued v x
    uses x u d = a.valued x d (l.valued t n before r after e x u d)

    range_a : r.a ≤ 65544
    range_a = (row_range l r (part_row program t n 3 r here).among).a

    range_b : r.b ≤ 65544
    range_b = (row_range l r (part_row program t n 3 r here).among).b

    -- 21: the new atom's arguments are of 16 bits, and its id is the variable's value
    added : r.op ≡ 21 → eqb L.config.next last_next ≡ false → leb most_atoms (length L.config.atoms) ≡ false → Acting (before ++ (r ∷ [])) (values_after r v L) (log_after t n r v L)
    added h i j =
        let names = action.atom h in
        let small : L.config.next ≤ 65535 = (let d = eqb-false L.config.next last_next i in omega (arith, a.good.shaped.next_fits)) in
        record {
          good = good_report program c _ (good_atom program c L a.good r.p (operand v r.a) (operand v r.b) names.low names.high
              (operand_fits v r.a a.values range_a names.a (uses r.a (inl refl))) (operand_fits v r.b a.values range_b names.b (uses r.b (inr (inl refl)))) i j) _;
          values = new_values (variable? r.i) small;
          valued = λ x u d. ⊎_elim (λ k. new_grows (variable? r.i) refl small x (a.valued x u k)) (λ k. new_valued x u small k) (given_split before r x d);
        }
      where
        new_values : (b : Bool) → L.config.next ≤ 65535 → Values (if b then set v (place r.i) L.config.next else v)
        new_values true k = set_values v (place r.i) L.config.next k a.values
        new_values false k = a.values

        new_grows : (b : Bool) → variable? r.i ≡ b → L.config.next ≤ 65535 → Grows v (if b then set v (place r.i) L.config.next else v)
        new_grows true d k = set_grows v r.i L.config.next a.values.long (variable_bounds r.i d).0 k
        new_grows false d k = λ y m. m

        takes : (b : Bool) → variable? r.i ≡ b → variable? r.i ≡ true → L.config.next ≤ 65535 → Valued (if b then set v (place r.i) L.config.next else v) r.i
        takes true d u k = set_valued v r.i L.config.next a.values.long (variable_bounds r.i d).0 k
        takes false d u k = absurd (true≢false (sym u ∙ d))

        new_valued : (x : ℕ) → variable? x ≡ true → L.config.next ≤ 65535 → Gives r x → Valued (values_after r v L) x
        new_valued x u k (inl (d, m)) = let q = odd_small r d in let p = action.low in absurd (omega arith)
        new_valued x u k (inr (d, m)) = subst (Valued (values_after r v L)) (sym m) (takes (variable? r.i) refl (subst (λ (y : ℕ). variable? y ≡ true) m u) k)

    flag_number : (r.op ≡ 23) ⊎ (r.op ≡ 24) → (1 ≤ constant r.a) × (constant r.a ≤ 16)
    flag_number = action_flag r action

    pub one_action : AfterAction (Acting (before ++ (r ∷ []))) (act t n r v L)
    one_action = after_act t n r v L (Acting (before ++ (r ∷ [])))
        added
        (λ h k. still _ (omega arith) (good_deletion program c L a.good _))
        (λ h k. still _ (omega arith) (good_flags program c L a.good _ (with_flag (constant r.a)) (λ m. with_flag_fits (constant r.a) m (flag_number (inl k)).0 (flag_number (inl k)).1)))
        (λ h k. still _ (omega arith) (good_flags program c L a.good _ (without_flag (constant r.a)) (λ m. without_flag_fits (constant r.a) m)))
        (λ h k. still _ h (good_deletion program c L a.good _))

  -- at the start the queries have given their values
  pub acting_first : Acting [] g.values (report (fired t n nothing) (begin c))
  acting_first = record {
    good = good_report program c (begin c) (good_begin program c w z) (fired t n nothing);
    values = solved.values;
    valued = λ x u d. query_valued x u d.0 (subst (λ (m : List Row). In d.0 (reasons program t n ++ m)) (append-nil (context program t n)) d.1) d.2;
  }

  pub meta_good : is_object program t n ≡ false → After (Good program c) (act_all t n (body program t n) g.values (report (fired t n nothing) (begin c)))
  meta_good o = after_actions t n (body program t n) Acting (Good program c) (λ before v L a. a.good) (one_action o) (body program t n) [] refl g.values (report (fired t n nothing) (begin c)) acting_first

pub fire_good : (program : List Row) (c : Config) → Lawful program → Sound (graph c) → Shaped program c → c.waiting ≡ 0 → (t : ℕ) (f : Firing) → In f (firing program c t) → After (Good program c) (fire program t f (begin c))
unfolding fire
fire_good program c l s w z t f i = after_if (Good program c) (is_object program t f.rule) _ _
    (object_good program c l s w z t f.rule f.match (firing_matches program c t f i))
    (meta_good program c l s w z t f.rule f.match (firing_matches program c t f i))
