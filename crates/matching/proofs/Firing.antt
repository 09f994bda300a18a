-- One rule by the bounds of its parts: where it stands, what its matches are, and what fires first of it and the rules behind it.
use Rattle.std.specs.Prelude.{if◌then◌else◌}
use mathlib.Core.Path.{◌≡◌, refl, sym, ap, ap₂, ◌∙◌}
use mathlib.Core.Bool.{Bool, true, false, not, ◌&&◌, and-eq-true_iff}
use mathlib.Core.Logic.{◌≢◌}
use mathlib.Core.List.{List, [], ◌∷◌, ◌++◌, map}
use Prim.Native.Nat.{ℕ, ◌+◌, ◌-◌, ◌/◌, ◌≤◌, ◌<◌}
use native.Mathlib.Omega.{arith}
use lib.Dec.{eqb, ltb}
use lib.ListN.{length, length-append}
use borrow.Author.Tests.{eqb-true, ne_eqb, ltb-true, ltb-false, le-ltb}
use Rattle.lists.specs.Lists.{In, keep, first_of, is_empty, bind}
use Rattle.lists.proofs.Lists.{clash, keep_in, count_keep}
use Rattle.lists.proofs.Bind.{keep_append}
use Rattle.lists.proofs.Splits.{keep_none}
use Rattle.lists.proofs.Search.{map_bind, first_map}
use Rattle.model.specs.declared.Row.{Row}
use Rattle.model.specs.Program.{part_of, reasons, context, is_object}
use Rattle.model.specs.Configuration.{Config}
use Rattle.model.specs.Matching.{Found, nothing_found, matches, counts, rule_rows, rule_matches, Firing, firing}
use Rattle.program.specs.Rows.{row_at, rows_from, rows_of}
use Rattle.program.proofs.Words.{rows_next, rows_none}
use Rattle.program_laws.specs.Lawful.{Lawful}
use Rattle.spans.specs.Spans.{Bound}
use Rattle.spans.proofs.Spans.{bounds_rise, span_is}
use Rattle.state.specs.declared.Scalars.{Scalars}
use Rattle.state.specs.View.{config_of}
use Rattle.queries.specs.Answers.{answers}
use Rattle.matching.specs.declared.Rule.{Rule}
use Rattle.queries.specs.declared.Bindings.{Bindings}
use Rattle.matching.specs.Rules.{rows_between, reasons_in, Located, counted, Chosen}
use Rattle.matching.proofs.Rows.{counted_next}
use Rattle.matching.proofs.Rules.{rows_join, top, fired, fires, fires_next, fires_end, no_rule}

-- what follows an answer of a rule's first row
unfoldable pub follow : List ℕ → List ℕ → Scalars → Rule → ℕ → Found → List Firing
follow program words scalars rule start x = map (fired rule.number) (counted program words scalars rule (start + 1) x)

-- the bounds of a rule's parts
pub record Parts (program : List ℕ) (s n start behind mid end : ℕ) : Type 0 where
  pub first : Bound program s n 1 start
  pub second : Bound program s n 2 behind
  pub third : Bound program s n 3 mid
  pub fourth : Bound program s n 4 end

pub parts : {program : List ℕ} {s n start behind mid end : ℕ} → Bound program s n 1 start → Bound program s n 2 behind → Bound program s n 3 mid → Bound program s n 4 end →
    Parts program s n start behind mid end
parts a b d e = record { first = a; second = b; third = d; fourth = e }

module _ (program : List ℕ) (s n start behind mid end : ℕ) (x : Parts program s n start behind mid end) where
  abbrev P : List Row
  P = rows_of program

  abbrev rule_at : Rule
  rule_at = record { set = s; number = n; body = mid; end = end; object = ltb start behind }

  pub parts_rise : (start ≤ behind) × (behind ≤ mid) × (mid ≤ end)
  parts_rise = (bounds_rise program s n 1 start behind x.first x.second, bounds_rise program s n 2 behind mid x.second x.third, bounds_rise program s n 3 mid end x.third x.fourth)

  queries_are : rows_between program start mid ≡ rule_rows P s n
  unfolding rows_between
  queries_are =
      sym (rows_join program start behind mid parts_rise.0 parts_rise.1)
      ∙ ap₂ ◌++◌ (span_is program s n 1 start behind x.first x.second) (span_is program s n 2 behind mid x.second x.third)

  object_are : ltb start behind ≡ is_object P s n
  unfolding is_object
  object_are = at (ltb start behind) refl ∙ ap (λ (l : List Row). not (is_empty l)) (span_is program s n 1 start behind x.first x.second)
    where
      at : (b : Bool) → ltb start behind ≡ b → b ≡ not (is_empty (rows_from program start (behind - start)))
      at true e = rw (rows_next program start behind (ltb-true start behind e))
      at false e = rw (rows_none program start behind (ltb-false start behind e))

  pub located : Located program rule_at
  unfolding rows_between
  located = record {
    ordered = parts_rise.2;
    inside = x.fourth.inside;
    object_is = object_are;
    body_is = span_is program s n 3 mid end x.third x.fourth;
  }

  pub chosen_here : (f : Bindings) → f.count ≤ 4 → Chosen program s (record { bindings = f; rule = rule_at })
  chosen_here f h = record { set_is = refl; located = located; few = h }

  no_reason : (r : Row) → In r (context P s n) → eqb r.part 1 ≡ false
  unfolding part_of
  no_reason r i =
      let k = (keep_in (λ (r : Row). eqb r.set s && (eqb r.rule n && eqb r.part 2)) P i).1 in
      let l = ((and-eq-true_iff (eqb r.set s) (eqb r.rule n && eqb r.part 2)).0 k).1 in
      let m = eqb-true r.part 2 ((and-eq-true_iff (eqb r.rule n) (eqb r.part 2)).0 l).1 in
      ne_eqb r.part 1 (λ e. omega arith)

  -- its reasons are four at most
  pub reasons_few : Lawful P → reasons_in program start mid ≤ 4
  unfolding reasons_in
  reasons_few w =
      let f : Row → Bool = λ (r : Row). eqb r.part 1 in
      let a = count_keep f (reasons P s n) in
      let b = w.few_reasons s n in
      rw (queries_are, keep_append f (reasons P s n) (context P s n), keep_none f (context P s n) no_reason, length-append (keep f (reasons P s n)) []) (omega arith)

  no_queries : mid ≤ start → rows_between program start mid ≡ []
  unfolding rows_between
  no_queries h = rows_none program start mid h

  module _ (words : List ℕ) (scalars : Scalars) where
    abbrev C : Config
    C = config_of words scalars

    matches_are : rule_matches P C s n ≡ counted program words scalars rule_at start nothing_found
    unfolding rule_matches counted
    matches_are = ap (λ (l : List Row). keep (counts P C s n) (matches C l nothing_found)) (sym queries_are)

    -- what the rule and those behind it fire
    fires_from : n ≤ top P s → fires P C s n ≡ map (fired n) (counted program words scalars rule_at start nothing_found) ++ fires P C s (n + 1)
    fires_from h = fires_next P C s n h ∙ ap (λ (l : List Found). map (fired n) l ++ fires P C s (n + 1)) matches_are

    -- with no row to try it matches as it is
    pub fires_as_it_is : n ≤ top P s → mid ≤ start → first_of (fires P C s n) ≡ fired n nothing_found ∷ []
    unfolding counted matches counts
    fires_as_it_is h k =
        let a = parts_rise in
        let o : is_object P s n ≡ false = sym object_are ∙ le-ltb start behind (omega arith) in
        ap first_of (fires_from h) ∙ rw (no_queries k, o)

    pub fires_by_answers : n ≤ top P s → start < mid → (r : Row) → r ≡ row_at program start → (f : Found) → f ≡ nothing_found →
        fires P C s n ≡ bind (answers words scalars r f 0) (follow program words scalars rule_at start) ++ fires P C s (n + 1)
    unfolding follow
    fires_by_answers h k r e f q =
        fires_from h
        ∙ ap (λ (l : List Firing). l ++ fires P C s (n + 1))
        (ap (λ (g : Found). map (fired n) (counted program words scalars rule_at start g)) (sym q)
        ∙ ap (map (fired n)) (counted_next program words scalars rule_at start f k r e)
        ∙ map_bind (fired n) (counted program words scalars rule_at (start + 1)) (answers words scalars r f 0))

-- the first of some matches: there is none, or it fires
module _ (g : Found → Firing) (l : List Found) (rest : List Firing) (a : List Found) (e : a ≡ first_of l) where
  long_spent : a ≡ [] → first_of (map g l ++ rest) ≡ first_of rest
  long_spent h = at l (sym e ∙ h)
    where
      at : (l : List Found) → first_of l ≡ [] → first_of (map g l ++ rest) ≡ first_of rest
      at [] q = refl
      at (x ∷ l) q = clash refl (sym (ap is_empty q))

  long_reached : is_empty a ≡ false → map g a ≡ first_of (map g l ++ rest)
  long_reached h = ap (map g) e ∙ at l (sym (ap is_empty e) ∙ h)
    where
      at : (l : List Found) → is_empty (first_of l) ≡ false → map g (first_of l) ≡ first_of (map g l ++ rest)
      at [] q = clash refl q
      at (x ∷ l) q = refl

-- its answer, as a firing
pub firing_first : (program words : List ℕ) (scalars : Scalars) (rule : Rule) (start : ℕ) (x : Found) (m : List Found) →
    m ≡ first_of (counted program words scalars rule (start + 1) x) → map (fired rule.number) m ≡ first_of (follow program words scalars rule start x)
unfolding follow
firing_first program words scalars rule start x m e =
    ap (map (fired rule.number)) e ∙ sym (first_map (fired rule.number) (counted program words scalars rule (start + 1) x))

-- no rule has fired yet, and the first to fire is the first of the rules from n on, whose rows begin at start
pub record Choosing (program words : List ℕ) (scalars : Scalars) (s n start : ℕ) : Type 0 where
  pub positive : 1 ≤ n
  pub bound : Bound program s n 1 start
  pub is : firing (rows_of program) (config_of words scalars) s ≡ first_of (fires (rows_of program) (config_of words scalars) s n)

-- no row of the set is left
pub choice_ends : (program words : List ℕ) (scalars : Scalars) (s n start : ℕ) → Choosing program words scalars s n start → Lawful (rows_of program) →
    (start < length program / 8 → (row_at program start).set ≢ s) → [] ≡ firing (rows_of program) (config_of words scalars) s
choice_ends program words scalars s n start x w h =
    sym (x.is ∙ ap first_of (fires_end (rows_of program) (config_of words scalars) s n (no_rule program w s n start x.bound x.positive h)))

-- one rule is tried, by the answers of its first row from number c on, and then those behind it
pub record Trying (program words : List ℕ) (scalars : Scalars) (rule : Rule) (start : ℕ) (r : Row) (f : Found) (once : Bool) (c : ℕ) : Type 0 where
  pub at_first : once ≡ true → c ≡ 0
  pub is : firing (rows_of program) (config_of words scalars) rule.set
      ≡ first_of (bind (answers words scalars r f c) (follow program words scalars rule start) ++ fires (rows_of program) (config_of words scalars) rule.set (rule.number + 1))

-- all that is left of the rule was tried: nothing fires, or its match
module _ {program words : List ℕ} {scalars : Scalars} {rule : Rule} {start : ℕ} {r : Row} {f : Found} {once : Bool} {c : ℕ} (x : Trying program words scalars rule start r f once c)
    (q : r ≡ row_at program start) (a : List Found) (e : a ≡ first_of (bind (answers words scalars (row_at program start) f c) (counted program words scalars rule (start + 1)))) where
  abbrev left_over : List Found
  left_over = bind (answers words scalars (row_at program start) f c) (counted program words scalars rule (start + 1))

  abbrev behind : List Firing
  behind = fires (rows_of program) (config_of words scalars) rule.set (rule.number + 1)

  trying_is : firing (rows_of program) (config_of words scalars) rule.set ≡ first_of (map (fired rule.number) left_over ++ behind)
  unfolding follow
  trying_is =
      x.is
      ∙ ap (λ (l : List Firing). first_of (l ++ behind))
      (sym (map_bind (fired rule.number) (counted program words scalars rule (start + 1)) (answers words scalars r f c))
      ∙ ap (λ (y : Row). map (fired rule.number) (bind (answers words scalars y f c) (counted program words scalars rule (start + 1)))) q)

  pub rest_none : a ≡ [] → firing (rows_of program) (config_of words scalars) rule.set ≡ first_of behind
  rest_none h = trying_is ∙ long_spent (fired rule.number) left_over behind a e h

  pub rest_one : is_empty a ≡ false → map (fired rule.number) a ≡ firing (rows_of program) (config_of words scalars) rule.set
  rest_one h = long_reached (fired rule.number) left_over behind a e h ∙ sym trying_is
