-- The actions of a rule in turn: what is left of them is the rows from k on, after a log that the words show.
use Rattle.std.specs.Prelude.{Option, Some, None, IfSome, Result, Ok, Err}
use mathlib.Core.Path.{◌≡◌, refl, sym, ap, ◌∙◌, subst}
use mathlib.Core.List.{List, ◌∷◌}
use Prim.Native.Nat.{ℕ, ◌+◌, ◌-◌, ◌≤◌, ◌<◌}
use native.Mathlib.Omega.{arith}
use lib.ListN.{length, length-map}
use Rattle.std.proofs.lemmas.Option.{none-some}
use Rattle.lists.specs.Lists.{In, count_up}
use Rattle.lists.proofs.Lists.{in_map}
use Rattle.lists.proofs.Search.{in_count_up}
use Rattle.lists.proofs.Tests.{length_count_up}
use Rattle.model.specs.declared.refusal.Refusal.{Refusal}
use Rattle.model.specs.declared.Row.{Row}
use Rattle.model.specs.Program.{body}
use Rattle.model.specs.Log.{nothing, fired, Log, begin, report, Outcome}
use Rattle.model.specs.Calls.{Action, acted, stopped, barred, act, after_action, act_all}
use Rattle.program_laws.proofs.Rows.{meta_action, action_flag}
use Rattle.program.specs.Rows.{row_at, rows_of}
use Rattle.program.proofs.Words.{rows_next, rows_none}
use Rattle.matching.specs.declared.Rule.{Rule}
use Rattle.matching.specs.Rules.{rows_between}
use Rattle.state.specs.declared.Scalars.{Scalars}
use Rattle.state.specs.View.{config_of}
use Rattle.stepping.specs.declared.Made.{Made}
use Rattle.stepping.specs.declared.Did.TheVariants as Did
use Rattle.stepping.specs.declared.Progress.{Progress}
use Rattle.stepping.specs.Steps.{made_of}
use Rattle.stepping.proofs.Standing.{lawful_rows, shaped, whole}
use Rattle.acting.specs.declared.Acted.{Acted}
use Rattle.acting.specs.Actions.{Workable, FlagNumber, Leaves, Acts, Fires, Shown, meta_work}

-- the outcome is that of the rows from k up to end, from a log that the words show
pub record Running (o : Outcome) (program : List ℕ) (set number end k : ℕ) (words : List ℕ) (s : Scalars) (v : List ℕ) (made : Made) (gone : ℕ) : Type 0 where
  pub workable : Workable words s
  pub log : Log
  pub config_is : log.config ≡ config_of words s
  pub gone_is : log.gone ≡ gone
  pub did_is : log.did ≡ fired set number (made_of made)
  pub rest : o ≡ act_all set number (rows_between program k end) v log

-- WHERE IT BEGINS
module _ (program words : List ℕ) (s : Scalars) (rule : Rule) (values : List ℕ) (f : Fires program words s rule) where
  pub fires_workable : Workable words s
  fires_workable = record {
    whole = whole program words s f.well;
    next_fits = (shaped program words s f.well).next_fits;
    flags_fit = λ q i. ((shaped program words s f.well).plans_formed q i).flags_fit;
  }

  pub running_first : Running (meta_work program (config_of words s) rule values) program rule.set rule.number rule.end rule.body words s values Made.Nothing 0
  unfolding meta_work
  running_first = record {
    workable = fires_workable;
    log = report (fired rule.set rule.number nothing) (begin (config_of words s));
    config_is = refl;
    gone_is = refl;
    did_is = refl;
    rest = ap (λ (rows : List Row). act_all rule.set rule.number rows values (report (fired rule.set rule.number nothing) (begin (config_of words s)))) (sym f.located.body_is);
  }

  -- "a rule has up to .. 8 of part 3 (body)"
  pub body_short : rule.end - rule.body ≤ 8
  unfolding rows_between
  body_short =
      let h = (lawful_rows program words s f.well).short_body rule.set rule.number in
      let e : length (rows_between program rule.body rule.end) ≡ length (body (rows_of program) rule.set rule.number) = ap length f.located.body_is in
      let m : length (rows_between program rule.body rule.end) ≡ rule.end - rule.body = length-map (count_up rule.body (rule.end - rule.body)) (row_at program) ∙ length_count_up rule.body (rule.end - rule.body) in
      omega arith

  row_between : (k : ℕ) → rule.body ≤ k → k < rule.end → In (row_at program k) (body (rows_of program) rule.set rule.number)
  unfolding rows_between
  row_between k h l = subst (In (row_at program k)) f.located.body_is (in_map (row_at program) (in_count_up rule.body (rule.end - rule.body) k h (omega arith)))

  -- each row of the body is an action
  pub row_flag : (k : ℕ) (r : Row) → r ≡ row_at program k → rule.body ≤ k → k < rule.end → FlagNumber r
  unfolding FlagNumber
  row_flag k r e h l = action_flag r (meta_action (lawful_rows program words s f.well) rule.set rule.number (sym f.located.object_is ∙ f.meta) r (subst (λ (x : Row). In x (body (rows_of program) rule.set rule.number)) (sym e) (row_between k h l)))

-- HOW IT GOES ON
pub done_told : (words : List ℕ) (x : Acted) (t : Option Acted) → t ≡ Some x → IfSome t (λ y. Workable words y.scalars × (y.gone ≤ 320)) → Workable words x.scalars × (x.gone ≤ 320)
done_told words x t e = subst (λ (u : Option Acted). IfSome u (λ y. Workable words y.scalars × (y.gone ≤ 320))) e

module _ {o : Outcome} {program : List ℕ} {set number end k : ℕ} {words : List ℕ} {s : Scalars} {v : List ℕ} {made : Made} {gone : ℕ} (w : Running o program set number end k words s v made gone) where
  abbrev L : Log
  L = w.log

  abbrev done : Scalars → Progress
  done t = record { scalars = t; gone = gone; did = Did.Fired set number made }

  -- no row is left
  pub running_end : end ≤ k → Shown o words (Ok (done s))
  unfolding rows_between act_all
  running_end h = rw (w.rest ∙ ap (λ (rows : List Row). act_all set number rows v L) (rows_none program k end h)) (sym w.did_is, sym w.config_is, sym w.gone_is)

  module _ (h : k < end) (row : Row) (e : row ≡ row_at program k) (words' : List ℕ) where
    abbrev rest_of : List ℕ → Log → Outcome
    rest_of u M = act_all set number (rows_between program (k + 1) end) u M

    one_more : o ≡ after_action rest_of L (act set number row v L)
    unfolding rows_between act_all
    one_more = w.rest ∙ ap (λ (rows : List Row). act_all set number rows v L) (rows_next program k end h ∙ ap (λ (r : Row). r ∷ rows_between program (k + 1) end) (sym e))

    leaves : (r : Result (Option Acted) Refusal) → Acts row v made s words words' r → Leaves set number L s words' r (act set number row v L)
    unfolding Acts
    leaves r a = a set number L w.config_is w.did_is

    -- the action meets a limit
    pub running_barred : (n : Refusal) → Acts row v made s words words' (Err n) → (words'' : List ℕ) → Shown o words'' (Err n)
    unfolding after_action
    running_barred n a words'' = rw one_more (at (act set number row v L) (leaves (Err n) a))
      where
        at : (b : Action) → Leaves set number L s words' (Err n) b → Shown (after_action rest_of L b) words'' (Err n)
        at (acted u M) q = absurd q
        at stopped q = absurd q
        at (barred m) q = q

    -- its instance does not live
    pub running_stopped : (t : Option Acted) → t ≡ None → Acts row v made s words words' (Ok t) → Shown o words' (Ok (done s))
    unfolding after_action
    running_stopped t n a = rw one_more (at (act set number row v L) (leaves (Ok None) (subst (λ (u : Option Acted). Acts row v made s words words' (Ok u)) n a)))
      where
        at : (b : Action) → Leaves set number L s words' (Ok None) b → Shown (after_action rest_of L b) words' (Ok (done s))
        at (acted u M) q = absurd q
        at stopped q = (sym w.did_is, sym q.1, sym w.gone_is)
        at (barred m) q = absurd q

    -- it is done
    pub running_next : (x : Acted) (t : Option Acted) → t ≡ Some x → Acts row v made s words words' (Ok t) → Workable words' x.scalars → Running o program set number end (k + 1) words' x.scalars x.values x.made (gone + x.gone)
    unfolding after_action
    running_next x t n a y = at (act set number row v L) (leaves (Ok (Some x)) (subst (λ (u : Option Acted). Acts row v made s words words' (Ok u)) n a)) one_more
      where
        at : (b : Action) → Leaves set number L s words' (Ok (Some x)) b → o ≡ after_action rest_of L b → Running o program set number end (k + 1) words' x.scalars x.values x.made (gone + x.gone)
        at (acted u M) q f = record {
          workable = y;
          log = M;
          config_is = q.1;
          gone_is = q.2 ∙ ap (λ (g : ℕ). g + x.gone) w.gone_is;
          did_is = q.3;
          rest = f ∙ ap (λ (l : List ℕ). rest_of l M) q.0;
        }
        at stopped q f = absurd (none-some x (sym q.0))
        at (barred m) q f = absurd q
