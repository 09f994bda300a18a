-- One action, kind by kind: what the code leaves of it is what the rules make of it.
use Rattle.std.specs.Prelude.{if◌then◌else◌, Some, None, Ok, Err}
use mathlib.Core.Path.{◌≡◌, refl, sym, ap, ◌∙◌}
use mathlib.Core.Bool.{Bool, true, false}
use mathlib.Core.Logic.{◌≢◌}
use mathlib.Core.List.{List}
use Prim.Native.Nat.{ℕ}
use native.Mathlib.Omega.{arith}
use lib.ListN.{length}
use borrow.Author.Tests.{ne_eqb}
use Rattle.model.specs.declared.refusal.Refusal.{Refusal}
use Rattle.model.specs.Refusals.{number_of}
use Rattle.model.specs.declared.Row.{Row}
use Rattle.model.specs.Program.{constant}
use Rattle.model.specs.Configuration.{Config, operand, with_flag, without_flag, atom_alive, plan_alive, with_flags, change_plan, add_atom}
use Rattle.model.specs.Deletion.{graph, remove}
use Rattle.model.specs.Events.{deletion, gone_by}
use Rattle.model.specs.Log.{fired, an_atom, Log, emit_atom, emit_deletion, quiet, report, Outcome, refused, accepted}
use Rattle.model.specs.Calls.{room_for_atom, acted, stopped, acted_on, add_action, act}
use Rattle.state.specs.declared.Scalars.{Scalars}
use Rattle.state.specs.View.{config_of, atom_bar}
use Rattle.state.proofs.Room.{atoms_of_bar}
use Rattle.stepping.specs.declared.Made.{Made}
use Rattle.stepping.specs.Steps.{made_of}
use Rattle.stepping.proofs.Room.{atom_barred, atom_free}
use Rattle.acting.specs.declared.Acted.{Acted}
use Rattle.acting.specs.Actions.{with_value, Acts, Deletes}

-- WHAT AN ACTION IS, by its op and whether its instance lives
module _ (s n : ℕ) (row : Row) (values : List ℕ) (L : Log) where
  abbrev target : ℕ
  target = operand values row.i

  is_add : row.op ≡ 21 → act s n row values L ≡ add_action s n row values L
  unfolding act
  is_add e = rw e

  is_atom_deletion : (b : Bool) → row.op ≡ 22 → atom_alive L.config target ≡ b → act s n row values L ≡ (if b then acted values (emit_deletion target L) else stopped)
  unfolding act
  is_atom_deletion b e a = rw (e, a)

  module _ (e : row.op ≢ 21) (f : row.op ≢ 22) where
    is_no_plan : plan_alive L.config target ≡ false → act s n row values L ≡ stopped
    unfolding act
    is_no_plan a = rw (ne_eqb row.op 21 e, ne_eqb row.op 22 f, a)

    is_plan_deletion : row.op ≢ 23 → row.op ≢ 24 → plan_alive L.config target ≡ true → act s n row values L ≡ acted values (emit_deletion target L)
    unfolding act
    is_plan_deletion g h a = rw (ne_eqb row.op 21 e, ne_eqb row.op 22 f, a, ne_eqb row.op 23 g, ne_eqb row.op 24 h)

  is_set : row.op ≡ 23 → plan_alive L.config target ≡ true → act s n row values L ≡ acted values (quiet (change_plan target (with_flags (with_flag (constant row.a)))) L)
  unfolding act
  is_set e a = rw (e, a)

  is_clear : row.op ≡ 24 → plan_alive L.config target ≡ true → act s n row values L ≡ acted values (quiet (change_plan target (with_flags (without_flag (constant row.a)))) L)
  unfolding act
  is_clear e a = rw (e, a)

-- WHAT THE CODE LEAVES OF IT
module _ (row : Row) (values : List ℕ) (made : Made) (lent : Scalars) (before : List ℕ) where
  abbrev id : ℕ
  id = operand values row.i

  abbrev c : Config
  c = config_of before lent

  -- its instance does not live
  acts_stopped : ((s n : ℕ) (L : Log) → L.config ≡ c → act s n row values L ≡ stopped) → Acts row values made lent before before (Ok None)
  unfolding Acts
  acts_stopped h s n L q p = rw (h s n L q) (refl, q)

  pub stops_atom : row.op ≡ 22 → atom_alive c id ≡ false → Acts row values made lent before before (Ok None)
  stops_atom o a = acts_stopped (λ s n L q. is_atom_deletion s n row values L false o (ap (λ (x : Config). atom_alive x id) q ∙ a))

  pub stops_plan : row.op ≢ 21 → row.op ≢ 22 → plan_alive c id ≡ false → Acts row values made lent before before (Ok None)
  stops_plan o u a = acts_stopped (λ s n L q. is_no_plan s n row values L o u (ap (λ (x : Config). plan_alive x id) q ∙ a))

  module _ (words : List ℕ) where
    -- it is deleted
    module _ (x : Acted) where
      acts_deletion : ((s n : ℕ) (L : Log) → L.config ≡ c → act s n row values L ≡ acted values (emit_deletion id L)) → Deletes id values made c (config_of words x.scalars) x → Acts row values made lent before words (Ok (Some x))
      unfolding Acts
      acts_deletion h d s n L q p = rw (h s n L q) (
        sym (ap (λ (y : Acted). y.values) d.told),
        ap (remove id) q ∙ sym d.left,
        (let e : gone_by (graph L.config) (deletion id) ≡ gone_by (graph c) (deletion id) = ap (λ (y : Config). gone_by (graph y) (deletion id)) q in
            let f : x.gone ≡ gone_by (graph c) (deletion id) = ap (λ (y : Acted). y.gone) d.told in
            omega arith),
        p ∙ ap (λ (y : Acted). fired s n (made_of y.made)) (sym d.told),
      )

      pub deletes_atom : row.op ≡ 22 → atom_alive c id ≡ true → Deletes id values made c (config_of words x.scalars) x → Acts row values made lent before words (Ok (Some x))
      deletes_atom o a = acts_deletion (λ s n L q. is_atom_deletion s n row values L true o (ap (λ (x : Config). atom_alive x id) q ∙ a))

      pub deletes_plan : row.op ≢ 21 → row.op ≢ 22 → row.op ≢ 23 → row.op ≢ 24 → plan_alive c id ≡ true → Deletes id values made c (config_of words x.scalars) x → Acts row values made lent before words (Ok (Some x))
      deletes_plan o u v w a = acts_deletion (λ s n L q. is_plan_deletion s n row values L o u v w (ap (λ (x : Config). plan_alive x id) q ∙ a))

    -- a flag of it is set, is cleared
    acts_flags : (f : ℕ → ℕ) → ((s n : ℕ) (L : Log) → L.config ≡ c → act s n row values L ≡ acted values (quiet (change_plan id (with_flags f)) L)) → config_of words lent ≡ change_plan id (with_flags f) c →
        Acts row values made lent before words (Ok (Some (record { scalars = lent; values = values; gone = 0; made = made })))
    unfolding Acts
    acts_flags f h e s n L q p = rw (h s n L q) (refl, ap (change_plan id (with_flags f)) q ∙ sym e, omega arith, p)

    pub sets_flag : row.op ≡ 23 → plan_alive c id ≡ true → config_of words lent ≡ change_plan id (with_flags (with_flag (constant row.a))) c →
        Acts row values made lent before words (Ok (Some (record { scalars = lent; values = values; gone = 0; made = made })))
    sets_flag o a = acts_flags (with_flag (constant row.a)) (λ s n L q. is_set s n row values L o (ap (λ (x : Config). plan_alive x id) q ∙ a))

    pub clears_flag : row.op ≡ 24 → plan_alive c id ≡ true → config_of words lent ≡ change_plan id (with_flags (without_flag (constant row.a))) c →
        Acts row values made lent before words (Ok (Some (record { scalars = lent; values = values; gone = 0; made = made })))
    clears_flag o a = acts_flags (without_flag (constant row.a)) (λ s n L q. is_clear s n row values L o (ap (λ (x : Config). plan_alive x id) q ∙ a))

    -- an atom is made, or there is no room
    module _ (o : row.op ≡ 21) where
      abbrev values_after : Log → List ℕ
      values_after L = with_value values row.i L.config.next

      abbrev log_after : ℕ → ℕ → Log → Log
      log_after s n L = report (fired s n (an_atom L.config.next)) (emit_atom row.p (operand values row.a) (operand values row.b) L)

      is_made : (s n : ℕ) (L : Log) (x : Outcome) → room_for_atom L (accepted (log_after s n L)) ≡ x → act s n row values L ≡ acted_on (values_after L) x
      unfolding add_action with_value
      is_made s n L x e = is_add s n row values L o ∙ ap (acted_on (values_after L)) e

      bar_of : (L : Log) → L.config ≡ c → atom_bar L.config.next (length L.config.atoms) ≡ atom_bar lent.next lent.atoms
      bar_of L q = ap (λ (x : Config). atom_bar x.next (length x.atoms)) q ∙ atoms_of_bar before lent

      pub add_barred : (e : Refusal) → atom_bar lent.next lent.atoms ≡ number_of e → Acts row values made lent before words (Err e)
      unfolding Acts acted_on
      add_barred e b s n L q p = rw (is_made s n L (refused (number_of e)) (atom_barred L (accepted (log_after s n L)) e (bar_of L q ∙ b))) refl

      pub adds : atom_bar lent.next lent.atoms ≡ 0 → (x y : ℕ) → x ≡ operand values row.a → y ≡ operand values row.b → (t : Scalars) → config_of words t ≡ add_atom row.p x y c → (v : List ℕ) → v ≡ with_value values row.i lent.next →
          Acts row values made lent before words (Ok (Some (record { scalars = t; values = v; gone = 0; made = Made.Atom lent.next })))
      unfolding Acts acted_on
      adds b x y ex ey t g v k s n L q p = rw (is_made s n L (accepted (log_after s n L)) (atom_free L (accepted (log_after s n L)) (bar_of L q ∙ b))) (
        ap (λ (d : Config). with_value values row.i d.next) q ∙ sym k,
        (λ i. add_atom row.p (sym ex i) (sym ey i) (q i)) ∙ sym g,
        omega arith,
        ap (λ (d : Config). fired s n (an_atom d.next)) q,
      )

-- the record of a deletion
pub deleted : (t : ℕ) (values : List ℕ) (made : Made) (c d : Config) (scalars : Scalars) (gone : ℕ) → d ≡ remove t c → gone ≡ gone_by (graph c) (deletion t) →
    Deletes t values made c d (record { scalars = scalars; values = values; gone = gone; made = made })
deleted t values made c d scalars gone e f = record { left = e; told = λ i. record { scalars = scalars; values = values; gone = f i; made = made } }
