-- What holds after the actions of a meta rule, from what each action keeps.
use Rattle.std.specs.Prelude.{if◌then◌else◌}
use mathlib.Core.Path.{◌≡◌, refl, sym, ◌∙◌}
use mathlib.Core.Bool.{Bool, true, false, not}
use mathlib.Core.List.{List, [], ◌∷◌, ◌++◌}
use mathlib.Core.Logic.{◌≢◌}
use Prim.Native.Nat.{ℕ}
use lib.Dec.{eqb, leb}
use lib.ListN.{length, set}
use borrow.Author.Tests.{eqb-true, eqb-false, not-false}
use Rattle.lists.proofs.Bind.{append_assoc}
use Rattle.model.specs.declared.Row.{Row}
use Rattle.model.specs.Program.{variable?, constant}
use Rattle.model.specs.Configuration.{most_atoms, last_next, place, operand, with_flag, without_flag, atom_alive, plan_alive, with_flags, change_plan}
use Rattle.model.specs.Log.{an_atom, fired, Log, emit_atom, emit_deletion, quiet, report, Outcome, accepted, unless}
use Rattle.model.specs.Calls.{room_for_atom, Action, acted, stopped, barred, acted_on, add_action, act, after_action, act_all}
use Rattle.graph_laws.specs.Faithful.{After}

-- P holds of the values and the log after an action that was done
unfoldable pub AfterAction : (List ℕ → Log → Type 0) → Action → Type 0
AfterAction P (acted v L) = P v L
AfterAction P stopped = Unit {0}
AfterAction P (barred n) = Unit {0}

-- the values after a 21
abbrev pub values_after : Row → List ℕ → Log → List ℕ
values_after r v L = if variable? r.i then set v (place r.i) L.config.next else v

abbrev pub log_after : ℕ → ℕ → Row → List ℕ → Log → Log
log_after s n r v L = report (fired s n (an_atom L.config.next)) (emit_atom r.p (operand v r.a) (operand v r.b) L)

module _ (s n : ℕ) (r : Row) (v : List ℕ) (L : Log) (P : List ℕ → Log → Type 0) where
  after_either : (b : Bool) (x y : Action) → (b ≡ true → AfterAction P x) → (b ≡ false → AfterAction P y) → AfterAction P (if b then x else y)
  after_either true x y h k = h refl
  after_either false x y h k = k refl

  after_add : (eqb L.config.next last_next ≡ false → leb most_atoms (length L.config.atoms) ≡ false → P (values_after r v L) (log_after s n r v L)) → AfterAction P (add_action s n r v L)
  unfolding add_action room_for_atom unless acted_on AfterAction
  after_add h = at (eqb L.config.next last_next) (leb most_atoms (length L.config.atoms)) refl refl
    where
      at : (a b : Bool) → eqb L.config.next last_next ≡ a → leb most_atoms (length L.config.atoms) ≡ b →
          AfterAction P (acted_on (values_after r v L) (unless a 8 (unless b 9 (accepted (log_after s n r v L)))))
      at true b p q = tt
      at false true p q = tt
      at false false p q = h p q

  -- one case for each kind of action
  pub after_act :
      (r.op ≡ 21 → eqb L.config.next last_next ≡ false → leb most_atoms (length L.config.atoms) ≡ false → P (values_after r v L) (log_after s n r v L)) →
      (r.op ≡ 22 → atom_alive L.config (operand v r.i) ≡ true → P v (emit_deletion (operand v r.i) L)) →
      (plan_alive L.config (operand v r.i) ≡ true → r.op ≡ 23 → P v (quiet (change_plan (operand v r.i) (with_flags (with_flag (constant r.a)))) L)) →
      (plan_alive L.config (operand v r.i) ≡ true → r.op ≡ 24 → P v (quiet (change_plan (operand v r.i) (with_flags (without_flag (constant r.a)))) L)) →
      (r.op ≢ 21 → plan_alive L.config (operand v r.i) ≡ true → P v (emit_deletion (operand v r.i) L)) →
      AfterAction P (act s n r v L)
  unfolding act AfterAction
  after_act adds deletes sets clears removes =
      after_either (eqb r.op 21) _ _ (λ e. after_add (adds (eqb-true r.op 21 e)))
      (λ e. after_either (eqb r.op 22) _ _ (λ f. after_either (atom_alive L.config (operand v r.i)) _ _ (deletes (eqb-true r.op 22 f)) (λ g. tt))
      (λ f. after_either (not (plan_alive L.config (operand v r.i))) _ _ (λ g. tt)
      (λ g. let alive = not-false _ g in
      after_either (eqb r.op 23) _ _ (λ h. sets alive (eqb-true r.op 23 h))
      (λ h. after_either (eqb r.op 24) _ _ (λ i. clears alive (eqb-true r.op 24 i)) (λ i. removes (eqb-false r.op 21 e) alive)))))

-- the actions in order: P speaks of the rows done so far, the values and the log
module _ (s n : ℕ) (rows : List Row) (P : List Row → List ℕ → Log → Type 0) (Q : Log → Type 0)
    (ends : (before : List Row) (v : List ℕ) (L : Log) → P before v L → Q L)
    (each : (before : List Row) (r : Row) (after : List Row) → rows ≡ before ++ (r ∷ after) → (v : List ℕ) (L : Log) → P before v L → AfterAction (P (before ++ (r ∷ []))) (act s n r v L)) where
  after_one : (before : List Row) (v : List ℕ) (L : Log) (rest : List ℕ → Log → Outcome) (a : Action) → Q L → AfterAction (P before) a → ((w : List ℕ) (M : Log) → P before w M → After Q (rest w M)) → After Q (after_action rest L a)
  unfolding AfterAction after_action After
  after_one before v L rest (acted w M) q h k = k w M h
  after_one before v L rest stopped q h k = q
  after_one before v L rest (barred m) q h k = tt

  pub after_actions : (rs before : List Row) → rows ≡ before ++ rs → (v : List ℕ) (L : Log) → P before v L → After Q (act_all s n rs v L)
  unfolding act_all After
  after_actions [] before e v L p = ends before v L p
  after_actions (r ∷ rs) before e v L p =
      after_one (before ++ (r ∷ [])) v L (λ w M. act_all s n rs w M) (act s n r v L) (ends before v L p) (each before r rs e v L p)
      (λ w M q. after_actions rs (before ++ (r ∷ [])) (e ∙ sym (append_assoc before (r ∷ []) rs)) w M q)
