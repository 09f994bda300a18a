-- What holds after a plan's step, one case for each kind of step.
use mathlib.Core.Path.{◌≡◌}
use mathlib.Core.Bool.{true, false}
use mathlib.Core.Logic.{◌≢◌}
use Prim.Native.Nat.{ℕ}
use lib.Dec.{eqb, leb}
use lib.ListN.{length}
use borrow.Author.Tests.{eqb-true, eqb-false}
use Rattle.model.specs.declared.Row.{Row}
use Rattle.model.specs.Configuration.{Plan, most_atoms, last_next, operand, atom_alive, with_waiting}
use Rattle.model.specs.Log.{done, executed, waits, Log, emit_atom, emit_subgoal, emit_deletion, quiet, report, Outcome}
use Rattle.model.specs.Log as Log
use Rattle.model.specs.Calls.{room_for_atom, make_atom, set_stepped, set_failed, remove_step, succeed, fail, exists_atom, take_step}
use Rattle.graph_laws.specs.Faithful.{After}
use Rattle.graph_laws.proofs.After.{after_then, after_unless, after_if, after_done}

-- the log of a step that is done, and of one that failed
abbrev pub succeeded : ℕ → Log → Log
succeeded k L = report (executed k done) (quiet (λ c. set_stepped k (remove_step k c)) L)

abbrev pub not_done : ℕ → Log → Log
not_done k L = report (executed k Log.failed) (quiet (λ c. set_stepped k (set_failed k c)) L)

pub after_room : (P : Log → Type 0) (L : Log) (o : Outcome) → (eqb L.config.next last_next ≡ false → leb most_atoms (length L.config.atoms) ≡ false → After P o) → After P (room_for_atom L o)
unfolding room_for_atom
after_room P L o h = after_unless P _ _ _ (λ e. after_unless P _ _ _ (λ f. h e f))

module _ (P : Log → Type 0) (q : Plan) (r : Row) (L : Log) where
  abbrev x : ℕ
  x = operand q.values r.a

  abbrev y : ℕ
  y = operand q.values r.b

  abbrev t : ℕ
  t = operand q.values r.i

  pub after_take_step :
      (r.op ≡ 31 → P (report (waits q.id r.p x y) (quiet (with_waiting q.id) L))) →
      P (succeeded q.id L) →
      P (not_done q.id L) →
      (r.op ≡ 34 → eqb L.config.next last_next ≡ false → leb most_atoms (length L.config.atoms) ≡ false → P (succeeded q.id (emit_atom r.p x y L))) →
      (r.op ≡ 35 → atom_alive L.config t ≡ true → P (emit_deletion t (succeeded q.id L))) →
      (r.op ≢ 31 → r.op ≢ 32 → r.op ≢ 33 → r.op ≢ 34 → r.op ≢ 35 → eqb L.config.next last_next ≡ false → leb most_atoms (length L.config.atoms) ≡ false →
      P (report (executed q.id done) (quiet (set_stepped q.id) (emit_subgoal q.id r.p x y L)))) →
      After P (take_step q r L)
  unfolding take_step succeed fail make_atom
  after_take_step waiting good bad adds deletes links =
      after_if P (eqb r.op 31) _ _ (λ e. after_done P _ (waiting (eqb-true r.op 31 e)))
      (λ e. after_if P (eqb r.op 32) _ _ (λ f. after_if P (exists_atom r.p x y L.config) _ _ (λ h. after_done P _ good) (λ h. after_done P _ bad))
      (λ f. after_if P (eqb r.op 33) _ _ (λ g. after_if P (exists_atom r.p x y L.config) _ _ (λ h. after_done P _ bad) (λ h. after_done P _ good))
      (λ g. after_if P (eqb r.op 34) _ _
      (λ h. after_then (λ (M : Log). P (succeeded q.id M)) P (make_atom r.p x y L) (succeed q.id)
      (after_room (λ (M : Log). P (succeeded q.id M)) L _ (λ i j. after_done (λ (M : Log). P (succeeded q.id M)) _ (adds (eqb-true r.op 34 h) i j)))
      (λ M p. after_done P _ p))
      (λ h. after_if P (eqb r.op 35) _ _
      (λ i. after_if P (atom_alive L.config t) _ _
      (λ j. after_then (λ (M : Log). P (emit_deletion t M)) P (succeed q.id L) _ (after_done (λ (M : Log). P (emit_deletion t M)) _ (deletes (eqb-true r.op 35 i) j)) (λ M p. after_done P _ p))
      (λ j. after_done P _ bad))
      (λ i. after_room P L _ (λ j k. after_done P _
      (links (eqb-false r.op 31 e) (eqb-false r.op 32 f) (eqb-false r.op 33 g) (eqb-false r.op 34 h) (eqb-false r.op 35 i) j k)))))))
