-- delete, test by test.
use mathlib.Core.Path.{◌≡◌, sym, ap, ◌∙◌}
use mathlib.Core.Bool.{true, false, not, ◌||◌}
use mathlib.Core.Logic.{◌≢◌}
use mathlib.Core.List.{List}
use Prim.Native.Nat.{ℕ, ◌+◌, ◌-◌}
use native.Mathlib.Omega.{arith}
use lib.Dec.{eqb}
use borrow.Author.Tests.{eq-eqb, ne_eqb}
use Rattle.model.specs.Configuration.{Config, atom_alive, plan_alive}
use Rattle.model.specs.Deletion.{graph, remove}
use Rattle.model.specs.Events.{deletion, gone_by}
use Rattle.model.specs.declared.refusal.Refusal.TheVariants.{OutOfTurn, NotAlive}
use Rattle.model.specs.Log.{begin, emit_deletion, accepted, unless, answer_of, called}
use Rattle.model.specs.Calls.{delete, Call, to_delete, work, reply}
use Rattle.in_place.specs.Given.{given_rows, admitted}
use Rattle.demands.proofs.Outcomes.{unless_true, unless_false}
use Rattle.in_place.specs.Answers.{refused_with}
use Rattle.in_place.proofs.Outcomes.{is_admitted, refuses, admitted_words}

module _ (program : List ℕ) (c : Config) (t : ℕ) (a : admitted program c ≡ true) where
  abbrev call : Call
  call = to_delete (given_rows program) t

  past_1 : work call c ≡ unless (not (eqb c.waiting 0)) 6 (unless (not (atom_alive c t || plan_alive c t)) 12 (accepted (emit_deletion t (begin c))))
  unfolding work delete
  past_1 = is_admitted program c _ a

  pub delete_waiting : c.waiting ≢ 0 → refused_with c OutOfTurn ≡ reply call c
  delete_waiting z = refuses call c OutOfTurn (past_1 ∙ unless_true _ 6 _ (ap not (ne_eqb c.waiting 0 z)))

  module _ (z : c.waiting ≡ 0) where
    past_6 : work call c ≡ unless (not (atom_alive c t || plan_alive c t)) 12 (accepted (emit_deletion t (begin c)))
    past_6 = past_1 ∙ unless_false _ 6 _ (ap not (eq-eqb c.waiting 0 z))

    pub delete_dead : (atom_alive c t || plan_alive c t) ≡ false → refused_with c NotAlive ≡ reply call c
    delete_dead e = refuses call c NotAlive (past_6 ∙ unless_true _ 12 _ (ap not e))

    pub delete_done : (atom_alive c t || plan_alive c t) ≡ true → (d : Config) (gone : ℕ) → d ≡ remove t c → gone ≡ gone_by (graph c) (deletion t) →
        record { number = 0; did = called; config = d; made = 0; gone = gone } ≡ reply call c
    unfolding answer_of
    delete_done e d gone f g =
        let m : ◌≡◌ {A = ℕ} 0 (c.next - c.next) = omega arith in
        let n : gone ≡ 0 + gone_by (graph c) (deletion t) = omega arith in
        (λ i. record { number = 0; did = called; config = f i; made = m i; gone = n i }) ∙ ap (answer_of c) (sym (past_6 ∙ unless_false _ 12 _ (ap not e)))

pub ruleset deleting = (admitted_words, delete_waiting, delete_dead, delete_done)
