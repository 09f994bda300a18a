-- answer, test by test.
use Rattle.std.specs.Prelude.{if◌then◌else◌}
use mathlib.Core.Path.{◌≡◌, sym, ap, ◌∙◌}
use mathlib.Core.Bool.{Bool, true}
use mathlib.Core.Logic.{◌≢◌}
use mathlib.Core.List.{List}
use Prim.Native.Nat.{ℕ, ◌-◌, ◌<◌, ◌≤◌}
use native.Mathlib.Omega.{arith}
use lib.Dec.{eqb, ltb}
use borrow.Author.Tests.{eq-eqb, ne_eqb, lt-ltb, le-ltb}
use Rattle.model.specs.Configuration.{Config, with_waiting}
use Rattle.model.specs.declared.refusal.Refusal.TheVariants.{OutOfTurn, OutOfRange}
use Rattle.model.specs.Log.{begin, quiet, accepted, unless, answer_of, called}
use Rattle.model.specs.Calls.{set_stepped, set_failed, remove_step, answered, answer, Call, to_answer, work, reply}
use Rattle.in_place.specs.Given.{given_rows, admitted}
use Rattle.demands.proofs.Outcomes.{unless_true, unless_false}
use Rattle.in_place.specs.Answers.{refused_with}
use Rattle.in_place.proofs.Outcomes.{is_admitted, refuses}

module _ (program : List ℕ) (c : Config) (n : ℕ) (a : admitted program c ≡ true) where
  abbrev call : Call
  call = to_answer (given_rows program) n

  past_1 : work call c ≡ unless (eqb c.waiting 0) 6 (unless (ltb 1 n) 7 (accepted (quiet (answered n) (begin c))))
  unfolding work answer
  past_1 = is_admitted program c _ a

  pub answer_idle : c.waiting ≡ 0 → refused_with c OutOfTurn ≡ reply call c
  answer_idle z = refuses call c OutOfTurn (past_1 ∙ unless_true _ 6 _ (eq-eqb c.waiting 0 z))

  module _ (z : c.waiting ≢ 0) where
    past_6 : work call c ≡ unless (ltb 1 n) 7 (accepted (quiet (answered n) (begin c)))
    past_6 = past_1 ∙ unless_false _ 6 _ (ne_eqb c.waiting 0 z)

    pub answer_large : 1 < n → refused_with c OutOfRange ≡ reply call c
    answer_large h = refuses call c OutOfRange (past_6 ∙ unless_true _ 7 _ (lt-ltb 1 n h))

    done : (d : Config) → d ≡ answered n c → d.next ≡ c.next → n ≤ 1 → record { number = 0; did = called; config = d; made = 0; gone = 0 } ≡ reply call c
    unfolding answer_of
    done d e f h =
        let g : (answered n c).next ≡ c.next = sym (ap (λ (x : Config). x.next) e) ∙ f in
        let m : ◌≡◌ {A = ℕ} 0 ((answered n c).next - c.next) = omega arith in
        (λ i. record { number = 0; did = called; config = e i; made = m i; gone = 0 }) ∙ ap (answer_of c) (sym (past_6 ∙ unless_false _ 7 _ (le-ltb 1 n h)))

    pub answer_yes : n ≡ 1 → (d : Config) → d ≡ set_stepped c.waiting (remove_step c.waiting (with_waiting 0 c)) → record { number = 0; did = called; config = d; made = 0; gone = 0 } ≡ reply call c
    unfolding answered
    answer_yes h d e = done d (e ∙ ap (λ (b : Bool). set_stepped c.waiting (if b then remove_step c.waiting (with_waiting 0 c) else set_failed c.waiting (with_waiting 0 c))) (sym (eq-eqb n 1 h))) (ap (λ (x : Config). x.next) e) (omega arith)

    pub answer_no : n ≢ 1 → n ≤ 1 → (d : Config) → d ≡ set_stepped c.waiting (set_failed c.waiting (with_waiting 0 c)) → record { number = 0; did = called; config = d; made = 0; gone = 0 } ≡ reply call c
    unfolding answered
    answer_no h k d e = done d (e ∙ ap (λ (b : Bool). set_stepped c.waiting (if b then remove_step c.waiting (with_waiting 0 c) else set_failed c.waiting (with_waiting 0 c))) (sym (ne_eqb n 1 h))) (ap (λ (x : Config). x.next) e) k
