-- Flags cleared plan by plan: the first k plans are without them, the others and all atoms stand.
use mathlib.Core.Path.{◌≡◌, refl, sym, ap, ◌∙◌, subst}
use mathlib.Core.Logic.{⊎_elim, ◌≢◌}
use mathlib.Core.List.{List, map}
use Prim.Native.Nat.{ℕ, ◌+◌, ◌<◌, ◌≤◌}
use native.Mathlib.Omega.{arith}
use lib.ListN.{length}
use Rattle.lists.proofs.Tables.{equal_or_not, tabulate_same, tabulate_map}
use Rattle.model.specs.Configuration.{Plan, with_flags}
use Rattle.model.specs.Calls.{next_cycle}
use Rattle.state.specs.declared.Scalars.{Scalars}
use Rattle.state.specs.View.{plan_at, atoms_of, plans_of, config_of, cycle_put, with_plan_word}
use Rattle.state.proofs.Changed.{flags_put, plan_word_there, plan_word_atoms, with_plan_word_long}
use Rattle.executing.specs.Exec.{cleared}

pub record Clearing (W X : List ℕ) (k : ℕ) : Type 0 where
  pub atoms : (n : ℕ) → n ≤ 256 → atoms_of n X ≡ atoms_of n W
  pub passed : (i : ℕ) → i < k → plan_at X i ≡ with_flags cleared (plan_at W i)
  pub rest : (i : ℕ) → k ≤ i → plan_at X i ≡ plan_at W i

pub clearing_first : (W : List ℕ) → Clearing W W 0
clearing_first W = record { atoms = λ n h. refl; passed = λ i h. absurd (omega arith); rest = λ i h. refl }

module _ (W X : List ℕ) (k : ℕ) (w : Clearing W X k) where
  pub flags_left : (plan_at W k).flags ≤ 65535 → (plan_at X k).flags ≤ 65535
  flags_left h = let e : (plan_at X k).flags ≡ (plan_at W k).flags = ap (λ (q : Plan). q.flags) (w.rest k (omega arith)) in omega arith

  abbrev v : ℕ
  v = cleared (plan_at X k).flags

  pub clearing_next : (Y : List ℕ) → Y ≡ with_plan_word X k 4 v → length Y ≡ 2432 → k < 64 → Clearing W Y (k + 1)
  clearing_next Y e long h = subst (λ (l : List ℕ). Clearing W l (k + 1)) (sym e) (record {
    atoms = λ n g. plan_word_atoms X k 4 v (omega arith) n g ∙ w.atoms n g;
    passed = λ i g. ⊎_elim
        (λ (q : i ≡ k). ap (plan_at (with_plan_word X k 4 v)) q ∙ flags_put X k size h cleared v refl ∙ ap (with_flags cleared) (w.rest k (omega arith) ∙ ap (plan_at W) (sym q)))
        (λ (ne : i ≢ k). plan_word_there X k 4 v (omega arith) i ne ∙ w.passed i (omega arith))
        (equal_or_not i k);
    rest = λ i g. plan_word_there X k 4 v (omega arith) i (λ q. omega arith) ∙ w.rest i (omega arith);
  })
    where
      size : length X ≡ 2432
      size = sym (with_plan_word_long X k 4 v) ∙ ap length (sym e) ∙ long

  pub clearing_end : (n : ℕ) → n ≤ k → plans_of n X ≡ map (with_flags cleared) (plans_of n W)
  clearing_end n h = tabulate_same n (plan_at X) (λ (i : ℕ). with_flags cleared (plan_at W i)) (λ i g. w.passed i (omega arith)) ∙ tabulate_map (with_flags cleared) n (plan_at W)

-- all of them cleared, and the scalars of the next cycle
pub cycle_next : (W X : List ℕ) (s t : Scalars) → t ≡ cycle_put s → atoms_of s.atoms X ≡ atoms_of s.atoms W → plans_of s.plans X ≡ map (with_flags cleared) (plans_of s.plans W) →
    config_of X t ≡ next_cycle (config_of W s)
cycle_next W X s t e a p = ap (config_of X) e ∙ (λ i. record { atoms = a i; plans = p i; phase = 0; cycle = s.cycle + 1; next = s.next; waiting = s.waiting })

pub ruleset clearing = (clearing_first, flags_left, clearing_next, clearing_end)
