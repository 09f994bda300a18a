-- The plan that waits is the one that stands where it is found.
use mathlib.Core.Path.{◌≡◌, sym, ap, ◌∙◌}
use mathlib.Core.Bool.{false}
use mathlib.Core.List.{List}
use Prim.Native.Nat.{ℕ, ◌≤◌, ◌<◌}
use native.Mathlib.Omega.{arith}
use lib.ListN.{get_or}
use Rattle.lists.specs.Lists.{some}
use Rattle.lists.specs.Tables.{index_of}
use Rattle.lists.proofs.Lists.{pairs_map}
use Rattle.lists.proofs.Tables.{tabulate_length, tabulate_at}
use Rattle.lists.proofs.Counted.{some_found, some_absent}
use Rattle.model.specs.declared.Row.{Row}
use Rattle.model.specs.Configuration.{Plan}
use Rattle.model.specs.WellFormed.{is_waiting}
use Rattle.state.specs.View.{plan_at, plans_of, plan_ids_of, PlansRise}
use Rattle.formed_plans.specs.Plans.{acts_first}

-- the plan that waits
module _ (program : List Row) (W : List ℕ) (n waiting : ℕ) where
  pub waiting_found : (k : ℕ) → PlansRise n W → k ≡ index_of waiting (plan_ids_of n W) → k < n → some (is_waiting program waiting) (plans_of n W) ≡ acts_first program (plan_at W k)
  waiting_found k rise e h =
      let qs = plans_of n W in
      let l = tabulate_length n (plan_at W) in
      some_found (λ (q : Plan). q.id) (acts_first program) waiting qs (plan_at W 0) (pairs_map (λ (x y : ℕ). x < y) (λ (q : Plan). q.id) qs rise) (omega arith)
      ∙ ap (λ (i : ℕ). acts_first program (get_or qs i (plan_at W 0))) (sym e)
      ∙ ap (acts_first program) (tabulate_at n (plan_at W) k (plan_at W 0) h)

  pub waiting_absent : n ≤ index_of waiting (plan_ids_of n W) → some (is_waiting program waiting) (plans_of n W) ≡ false
  waiting_absent h = let l = tabulate_length n (plan_at W) in some_absent (λ (q : Plan). q.id) (acts_first program) waiting (plans_of n W) (omega arith)
