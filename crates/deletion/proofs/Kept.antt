-- Rows kept by marks, seen as plans.
use mathlib.Core.Path.{◌≡◌, ap, sym, ◌∙◌}
use mathlib.Core.Bool.{Bool}
use mathlib.Core.List.{List, map}
use Prim.Native.Nat.{ℕ}
use native.Mathlib.Omega.{arith}
use lib.ListN.{length, take, drop, length-drop}
use lib.Seq.{take_all}
use Rattle.lists.specs.Tables.{tabulate, keep_by}
use Rattle.lists.proofs.Tables.{tabulate_map, map_keep_by}
use Rattle.table.specs.Rows.{row, rows}
use Rattle.table.proofs.Parts.{part, with_part}
use Rattle.state.specs.View.{plans_at, plan_of, plan_at, plans_of}
use Rattle.state.proofs.View.{plans_lent, plans_left}

-- a call was lent the words behind plans_at, and the marks behind 256
module _ (W ys : List ℕ) (m r : ℕ) (left : List Bool) (long : length W ≡ 2432) (marks : length left ≡ 320) where
  pub plans_kept : rows 18 r ys ≡ keep_by (take 64 (drop 256 left)) (rows 18 m (part plans_at 1152 W)) →
      plans_of r (with_part plans_at 1152 W ys) ≡ keep_by (drop 256 left) (plans_of m W)
  unfolding plan_at
  plans_kept e =
      let lent : take 64 (drop 256 left) ≡ drop 256 left = take_all 64 (drop 256 left) (simp length-drop (omega arith)) in
      ap (λ (l : List ℕ). tabulate r (λ (k : ℕ). plan_of (row 18 l k))) (plans_left W ys long)
      ∙ tabulate_map plan_of r (row 18 ys)
      ∙ ap (map plan_of) (e ∙ ap (λ (l : List ℕ). keep_by (take 64 (drop 256 left)) (rows 18 m l)) (plans_lent W long) ∙ ap (λ (ms : List Bool). keep_by ms (rows 18 m (drop plans_at W))) lent)
      ∙ map_keep_by plan_of (drop 256 left) (rows 18 m (drop plans_at W))
      ∙ ap (keep_by (drop 256 left)) (sym (tabulate_map plan_of m (row 18 (drop plans_at W))))
