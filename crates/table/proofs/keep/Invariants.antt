-- The loop has compacted the first i records into the first j (`Compacted`); each turn keeps record i, or not, by its mark.
use mathlib.Core.Bool.{Bool}
use mathlib.Core.List.{List}
use Prim.Native.Nat.{ℕ}
use Rattle.lists.specs.Tables.{keep_by}
use Rattle.table.specs.Rows.{rows}
use Rattle.table.proofs.Rows.{Compacted}
use Rattle.table.proofs.keep.Given as goal

-- what is kept of the first i
abbrev pub kept : ℕ → List Bool → List ℕ → ℕ → List (List ℕ)
kept w marks l i = keep_by marks (rows w i l)

abbrev pub invariant-loop-i : goal.invariant-loop-i
invariant-loop-i l = Compacted l.width (kept l.width l.marks l.initial.words) l.initial.words l.words l.i l.j
