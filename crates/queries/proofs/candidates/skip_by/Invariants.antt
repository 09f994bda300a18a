-- The loop's invariant: the candidates before c were asked, and each is unlike what is wanted.
use mathlib.Core.Path.{◌≡◌}
use mathlib.Core.Bool.{false}
use Prim.Native.Nat.{ℕ, ◌<◌, ◌≤◌}
use Rattle.std.specs.Prelude.{Option}
use Rattle.queries.specs.declared.Columns.{Columns}
use Rattle.queries.specs.View.{is_like}
use Rattle.queries.proofs.candidates.skip_by.Given as goal

abbrev pub invariant-loop-c : goal.invariant-loop-c
invariant-loop-c g l = (c : ℕ) → c < l.c → l.from ≤ c → (x : Option Columns) × goal.F-post g l.candidate c x × (is_like l.i l.a l.b x ≡ false)
