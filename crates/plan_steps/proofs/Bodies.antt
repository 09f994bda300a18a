-- A plan's next step is the row where its remainder begins, if it begins before the body ends.
use mathlib.Core.Path.{◌≡◌, sym, ap, ◌∙◌}
use mathlib.Core.List.{List, [], ◌∷◌}
use Prim.Native.Nat.{ℕ, ◌-◌, ◌/◌, ◌≤◌, ◌<◌}
use native.Mathlib.Omega.{arith}
use lib.ListN.{length}
use Rattle.lists.specs.Lists.{first_of}
use Rattle.lists.proofs.Counted.{first_behind, none_behind, counted_at, counted_long}
use Rattle.model.specs.declared.Row.{Row}
use Rattle.model.specs.Program.{part_of, body}
use Rattle.model.specs.Configuration.{Plan, remainder}
use Rattle.program.specs.Rows.{row_at, rows_of, rows_from}
use Rattle.spans.specs.declared.Span.{Span}
use Rattle.plan_steps.specs.Bodies.{BodyAt, remainder_at}

module _ (P : List ℕ) (q : Plan) (span : Span) (w : BodyAt P q span) where
  pub body_long : length (body (rows_of P) q.set q.rule) ≡ span.to - span.from
  body_long = ap length (sym w.rows) ∙ counted_long (row_at P) span.from (span.to - span.from)

  pub first_step : remainder_at span q.left < span.to → first_of (remainder (rows_of P) q) ≡ row_at P (remainder_at span q.left) ∷ []
  unfolding remainder
  first_step h =
      let n = span.to - span.from in
      let z = counted_long (row_at P) span.from n in
      rw (← w.rows, z) (first_behind (row_at P 0) (rows_from P span.from n) (n - q.left) (omega arith) ∙ ap {B = List Row} (λ (r : Row). r ∷ []) (counted_at (row_at P) (row_at P 0) span.from n (n - q.left) (omega arith)))

  pub no_step : span.to ≤ remainder_at span q.left → first_of (remainder (rows_of P) q) ≡ []
  unfolding remainder
  no_step h =
      let n = span.to - span.from in
      let z = counted_long (row_at P) span.from n in
      let o = w.ordered in
      rw (← w.rows, z) (none_behind (rows_from P span.from n) (n - q.left) (omega arith))

-- a span of the part with the set and the rule of a plan
pub part_named : (P : List ℕ) (q : Plan) (s n part : ℕ) → s ≡ q.set → n ≡ q.rule → part_of (rows_of P) s n part ≡ part_of (rows_of P) q.set q.rule part
part_named P q s n part e f = ap (λ (m : ℕ). part_of (rows_of P) m n part) e ∙ ap (λ (m : ℕ). part_of (rows_of P) q.set m part) f

pub span_body : (P : List ℕ) (q : Plan) (span : Span) (s n : ℕ) → s ≡ q.set → n ≡ q.rule → (span.from ≤ span.to) × (span.to ≤ length P / 8) →
    rows_from P span.from (span.to - span.from) ≡ part_of (rows_of P) s n 3 → BodyAt P q span
span_body P q span s n e f b r = record { ordered = b.0; inside = b.1; rows = r ∙ part_named P q s n 3 e f }
