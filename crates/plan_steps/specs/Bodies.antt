-- Where the body of a plan stands in its program, and where its remainder begins.
use Rattle.std.specs.Prelude.{◌≡◌, List, ℕ, ◌+◌, ◌-◌, ◌/◌, ◌≤◌, length}
use Rattle.model.specs.Program.{body}
use Rattle.model.specs.Configuration.{Plan}
use Rattle.program.specs.Rows.{rows_of, rows_from}
use Rattle.spans.specs.declared.Span.{Span}

-- the rows of a span are the plan's body
pub record BodyAt (program : List ℕ) (q : Plan) (span : Span) : Type 0 where
  pub ordered : span.from ≤ span.to
  pub inside : span.to ≤ length program / 8
  pub rows : rows_from program span.from (span.to - span.from) ≡ body (rows_of program) q.set q.rule

-- where the plan's remainder begins
abbrev pub remainder_at : Span → ℕ → ℕ
remainder_at span left = span.from + (span.to - span.from - left)
