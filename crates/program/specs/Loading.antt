-- What a load answers, and what it leaves in the lent program.
use Rattle.std.specs.Prelude.{ℕ, ◌*◌, List, ◌++◌, length, drop, Result, Ok, Err}
use Rattle.model.specs.declared.refusal.LoadError.{LoadError}
use Rattle.model.specs.Refusals.{number_of}
use Rattle.model.specs.Load as Load
use Rattle.model.specs.Load.{load, loaded, refused}
use Rattle.program.specs.Rows.{words_of}

-- number 0 and the number of rows, or a refusal's number and line; and the lent program afterwards
pub record Answer : Type 0 where
  pub number : ℕ
  pub line : ℕ
  pub rows : ℕ
  pub program : List ℕ

-- the rows stand first, and behind them what stood there; a refusal leaves the lent program as it was
unfoldable pub answer_of : List ℕ → Load.Loaded → Answer
answer_of lent (loaded rows) = record { number = 0; line = 0; rows = length rows; program = words_of rows ++ drop (length rows * 8) lent }
answer_of lent (refused n k) = record { number = n; line = k; rows = 0; program = lent }

unfoldable pub loading : List ℕ → List ℕ → Answer
loading text lent = answer_of lent (load text)

-- what is seen of a load: its answer and the lent program afterwards
unfoldable pub seen : Result ℕ LoadError → List ℕ → Answer
seen (Ok rows) program = record { number = 0; line = 0; rows = rows; program = program }
seen (Err e) program = record { number = number_of e.refusal; line = e.line; rows = 0; program = program }

unfoldable pub opened : Unit {0}
unfolding answer_of loading seen
opened = tt
