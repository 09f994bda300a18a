-- What keyrun prints of a program that was loaded.
use Rattle.std.specs.Prelude.{List, [], ◌∷◌, ℕ}
use Rattle.model.specs.declared.Row.{Row}
use Rattle.model.specs.Configuration.{fresh}
use Rattle.model.specs.Calls.{Reading, sense}
use Rattle.model.specs.Run.{after_sense}

-- "sense 1 1 3 1200"
abbrev pub reading : Reading
reading = record { sign = 1; p = 1; a = 3; b = 1200 }

unfoldable pub run_text : List Row → List ℕ
run_text rows = after_sense rows (sense rows (fresh rows) (reading ∷ []))
