-- What a host may hand in, as the rules see it: any words for a program, any words for the rows of a sense.
use Rattle.std.specs.Prelude.{◌≡◌, Bool, true, not, List, [], ◌∷◌, ◌++◌, ℕ, ◌/◌, ◌%◌, eqb, length, if◌then◌else◌}
use Rattle.lists.specs.Lists.{when}
use Rattle.model.specs.declared.Row.{Row}
use Rattle.model.specs.Configuration.{Config}
use Rattle.model.specs.WellFormed.{given_well}
use Rattle.model.specs.Calls.{Reading}
use Rattle.program.specs.Rows.{rows_of}
use Rattle.state.specs.declared.Scalars.{Scalars}
use Rattle.state.specs.View.{config_of}
use Rattle.sensing.specs.Sensing.{readings_from}

-- words that are not whole rows are no program: a row that no program has stands for them, so that every call says 1
abbrev pub no_row : Row
no_row = record { set = 0; rule = 0; part = 0; op = 0; i = 65545; p = 0; a = 0; b = 0 }

unfoldable pub given_rows : List ℕ → List Row
given_rows words = if eqb (length words % 8) 0 then rows_of words else no_row ∷ []

unfoldable pub admitted : List ℕ → Config → Bool
admitted program c = given_well (given_rows program) c

-- what a load or an accepted call leaves
abbrev pub Admitted : List ℕ → List ℕ → Scalars → Type 0
Admitted program words s = admitted program (config_of words s) ≡ true

-- rows of four words; what is left over is a row out of range
abbrev pub no_reading : Reading
no_reading = record { sign = 0; p = 0; a = 0; b = 0 }

unfoldable pub readings_of : List ℕ → List Reading
readings_of words = readings_from words 0 (length words / 4) ++ when (not (eqb (length words % 4) 0)) no_reading
