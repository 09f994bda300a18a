-- The text of a program, and the test that rows are a program.
use Rattle.std.specs.Prelude.{ℕ, zero, suc, ◌+◌, ◌-◌, ◌/◌, ◌%◌, Bool, true, false, ◌&&◌, List, [], ◌∷◌, ◌++◌, leb, ltb, if◌then◌else◌}
use Rattle.lists.specs.Lists.{every}
use Rattle.model.specs.Program.{Row}
use Rattle.model.specs.Text.{names}
use Rattle.model.specs.Load.{Scan, Loaded, loaded, refused, finish, take_row, go_on, at_first}

-- "Integers are in base ten": a number of at most f digits
unfoldable pub decimal : ℕ → ℕ → List ℕ
decimal zero n = []
decimal (suc f) n = elim (ltb n 10) [ true ↦ (n + 48) ∷ [] | false ↦ decimal f (n / 10) ++ ((n % 10 + 48) ∷ []) ]

-- an integer that is held 9 higher
unfoldable pub integer : ℕ → List ℕ
integer x = if leb 9 x then decimal 5 (x - 9) else 45 ∷ decimal 5 (9 - x)

-- the eight integers of a row, each 9 higher
unfoldable pub cells : Row → List ℕ
cells r = (r.set + 9) ∷ (r.rule + 9) ∷ (r.part + 9) ∷ (r.op + 9) ∷ r.i ∷ (r.p + 9) ∷ r.a ∷ r.b ∷ []

-- "one space between"
unfoldable pub spaced : List ℕ → List ℕ
spaced [] = []
spaced (x ∷ []) = integer x
spaced (x ∷ y ∷ ys) = integer x ++ (32 ∷ spaced (y ∷ ys))

-- "each line ended by byte 10"
unfoldable pub lines_of : List Row → List ℕ
lines_of [] = []
lines_of (r ∷ rs) = spaced (cells r) ++ (10 ∷ lines_of rs)

unfoldable pub text_of : List Row → List ℕ
text_of rows = names ++ (10 ∷ lines_of rows)

-- "p runs 0 to 255; the others 0 to 65,535, but i, a, b from -9"
unfoldable pub in_range : Row → Bool
in_range r =
    leb r.set 65535 && leb r.rule 65535 && leb r.part 65535 && leb r.op 65535
    && leb r.i 65544 && leb r.p 255 && leb r.a 65544 && leb r.b 65544

-- the rows, taken one after the other as a load takes them
unfoldable pub take_rows : Scan → List Row → List Row → Loaded
take_rows s rows [] = finish s rows
take_rows s rows (r ∷ rs) = go_on (λ t. take_rows t (rows ++ (r ∷ [])) rs) (take_row s r)

unfoldable pub is_loaded : Loaded → Bool
is_loaded (loaded rows) = true
is_loaded (refused n k) = false

-- "A program is well formed when some text loads to it." That this test says so is `WellFormedLoads` of specs/Claims.
unfoldable pub well_formed : List Row → Bool
well_formed rows = every in_range rows && is_loaded (take_rows at_first [] rows)

unfoldable pub opened : Unit {0}
unfolding decimal integer cells spaced lines_of text_of in_range take_rows is_loaded well_formed
opened = tt
