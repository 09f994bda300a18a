-- The rows of a sense meet no limit where there is room for as many atoms.
use Rattle.std.specs.Prelude.{Result, Ok, Err, IsErr, OnErr}
use mathlib.Core.Path.{◌≡◌, refl}
use mathlib.Core.Bool.{Bool, true, false}
use mathlib.Core.List.{List, [], ◌∷◌}
use Prim.Native.Nat.{ℕ, ◌+◌, ◌/◌, ◌≤◌}
use native.Mathlib.Omega.{arith}
use lib.Dec.{eqb}
use lib.ListN.{length}
use Rattle.lists.proofs.Cuts.{if_either}
use Rattle.model.specs.declared.Row.{Row}
use Rattle.model.specs.declared.refusal.Refusal.{Refusal}
use Rattle.model.specs.Configuration.{Config, atom_alive}
use Rattle.model.specs.Log.{Log, begin, emit_atom, Outcome, refused, accepted, and_then}
use Rattle.model.specs.Calls.{Reading, taken_as, equal_atoms, withdraw_if, withdraw, make_atom, sense_row, sense_rows}
use Rattle.program.specs.Rows.{rows_of}
use Rattle.state.specs.declared.Scalars.{Scalars}
use Rattle.state.specs.View.{config_of}
use Rattle.state.proofs.Live.{atoms_counted}
use Rattle.stepping.proofs.Room.{atom_free}
use Rattle.deletion.specs.declared.Removal.{Removal}
use Rattle.sensing.specs.Sensing.{readings_from, Shows, SensesRows}
use Rattle.acting.proofs.Answers.{RoomFor, Accepts, room_kept, room_taken, room_left, no_bar}
use Rattle.in_place.proofs.Sensed.{readings_count}

-- an outcome that leaves room for n more
abbrev Leaves : ℕ → Outcome → Type 0
Leaves n (refused m) = ⊥
Leaves n (accepted L) = RoomFor n L

module _ (n : ℕ) where
  withdraws : (ts : List ℕ) (L : Log) → RoomFor n L → RoomFor n (withdraw ts L)
  unfolding withdraw withdraw_if
  withdraws [] L h = h
  withdraws (t ∷ ts) L h = withdraws ts (withdraw_if (atom_alive L.config t) t L) (at (atom_alive L.config t))
    where
      at : (b : Bool) → RoomFor n (withdraw_if b t L)
      at true = room_kept n L t h
      at false = h

  module _ (program : List Row) (r : Reading) (L : Log) (h : RoomFor (n + 1) L) where
    adds : Leaves n (make_atom (taken_as program r) r.a r.b L)
    unfolding make_atom
    adds = rw (atom_free L (accepted (emit_atom (taken_as program r) r.a r.b L)) (no_bar n L h)) (room_taken n L h (taken_as program r) r.a r.b)

    senses : Leaves n (sense_row program r L)
    unfolding sense_row
    senses = if_either (Leaves n) (eqb r.sign 1) adds (withdraws (equal_atoms (taken_as program r) r.a r.b L.config) L (room_left n L h))

accepts_all : (program : List Row) (rs : List Reading) (L : Log) → RoomFor (length rs) L → Accepts (sense_rows program rs L)
unfolding sense_rows and_then
accepts_all program [] L h = tt
accepts_all program (r ∷ rs) L h = at (sense_row program r L) (senses (length rs) program r L (omega (arith, h.0), omega (arith, h.1))) (accepts_all program rs)
  where
    at : (o : Outcome) → Leaves (length rs) o → ((M : Log) → RoomFor (length rs) M → Accepts (sense_rows program rs M)) → Accepts (and_then o (sense_rows program rs))
    at (refused m) g more = absurd g
    at (accepted M) g more = more M g

-- so they are not refused
pub no_limit : (program words rows : List ℕ) (s : Scalars) (words' : List ℕ) (r : Result Removal Refusal) → s.next + length rows / 4 ≤ 65536 → s.atoms + length rows / 4 ≤ 256 →
    SensesRows (rows_of program) (readings_from rows 0 (length rows / 4)) (config_of words s) words' r → OnErr r (words' ≡ words)
unfolding SensesRows
no_limit program words rows s words' r h k f = at (sense_rows (rows_of program) (readings_from rows 0 (length rows / 4)) L) r (accepts_all (rows_of program) (readings_from rows 0 (length rows / 4)) L room) (f L refl)
  where
    L : Log
    L = begin (config_of words s)

    room : RoomFor (length (readings_from rows 0 (length rows / 4))) (begin (config_of words s))
    room = let c = readings_count rows in let n = atoms_counted words s in (omega arith, omega arith)

    at : (o : Outcome) (r : Result Removal Refusal) → Accepts o → Shows o 0 words' r → OnErr r (words' ≡ words)
    at o (Ok x) a g = tt
    at (refused m) (Err b) a g = absurd a
    at (accepted M) (Err b) a g = absurd g

-- rows that are refused leave what they will
pub still_refused : (program : List Row) (rs : List Reading) (c : Config) (words words' : List ℕ) (r : Result Removal Refusal) → IsErr r → SensesRows program rs c words r → SensesRows program rs c words' r
unfolding SensesRows
still_refused program rs c words words' r z f L q = at (sense_rows program rs L) r z (f L q)
  where
    at : (o : Outcome) (r : Result Removal Refusal) → IsErr r → Shows o L.gone words r → Shows o L.gone words' r
    at (refused n) r z g = g
    at (accepted M) (Ok x) z g = cc
    at (accepted M) (Err b) z g = g

pub ruleset restoring = (no_limit, still_refused)
