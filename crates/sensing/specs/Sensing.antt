-- What the work of sense leaves, whatever the log holds already.
use Rattle.std.specs.Prelude.{◌≡◌, Bool, false, ◌&&◌, eqb, List, map, ℕ, ◌+◌, ◌/◌, ◌<◌, ◌≤◌, length, get_or, Result, IsErrAnd, IsOkAnd}
use Rattle.lists.specs.Lists.{count_up}
use Rattle.table.specs.Rows.{row}
use Rattle.model.specs.declared.Row.{Row}
use Rattle.model.specs.declared.refusal.Refusal.{Refusal}
use Rattle.model.specs.Refusals.{number_of}
use Rattle.model.specs.Configuration.{Config, last_next}
use Rattle.model.specs.Log.{Log, Outcome, refused, accepted}
use Rattle.model.specs.Calls.{Reading, equal_atoms, withdraw, sense_row, sense_rows}
use Rattle.program.specs.Rows.{row_at}
use Rattle.state.specs.declared.Scalars.{Scalars}
use Rattle.state.specs.View.{config_of, SoundWords}
use Rattle.deletion.specs.declared.Removal.{Removal}
use Rattle.sensing.specs.declared.Reading as Declared

abbrev pub reading_of : Declared.Reading → Reading
reading_of r = record { sign = r.sign; p = r.p; a = r.a; b = r.b }

-- rows of four words
abbrev pub reading_at : List ℕ → ℕ → Reading
reading_at words k = let r = row 4 words k in record { sign = get_or r 0 0; p = get_or r 1 0; a = get_or r 2 0; b = get_or r 3 0 }

abbrev pub readings_from : List ℕ → ℕ → ℕ → List Reading
readings_from words k n = map (reading_at words) (count_up k n)

-- the words hold a configuration that work can be done on
pub record Ready (words : List ℕ) (s : Scalars) : Type 0 where
  pub whole : SoundWords words s
  pub next_fits : s.next ≤ last_next

-- an outcome as the code shows it: the refusal, or the configuration in the words and how many went, besides those that went before
abbrev pub Shows : Outcome → ℕ → List ℕ → Result Removal Refusal → Type 0
Shows (refused n) before words r = IsErrAnd r (λ e. n ≡ number_of e)
Shows (accepted L) before words r = IsOkAnd r (λ x. (L.config ≡ config_of words x.scalars) × (L.gone ≡ before + x.gone))

pub record Withdraws (p a b : ℕ) (c d : Config) (gone : ℕ) : Type 0 where
  pub leaves : (L : Log) → L.config ≡ c → (withdraw (equal_atoms p a b c) L).config ≡ d
  pub counts : (L : Log) → L.config ≡ c → (withdraw (equal_atoms p a b c) L).gone ≡ L.gone + gone

unfoldable pub SensesRow : List Row → Reading → Config → List ℕ → Result Removal Refusal → Type 0
SensesRow program r c words result = (L : Log) → L.config ≡ c → Shows (sense_row program r L) L.gone words result

unfoldable pub SensesRows : List Row → List Reading → Config → List ℕ → Result Removal Refusal → Type 0
SensesRows program rs c words result = (L : Log) → L.config ≡ c → Shows (sense_rows program rs L) L.gone words result

-- a row of set 0 and op 40
abbrev pub is_ceiling : Row → Bool
is_ceiling r = eqb r.set 0 && eqb r.op 40

-- no ceiling stands before one row or from another on
pub record Bare (program : List ℕ) (from to : ℕ) : Type 0 where
  pub ordered : from ≤ to
  pub inside : to ≤ length program / 8
  pub before : (k : ℕ) → k < from → is_ceiling (row_at program k) ≡ false
  pub behind : (k : ℕ) → to ≤ k → k < length program / 8 → is_ceiling (row_at program k) ≡ false
