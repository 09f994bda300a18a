-- What a load answers, what it leaves in the lent program, and the configuration after it.
use Rattle.std.specs.Prelude.{◌≡◌, List, [], ◌∷◌, ℕ, ◌+◌, ◌≤◌, length, Result}
use Rattle.model.specs.declared.Row.{Row}
use Rattle.model.specs.declared.refusal.LoadError.{LoadError}
use Rattle.model.specs.Program.{initial_atoms}
use Rattle.model.specs.Configuration.{Config, with_initial, fresh}
use Rattle.model.specs.Load as Load
use Rattle.model.specs.Load.{load, loaded, refused}
use Rattle.program.specs.Loading.{Answer, loading}
use Rattle.program.specs.Loading as Loading
use Rattle.state.specs.declared.Scalars.{Scalars}
use Rattle.state.specs.View.{config_of}

-- the answer with the lent program afterwards, and the configuration
pub record Start : Type 0 where
  pub answer : Answer
  pub config : Config

-- "A fresh configuration .. takes the program's initial atoms in row order"; a refusal leaves the configuration as it was
unfoldable pub started_from : Config → Load.Loaded → Config
started_from c (loaded rows) = fresh rows
started_from c (refused n k) = c

unfoldable pub starting : List ℕ → List ℕ → Config → Start
starting text lent c = record { answer = loading text lent; config = started_from c (load text) }

-- what is seen of a load: its answer, the lent program afterwards, and the configuration
unfoldable pub seen : Config → Result ℕ LoadError → List ℕ → Start
seen c r program = record { answer = Loading.seen r program; config = c }

-- there is room for what the row adds; ids are given from 1 on
pub record Room (words : List ℕ) (s : Scalars) (r : Row) : Type 0 where
  pub room : s.atoms + length (initial_atoms (r ∷ [])) ≤ 256
  pub next : s.next ≡ s.atoms + 1

-- the row's initial atom is added, if it is one
pub record Taken (before : List ℕ) (s : Scalars) (r : Row) (after : List ℕ) (t : Scalars) : Type 0 where
  pub made : config_of after t ≡ with_initial (initial_atoms (r ∷ [])) (config_of before s)
  pub count : t.atoms ≡ s.atoms + length (initial_atoms (r ∷ []))
  pub next : t.next ≡ t.atoms + 1

unfoldable pub opened : Unit {0}
unfolding started_from starting seen
opened = tt
