-- Why a call is refused, by the numbers of the paper's table.
use Rattle.std.specs.Prelude.{◌≡◌, ℕ, Result, MatchResult}
use Rattle.model.specs.declared.refusal.Refusal.{Refusal}
use Rattle.model.specs.declared.refusal.Refusal.TheVariants.{NotWellFormed, Layout, Row, Valueless, TooMany, OutOfTurn, OutOfRange, IdsSpent, AtomsFull, PlansFull, CyclesSpent, NotAlive}

-- "| cause | no. |"
abbrev pub number_of : Refusal → ℕ
number_of NotWellFormed = 1
number_of Layout = 2
number_of Row = 3
number_of Valueless = 4
number_of TooMany = 5
number_of OutOfTurn = 6
number_of OutOfRange = 7
number_of IdsSpent = 8
number_of AtomsFull = 9
number_of PlansFull = 10
number_of CyclesSpent = 11
number_of NotAlive = 12

-- refused with number n, or not at all: then n is 0
abbrev pub RefusedBy : {A : Type 0} → ℕ → Result A Refusal → Type 0
RefusedBy n r = MatchResult r (λ _. n ≡ 0) (λ e. n ≡ number_of e)
