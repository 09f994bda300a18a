-- How a host sees scalars and answers: as words in slices of fixed length.
use Rattle.std.specs.Prelude.{Bool, ◌&&◌, List, [], ◌∷◌, ℕ, zero, suc, eqb, length, get_or}
use Rattle.model.specs.Log.{Did}
use Rattle.model.specs.Run.{Stop}
use Rattle.model.specs.Numbers.{did_numbers, stop_number, stop_refusal}
use Rattle.state.specs.declared.Scalars.{Scalars}

-- phase, cycle, next id, waiting, atoms, plans
abbrev pub scalars_of : List ℕ → Scalars
scalars_of l = record { phase = get_or l 0 0; cycle = get_or l 1 0; next = get_or l 2 0; waiting = get_or l 3 0; atoms = get_or l 4 0; plans = get_or l 5 0 }

abbrev pub scalar_words : Scalars → List ℕ
scalar_words s = s.phase ∷ s.cycle ∷ s.next ∷ s.waiting ∷ s.atoms ∷ s.plans ∷ []

-- the lengths of the words, the scalars and the report
unfoldable pub sized : List ℕ → List ℕ → List ℕ → Bool
sized words scalars report = eqb (length words) 2432 && (eqb (length scalars) 6 && eqb (length report) 8)

-- numbers as the first of n words, zeros behind them
unfoldable pub padded : ℕ → List ℕ → List ℕ
padded zero l = []
padded (suc n) [] = 0 ∷ padded n []
padded (suc n) (x ∷ l) = x ∷ padded n l

-- made, gone, what was done
abbrev pub report_of : ℕ → ℕ → Did → List ℕ
report_of made gone did = padded 8 (made ∷ gone ∷ did_numbers did)

-- "it returns the steps taken, their made and gone summed, and which, with the refusal's number"
abbrev pub run_report : ℕ → ℕ → ℕ → Stop → List ℕ
run_report made gone steps stop = padded 8 (made ∷ gone ∷ stop_number stop ∷ steps ∷ stop_refusal stop)
