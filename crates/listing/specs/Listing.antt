-- A line of a listing, the order of its lines, and what it needs of the words.
use Rattle.std.specs.Prelude.{◌≡◌, Bool, true, false, ◌≢◌, List, [], ◌∷◌, ◌++◌, map, ℕ, ◌+◌, ◌<◌, ◌≤◌, leb, ltb, length, if◌then◌else◌}
use Rattle.model.specs.Render.{spaced}
use Rattle.state.specs.declared.Scalars.{Scalars}
use Rattle.state.specs.View.{atom_at, plan_at, PlansRise}

-- one line of numbers, as `as_text` has it
unfoldable pub line : List ℕ → List ℕ
line numbers = spaced (map (λ n. n + 9) numbers) ++ (10 ∷ [])

-- of the atoms from i on and the plans from j on, atom i is listed first
unfoldable pub is_atom_next : List ℕ → Scalars → ℕ → ℕ → Bool
is_atom_next words s i j = if leb s.atoms i then false else if leb s.plans j then true else ltb (atom_at words i).id (plan_at words j).id

-- What the listing needs of the words. Well-formed ones have it: `listable` of proofs/Well.
pub record Listable (words : List ℕ) (s : Scalars) : Type 0 where
  pub few_atoms : s.atoms ≤ 256
  pub few_plans : s.plans ≤ 64
  pub plans_rise : PlansRise s.plans words
  pub apart : (i j : ℕ) → i < s.atoms → j < s.plans → (atom_at words i).id ≢ (plan_at words j).id
