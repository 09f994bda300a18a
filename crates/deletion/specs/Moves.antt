-- Words that go down, and the atoms that they are.
use Rattle.std.specs.Prelude.{◌≡◌, List, ℕ, ◌+◌, ◌<◌, ◌≤◌, length, get_or, drop}
use Rattle.state.specs.View.{plans_at, atom_at}

-- n words from `from` on stand from `to` on, and all others where they stood
pub record Moved (W : List ℕ) (from to n : ℕ) (X : List ℕ) : Type 0 where
  pub long : length X ≡ length W
  pub below : (j : ℕ) → j < to → get_or X j 0 ≡ get_or W j 0
  pub here : (k : ℕ) → k < n → get_or X (to + k) 0 ≡ get_or W (from + k) 0
  pub above : (j : ℕ) → to + n ≤ j → get_or X j 0 ≡ get_or W j 0
  pub behind : (m : ℕ) → to + n ≤ m → drop m X ≡ drop m W

-- the same of atoms; the plans stand
pub record AtomsMoved (W : List ℕ) (from to n : ℕ) (X : List ℕ) : Type 0 where
  pub long : length X ≡ length W
  pub below : (k : ℕ) → k < to → atom_at X k ≡ atom_at W k
  pub here : (k : ℕ) → k < n → atom_at X (to + k) ≡ atom_at W (from + k)
  pub above : (k : ℕ) → to + n ≤ k → k < 256 → atom_at X k ≡ atom_at W k
  pub behind : drop plans_at X ≡ drop plans_at W
