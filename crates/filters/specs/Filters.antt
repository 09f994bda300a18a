-- What a filter says: where no mark stands, no live atom has that predicate with those arguments.
use Rattle.std.specs.Prelude.{◌≡◌, List, Some, ℕ, ◌+◌, ◌*◌, ◌%◌, ◌<◌, get_or}
use Rattle.model.specs.declared.Row.{Row}
use Rattle.state.specs.View.{atom_at}
use Rattle.queries.specs.View.{Wants}

-- how many places there are, and the place of p(a, b): any function would do, and one that spreads small numbers is quick
abbrev pub size : ℕ
size = 4096

unfoldable pub place_of : ℕ → ℕ → ℕ → ℕ
place_of p a b = (p % size * 37 + a % size * 61 + b % size * 5) % size

-- a mark stands at the place of each of the first n atoms
pub record Marked (words : List ℕ) (n : ℕ) (filter : List ℕ) : Type 0 where
  pub marks : (k : ℕ) → k < n → get_or filter (place_of (atom_at words k).p (atom_at words k).a (atom_at words k).b) 0 ≡ 1

-- a positive query for an atom whose arguments are both known, and no mark stands at its place
pub record Barred (filter : List ℕ) (r : Row) (values : List ℕ) : Type 0 where
  pub one : r.op ≡ 1
  pub a : ℕ
  pub b : ℕ
  pub wants_a : Wants (Some a) r.a values
  pub wants_b : Wants (Some b) r.b values
  pub clear : get_or filter (place_of r.p a b) 0 ≡ 0
