-- What is the same to rows that look at some variables alone.
use Rattle.std.specs.Prelude.{◌≡◌, List, ℕ, ◌≤◌, length}
use Rattle.lists.specs.Lists.{In}
use Rattle.model.specs.declared.Row.{Row}
use Rattle.model.specs.Configuration.{value_of}
use Rattle.model.specs.Matching.{Found}

-- eight values each, the same for every variable among the operands X
pub record Agree (X : ℕ → Type 0) (v w : List ℕ) : Type 0 where
  pub long_left : length v ≡ 8
  pub long_right : length w ≡ 8
  pub agrees : (x : ℕ) → X x → 1 ≤ x → x ≤ 8 → value_of v x ≡ value_of w x

-- found so far: values that agree, and ids of which M holds
abbrev pub Alike : (X : ℕ → Type 0) → (List ℕ → List ℕ → Type 0) → Found → Found → Type 0
Alike X M f g = Agree X f.values g.values × M f.matched g.matched

-- the rows look at operands of X alone
abbrev pub Looks : (X : ℕ → Type 0) → List Row → Type 0
Looks X rs = (r : Row) → In r rs → X r.i × X r.a × X r.b
