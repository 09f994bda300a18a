-- The row that eight numbers are, test by test.
use Rattle.std.specs.Prelude.{Some, None}
use Prim.Native.Nat.{ℕ, ◌-◌, ◌≤◌, ◌<◌}
use mathlib.Core.Path.{◌≡◌}
use mathlib.Core.Bool.{and-false}
use mathlib.Core.List.{List}
use lib.ListN.{get_or}
use borrow.Author.Tests.{le-leb, lt-leb}
use Rattle.model.specs.Text.{row_of, in_columns}
use Rattle.text.specs.Reading.{row_line}

module _ (v : List ℕ) where
  pub no_set : get_or v 0 0 < 9 → None ≡ row_line v
  unfolding row_line row_of in_columns
  no_set h = simp (lt-leb _ _ h)

  pub no_rule : get_or v 1 0 < 9 → None ≡ row_line v
  unfolding row_line row_of in_columns
  no_rule h = simp (lt-leb _ _ h, and-false)

  pub no_part : get_or v 2 0 < 9 → None ≡ row_line v
  unfolding row_line row_of in_columns
  no_part h = simp (lt-leb _ _ h, and-false)

  pub no_op : get_or v 3 0 < 9 → None ≡ row_line v
  unfolding row_line row_of in_columns
  no_op h = simp (lt-leb _ _ h, and-false)

  pub no_p : get_or v 5 0 < 9 → None ≡ row_line v
  unfolding row_line row_of in_columns
  no_p h = simp (lt-leb _ _ h, and-false)

  pub high_p : 264 < get_or v 5 0 → None ≡ row_line v
  unfolding row_line row_of in_columns
  high_p h = simp (lt-leb _ _ h, and-false)

  pub whole : 9 ≤ get_or v 0 0 → 9 ≤ get_or v 1 0 → 9 ≤ get_or v 2 0 → 9 ≤ get_or v 3 0 → 9 ≤ get_or v 5 0 → get_or v 5 0 ≤ 264
      → Some (record {
        set = get_or v 0 0 - 9;
        rule = get_or v 1 0 - 9;
        part = get_or v 2 0 - 9;
        op = get_or v 3 0 - 9;
        i = get_or v 4 0;
        p = get_or v 5 0 - 9;
        a = get_or v 6 0;
        b = get_or v 7 0;
      }) ≡ row_line v
  unfolding row_line row_of in_columns
  whole h₀ h₁ h₂ h₃ h₅ k = simp (le-leb _ _ h₀, le-leb _ _ h₁, le-leb _ _ h₂, le-leb _ _ h₃, le-leb _ _ h₅, le-leb _ _ k)

pub ruleset row_laws = (no_set, no_rule, no_part, no_op, no_p, high_p, whole)
