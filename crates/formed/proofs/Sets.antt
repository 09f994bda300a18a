-- The number of sets is the set of the last row, since rows stand by their sets.
use mathlib.Core.Path.{◌≡◌, sym, ap, ◌∙◌}
use mathlib.Core.List.{List, map}
use Prim.Native.Nat.{ℕ, suc, ◌+◌, ◌/◌, ◌≤◌}
use native.Mathlib.Omega.{arith}
use lib.ListN.{length, get_or}
use Rattle.lists.specs.Lists.{Pairs, highest, count_up}
use Rattle.lists.proofs.Lists.{map_map, pairs_map}
use Rattle.lists.proofs.Counted.{highest_last, pairs_weaker, counted_at, counted_long}
use Rattle.model.specs.declared.Row.{Row}
use Rattle.model.specs.Program.{sets}
use Rattle.program.specs.Rows.{row_at, rows_of, rows_from}
use Rattle.program_laws.specs.Lawful.{NotLater}

abbrev set_of : Row → ℕ
set_of r = r.set

pub sets_none : (P : List ℕ) → length P / 8 ≡ 0 → sets (rows_of P) ≡ 0
unfolding sets rows_of highest
sets_none P e = ap (λ (n : ℕ). highest (map set_of (rows_from P 0 n))) e

pub sets_last : (P : List ℕ) (k : ℕ) → Pairs NotLater (rows_of P) → suc k ≡ length P / 8 → sets (rows_of P) ≡ (row_at P k).set
unfolding sets rows_of
sets_last P k o e =
    let n = length P / 8 in
    let f : ℕ → ℕ = λ (i : ℕ). (row_at P i).set in
    let m : map set_of (rows_from P 0 n) ≡ map f (count_up 0 n) = map_map (row_at P) set_of (count_up 0 n) in
    let l = counted_long f 0 n in
    let rise : Pairs (λ (x y : ℕ). x ≤ y) (map set_of (rows_from P 0 n)) =
    pairs_map (λ (x y : ℕ). x ≤ y) set_of (rows_from P 0 n) (pairs_weaker NotLater (λ r q. r.set ≤ q.set) (rows_from P 0 n) (λ r q w. w.sets) o) in
    let z : 0 + k ≡ k = omega arith in
    highest_last (map set_of (rows_from P 0 n)) k rise (e ∙ sym (ap length m ∙ l)) ∙ ap (λ (l : List ℕ). get_or l k 0) m ∙ counted_at f 0 0 n k (omega arith) ∙ ap f z
