-- The ops of queries, from their tests.
use mathlib.Core.Path.{◌≡◌}
use mathlib.Core.Bool.{Bool, true, false, ◌&&◌, ◌||◌, and-eq-true_iff}
use mathlib.Core.Logic.{⊎_elim, ◌≢◌}
use Prim.Native.Nat.{ℕ, ◌%◌, ◌≤◌}
use native.Mathlib.Omega.{arith}
use lib.Dec.{eqb, leb}
use borrow.Author.Tests.{eqb-true, ne_eqb, leb-true}
use Rattle.lists.specs.Lists.{within}
use Rattle.lists.proofs.Lists.{or_cases}
use Rattle.program_laws.proofs.Tests.{parts}
use Rattle.model.specs.Program.{unused?, flag?}
use Rattle.model.specs.declared.Row.{Row}
use Rattle.model.specs.Load.{query, odd_query}
use Rattle.model.specs.Matching.{negation}

split : {P : Type 0} {a b : Bool} → (a || b) ≡ true → (a ≡ true → P) → (b ≡ true → P) → P
split {a = a} {b = b} e f g = ⊎_elim f g (or_cases a b e)

-- one of the odd ops
odd_one : {P : Type 0} (n : ℕ) → odd_query n ≡ true → ((k : ℕ) → k % 2 ≢ 0 → k ≤ 13 → n ≡ k → P) → P
odd_one {P} n e f =
    split {b = eqb n 13} e (λ e. split {b = eqb n 11} e (λ e. split {b = eqb n 9} e (λ e. split {b = eqb n 7} e (λ e. split {b = eqb n 5} e (λ e. split {b = eqb n 3} e (is 1 (omega arith) (omega arith)) (is 3 (omega arith) (omega arith)))
    (is 5 (omega arith) (omega arith))) (is 7 (omega arith) (omega arith))) (is 9 (omega arith) (omega arith))) (is 11 (omega arith) (omega arith))) (is 13 (omega arith) (omega arith))
  where
    is : (k : ℕ) → k % 2 ≢ 0 → k ≤ 13 → eqb n k ≡ true → P
    is k h i q = f k h i (eqb-true n k q)

-- a query that gives values is no negation, and its op is at most 13
pub odd_positive : (r : Row) → odd_query r.op ≡ true → negation r ≡ false
odd_positive r e = odd_one r.op e (λ k h i p. ne_eqb (r.op % 2) 0 (omega arith))

pub odd_small : (r : Row) → odd_query r.op ≡ true → r.op ≤ 13
odd_small r e = odd_one r.op e (λ k h i p. omega arith)

-- a query's op is at most 14
pub query_small : (r : Row) → query r ≡ true → r.op ≤ 14
query_small r e =
    split {a = a || b || c || d} e
    (λ e. split {a = a || b || c} e (λ e. split {a = a || b} e (λ e. split {a = a} e (λ e. up 1 2 (search parts) (omega arith)) (λ e. up 3 4 (search parts) (omega arith))) (λ e. up 5 10 (search parts) (omega arith))) (λ e. up 11 12 (search parts) (omega arith)))
    (λ e. up 13 14 (search parts) (omega arith))
  where
    up : (a b : ℕ) → within a b r.op ≡ true → b ≤ 14 → r.op ≤ 14
    up a b e h = let p = leb-true r.op b ((and-eq-true_iff (leb a r.op) (leb r.op b)).0 e).1 in omega arith

    a : Bool
    a = within 1 2 r.op && leb 1 r.p

    b : Bool
    b = within 3 4 r.op && eqb r.p 0

    c : Bool
    c = within 5 10 r.op && eqb r.p 0 && unused? r.b

    d : Bool
    d = within 11 12 r.op && eqb r.p 0 && flag? r.a && unused? r.b
