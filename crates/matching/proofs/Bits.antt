-- Sets as bits: what a union has, and the bit of a variable.
use mathlib.Core.Path.{◌≡◌, refl, sym, ap, ◌∙◌, subst}
use mathlib.Core.Bool.{Bool, true, false, not, ◌||◌}
use mathlib.Core.Logic.{inl, inr, ⊎_elim, ◌≢◌}
use mathlib.Core.List.{List}
use Prim.Native.Nat.{ℕ, zero, suc, ◌+◌, ◌-◌, ◌*◌, ◌/◌, ◌%◌, ◌^◌, ◌≤◌, ◌<◌, max, min}
use native.Mathlib.Nat.{mod-lt, max-le, min-le_left, zero-div}
use native.Mathlib.Omega.{arith}
use lib.Dec.{eqb}
use lib.Bits.{bit_and, bit_or, and_step, and_shr, or_step, or_shr, or_lt}
use borrow.Author.Tests.{eqb-true, eq-eqb, ne_eqb, leb-true}
use Rattle.lists.specs.Lists.{count_up}
use Rattle.lists.proofs.Lists.{test, clash, map_in}
use Rattle.lists.proofs.Tests.{count_up_in}
use Rattle.model.specs.declared.Row.{Row}
use Rattle.model.specs.Program.{any?, constant?}
use Rattle.model.specs.Configuration.{no_value, place, value_of}
use Rattle.model.specs.Matching.{negation}
use Rattle.search_laws.specs.Agree.{Looks}
use Rattle.program.specs.Rows.{row_at}
use Rattle.queries.specs.Answers.{settled}
use Rattle.matching.specs.Rules.{rows_between}
use Rattle.nogoods.specs.Nogoods.{has}
use Rattle.matching.specs.Sets.{Member, Joined, OfRow, Apart, Changed}

-- the greater of two bits
max_small : (x y : ℕ) → x < 2 → y < 2 → max x y < 2
max_small x y h k = let m : max x y ≤ 1 = max-le (omega arith) (omega arith) in omega arith

-- the lowest bit of a union
or_low : (a b : ℕ) → bit_or a b % 2 ≡ max (a % 2) (b % 2)
or_low a b =
    let e = or_step a b in
    let m = max_small (a % 2) (b % 2) (mod-lt a (omega arith)) (mod-lt b (omega arith)) in
    low (bit_or a b) (bit_or (a / 2) (b / 2)) (max (a % 2) (b % 2)) e m
  where
    low : (n q m : ℕ) → n ≡ q * 2 + m → m < 2 → n % 2 ≡ m
    low n q m e h = omega arith

or_bit_at : (a b j : ℕ) → bit_or a b / 2 ^ j % 2 ≡ max (a / 2 ^ j % 2) (b / 2 ^ j % 2)
or_bit_at a b j = ap (λ (n : ℕ). n % 2) (or_shr a b j) ∙ or_low (a / 2 ^ j) (b / 2 ^ j)

one_left : (y : ℕ) → y < 2 → max 1 y ≡ 1
one_left zero h = refl
one_left (suc zero) h = refl
one_left (suc (suc y)) h = absurd (omega arith)

one_right : (x : ℕ) → x < 2 → max x 1 ≡ 1
one_right zero h = refl
one_right (suc zero) h = refl
one_right (suc (suc x)) h = absurd (omega arith)

pub joined : (a b : ℕ) → a < 512 → b < 512 → Joined a b (bit_or a b)
unfolding has
joined a b h k = record {
  small = or_lt 9 a b h k;
  left = λ j e. eq-eqb (bit_or a b / 2 ^ j % 2) 1 (or_bit_at a b j ∙ ap (λ (n : ℕ). max n (b / 2 ^ j % 2)) (eqb-true (a / 2 ^ j % 2) 1 e) ∙ one_left (b / 2 ^ j % 2) (mod-lt (b / 2 ^ j) (omega arith)));
  right = λ j e. eq-eqb (bit_or a b / 2 ^ j % 2) 1 (or_bit_at a b j ∙ ap (λ (n : ℕ). max (a / 2 ^ j % 2) n) (eqb-true (b / 2 ^ j % 2) 1 e) ∙ one_right (a / 2 ^ j % 2) (mod-lt (a / 2 ^ j) (omega arith)));
}

-- `1 << p` at 32 bits
pub bit_at : (p : ℕ) → p < 8 → ((1 * 2 ^ p) % 4294967296 < 512) × (has ((1 * 2 ^ p) % 4294967296) p ≡ true)
unfolding has
bit_at zero h = (omega arith, refl)
bit_at (suc zero) h = (omega arith, refl)
bit_at (suc (suc zero)) h = (omega arith, refl)
bit_at (suc (suc (suc zero))) h = (omega arith, refl)
bit_at (suc (suc (suc (suc zero)))) h = (omega arith, refl)
bit_at (suc (suc (suc (suc (suc zero))))) h = (omega arith, refl)
bit_at (suc (suc (suc (suc (suc (suc zero)))))) h = (omega arith, refl)
bit_at (suc (suc (suc (suc (suc (suc (suc zero))))))) h = (omega arith, refl)
bit_at (suc (suc (suc (suc (suc (suc (suc (suc p)))))))) h = absurd (omega arith)

-- an operand that takes no value
pub settled_valued : (v : List ℕ) (x : ℕ) → settled v x ≡ true → 1 ≤ x → x ≤ 8 → value_of v x ≢ no_value
settled_valued v x z h l e = no (any? x) (constant? x) (eqb (value_of v x) no_value) (ne_eqb x 0 (omega arith)) (⊎_elim (λ c. let d = leb-true 9 x c in absurd (omega arith)) (λ c. c) (test (constant? x))) (eq-eqb (value_of v x) no_value e) z
  where
    no : (b c d : Bool) → b ≡ false → c ≡ false → d ≡ true → (b || (c || not d)) ≡ true → ⊥
    no true c d p q r z = clash refl p
    no false true d p q r z = clash refl q
    no false false true p q r z = clash z refl
    no false false false p q r z = clash r refl

-- the rows of a body by their places
pub looks_at : (program : List ℕ) (from to set : ℕ) → ((j : ℕ) → from ≤ j → j < to → OfRow (row_at program j) set) → Looks (Member set) (rows_between program from to)
unfolding rows_between
looks_at program from to set h r i =
    let m = map_in (row_at program) (count_up from (to - from)) i in
    let b = count_up_in from (to - from) m.0 m.1 in
    let o = h m.0 b.0 (omega (arith, b.1)) in
    subst (λ (q : Row). Member set q.i × Member set q.a × Member set q.b) (sym m.2) (o.at_i, o.at_a, o.at_b)

pub of_row_more : (r : Row) (a b set : ℕ) → OfRow r a → Joined a b set → OfRow r set
of_row_more r a b set o j = record {
  small = j.small;
  at_i = λ h l. j.left (place r.i) (o.at_i h l);
  at_a = λ h l. j.left (place r.a) (o.at_a h l);
  at_b = λ h l. j.left (place r.b) (o.at_b h l);
}

-- `a & b == 0`
and_low : (a b : ℕ) → bit_and a b % 2 ≡ min (a % 2) (b % 2)
and_low a b = low (bit_and a b) (bit_and (a / 2) (b / 2)) (min (a % 2) (b % 2)) (and_step a b) (let m = min-le_left (a % 2) (b % 2) in let h : a % 2 < 2 = mod-lt a (omega arith) in omega arith)
  where
    low : (n q m : ℕ) → n ≡ q * 2 + m → m < 2 → n % 2 ≡ m
    low n q m e h = omega arith

pub nothing_common : (a b : ℕ) → bit_and a b ≡ 0 → (j : ℕ) → has a j ≡ true → has b j ≡ true → ⊥
unfolding has
nothing_common a b e j h k =
    let p = eqb-true (a / 2 ^ j % 2) 1 h in
    let q = eqb-true (b / 2 ^ j % 2) 1 k in
    let z : 0 / 2 ^ j % 2 ≡ min (a / 2 ^ j % 2) (b / 2 ^ j % 2) = ap (λ (n : ℕ). n / 2 ^ j % 2) (sym e) ∙ ap (λ (n : ℕ). n % 2) (and_shr a b j) ∙ and_low (a / 2 ^ j) (b / 2 ^ j) in
    let y : 0 / 2 ^ j % 2 ≡ 0 = ap (λ (n : ℕ). n % 2) (zero-div (2 ^ j)) in
    let o : ◌≡◌ {A = ℕ} 0 1 = sym y ∙ z ∙ ap (λ (n : ℕ). min n (b / 2 ^ j % 2)) p ∙ ap (λ (n : ℕ). min 1 n) q in
    omega arith

-- what is apart from what a row changes
pub apart_of : (set given : ℕ) (r : Row) (v : List ℕ) → Changed r v given → ((j : ℕ) → has set j ≡ true → has given j ≡ true → ⊥) → Apart set r v
apart_of set given r v c n = ⊎_elim (λ e. inl e) (λ e. inr (record {
  at_i = λ m h l z. n (place r.i) (m h l) (c.at_i e h l z);
  at_a = λ m h l z. n (place r.a) (m h l) (c.at_a e h l z);
  at_b = λ m h l z. n (place r.b) (m h l) (c.at_b e h l z);
  at_ids = λ m z. n 8 m (c.at_ids e z);
})) (test (negation r))
