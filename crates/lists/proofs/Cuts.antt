-- Lists cut at a place: what stands there, what is left of them, and tests of a range.
use Rattle.std.specs.Prelude.{if◌then◌else◌}
use mathlib.Core.Path.{◌≡◌}
use mathlib.Core.Bool.{Bool, true, false, and-false}
use mathlib.Core.List.{List, [], ◌∷◌}
use Prim.Native.Nat.{ℕ, zero, suc, ◌+◌, ◌-◌, ◌≤◌, ◌<◌}
use native.Mathlib.Omega.{arith}
use native.Mathlib.Numerals.{add-one}
use lib.ListN.{length, get_or, drop}
use lib.Seq.{drop-cons}
use borrow.Author.Tests.{le-leb, lt-leb}
use Rattle.lists.specs.Lists.{within, count_up}

-- what holds of both branches
pub if_either : {A : Type 0} (P : A → Type 0) (b : Bool) {x y : A} → P x → P y → P (if b then x else y)
if_either P true p q = p
if_either P false p q = q

module _ (low high n : ℕ) where
  pub within_in : low ≤ n → n ≤ high → within low high n ≡ true
  within_in h k = simp (le-leb _ _ h, le-leb _ _ k)

  pub within_below : n < low → within low high n ≡ false
  within_below h = simp (lt-leb _ _ h)

  pub within_above : high < n → within low high n ≡ false
  within_above h = simp (lt-leb _ _ h, and-false)

module _ {A : Type 0} where
  pub drop_next : (d : A) (l : List A) (k : ℕ) → k < length l → drop k l ≡ get_or l k d ∷ drop (k + 1) l
  drop_next d l k h = rw (add-one, drop-cons l k d)

  -- the list ends with r
  pub record Suffix (r l : List A) : Type 0 where
    pub short : length r ≤ length l
    pub is : drop (length l - length r) l ≡ r

  pub suffix_self : (l : List A) → Suffix l l
  suffix_self l = let e : length l - length l ≡ 0 = omega arith in record { short = omega arith; is = rw e }

  pub suffix_cons : {r l : List A} (x : A) → Suffix r l → Suffix r (x ∷ l)
  suffix_cons {r} {l} x s =
      let h = s.short in
      let e : suc (length l) - length r ≡ suc (length l - length r) = omega arith in
      record { short = omega arith; is = rw e s.is }

  pub suffix_drop : {r : List A} (n : ℕ) (l : List A) → Suffix r (drop n l) → Suffix r l
  suffix_drop zero l s = s
  suffix_drop (suc n) [] s = s
  suffix_drop (suc n) (x ∷ l) s = suffix_cons x (suffix_drop n l s)

-- the numbers from k up to n, one after the other
pub count_up_next : (k n : ℕ) → k < n → count_up k (n - k) ≡ k ∷ count_up (k + 1) (n - (k + 1))
count_up_next k n h =
    let e : n - k ≡ suc (n - (k + 1)) = omega arith in
    rw (e, add-one)

pub count_up_none : (k n : ℕ) → n ≤ k → count_up k (n - k) ≡ []
count_up_none k n h = let e : n - k ≡ 0 = omega arith in rw e
