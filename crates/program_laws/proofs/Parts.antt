-- The parts of a rule and the variables with values, when one row more is taken.
use Rattle.std.specs.Prelude.{if◌then◌else◌}
use mathlib.Core.Path.{◌≡◌, refl, ◌∙◌}
use mathlib.Core.Bool.{Bool, true, false, not, ◌&&◌, and_assoc}
use mathlib.Core.Logic.{◌⊎◌, inl, inr, ⊎_elim, ◌≢◌}
use mathlib.Core.List.{List, [], ◌∷◌, ◌++◌, append-nil}
use Prim.Native.Nat.{ℕ, ◌+◌, ◌≤◌}
use native.Mathlib.Omega.{arith}
use lib.Dec.{eqb}
use lib.ListN.{length, length-append, get_or, set}
use lib.Seq.{get_or-set_other}
use borrow.Author.Tests.{eqb-true, eqb-false, eq-eqb, ne_eqb}
use Rattle.lists.specs.Lists.{In, when, bit, is_empty}
use Rattle.lists.proofs.Lists.{test, clash}
use Rattle.lists.proofs.Splits.{keep_snoc, keep_none}
use Rattle.model.specs.declared.Row.{Row}
use Rattle.model.specs.Program.{variable?, part_of, initial_atoms}
use Rattle.model.specs.Load.{initial, give, odd_query, gives}
use Rattle.program_laws.specs.Lawful.{Gives}

-- a row behind the others
module _ (done : List Row) (r : Row) where
  pub initial_snoc : initial_atoms (done ++ (r ∷ [])) ≡ initial_atoms done ++ when (initial r) r
  unfolding initial_atoms
  initial_snoc = keep_snoc _ done r

  part_snoc : (m n k : ℕ) → part_of (done ++ (r ∷ [])) m n k ≡ part_of done m n k ++ when (eqb r.set m && (eqb r.rule n && eqb r.part k)) r
  unfolding part_of
  part_snoc m n k = keep_snoc _ done r

  -- of its own rule and of another
  pub part_own : (k : ℕ) → part_of (done ++ (r ∷ [])) r.set r.rule k ≡ part_of done r.set r.rule k ++ when (eqb r.part k) r
  part_own k = part_snoc r.set r.rule k ∙ rw (eq-eqb r.set r.set refl, eq-eqb r.rule r.rule refl)

  pub part_other : (m n k : ℕ) → eqb r.set m && eqb r.rule n ≡ false → part_of (done ++ (r ∷ [])) m n k ≡ part_of done m n k
  part_other m n k e = part_snoc m n k ∙ rw (← (and_assoc (eqb r.set m) (eqb r.rule n) (eqb r.part k)), e) (append-nil (part_of done m n k))

  -- a rule of which no row was taken
  pub part_none : ((q : Row) → In q done → q.set ≡ r.set → q.rule ≡ r.rule → ⊥) → (k : ℕ) → part_of done r.set r.rule k ≡ []
  unfolding part_of
  part_none h k = keep_none _ done (λ q i. apart q (h q i) (eqb q.set r.set) refl (eqb q.rule r.rule) refl)
    where
      apart : (q : Row) → (q.set ≡ r.set → q.rule ≡ r.rule → ⊥) → (a : Bool) → eqb q.set r.set ≡ a → (b : Bool) → eqb q.rule r.rule ≡ b →
          eqb q.set r.set && (eqb q.rule r.rule && eqb q.part k) ≡ false
      apart q f true p true e = absurd (f (eqb-true _ _ p) (eqb-true _ _ e))
      apart q f true p false e = rw (p, e)
      apart q f false p b e = rw p

-- one row more, or none
module _ (l : List Row) (r : Row) where
  pub length_when : (b : Bool) → length (l ++ when b r) ≡ length l + bit b
  length_when true = length-append l (r ∷ [])
  length_when false = length-append l []

  pub when_hit : (m k : ℕ) → m ≡ k → l ++ when (eqb m k) r ≡ l ++ (r ∷ [])
  when_hit m k e = rw (eq-eqb m k e)

  pub when_miss : (m k : ℕ) → m ≢ k → l ++ when (eqb m k) r ≡ l
  when_miss m k h = rw (ne_eqb m k h) (append-nil l)

pub some_rows : (l : List Row) → not (is_empty l) ≡ true → 1 ≤ length l
some_rows [] e = clash e refl
some_rows (x ∷ l) e = omega arith

pub no_row : (l : List Row) → not (is_empty l) ≡ false → length l ≡ 0
no_row [] e = refl
no_row (x ∷ l) e = clash refl e

-- a variable that has a value after the row got it from the row or had it before
give_cases : (y x : ℕ) (v : List ℕ) → get_or (give y v) x 0 ≢ 0 → (x ≡ y) ⊎ (get_or v x 0 ≢ 0)
unfolding give
give_cases y x v h = ⊎_elim (λ e. inl (eqb-true x y e)) (λ e. inr (other (variable? y) (eqb-false x y e) h)) (test (eqb x y))
  where
    other : (b : Bool) → x ≢ y → get_or (if b then set v y 1 else v) x 0 ≢ 0 → get_or v x 0 ≢ 0
    other true n k z = k (get_or-set_other v y x 1 0 n ∙ z)
    other false n k z = k z

pub gives_cases : (r : Row) (x : ℕ) (v : List ℕ) → get_or (gives r v) x 0 ≢ 0 → Gives r x ⊎ (get_or v x 0 ≢ 0)
unfolding gives
gives_cases r x v h = go (odd_query r.op) refl (eqb r.op 21) refl h
  where
    go : (a : Bool) → odd_query r.op ≡ a → (b : Bool) → eqb r.op 21 ≡ b →
        get_or (if a then give r.i (give r.a (give r.b v)) else if b then give r.i v else v) x 0 ≢ 0 → Gives r x ⊎ (get_or v x 0 ≢ 0)
    go true p b q k =
        ⊎_elim (λ e. inl (inl (p, inl e))) (λ k. ⊎_elim (λ e. inl (inl (p, inr (inl e))))
        (λ k. ⊎_elim (λ e. inl (inl (p, inr (inr e)))) (λ k. inr k) (give_cases r.b x v k))
        (give_cases r.a x (give r.b v) k)) (give_cases r.i x (give r.a (give r.b v)) k)
    go false p true q k = ⊎_elim (λ e. inl (inr (eqb-true _ _ q, e))) (λ k. inr k) (give_cases r.i x v k)
    go false p false q k = inr k
