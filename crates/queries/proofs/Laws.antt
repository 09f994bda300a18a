-- How the code's answer, found or not, follows the lists of the model.
use Rattle.std.specs.Prelude.{Some, None}
use mathlib.Core.Path.{◌≡◌, refl, sym, ap, ◌∙◌}
use mathlib.Core.Bool.{Bool, true, false}
use mathlib.Core.Logic.{◌≢◌}
use mathlib.Core.List.{List, [], ◌∷◌, ◌++◌, map}
use Prim.Native.Nat.{ℕ, suc, ◌+◌, ◌-◌, ◌/◌, ◌^◌, ◌≤◌, ◌<◌}
use native.Mathlib.Nat.{div-eq_of_lt, add-zero}
use native.Mathlib.Omega.{arith}
use native.Mathlib.Numerals.{add-one}
use lib.ListN.{length, take, drop, get_or, set, length-take}
use lib.Pow.{pow_mono}
use lib.Seq.{take-take, take-suc-set}
use borrow.Author.Tests.{eq-eqb, ne_eqb}
use Rattle.lists.specs.Lists.{bit, when, bind}
use Rattle.lists.proofs.Bind.{append-nil}
use Rattle.model.specs.declared.Row.{Row}
use Rattle.lists.proofs.Counted.{trimmed_few}
use Rattle.lists.proofs.Search.{get_nonzero, trimmed_last}
use Rattle.table.specs.Rows.{row}
use Rattle.state.specs.View.{plan_at}
use Rattle.model.specs.Configuration.{has_flag}
use Rattle.model.specs.Matching.{Candidate, candidate, Found, found, fit}
use Rattle.queries.specs.declared.Columns.{Columns}
use Rattle.queries.specs.View.{room, Kept}
use Rattle.queries.specs.Answers.{taken, tried}

-- one operand after the other
module _ (met : Bool) (values : List ℕ) where
  met_none : met ≡ false → when met values ≡ []
  met_none h = ap (λ (b : Bool). when b values) h

  met_one : met ≡ true → when met values ≡ values ∷ []
  met_one h = ap (λ (b : Bool). when b values) h

  -- a first part without an answer ends it
  pub stop : (l : List (List ℕ)) (f : List ℕ → List (List ℕ)) → when met values ≡ l → met ≡ false → [] ≡ bind l f
  stop l f e h = ap (λ (k : List (List ℕ)). bind k f) (sym (met_none h) ∙ e)

  -- a first part with an answer: what follows is asked of that
  pub go : {r : List (List ℕ)} (l : List (List ℕ)) (f : List ℕ → List (List ℕ)) → when met values ≡ l → met ≡ true → r ≡ f values → r ≡ bind l f
  go l f e h e' = e' ∙ sym (append-nil (f values)) ∙ ap (λ (k : List (List ℕ)). bind k f) (sym (met_one h) ∙ e)

  -- what is found after a candidate
  module _ (r : Row) (k : Candidate) (f : Found) (e : when met values ≡ fit r k f.values) where
    taken_one : met ≡ true → found r k f values ∷ [] ≡ taken r k f
    unfolding taken
    taken_one h = ap (map (found r k f)) (sym (met_one h) ∙ e)

    pub taken_none : met ≡ false → [] ≡ taken r k f
    unfolding taken
    taken_none h = ap (map (found r k f)) (sym (met_none h) ∙ e)

    pub taken_plain : met ≡ true → r.part ≢ 1 → (l : List ℕ) → l ≡ f.matched → ◌≡◌ {A = List Found} (record { values = values; matched = l } ∷ []) (taken r k f)
    unfolding found
    taken_plain h p l q = rw q (rw (ne_eqb r.part 1 p) at (taken_one h))

    pub taken_reason : met ≡ true → r.part ≡ 1 → (l : List ℕ) → l ≡ f.matched ++ (k.i ∷ []) → ◌≡◌ {A = List Found} (record { values = values; matched = l } ∷ []) (taken r k f)
    unfolding found
    taken_reason h p l q = rw q (rw (eq-eqb r.part 1 p) at (taken_one h))

-- a candidate that is not there, and one that is
module _ (r : Row) (f : Found) where
  pub tried_absent : [] ≡ tried r None f
  unfolding tried
  tried_absent = refl

  pub tried_there : (x : Columns) → taken r (candidate x.i x.a x.b) f ≡ tried r (Some x) f
  unfolding tried
  tried_there x = sym (append-nil (taken r (candidate x.i x.a x.b) f))

-- one id more is matched, or none
pub one_more : (l : List ℕ) (n i : ℕ) → n < length l → take (n + 1) (set l n i) ≡ take n l ++ (i ∷ [])
one_more l n i h = rw (add-one n) (take-suc-set l n i h)

module _ (r : Row) (n : ℕ) (l : List ℕ) where
  pub reason_more : r.part ≡ 1 → (i : ℕ) → n < length l → take (room r n) (set l n i) ≡ take n l ++ (i ∷ [])
  reason_more p i h = ap (λ (b : Bool). take (n + bit b) (set l n i)) (eq-eqb r.part 1 p) ∙ one_more l n i h

  pub none_more : r.part ≢ 1 → take (room r n) l ≡ take n l
  none_more p = ap (λ (b : Bool). take (n + bit b) l) (ne_eqb r.part 1 p) ∙ ap (λ (m : ℕ). take m l) (add-zero n)

-- fewer ids are kept with more
pub kept_fewer : (n m : ℕ) (l k : List ℕ) → n ≤ m → Kept m l k → Kept n l k
kept_fewer n m l k h e = sym (take-take n m k h) ∙ ap (take n) e ∙ take-take n m l h

-- justifications of a plan
module _ (words : List ℕ) (k : ℕ) where
  pub justifications_few : length (plan_at words k).justifications ≤ 4
  unfolding plan_at
  justifications_few =
      let l = take 4 (drop 6 (row 18 (drop 1280 words) k)) in
      let g = trimmed_few l in
      let h : length l ≤ 4 = simp length-take (omega arith) in
      omega arith

  pub justifications_last : (j : ℕ) → get_or (plan_at words k).justifications j 0 ≡ 0 → length (plan_at words k).justifications ≤ suc j → length (plan_at words k).justifications ≤ j
  unfolding plan_at
  justifications_last j e h = trimmed_last _ j e h

  pub justifications_reach : (j : ℕ) → get_or (plan_at words k).justifications j 0 ≢ 0 → j < length (plan_at words k).justifications
  justifications_reach j h = get_nonzero (plan_at words k).justifications j h

-- a flag of any number
pub flag_zero : (n : ℕ) → has_flag 1 n ≡ has_flag 0 n
unfolding has_flag
flag_zero n = refl

pub flag_high : (f n : ℕ) → 16 < f → n < 65536 → false ≡ has_flag f n
unfolding has_flag
flag_high f n h k =
    let g : 2 ^ 16 ≤ 2 ^ (f - 1) = pow_mono {i = 16} {j = f - 1} (omega arith) in
    let e : n / 2 ^ (f - 1) ≡ 0 = div-eq_of_lt (omega arith) in
    rw e
