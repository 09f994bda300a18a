-- One candidate after the other is tried on what was found before, until one fits.
use Rattle.std.specs.Prelude.{Option, Some, None}
use mathlib.Core.Path.{◌≡◌, refl, ap, ◌∙◌}
use mathlib.Core.Bool.{Bool, true, false}
use mathlib.Core.List.{List, []}
use Prim.Native.Nat.{ℕ, ◌+◌, ◌≤◌, ◌<◌}
use native.Mathlib.Omega.{arith}
use Rattle.lists.specs.Lists.{when}
use Rattle.model.specs.declared.Row.{Row}
use Rattle.model.specs.Matching.{Found}
use Rattle.state.specs.declared.Scalars.{Scalars}
use Rattle.queries.specs.declared.Columns.{Columns}
use Rattle.queries.specs.View.{candidate_of, found_in, room, Kept}
use Rattle.queries.specs.Answers.{tried, count_of, candidate_at, hits, Next}
use Rattle.queries.proofs.Answers.{hits_end, hits_none, hits_one}

-- before candidate c: the values are what they were and the first n ids too, and what the candidates from `from` on give is what those from c on
-- give
pub record Seeking (words : List ℕ) (s : Scalars) (r : Row) (v m : List ℕ) (n from : ℕ) (values matched : List ℕ) (c : ℕ) : Type 0 where
  pub same : values ≡ v
  pub kept : Kept n m matched
  pub on : from ≤ c
  pub is : hits words s r (found_in v m n) from ≡ hits words s r (found_in v m n) c

module _ {words : List ℕ} {s : Scalars} {r : Row} {v m : List ℕ} {n from : ℕ} where
  pub seeking_first : {values : List ℕ} → values ≡ v → Seeking words s r v m n from values m from
  seeking_first e = record { same = e; kept = refl; on = omega arith; is = refl }

  module _ {values matched : List ℕ} {c : ℕ} (k : Seeking words s r v m n from values matched c) where
    -- further, past candidates that give nothing
    pub seeking_on : (to : ℕ) → c ≤ to → hits words s r (found_in v m n) c ≡ hits words s r (found_in v m n) to → Seeking words s r v m n from values matched to
    seeking_on to h e = let on = k.on in record { same = k.same; kept = k.kept; on = omega arith; is = k.is ∙ e }

    -- past the last
    pub seeking_ends : {f : Found} → count_of s r ≤ c → Next (hits words s r (found_in v m n)) from (count_of s r) f None
    seeking_ends h = record { is = k.is ∙ hits_end words s r (found_in v m n) c h; further = tt }

    -- candidate c fits, or it does not
    module _ (h : c < count_of s r) (x : Option Columns) (there : candidate_of x ≡ candidate_at words s r c) (fits : Bool) (u l : List ℕ)
        (e : when fits (found_in u l (room r n)) ≡ tried r x (found_in values matched n)) where
      tried_on : when fits (found_in u l (room r n)) ≡ tried r x (found_in v m n)
      tried_on = e ∙ ap (tried r x) same_found
        where
          same_found : ◌≡◌ {A = Found} (found_in values matched n) (found_in v m n)
          same_found = rw (k.same, k.kept)

      pub seeking_hits : fits ≡ true → Next (hits words s r (found_in v m n)) from (count_of s r) (found_in u l (room r n)) (Some (c + 1))
      seeking_hits t = let on = k.on in record {
        is = k.is ∙ hits_one words s r (found_in v m n) c h x there fits (found_in u l (room r n)) tried_on t;
        further = (omega arith, omega arith);
      }

      pub seeking_misses : fits ≡ false → Kept n matched l → Seeking words s r v m n from v l (c + 1)
      seeking_misses t q = let on = k.on in record {
        same = refl;
        kept = q ∙ k.kept;
        on = omega arith;
        is = k.is ∙ hits_none words s r (found_in v m n) c h x there fits (found_in u l (room r n)) tried_on t;
      }
