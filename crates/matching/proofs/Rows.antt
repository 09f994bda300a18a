-- The rows of a rule from a place on: what the search finds is the first that counts of the model's matches.
use Rattle.std.specs.Prelude.{Some, None}
use mathlib.Core.Path.{◌≡◌, sym, ap, ◌∙◌, subst}
use mathlib.Core.Bool.{Bool, true, false}
use mathlib.Core.List.{List, [], ◌∷◌}
use Prim.Native.Nat.{ℕ, ◌+◌, ◌≤◌, ◌<◌}
use native.Mathlib.Omega.{arith}
use lib.Dec.{eqb}
use lib.ListN.{length, take}
use Rattle.lists.specs.Lists.{bit, put, keep, when, bind}
use Rattle.lists.proofs.Search.{keep_bind}
use Rattle.model.specs.declared.Row.{Row}
use Rattle.model.specs.Matching.{Found, after_row, matches, counts}
use Rattle.program.specs.Rows.{row_at, rows_of}
use Rattle.program.proofs.Words.{rows_next, rows_none}
use Rattle.state.specs.declared.Scalars.{Scalars}
use Rattle.state.specs.View.{config_of}
use Rattle.queries.specs.View.{found_in, Kept}
use Rattle.queries.specs.Answers.{answers, given_ids, Next}
use Rattle.queries.proofs.Laws.{kept_fewer}
use Rattle.queries.proofs.Answers.{answers_all}
use Rattle.matching.specs.declared.Rule.{Rule}
use Rattle.matching.specs.Rules.{rows_between, reasons_in, counted}

length_put : {A : Type 0} (b : Bool) (x : A) (l : List A) → length (put b x l) ≡ bit b + length l
length_put true x l = omega arith
length_put false x l = omega arith

-- how many reasons are left
module _ (program : List ℕ) (k end : ℕ) where
  pub reasons_next : k < end → (r : Row) → r ≡ row_at program k → reasons_in program k end ≡ bit (eqb r.part 1) + reasons_in program (k + 1) end
  unfolding reasons_in rows_between
  reasons_next h r e =
      ap (λ (l : List Row). length (keep (λ (r : Row). eqb r.part 1) l)) (rows_next program k end h ∙ ap (λ (x : Row). x ∷ rows_between program (k + 1) end) (sym e))
      ∙ length_put (eqb r.part 1) r (keep (λ (r : Row). eqb r.part 1) (rows_between program (k + 1) end))

module _ (program words : List ℕ) (s : Scalars) (rule : Rule) (k : ℕ) (f : Found) where
  -- no row is left
  pub counted_end : rule.body ≤ k → counted program words s rule k f ≡ when (counts (rows_of program) (config_of words s) rule.set rule.number f) f
  unfolding counted matches rows_between
  counted_end h = rw (rows_none program k rule.body h)

  -- one row after the other
  pub counted_next : k < rule.body → (r : Row) → r ≡ row_at program k → counted program words s rule k f ≡ bind (answers words s r f 0) (counted program words s rule (k + 1))
  unfolding counted matches rows_between
  counted_next h r e =
      let c = config_of words s in
      let p = counts (rows_of program) c rule.set rule.number in
      let rest = rows_between program (k + 1) rule.body in
      ap (λ (l : List Row). keep p (matches c l f)) (rows_next program k rule.body h ∙ ap (λ (x : Row). x ∷ rest) (sym e))
      ∙ keep_bind p (matches c rest) (after_row c r f)
      ∙ ap (λ (l : List Found). bind l (λ (x : Found). keep p (matches c rest x))) (answers_all words s r f)

-- the first ids are kept, once more of them were matched and given up
pub kept_on : (n g : ℕ) (l m k o : List ℕ) → Kept n l m → Kept n m k → Kept (n + g) k o → Kept n l o
kept_on n g l m k o a b c = kept_fewer n (n + g) k o (omega arith) c ∙ b ∙ a

-- the next answer of a row, asked with other ids in place behind those that are matched: there is none, or it is the first
module _ (words : List ℕ) (s : Scalars) (r : Row) (v m b values matched : List ℕ) (n c w : ℕ) (same : take n b ≡ take n m) where
  pub given_none : Next (answers words s r (found_in v b n)) c w (found_in values matched (n + given_ids r)) None → answers words s r (found_in v m n) c ≡ []
  given_none q = subst (λ (l : List ℕ). answers words s r (record { values = v; matched = l }) c ≡ []) same q.is

  pub given_one : (k : ℕ) → Next (answers words s r (found_in v b n)) c w (found_in values matched (n + given_ids r)) (Some k) → (g : ℕ) → g ≡ n + given_ids r →
      ◌≡◌ {A = List Found} (answers words s r (found_in v m n) c) (found_in values matched g ∷ answers words s r (found_in v m n) k)
  given_one k q g e =
      subst (λ (l : List ℕ). answers words s r (record { values = v; matched = l }) c ≡ found_in values matched (n + given_ids r) ∷ answers words s r (record { values = v; matched = l }) k) same q.is
      ∙ ap {B = List Found} (λ (g : ℕ). found_in values matched g ∷ answers words s r (found_in v m n) k) (sym e)
