-- On what a failure hangs: a row that fails with each answer hangs on its own operands and on what its answers' failures hang on; a row that
-- changes nothing of what one answer's failure hangs on hangs on just that.
use Rattle.std.specs.Prelude.{if◌then◌else◌}
use mathlib.Core.Path.{◌≡◌, refl, sym, ap, ◌∙◌, subst}
use mathlib.Core.Bool.{Bool, true, false}
use mathlib.Core.Logic.{inl, inr, ⊎_elim, ◌≢◌}
use mathlib.Core.List.{List, [], ◌∷◌, ◌++◌, map}
use Prim.Native.Nat.{ℕ, ◌+◌, ◌-◌, ◌≤◌, ◌<◌}
use native.Mathlib.Omega.{arith}
use lib.Dec.{eqb}
use lib.ListN.{length, set, length-set}
use lib.Seq.{get_or-set_other}
use borrow.Author.Tests.{eqb-true, eqb-false, ne_eqb, leb-false}
use Rattle.lists.specs.Lists.{when, is_empty, bind, count_up}
use Rattle.lists.proofs.Lists.{test}
use Rattle.lists.proofs.Bind.{append-nil, append_assoc}
use Rattle.model.specs.declared.Row.{Row}
use Rattle.model.specs.Program.{any?, constant?, constant, body}
use Rattle.model.specs.Configuration.{no_value, place, value_of}
use Rattle.model.specs.Matching.{Candidate, meet, fit, Found, found, negation, after_row, counts}
use Rattle.program.specs.Rows.{row_at, rows_of}
use Rattle.state.specs.declared.Scalars.{Scalars}
use Rattle.state.specs.View.{config_of}
use Rattle.search_laws.specs.Agree.{Agree, Alike, Looks}
use Rattle.search_laws.proofs.Alike.{Both, both_none, both_more, row_alike}
use Rattle.search_laws.proofs.Relevance.{counts_alike}
use Rattle.queries.specs.Answers.{taken, count_of, candidate_at, fit_at, hits, answers}
use Rattle.queries.proofs.Answers.{answers_all}
use Rattle.matching.specs.declared.Rule.{Rule}
use Rattle.matching.specs.Rules.{Located, counted}
use Rattle.matching.specs.Sets.{Member, HasIds, Inside, Joined, OfRow, OfBody, Same, Barren, Apart}
use Rattle.matching.proofs.Rows.{counted_end, counted_next}

-- every element
pub data Each {A : Type 0} (P : A → Type 0) : List A → Type 0 where
  each_none : Each P []
  each_more : {x : A} {l : List A} → P x → Each P l → Each P (x ∷ l)

module _ {A : Type 0} {P : A → Type 0} where
  each_append : {l m : List A} → Each P l → Each P m → Each P (l ++ m)
  each_append each_none b = b
  each_append (each_more h a) b = each_more h (each_append a b)

  each_when : (x : A) (b : Bool) → P x → Each P (when b x)
  each_when x true h = each_more h each_none
  each_when x false h = each_none

  each_head : (v : A) (r l : List A) → l ≡ v ∷ r → Each P l → P v
  each_head v r l e h = at (subst (Each P) e h)
    where
      at : Each P (v ∷ r) → P v
      at (each_more p a) = p

  pub each_nil : {B : Type 0} (M : A → List B) → ((x : A) → P x → M x ≡ []) → (l : List A) → Each P l → bind l M ≡ []
  each_nil M h [] each_none = refl
  each_nil {B = B} M h (x ∷ l) (each_more p a) = ap (λ (m : List B). m ++ bind l M) (h x p) ∙ each_nil M h l a

each_both : {A B : Type 0} {P : A → Type 0} {R : A → A → Type 0} {l m : List A} (M : A → List B) → ((x y : A) → P x → R x y → M y ≡ []) → Each P l → Both R l m → bind m M ≡ []
each_both M h each_none both_none = refl
each_both {B = B} M h (each_more {x = x} p a) (both_more {y = y} {m = m} q b) = ap (λ (k : List B). k ++ bind m M) (h x y p q) ∙ each_both M h a b

each_as : {A : Type 0} {P Q : A → Type 0} {l : List A} → ((x : A) → P x → Q x) → Each P l → Each Q l
each_as h each_none = each_none
each_as h (each_more {x = x} p a) = each_more (h x p) (each_as h a)

module _ {A B : Type 0} {P : B → Type 0} where
  each_over : (l : List A) (f : A → List B) → ((x : A) → Each P (f x)) → Each P (bind l f)
  each_over [] f h = each_none
  each_over (x ∷ l) f h = each_append (h x) (each_over l f h)

  each_bind : {Q : A → Type 0} {l : List A} (f : A → List B) → ((x : A) → Q x → Each P (f x)) → Each Q l → Each P (bind l f)
  each_bind f h each_none = each_none
  each_bind f h (each_more {x = x} q a) = each_append (h x q) (each_bind f h a)

  each_map : {Q : A → Type 0} {l : List A} (f : A → B) → ((x : A) → Q x → P (f x)) → Each Q l → Each P (map f l)
  each_map f h each_none = each_none
  each_map f h (each_more {x = x} q a) = each_more (h x q) (each_map f h a)

-- what a set does not tell apart
module _ (set : ℕ) where
  pub same_self : (f : Found) → length f.values ≡ 8 → Same set f f
  same_self f e = (record { long_left = e; long_right = e; agrees = λ x i h l. refl }, λ i. refl)

  -- f and g, f and h: g and h
  same_both : (f g h : Found) → Same set f g → Same set f h → Same set g h
  same_both f g h a b = (
    record { long_left = a.0.long_right; long_right = b.0.long_right; agrees = λ x i p q. sym (a.0.agrees x i p q) ∙ b.0.agrees x i p q },
    λ i. b.1 i ∙ sym (a.1 i),
  )

  pub same_on : (f g h : Found) → Same set f g → Same set g h → Same set f h
  same_on f g h a b = (
    record { long_left = a.0.long_left; long_right = b.0.long_right; agrees = λ x i p q. a.0.agrees x i p q ∙ b.0.agrees x i p q },
    λ i. b.1 i ∙ a.1 i,
  )

same_fewer : (a b : ℕ) → Inside a b → (f g : Found) → Same b f g → Same a f g
same_fewer a b i f g e = (
  record { long_left = e.0.long_left; long_right = e.0.long_right; agrees = λ x m p q. e.0.agrees x (λ u v. i (place x) (m u v)) p q },
  λ m. e.1 (i 8 m),
)

-- A ROW THAT CHANGES NOTHING OF THE SET
module _ (X : ℕ → Type 0) (v : List ℕ) where
  -- a variable takes a value that X does not name
  idle_set : (x n : ℕ) (u : List ℕ) → 1 ≤ x → x ≤ 8 → value_of u x ≡ no_value → (X x → value_of v x ≢ no_value) → Agree X v u → Agree X v (set u (place x) n)
  idle_set x n u h l z i a = record {
    long_left = a.long_left;
    long_right = length-set u (place x) n ∙ a.long_right;
    agrees = λ y s p q. ⊎_elim
        (λ e. let k : y ≡ x = let d = eqb-true (place y) (place x) e in omega arith in
        let t = subst X k s in absurd (i t (a.agrees x t h l ∙ z)))
        (λ e. a.agrees y s p q ∙ sym (get_or-set_other u (place x) (place y) n no_value (eqb-false (place y) (place x) e)))
        (test (eqb (place y) (place x)));
  }

  meet_idle : (x n : ℕ) (u : List ℕ) → (X x → 1 ≤ x → x ≤ 8 → value_of v x ≢ no_value) → Agree X v u → Each (Agree X v) (meet x n u)
  unfolding meet
  meet_idle x n u i a = at (any? x) (constant? x) (eqb (value_of u x) no_value) refl refl refl
    where
      at : (b c d : Bool) → any? x ≡ b → constant? x ≡ c → eqb (value_of u x) no_value ≡ d →
          Each (Agree X v) (if b then u ∷ [] else if c then when (eqb (constant x) n) u else if d then set u (place x) n ∷ [] else when (eqb (value_of u x) n) u)
      at true c d p q r = each_more a each_none
      at false true d p q r = each_when u (eqb (constant x) n) a
      at false false true p q r =
          let h = eqb-false x 0 p in
          let k = leb-false 9 x q in
          let l : 1 ≤ x = omega arith in
          let m : x ≤ 8 = omega arith in
          each_more (idle_set x n u l m (eqb-true (value_of u x) no_value r) (λ s. i s l m) a) each_none
      at false false false p q r = each_when u (eqb (value_of u x) n) a

-- the row's operands among X have values, and it gives no id if the ids matter: whatever it gives is alike
module _ (X : ℕ → Type 0) (I : Type 0) (words : List ℕ) (s : Scalars) (r : Row) (f : Found) (long : length f.values ≡ 8)
    (at_i : X r.i → 1 ≤ r.i → r.i ≤ 8 → value_of f.values r.i ≢ no_value)
    (at_a : X r.a → 1 ≤ r.a → r.a ≤ 8 → value_of f.values r.a ≢ no_value)
    (at_b : X r.b → 1 ≤ r.b → r.b ≤ 8 → value_of f.values r.b ≢ no_value)
    (at_ids : I → r.part ≢ 1) where
  abbrev Still : Found → Type 0
  Still = Alike X (λ a b. I → b ≡ a) f

  self : Agree X f.values f.values
  self = record { long_left = long; long_right = long; agrees = λ x z h l. refl }

  fit_idle : (k : Candidate) → Each (Agree X f.values) (fit r k f.values)
  unfolding fit
  fit_idle k =
      let v = f.values in
      each_bind _ (λ w b. each_bind _ (λ y d. meet_idle X v r.b k.b y at_b d) (meet_idle X v r.a k.a w at_a b)) (meet_idle X v r.i k.i v at_i self)

  taken_idle : (k : Candidate) → Each Still (taken r k f)
  unfolding taken found
  taken_idle k = each_map (found r k f) (λ v a. (a, λ e. ap (λ (b : Bool). if b then f.matched ++ (k.i ∷ []) else f.matched) (ne_eqb r.part 1 (at_ids e)))) (fit_idle k)

  hits_idle : (c : ℕ) → Each Still (hits words s r f c)
  unfolding hits fit_at
  hits_idle c = each_over (count_up c (count_of s r - c)) _ (λ j. each_over (candidate_at words s r j) _ (λ k. taken_idle k))

  pub answers_idle : (c : ℕ) → Each Still (answers words s r f c)
  unfolding answers
  answers_idle c = at (negation r) (eqb c 0)
    where
      at : (b d : Bool) → Each Still (if b then if d then when (is_empty (hits words s r f 0)) f else [] else hits words s r f c)
      at true true = each_when f (is_empty (hits words s r f 0)) (self, λ i. refl)
      at true false = each_none
      at false d = hits_idle c

-- all that the row gives is the same to the set as what was found before it
module _ (set : ℕ) (words : List ℕ) (s : Scalars) (r : Row) (f : Found) (long : length f.values ≡ 8) where
  answers_same : Apart set r f.values → (c : ℕ) → Each (Same set f) (answers words s r f c)
  unfolding answers
  answers_same (inl n) c = rw n (at (eqb c 0))
    where
      at : (d : Bool) → Each (Same set f) (if d then when (is_empty (hits words s r f 0)) f else [])
      at true = each_when f (is_empty (hits words s r f 0)) (same_self set f long)
      at false = each_none
  answers_same (inr i) c = answers_idle (Member set) (HasIds set) words s r f long i.at_i i.at_a i.at_b i.at_ids c

-- the same row does so under whatever the set does not tell apart
apart_move : (set : ℕ) (r : Row) (f g : Found) → Same set f g → Apart set r f.values → Apart set r g.values
apart_move set r f g a (inl n) = inl n
apart_move set r f g a (inr q) = inr (record {
  at_i = λ s h l e. q.at_i s h l (a.0.agrees r.i s h l ∙ e);
  at_a = λ s h l e. q.at_a s h l (a.0.agrees r.a s h l ∙ e);
  at_b = λ s h l e. q.at_b s h l (a.0.agrees r.b s h l ∙ e);
  at_ids = q.at_ids;
})

module _ (program words : List ℕ) (s : Scalars) (rule : Rule) where
  abbrev Fails : ℕ → Found → ℕ → Type 0
  Fails = Barren program words s rule

  -- the rows themselves have no match that counts
  pub barren_none : (k : ℕ) (f : Found) (set : ℕ) → length f.values ≡ 8 → Fails k f set → counted program words s rule k f ≡ []
  barren_none k f set e b = b.none f (same_self set f e)

  -- no row is left, and the match does not count
  pub barren_leaf : (k : ℕ) (f : Found) (set : ℕ) → Located program rule → rule.body ≤ k → OfBody program rule.body rule.end set →
      counts (rows_of program) (config_of words s) rule.set rule.number f ≡ false → Fails k f set
  barren_leaf k f set o h b e = record {
    small = b.small;
    none = λ g a.
        let P = rows_of program in
        let looks : Looks (Member set) (body P rule.set rule.number) = subst (Looks (Member set)) o.body_is b.rows in
        let same = counts_alike (Member set) (config_of words s) P rule.set rule.number looks f g (a.0, sym (a.1 b.ids)) in
        counted_end program words s rule k g h ∙ ap (λ (t : Bool). when t g) (sym same ∙ e);
  }

  module _ (k : ℕ) (r : Row) (f : Found) where
    -- the answers before number c failed, and that hangs on the set
    pub record Passed (c set : ℕ) : Type 0 where
      pub done : List Found
      pub split : answers words s r f 0 ≡ done ++ answers words s r f c
      pub each : Each (λ h. (g : Found) → Same set h g → counted program words s rule (k + 1) g ≡ []) done

    pub passed_none : (set : ℕ) → Passed 0 set
    passed_none set = record { done = []; split = refl; each = each_none }

    pub passed_one : (c d : ℕ) (v : Found) (a b set : ℕ) → Passed c a → answers words s r f c ≡ v ∷ answers words s r f d → Fails (k + 1) v b → Joined a b set → Passed d set
    passed_one c d v a b set p e l j = record {
      done = p.done ++ (v ∷ []);
      split = p.split ∙ ap (λ (m : List Found). p.done ++ m) e ∙ sym (append_assoc p.done (v ∷ []) (answers words s r f d));
      each = each_append (each_as (λ x q g t. q g (same_fewer a set j.left x g t)) p.each) (each_more (λ g t. l.none g (same_fewer b set j.right v g t)) each_none);
    }

    -- one answer's failure hangs on nothing that the row changes: so fail all that come after it
    pub rest_apart : length f.values ≡ 8 → (c : ℕ) (v : Found) (rest : List Found) (set : ℕ) → answers words s r f c ≡ v ∷ rest → Apart set r f.values → Fails (k + 1) v set →
        bind (answers words s r f c) (counted program words s rule (k + 1)) ≡ []
    rest_apart long c v rest set given i b =
        let all = answers_same set words s r f long i c in
        let a = each_head {P = Same set f} v rest (answers words s r f c) given all in
        each_nil (counted program words s rule (k + 1)) (λ h d. b.none h (same_both set f v h a d)) (answers words s r f c) all

    module _ (n : k < rule.body) (is : r ≡ row_at program k) where
      -- every answer failed: that hangs on the row's operands too
      pub passed_all : (c set : ℕ) → Passed c set → OfRow r set → answers words s r f c ≡ [] → Fails k f set
      passed_all c set p o e = record {
        small = o.small;
        none = λ g a.
            let X = Member set in
            let M : List ℕ → List ℕ → Type 0 = λ a b. HasIds set → b ≡ a in
            let C = config_of words s in
            let b : Both (Alike X M) (answers words s r f 0) (answers words s r g 0) = subst (λ (l : List Found). Both (Alike X M) l (answers words s r g 0)) (answers_all words s r f)
            (subst (λ (l : List Found). Both (Alike X M) (after_row C r f) l) (answers_all words s r g) (row_alike X M (λ x y z w i. ap (λ (m : List ℕ). m ++ (z ∷ [])) (w i)) C r f g (o.at_i, o.at_a, o.at_b) a)) in
            let d = subst (Each _) (sym (p.split ∙ ap (λ (m : List Found). p.done ++ m) e ∙ append-nil p.done)) p.each in
            counted_next program words s rule k g n r is ∙ each_both (counted program words s rule (k + 1)) (λ x y t z. t y z) d b;
      }

      -- one answer's failure hangs on nothing that the row changes: so does the row's
      pub barren_apart : length f.values ≡ 8 → (c : ℕ) (v : Found) (rest : List Found) (set : ℕ) → answers words s r f c ≡ v ∷ rest → Apart set r f.values → Fails (k + 1) v set → Fails k f set
      barren_apart long c v rest set given i b =
          let a = each_head {P = Same set f} v rest (answers words s r f c) given (answers_same set words s r f long i c) in
          record {
            small = b.small;
            none = λ g e. counted_next program words s rule k g n r is
                ∙ each_nil (counted program words s rule (k + 1)) (λ h d. b.none h (same_both set f v h a (same_on set f g h e d))) (answers words s r g 0)
                (answers_same set words s r g e.0.long_right (apart_move set r f g e i) 0);
          }
