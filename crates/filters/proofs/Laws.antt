-- A row that is barred has no answer: an atom that fitted it would have a mark where none is.
use Rattle.std.specs.Prelude.{Some, None}
use mathlib.Core.Path.{◌≡◌, refl, sym, ap, ◌∙◌}
use mathlib.Core.Bool.{Bool, true, false, ◌&&◌, and-eq-true_iff}
use mathlib.Core.Logic.{⊎_elim}
use mathlib.Core.List.{List, []}
use Prim.Native.Nat.{ℕ, ◌+◌, ◌%◌, ◌≤◌, ◌<◌}
use native.Mathlib.Omega.{arith}
use lib.Dec.{eqb, ltb}
use lib.ListN.{length, get_or, set}
use lib.Seq.{get_or-set_same, get_or-set_other}
use borrow.Author.Tests.{eqb-true, eqb-false, ltb-true, ltb-false}
use Rattle.lists.proofs.Lists.{test}
use Rattle.model.specs.declared.Row.{Row}
use Rattle.model.specs.declared.Atom.{Atom}
use Rattle.model.specs.Matching.{Found}
use Rattle.state.specs.declared.Scalars.{Scalars}
use Rattle.state.specs.View.{atom_p, atom_a, atom_b, atom_at}
use Rattle.queries.specs.View.{stands_at}
use Rattle.queries.specs.Answers.{answers}
use Rattle.queries.proofs.Answers.{hits_end}
use Rattle.queries.proofs.Skips.{atoms_counted, hits_past_atoms}
use Rattle.queries.proofs.Eights.{not_standing}
use Rattle.filters.specs.Filters.{size, place_of, Marked, Barred}

-- no atom yet
pub marked_none : (words filter : List ℕ) → Marked words 0 filter
marked_none words filter = record { marks = λ k h. absurd (omega arith) }

-- the mark of one more atom
pub marked_more : (words : List ℕ) (k : ℕ) (filter : List ℕ) (x : Atom) (at : ℕ) → length filter ≡ size → Marked words k filter → x ≡ atom_at words k → at ≡ place_of x.p x.a x.b → at < size → Marked words (k + 1) (set filter at 1)
marked_more words k filter x at long m e h low = record { marks = marks }
  where
    place : ℕ → ℕ
    place j = place_of (atom_at words j).p (atom_at words j).a (atom_at words j).b

    inside : at < length filter
    inside = omega arith

    here : (j : ℕ) → place j ≡ at → get_or (set filter at 1) (place j) 0 ≡ 1
    here j q = ap (λ (n : ℕ). get_or (set filter at 1) n 0) q ∙ get_or-set_same filter at 1 0 inside

    marks : (j : ℕ) → j < k + 1 → get_or (set filter at 1) (place j) 0 ≡ 1
    marks j q = ⊎_elim
        (λ t. ⊎_elim
        (λ u. here j (eqb-true (place j) at u))
        (λ u. get_or-set_other filter at (place j) 1 0 (eqb-false (place j) at u) ∙ m.marks j (ltb-true j k t))
        (test (eqb (place j) at)))
        (λ t. let n = ltb-false j k t in let s : k ≡ j = omega arith in here j (ap place (sym s) ∙ sym (h ∙ ap (λ (y : Atom). place_of y.p y.a y.b) e)))
        (test (ltb j k))

-- no atom stands so
module _ (words : List ℕ) (s : Scalars) (filter : List ℕ) (m : Marked words s.atoms filter) (r : Row) (f : Found) (b : Barred filter r f.values) where
  absent : (k : ℕ) → k < s.atoms → stands_at words r.p atom_a b.a atom_b b.b k ≡ false
  unfolding atom_at
  absent k h = at _ refl
    where
      here : Bool
      here = eqb (get_or words (atom_p + k) 0) r.p && (eqb (get_or words (atom_a + k) 0) b.a && eqb (get_or words (atom_b + k) 0) b.b)

      clash : here ≡ true → ⊥
      clash e =
          let p = (and-eq-true_iff (eqb (get_or words (atom_p + k) 0) r.p) (eqb (get_or words (atom_a + k) 0) b.a && eqb (get_or words (atom_b + k) 0) b.b)).0 e in
          let q = (and-eq-true_iff (eqb (get_or words (atom_a + k) 0) b.a) (eqb (get_or words (atom_b + k) 0) b.b)).0 p.1 in
          let x = eqb-true (get_or words (atom_p + k) 0) r.p p.0 in
          let y = eqb-true (get_or words (atom_a + k) 0) b.a q.0 in
          let z = eqb-true (get_or words (atom_b + k) 0) b.b q.1 in
          let one : get_or filter (place_of r.p b.a b.b) 0 ≡ 1 = rw (← x, ← y, ← z) (m.marks k h) in
          let none = b.clear in
          absurd (omega arith)

      at : (t : Bool) → here ≡ t → here ≡ false
      at true e = absurd (clash e)
      at false e = e

  -- so the row gives nothing from any number on
  pub barred_none : (c : ℕ) → answers words s r f c ≡ []
  unfolding answers
  barred_none c =
      let odd : eqb (r.op % 2) 0 ≡ false = rw b.one in
      let low : 1 ≤ r.op = let o = b.one in omega arith in
      let high : r.op ≤ 2 = let o = b.one in omega arith in
      let n = atoms_counted s r low high in
      rw odd (⊎_elim
      (λ t. let g = ltb-true c s.atoms t in
      hits_past_atoms s r low high words f (Some b.a) (Some b.b) c s.atoms b.wants_a b.wants_b
      (record { on = omega arith; missed = λ k u v. not_standing words r.p None (Some b.a) (Some b.b) k (absent k v) })
      ∙ hits_end words s r f s.atoms (omega arith))
      (λ t. let g = ltb-false c s.atoms t in hits_end words s r f c (omega arith))
      (test (ltb c s.atoms)))
