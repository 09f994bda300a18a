-- The listing in the making: what is written, then the text of what is left, is the whole listing.
use mathlib.Core.Path.{◌≡◌, refl, ap, sym, ◌∙◌, subst}
use mathlib.Core.Bool.{true, false}
use mathlib.Core.Logic.{⊎_elim}
use mathlib.Core.List.{List, [], ◌∷◌, ◌++◌, map, append_assoc, append-nil}
use Prim.Native.Nat.{ℕ, zero, suc, ◌+◌, ◌*◌, ◌<◌, ◌≤◌}
use native.Mathlib.Omega.{arith}
use lib.ListN.{length, drop}
use Rattle.lists.specs.Lists.{In, Pairs}
use Rattle.lists.proofs.Lists.{all_map, in_nil, in_cons}
use Rattle.lists.proofs.Tables.{tabulate_from, tabulate_end}
use Rattle.model.specs.Configuration.{Plan, Config}
use Rattle.model.specs.Run.{atom_line, plan_line, all_by_id, instances, as_text}
use Rattle.state.specs.declared.Scalars.{Scalars}
use Rattle.state.specs.View.{atom_at, plan_at, atoms_of, plans_of, config_of}
use Rattle.listing.specs.Listing.{line, is_atom_next, Listable}
use Rattle.listing.proofs.Lines.{text_line}
use Rattle.listing.proofs.Next.{le_or_lt, next_atom, next_plan}
use Rattle.listing.proofs.Merge.{id_of, low_first, insert_first, insert_below}

pairs_drop : {A : Type 0} (R : A → A → Type 0) (n : ℕ) (l : List A) → Pairs R l → Pairs R (drop n l)
pairs_drop R zero l h = h
pairs_drop R (suc n) [] h = tt
pairs_drop R (suc n) (x ∷ l) h = pairs_drop R n l h.1

module _ (words : List ℕ) (s : Scalars) where
  -- the lines of the atoms from i on, of the plans from j on
  abbrev atom_lines : ℕ → List (List ℕ)
  atom_lines i = map atom_line (drop i (atoms_of s.atoms words))

  abbrev plan_lines : ℕ → List (List ℕ)
  plan_lines j = map plan_line (drop j (plans_of s.plans words))

  unfoldable pub lines_left : ℕ → ℕ → List (List ℕ)
  lines_left i j = all_by_id (plan_lines j) (atom_lines i)

  atoms_from : (i : ℕ) → i < s.atoms → atom_lines i ≡ atom_line (atom_at words i) ∷ atom_lines (i + 1)
  atoms_from i h = ap (map atom_line) (tabulate_from s.atoms (atom_at words) i h)

  atoms_end : (i : ℕ) → i ≡ s.atoms → atom_lines i ≡ []
  atoms_end i e = rw (e, tabulate_end s.atoms (atom_at words))

  plans_from : (j : ℕ) → j < s.plans → plan_lines j ≡ plan_line (plan_at words j) ∷ plan_lines (j + 1)
  plans_from j h = ap (map plan_line) (tabulate_from s.plans (plan_at words) j h)

  plans_end : (j : ℕ) → j ≡ s.plans → plan_lines j ≡ []
  plans_end j e = rw (e, tabulate_end s.plans (plan_at words))

  -- i atoms and j plans are listed behind what was there
  pub record Listed (before out : List ℕ) (i j : ℕ) : Type 0 where
    pub some_atoms : i ≤ s.atoms
    pub some_plans : j ≤ s.plans
    pub written : List ℕ
    pub text : out ≡ before ++ written
    pub whole : written ++ as_text (lines_left i j) ≡ as_text (instances (config_of words s))
    pub short : length out ≤ length before + 36 * (i + j)

  pub listed_none : (out : List ℕ) → Listed out out 0 0
  unfolding instances lines_left
  listed_none out = record {
    some_atoms = omega arith;
    some_plans = omega arith;
    written = [];
    text = sym (append-nil out);
    whole = refl;
    short = omega arith;
  }

  module _ (before out : List ℕ) (i j : ℕ) (w : Listed before out i j) where
    -- one line more
    more : (l : List ℕ) (left : List ℕ) (x y : ℕ) → x ≤ s.atoms → y ≤ s.plans → x + y ≡ i + j + 1 → lines_left i j ≡ l ∷ lines_left x y
        → left ≡ out ++ line l → length left ≤ length out + 36 → Listed before left x y
    more l left x y hx hy n e p h = record {
      some_atoms = hx;
      some_plans = hy;
      written = w.written ++ line l;
      text = p ∙ ap (λ (t : List ℕ). t ++ line l) w.text ∙ append_assoc before w.written (line l);
      whole = append_assoc w.written (line l) (as_text (lines_left x y)) ∙ ap (λ (t : List ℕ). w.written ++ t) (sym (ap as_text e ∙ text_line l (lines_left x y))) ∙ w.whole;
      short = let k = w.short in omega arith;
    }

    pub listed_end : s.atoms + s.plans ≤ i + j → out ≡ before ++ as_text (instances (config_of words s))
    unfolding lines_left all_by_id as_text
    listed_end h =
        let a = w.some_atoms in
        let b = w.some_plans in
        let e : lines_left i j ≡ [] = rw (plans_end j (omega arith), atoms_end i (omega arith)) in
        let l : w.written ≡ as_text (instances (config_of words s))
        = sym (append-nil w.written) ∙ ap (λ (t : List (List ℕ)). w.written ++ as_text t) (sym e) ∙ w.whole in
        w.text ∙ ap (λ (t : List ℕ). before ++ t) l

    module _ (o : Listable words s) where
      -- the plans behind plan j have higher ids
      plans_above : j < s.plans → (l : List ℕ) → In l (plan_lines (j + 1)) → (plan_at words j).id ≤ id_of l
      unfolding plan_line
      plans_above h =
          let R : Plan → Plan → Type 0 = λ p q. p.id < q.id in
          let d = pairs_drop R j (plans_of s.plans words) o.plans_rise in
          let e : Pairs R (plan_at words j ∷ drop (j + 1) (plans_of s.plans words)) = rw (tabulate_from s.plans (plan_at words) j h) at d in
          all_map (λ (l : List ℕ). (plan_at words j).id ≤ id_of l) plan_line (drop (j + 1) (plans_of s.plans words)) (λ q m. let z = e.0 q m in omega arith)

      plans_from_above : j < s.plans → (l : List ℕ) → In l (plan_lines j) → (plan_at words j).id ≤ id_of l
      unfolding plan_line
      plans_from_above h l m = let n = rw (plans_from j h) at m in ⊎_elim (λ e. rw e (omega arith)) (λ k. plans_above h l k) (in_cons n)

      atom_stands_first : is_atom_next words s i j ≡ true → lines_left i j ≡ atom_line (atom_at words i) ∷ lines_left (i + 1) j
      unfolding lines_left atom_line
      atom_stands_first t =
          let a = next_atom words s i j t in
          let b = w.some_plans in
          rw (atoms_from i a.0) (low_first (atom_line (atom_at words i)) (plan_lines j) (atom_lines (i + 1))
          (⊎_elim
          (λ (h : s.plans ≤ j). rw (plans_end j (omega arith)) (λ l m. in_nil m))
          (λ (h : j < s.plans). λ l m. let x = a.1 h in let y = plans_from_above h l m in omega arith)
          (le_or_lt s.plans j)))

      plan_stands_first : is_atom_next words s i j ≡ false → i + j < s.atoms + s.plans → lines_left i j ≡ plan_line (plan_at words j) ∷ lines_left i (j + 1)
      unfolding lines_left plan_line atom_line
      plan_stands_first t n =
          let a = next_plan words s i j t n w.some_plans w.some_atoms in
          let b = w.some_atoms in
          let above = plans_above a.0 in
          rw (plans_from j a.0)
          (⊎_elim
          (λ (h : s.atoms ≤ i). rw (atoms_end i (omega arith)) (insert_first (plan_line (plan_at words j)) (plan_lines (j + 1)) above))
          (λ (h : i < s.atoms).
          let x = a.1 h in
          let y = o.apart i j h a.0 in
          rw (atoms_from i h) (insert_below (plan_line (plan_at words j)) (atom_line (atom_at words i)) (plan_lines (j + 1)) (atom_lines (i + 1)) above (omega arith)))
          (le_or_lt s.atoms i))

      pub listed_atom : (left : List ℕ) → is_atom_next words s i j ≡ true → left ≡ out ++ line (atom_line (atom_at words i)) → length left ≤ length out + 36 → Listed before left (i + 1) j
      listed_atom left t p h = let a = next_atom words s i j t in more _ left (i + 1) j (omega arith) w.some_plans (omega arith) (atom_stands_first t) p h

      pub listed_plan : (left : List ℕ) → i + j < s.atoms + s.plans → is_atom_next words s i j ≡ false → left ≡ out ++ line (plan_line (plan_at words j)) → length left ≤ length out + 36 → Listed before left i (j + 1)
      listed_plan left n t p h = let a = next_plan words s i j t n w.some_plans w.some_atoms in more _ left i (j + 1) w.some_atoms (omega arith) (omega arith) (plan_stands_first t n) p h
