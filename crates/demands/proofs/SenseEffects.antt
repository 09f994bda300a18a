-- What a sense does, row by row, is what `Senses` says; where it is refused, one more atom was needed and there was no room.
use mathlib.Core.Path.{◌≡◌, refl, sym, ap, ◌∙◌, subst}
use mathlib.Core.Bool.{Bool, true, false, and-eq-true_iff}
use mathlib.Core.Logic.{◌⊎◌, inl, inr, ⊎_elim}
use mathlib.Core.List.{List, [], ◌∷◌, ◌++◌}
use Prim.Native.Nat.{ℕ, ◌≤◌, ◌<◌}
use native.Mathlib.Omega.{arith}
use lib.Dec.{eqb, leb}
use borrow.Author.Tests.{eqb-true, eqb-false, eq-eqb, leb-true, le-leb}
use Rattle.lists.specs.Lists.{In, first, later, Pairs, every, keep, within}
use Rattle.lists.proofs.Lists.{clash, in_nil, in_cons, in_map, map_in, in_keep, keep_in, member_in, in_member, pairs_map, pairs_keep}
use Rattle.lists.proofs.Tests.{and2, map_pairs}
use Rattle.model.specs.declared.Row.{Row}
use Rattle.model.specs.declared.Atom.{Atom}
use Rattle.model.specs.Program.{constant}
use Rattle.model.specs.Configuration.{Config, atom_ids, atom_alive, equal_to}
use Rattle.model.specs.Graph.{Sound, here}
use Rattle.model.specs.Deletion.{graph, remove, LeadsTo, Deleted}
use Rattle.model.specs.Log.{Log, emit_deletion}
use Rattle.model.specs.Calls.{Reading, in_range, applies, replaced, taken_as, equal_atoms, withdraw_if, withdraw, make_atom, sense_row, sense_rows}
use Rattle.model.specs.Effects.{AtomMade, Ceiling, TakenAs, at_ceiling, as_sensed, Equal, Withdrawn, none_left, lowest, Senses, no_rows, adds, withdraws}
use Rattle.model.specs.Refusing.{NoRoomForAtom}
use Rattle.graph_laws.proofs.Faithful.{faithful_sound}
use Rattle.graph_laws.proofs.Deletion.{deleted}
use Rattle.program_laws.specs.Lawful.{Lawful}
use Rattle.demands.proofs.Told.{Told, told_done, told_if, told_then, told_map, told_after, told_atom}
use Rattle.demands.proofs.Effects.{atom_made, equal_tested, tests_equal}
use Rattle.demands.proofs.Good.{Good, good_deletion, good_row}

abbrev Rising : List ℕ → Type 0
Rising l = Pairs (λ (x y : ℕ). x < y) l

alive_in : (c : Config) (t : ℕ) → atom_alive c t ≡ true → In t (atom_ids c)
unfolding atom_alive
alive_in c t e = member_in t (atom_ids c) e

in_alive : (c : Config) (t : ℕ) → In t (atom_ids c) → atom_alive c t ≡ true
unfolding atom_alive
in_alive c t i = in_member i

-- the ids ts are those of the equal atoms, as far as they are alive
record Covers (p a b : ℕ) (ts : List ℕ) (c : Config) : Type 0 where
  pub all : (x : Atom) → Equal p a b c x → In x.id ts
  pub only : (t : ℕ) → In t ts → In t (atom_ids c) → (x : Atom) × Equal p a b c x × (x.id ≡ t)

module _ (p a b t : ℕ) (ts : List ℕ) (c : Config) (k : Covers p a b (t ∷ ts) c) where
  -- what is left of them once t and what it reaches is gone
  after_deletion : Deleted t c (remove t c) → Covers p a b ts (remove t c)
  after_deletion gone = record {
    all = λ x e. let h = (gone.atoms_left x).0 e.0 in
        ⊎_elim (λ z. absurd (h.1 (here z))) (λ z. z) (in_cons (k.all x (h.0, e.1, e.2, e.3)));
    only = λ u i j.
        let y = map_in (λ (x : Atom). x.id) (remove t c).atoms j in
        let h = (gone.atoms_left y.0).0 y.1 in
        let x = k.only u (later i) (subst (λ (n : ℕ). In n (atom_ids c)) (sym y.2) (in_map (λ (x : Atom). x.id) h.0)) in
        let m = (gone.atoms_left x.0).1 (x.1.0, λ r. h.1 (subst (LeadsTo c t) (x.2 ∙ y.2) r)) in
        (x.0, (m, x.1.1, x.1.2, x.1.3), x.2);
  }

  -- or once it turns out that t is dead
  without_dead : atom_alive c t ≡ false → Covers p a b ts c
  without_dead d = record {
    all = λ x e. ⊎_elim (λ z. clash (in_alive c t (subst (λ (n : ℕ). In n (atom_ids c)) z (in_map (λ (y : Atom). y.id) e.0))) d) (λ z. z) (in_cons (k.all x e));
    only = λ u i j. k.only u (later i) j;
  }

  one_withdrawn : (e : Config) → Rising (t ∷ ts) → atom_alive c t ≡ true → Deleted t c (remove t c) → Withdrawn p a b (remove t c) e → Withdrawn p a b c e
  one_withdrawn e o d gone more =
      let x = k.only t (first refl) (alive_in c t d) in
      lowest x.0 x.1
      (λ y f. ⊎_elim (λ z. omega (arith, x.2)) (λ z. let q = o.0 y.id z in omega (arith, x.2)) (in_cons (k.all y f)))
      (subst (λ (n : ℕ). Deleted n c (remove t c)) (sym x.2) gone) more

module _ (program : List Row) (start : Config) (s : Sound (graph start)) (p a b : ℕ) where
  withdrawn : (ts : List ℕ) (L : Log) → Good program start L → Rising ts → Covers p a b ts L.config → Withdrawn p a b L.config (withdraw ts L).config
  unfolding withdraw withdraw_if
  withdrawn [] L g o k = none_left (λ x e. in_nil (k.all x e))
  withdrawn (t ∷ ts) L g o k = at (atom_alive L.config t) refl (λ M h m. withdrawn ts M h o.1 m)
    where
      at : (v : Bool) → atom_alive L.config t ≡ v → ((M : Log) → Good program start M → Covers p a b ts M.config → Withdrawn p a b M.config (withdraw ts M).config) →
          Withdrawn p a b L.config (withdraw ts (withdraw_if v t L)).config
      at true d more =
          let gone = deleted L.config (faithful_sound start L g.faithful s) t in
          one_withdrawn p a b t ts L.config k _ o d gone (more (emit_deletion t L) (good_deletion program start L g t) (after_deletion p a b t ts L.config k gone))
      at false d more = more L g (without_dead p a b t ts L.config k d)

  -- the ids that a withdrawal begins with
  equal_covers : (c : Config) → Covers p a b (equal_atoms p a b c) c
  unfolding equal_atoms
  equal_covers c = record {
    all = λ x e. in_map (λ (y : Atom). y.id) (in_keep (equal_to p a b) e.0 (tests_equal p a b c x e));
    only = λ t i j.
        let y = map_in (λ (x : Atom). x.id) (keep (equal_to p a b) c.atoms) i in
        let h = keep_in (equal_to p a b) c.atoms y.1 in
        (y.0, equal_tested p a b c y.0 h.0 h.1, sym y.2);
  }

  equal_rise : (c : Config) → Sound (graph c) → Rising (equal_atoms p a b c)
  unfolding equal_atoms
  equal_rise c z = pairs_map (λ (x y : ℕ). x < y) (λ (x : Atom). x.id) (keep (equal_to p a b) c.atoms)
      (pairs_keep (λ (x y : Atom). x.id < y.id) (equal_to p a b) c.atoms (map_pairs (λ (x y : ℕ). x < y) (λ (x : Atom). x.id) c.atoms z.atoms_rise))

  pub withdraws_equal : (L : Log) → Good program start L → Withdrawn p a b L.config (withdraw (equal_atoms p a b L.config) L).config
  withdraws_equal L g = withdrawn (equal_atoms p a b L.config) L g (equal_rise L.config (faithful_sound start L g.faithful s)) (equal_covers L.config)

-- "a sensed p .. is taken as predicate b"
applied : (program : List Row) (r : Reading) (w : Row) → applies r w ≡ true → (w.set ≡ 0) × (w.op ≡ 40) × (w.p ≡ r.p) × (constant w.a ≤ r.b)
unfolding applies
applied program r w e =
    let a = (and-eq-true_iff (eqb w.set 0) _).0 e in
    let b = (and-eq-true_iff (eqb w.op 40) _).0 a.1 in
    let d = (and-eq-true_iff (eqb w.p r.p) (leb (constant w.a) r.b)).0 b.1 in
    (eqb-true w.set 0 a.0, eqb-true w.op 40 b.0, eqb-true w.p r.p d.0, leb-true (constant w.a) r.b d.1)

applies_to : (program : List Row) (r : Reading) (w : Row) → Ceiling program r w → In w (keep (applies r) program)
unfolding applies
applies_to program r w h = in_keep (applies r) h.0 (and2 (eq-eqb w.set 0 h.1) (and2 (eq-eqb w.op 40 h.2) (and2 (eq-eqb w.p r.p h.3) (le-leb (constant w.a) r.b h.4))))

pub is_taken_as : (program : List Row) (r : Reading) → TakenAs program r (taken_as program r)
unfolding taken_as replaced
is_taken_as program r = at (keep (applies r) program) refl
  where
    at : (ws : List Row) → keep (applies r) program ≡ ws → TakenAs program r (replaced r.p ws)
    at [] e = as_sensed (λ w h. in_nil (subst (In w) e (applies_to program r w h)))
    at (w ∷ ws) e =
        let i = keep_in (applies r) program (subst (In w) (sym e) (first refl)) in
        let b = applied program r w i.1 in
        at_ceiling w (i.0, b.0, b.1, b.2, b.3)

-- one row, and all rows in order
module _ (program : List Row) (start : Config) (l : Lawful program) (s : Sound (graph start)) where
  abbrev SensesRow : Reading → Config → Config → Type 0
  SensesRow r c d = (p : ℕ) × TakenAs program r p × (((r.sign ≡ 1) × AtomMade p r.a r.b c d) ⊎ ((r.sign ≡ 2) × Withdrawn p r.a r.b c d))

  signs : (r : Reading) → in_range r ≡ true → (1 ≤ r.sign) × (r.sign ≤ 2)
  unfolding in_range
  signs r h =
      let a = (and-eq-true_iff (within 1 2 r.sign) _).0 h in
      let b = (and-eq-true_iff (leb 1 r.sign) (leb r.sign 2)).0 a.0 in
      (leb-true 1 r.sign b.0, leb-true r.sign 2 b.1)

  row_told : (r : Reading) → in_range r ≡ true → (L : Log) → Good program start L → Told (λ M. SensesRow r L.config M.config) (λ n. (r.sign ≡ 1) × NoRoomForAtom L.config n) (sense_row program r L)
  unfolding sense_row make_atom
  row_told r h L g =
      let t = taken_as program r in
      told_if _ _ (eqb r.sign 1) _ _
      (λ e. told_atom _ _ L _ g.shaped.few_atoms (λ n z. (eqb-true r.sign 1 e, z)) (told_done _ _ _ (t, is_taken_as program r, inl (eqb-true r.sign 1 e, atom_made t r.a r.b L.config))))
      (λ e. let d = eqb-false r.sign 1 e in let q = signs r h in
      told_done _ _ _ (t, is_taken_as program r, inr (omega arith, withdraws_equal program start s t r.a r.b L g)))

  pub record RowBarred (rs : List Reading) (c : Config) (n : ℕ) : Type 0 where
    pub before : List Reading
    pub row : Reading
    pub after : List Reading
    pub moment : Config
    pub stands : rs ≡ before ++ (row ∷ after)
    pub is_add : row.sign ≡ 1
    pub so_far : Senses program before c moment
    pub full : NoRoomForAtom moment n

  further : (r : Reading) (rs : List Reading) (c d e : Config) → SensesRow r c d → Senses program rs d e → Senses program (r ∷ rs) c e
  further r rs c d e (p, t, inl (f, m)) more = adds f t m more
  further r rs c d e (p, t, inr (f, m)) more = withdraws f t m more

  barred_later : (r : Reading) (rs : List Reading) (c d : Config) (n : ℕ) → SensesRow r c d → RowBarred rs d n → RowBarred (r ∷ rs) c n
  barred_later r rs c d n x y = record {
    before = r ∷ y.before;
    row = y.row;
    after = y.after;
    moment = y.moment;
    stands = ap (λ (l : List Reading). r ∷ l) y.stands;
    is_add = y.is_add;
    so_far = further r y.before c d y.moment x y.so_far;
    full = y.full;
  }

  pub rows_told : (rs : List Reading) → every in_range rs ≡ true → (L : Log) → Good program start L → Told (λ M. Senses program rs L.config M.config) (RowBarred rs L.config) (sense_rows program rs L)
  unfolding sense_rows every
  rows_told [] h L g = told_done _ _ _ no_rows
  rows_told (r ∷ rs) h L g =
      let a = (and-eq-true_iff (in_range r) (every in_range rs)).0 h in
      told_then (λ M. Good program start M × SensesRow r L.config M.config) _ _ (sense_row program r L) (sense_rows program rs)
      (told_map _ _ _ _ (sense_row program r L) (λ M x. x)
      (λ n x. record { before = []; row = r; after = rs; moment = L.config; stands = refl; is_add = x.0; so_far = no_rows; full = x.1 })
      (told_after _ _ _ (sense_row program r L) (good_row program start l r a.0 L g) (row_told r a.0 L g)))
      (λ M x. told_map _ _ _ _ (sense_rows program rs M) (λ N y. further r rs L.config M.config N.config x.1 y) (λ n y. barred_later r rs L.config M.config n x.1 y) (rows_told rs a.1 M x.0))
