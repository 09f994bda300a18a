-- Initial atoms, taken row by row.
use mathlib.Core.Path.{◌≡◌, refl, ap, sym, ◌∙◌}
use mathlib.Core.Bool.{◌&&◌}
use mathlib.Core.List.{List, [], ◌∷◌, ◌++◌}
use Prim.Native.Nat.{ℕ, ◌+◌, ◌-◌, ◌≤◌, ◌<◌}
use native.Mathlib.Omega.{arith}
use lib.ListN.{length, length-append}
use lib.Dec.{eqb}
use borrow.Author.Tests.{eq-eqb, ne_eqb}
use Rattle.lists.proofs.Bind.{keep_append}
use Rattle.lists.proofs.Tables.{tabulate_length}
use Rattle.model.specs.declared.Row.{Row}
use Rattle.model.specs.Program.{constant, initial_atoms}
use Rattle.model.specs.Configuration.{Config, empty, add_atom, with_initial, fresh}
use Rattle.program.specs.Rows.{row_at, rows_from}
use Rattle.program.proofs.Words.{rows_next, rows_none}
use Rattle.state.specs.declared.Scalars.{Scalars}
use Rattle.state.specs.View.{atom_at, config_of, atom_counted}
use Rattle.loading.specs.Starting.{Room, Taken}

-- the initial atoms of a row and of the rows behind it
initial_next : (r : Row) (rows : List Row) → initial_atoms (r ∷ rows) ≡ initial_atoms (r ∷ []) ++ initial_atoms rows
unfolding initial_atoms
initial_next r rows = keep_append (λ (q : Row). eqb q.set 0 && eqb q.op 41) (r ∷ []) rows

with_initial_append : (l m : List Row) (c : Config) → with_initial (l ++ m) c ≡ with_initial m (with_initial l c)
unfolding with_initial
with_initial_append [] m c = refl
with_initial_append (r ∷ l) m c = with_initial_append l m (add_atom r.p (constant r.a) (constant r.b) c)

module _ {words : List ℕ} {s : Scalars} {r : Row} (w : Room words s r) where
  nothing_taken : initial_atoms (r ∷ []) ≡ [] → Taken words s r words s
  unfolding with_initial
  nothing_taken e = record { made = rw e; count = rw e (omega arith); next = w.next }

  pub rule_row_taken : (r.set ≡ 0 → ⊥) → Taken words s r words s
  unfolding initial_atoms
  rule_row_taken h = nothing_taken (rw (ne_eqb r.set 0 h))

  pub ceiling_taken : r.set ≡ 0 → (r.op ≡ 41 → ⊥) → Taken words s r words s
  unfolding initial_atoms
  ceiling_taken e h = nothing_taken (rw (eq-eqb r.set 0 e, ne_eqb r.op 41 h))

  module _ (e : r.set ≡ 0) (o : r.op ≡ 41) where
    is_initial : initial_atoms (r ∷ []) ≡ r ∷ []
    unfolding initial_atoms
    is_initial = rw (eq-eqb r.set 0 e, eq-eqb r.op 41 o)

    pub atom_room : (s.atoms < 256) × (s.next < 65536)
    atom_room = let n = ap length is_initial in (omega (arith, w.room), omega (arith, w.room, w.next))

    pub atom_taken : {after : List ℕ} {t : Scalars} {a b : ℕ} → a ≡ r.a - 9 → b ≡ r.b - 9 → t ≡ atom_counted s → config_of after t ≡ add_atom r.p a b (config_of words s) → Taken words s r after t
    unfolding with_initial
    atom_taken x y z q = record {
      made = rw (is_initial, ← x, ← y) q;
      count = rw (is_initial, z);
      next = rw z (omega (arith, w.next));
    }

-- The rows from k on are left: with their initial atoms the configuration is the fresh one.
pub record Starting (program : List ℕ) (rows : ℕ) (words : List ℕ) (s : Scalars) (k : ℕ) : Type 0 where
  pub inside : k ≤ rows
  pub room : s.atoms + length (initial_atoms (rows_from program k (rows - k))) ≤ 256
  pub next : s.next ≡ s.atoms + 1
  pub so_far : with_initial (initial_atoms (rows_from program k (rows - k))) (config_of words s) ≡ fresh (rows_from program 0 rows)

pub starting_begins : (program : List ℕ) (rows : ℕ) {words : List ℕ} {s : Scalars} →
    length (initial_atoms (rows_from program 0 rows)) ≤ 256 → config_of words s ≡ empty → Starting program rows words s 0
unfolding fresh
starting_begins program rows {words} {s} few e =
    let none : s.atoms ≡ 0 = sym (tabulate_length s.atoms (atom_at words)) ∙ ap (λ (c : Config). length c.atoms) e in
    let first : s.next ≡ 1 = ap (λ (c : Config). c.next) e in
    let all : rows - 0 ≡ rows = omega arith in
    record {
      inside = omega arith;
      room = rw all (omega arith);
      next = omega arith;
      so_far = rw (all, e);
    }

module _ {program : List ℕ} {rows : ℕ} {words : List ℕ} {s : Scalars} {k : ℕ} (w : Starting program rows words s k) where
  pub starting_ends : rows ≤ k → config_of words s ≡ fresh (rows_from program 0 rows)
  unfolding with_initial initial_atoms
  starting_ends h = rw (rows_none program k rows h) at w.so_far

  module _ (h : k < rows) {r : Row} (e : r ≡ row_at program k) where
    left : initial_atoms (rows_from program k (rows - k)) ≡ initial_atoms (r ∷ []) ++ initial_atoms (rows_from program (k + 1) (rows - (k + 1)))
    left = rw (rows_next program k rows h, ← e) (initial_next r _)

    long_left : length (initial_atoms (rows_from program k (rows - k))) ≡ length (initial_atoms (r ∷ [])) + length (initial_atoms (rows_from program (k + 1) (rows - (k + 1))))
    long_left = ap length left ∙ length-append (initial_atoms (r ∷ [])) _

    pub row_room : Room words s r
    row_room = let n = long_left in record { room = omega (arith, w.room); next = w.next }

    pub row_taken : {after : List ℕ} {t : Scalars} → Taken words s r after t → Starting program rows after t (k + 1)
    row_taken y = let n = long_left in record {
      inside = omega arith;
      room = omega (arith, w.room, y.count);
      next = y.next;
      so_far = ap (with_initial (initial_atoms (rows_from program (k + 1) (rows - (k + 1))))) y.made ∙ sym (with_initial_append (initial_atoms (r ∷ [])) _ (config_of words s)) ∙ rw left at w.so_far;
    }
