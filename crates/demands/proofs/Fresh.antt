-- A loaded configuration: its graph is that of its initial atoms, and it is in shape.
use mathlib.Core.Path.{◌≡◌, refl, ap, ◌∙◌}
use mathlib.Core.Logic.{inl}
use mathlib.Core.List.{List, [], ◌∷◌, ◌++◌}
use Prim.Native.Nat.{ℕ, suc, ◌+◌, ◌≤◌}
use native.Mathlib.Omega.{arith}
use lib.ListN.{length, length-append}
use Rattle.lists.specs.Lists.{In, first, later, count_up}
use Rattle.lists.proofs.Lists.{in_nil}
use Rattle.lists.proofs.Tests.{count_up_append}
use Rattle.model.specs.declared.Row.{Row}
use Rattle.model.specs.Program.{constant, initial_atoms}
use Rattle.model.specs.Configuration.{Config, empty, add_atom, new_atom, with_initial, fresh}
use Rattle.model.specs.Graph.{Graph, initial_graph}
use Rattle.model.specs.Deletion.{graph}
use Rattle.model.specs.Events.{change, atom_made}
use Rattle.graph_laws.proofs.Turns.{turns_atom}
use Rattle.program_laws.specs.Lawful.{Lawful}
use Rattle.program_laws.proofs.Rows.{row_range, initial_row, constant_small}
use Rattle.demands.proofs.Shape.{Shaped}
use Rattle.demands.proofs.Kept.{shaped_atom}

one_more : (k : ℕ) → change (initial_graph k) atom_made ≡ initial_graph (suc k)
one_more k = let e : count_up 1 k ++ (suc k ∷ []) ≡ count_up 1 (k + 1) = count_up_append 1 k 1 (suc k) (omega arith) in
    let f : k + 1 ≡ suc k = omega arith in
    λ i. record { atoms = (e ∙ ap (count_up 1) f) i; plans = []; next = suc (suc k) }

graph_with : (rs : List Row) (c : Config) (k : ℕ) → graph c ≡ initial_graph k → graph (with_initial rs c) ≡ initial_graph (k + length rs)
unfolding with_initial
graph_with [] c k e = e ∙ ap initial_graph (omega arith)
graph_with (r ∷ rs) c k e =
    let h = graph_with rs (add_atom r.p (constant r.a) (constant r.b) c) (suc k) (turns_atom r.p (constant r.a) (constant r.b) c ∙ ap (λ (g : Graph). change g atom_made) e ∙ one_more k) in
    let n : suc k + length rs ≡ k + suc (length rs) = omega arith in
    h ∙ ap initial_graph n

pub fresh_graph : (program : List Row) → graph (fresh program) ≡ initial_graph (length (initial_atoms program))
unfolding fresh
fresh_graph program = graph_with (initial_atoms program) empty 0 refl ∙ ap initial_graph (omega arith)

module _ (program : List Row) (l : Lawful program) where
  shaped_with : (rs : List Row) → ((r : Row) → In r rs → In r (initial_atoms program)) → (c : Config) → length c.atoms + length rs ≤ 256 → c.next ≡ suc (length c.atoms) → Shaped program c → Shaped program (with_initial rs c)
  unfolding with_initial
  shaped_with [] h c m n w = w
  shaped_with (r ∷ rs) h c m n w =
      let i = h r (first refl) in
      let a = l.initial_rows r i in
      let g = row_range l r (initial_row l r i) in
      let more = length-append c.atoms (new_atom c r.p (constant r.a) (constant r.b) ∷ []) in
      shaped_with rs (λ q j. h q (later j)) (add_atom r.p (constant r.a) (constant r.b) c) (omega arith) (omega arith)
      (shaped_atom program c w r.p (constant r.a) (constant r.b) a.0 g.p (constant_small r.a g.a) (constant_small r.b g.b) (omega arith) (omega arith))

  pub fresh_shaped : Shaped program (fresh program)
  unfolding fresh
  fresh_shaped = shaped_with (initial_atoms program) (λ r i. i) empty (omega (arith, l.few_initial)) refl (record {
    few_atoms = omega arith;
    few_plans = omega arith;
    phase_fits = omega arith;
    cycle_fits = omega arith;
    next_fits = omega arith;
    atoms_formed = λ x i. in_nil i;
    plans_formed = λ q i. in_nil i;
    waiting_formed = inl refl;
  })
