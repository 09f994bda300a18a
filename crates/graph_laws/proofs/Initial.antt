-- The graph of a fresh configuration is sound, and a new journal agrees with it.
use mathlib.Core.Path.{refl}
use Prim.Native.Nat.{ℕ}
use native.Mathlib.Omega.{arith}
use Rattle.lists.proofs.Lists.{in_nil}
use Rattle.lists.proofs.Tests.{count_up_in, count_up_rises}
use Rattle.model.specs.Graph.{Sound, initial_graph}
use Rattle.model.specs.Journal.{new_journal}
use Rattle.graph_laws.proofs.Agree.{Agree}

pub initial_sound : (n : ℕ) → Sound (initial_graph n)
initial_sound n = record {
  atoms_rise = count_up_rises 1 n;
  plans_rise = tt;
  next_pos = omega arith;
  atom_given = λ x i. let r = count_up_in 1 n x i in omega arith;
  plan_given = λ q i. in_nil i;
  apart = λ q i. in_nil i;
  just_fine = λ q i. in_nil i;
  just_alive = λ q i. in_nil i;
  sub_alive = λ q i. in_nil i;
  sub_one = λ q i. in_nil i;
}

pub initial_agree : (n : ℕ) → Agree (initial_graph n) (new_journal n)
initial_agree n = record {
  same = record { same_atoms = refl; same_plans = refl; same_next = refl; same_links = λ l. (λ i. i, λ i. i) };
  order = record { no_loop = λ l i. in_nil i; earlier = tt };
}
