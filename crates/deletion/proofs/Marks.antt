-- Laws of the marks: what one change of them says of what is gone, and what the marks say of a plan.
use mathlib.Core.Path.{◌≡◌, sym, ap, ◌∙◌}
use mathlib.Core.Bool.{Bool, true, false, not}
use mathlib.Core.List.{List}
use Prim.Native.Nat.{ℕ, ◌+◌, ◌<◌, ◌≤◌}
use lib.ListN.{get_or, set}
use borrow.Author.Tests.{lt-ltb, le-ltb, le-leb, lt-leb}
use Rattle.lists.specs.Tables.{index_of}
use Rattle.state.specs.View.{plan_at, atom_ids_of, plan_ids_of}
use Rattle.deletion.specs.Marks.{without_atom, without_plan, atom_gone, justification_gone, plan_goes, visited}

-- a mark of an id that was found at k, or not found
module _ (W : List ℕ) (n x : ℕ) (left : List Bool) (k : ℕ) where
  pub atom_missing : k ≡ index_of x (atom_ids_of n W) → n ≤ k → left ≡ without_atom W n x left
  unfolding without_atom
  atom_missing e h = rw (← e, le-ltb k n h)

  pub atom_found : k ≡ index_of x (atom_ids_of n W) → k < n → set left k false ≡ without_atom W n x left
  unfolding without_atom
  atom_found e h = rw (← e, lt-ltb k n h)

  pub plan_missing : k ≡ index_of x (plan_ids_of n W) → n ≤ k → left ≡ without_plan W n x left
  unfolding without_plan
  plan_missing e h = rw (← e, le-ltb k n h)

  pub plan_found : k ≡ index_of x (plan_ids_of n W) → k < n → set left (256 + k) false ≡ without_plan W n x left
  unfolding without_plan
  plan_found e h = rw (← e, lt-ltb k n h)

  pub gone_missing : (t : ℕ) → k ≡ index_of x (atom_ids_of n W) → n ≤ k → t ≤ x → false ≡ atom_gone W n t left x
  unfolding atom_gone
  gone_missing t e h q = rw (← e, le-ltb k n h, le-leb t x q)

  pub gone_found : (t : ℕ) → k ≡ index_of x (atom_ids_of n W) → k < n → t ≤ x → not (get_or left k false) ≡ atom_gone W n t left x
  unfolding atom_gone
  gone_found t e h q = rw (← e, lt-ltb k n h, le-leb t x q)

pub gone_before : (W : List ℕ) (n x : ℕ) (left : List Bool) (t : ℕ) → x < t → false ≡ atom_gone W n t left x
unfolding atom_gone
gone_before W n x left t h = rw (lt-leb t x h)

-- what the tests of a plan say
module _ (W : List ℕ) (n t : ℕ) (left : List Bool) (i id : ℕ) (is : id ≡ (plan_at W i).id) where
  pub stays_before : id < t → false ≡ plan_goes W n t left i
  unfolding plan_goes
  stays_before h = rw (← is, lt-leb t id h)

  pub goes_marked : t ≤ id → get_or left (256 + i) false ≡ false → true ≡ plan_goes W n t left i
  unfolding plan_goes
  goes_marked h m = rw (← is, le-leb t id h, m)

  -- its own mark stands: the first justification that is gone tells
  module _ (h : t ≤ id) (m : get_or left (256 + i) false ≡ true) where
    pub goes_first : true ≡ justification_gone W n t left i 0 → true ≡ plan_goes W n t left i
    unfolding plan_goes
    goes_first e0 = rw (← is, le-leb t id h, m, ← e0)

    pub goes_second : false ≡ justification_gone W n t left i 0 → true ≡ justification_gone W n t left i 1 → true ≡ plan_goes W n t left i
    unfolding plan_goes
    goes_second e0 e1 = rw (← is, le-leb t id h, m, ← e0, ← e1)

    pub goes_third : false ≡ justification_gone W n t left i 0 → false ≡ justification_gone W n t left i 1 → true ≡ justification_gone W n t left i 2 →
        true ≡ plan_goes W n t left i
    unfolding plan_goes
    goes_third e0 e1 e2 = rw (← is, le-leb t id h, m, ← e0, ← e1, ← e2)

    pub goes_fourth : false ≡ justification_gone W n t left i 0 → false ≡ justification_gone W n t left i 1 → false ≡ justification_gone W n t left i 2 →
        (b : Bool) → b ≡ justification_gone W n t left i 3 → b ≡ plan_goes W n t left i
    unfolding plan_goes
    goes_fourth e0 e1 e2 b e3 = rw (← is, le-leb t id h, m, ← e0, ← e1, ← e2) e3

-- a test that came out as b, of a justification that was read
pub gone_is : (f : ℕ → Bool) {r b : Bool} {x y : ℕ} → r ≡ b → r ≡ f x → x ≡ y → b ≡ f y
gone_is f t e q = sym t ∙ e ∙ ap f q

module _ (W : List ℕ) (n t i : ℕ) (left : List Bool) where
  pub visited_stays : false ≡ plan_goes W n t left i → left ≡ visited W n t i left
  unfolding visited
  visited_stays e = rw (← e)

  pub visited_goes : true ≡ plan_goes W n t left i → without_atom W n (plan_at W i).subgoal (set left (256 + i) false) ≡ visited W n t i left
  unfolding visited
  visited_goes e = rw (← e)
