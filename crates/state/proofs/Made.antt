-- What is written behind the last atom or plan is an instance more, and all else stands.
use mathlib.Core.Path.{◌≡◌, refl, ap, ◌∙◌}
use mathlib.Core.Logic.{◌≢◌}
use mathlib.Core.List.{List, ◌++◌}
use Prim.Native.Nat.{ℕ, ◌+◌, ◌-◌, ◌*◌, ◌<◌, ◌≤◌}
use native.Mathlib.Numerals.{add-one}
use native.Mathlib.Omega.{arith}
use lib.ListN.{length, take, drop, get_or, set, length-drop, length-set, get_or-append}
use lib.Seq.{get_or-take, get_or-set_same, get_or-set_other, drop-set-lt, length-take-le}
use Rattle.lists.specs.Tables.{tabulate, trimmed}
use Rattle.lists.proofs.Tables.{tabulate_same, tabulate_get, tabulate_append}
use Rattle.table.specs.Rows.{row, placed}
use Rattle.table.proofs.Rows.{placed_same, placed_before, placed_long}
use Rattle.table.proofs.Parts.{part, with_part}
use Rattle.model.specs.declared.Atom.{Atom}
use Rattle.model.specs.Configuration.{Plan, Config, add_atom, add_plan, new_plan}
use Rattle.state.specs.declared.Scalars.{Scalars}
use Rattle.state.specs.declared.Plan as Declared
use Rattle.state.specs.View.{atom_p, atom_a, atom_b, atom_cycle, plans_at, plan_of, atom_at, plan_at, atoms_of, plans_of, config_of, atom_counted, plan_counted, plan_by_value, plan_words}
use Rattle.state.proofs.View.{atom_same, plans_lent, plans_left}

-- configurations with the same scalars
pub config_path : (s : Scalars) (n : ℕ) {xs ys : List Atom} {ps qs : List Plan} {m : ℕ} → xs ≡ ys → ps ≡ qs → n ≡ m →
    ◌≡◌ {A = Config} (record { atoms = xs; plans = ps; phase = s.phase; cycle = s.cycle; next = n; waiting = s.waiting })
    (record { atoms = ys; plans = qs; phase = s.phase; cycle = s.cycle; next = m; waiting = s.waiting })
config_path s n p q e = λ i. record { atoms = p i; plans = q i; phase = s.phase; cycle = s.cycle; next = e i; waiting = s.waiting }

-- the plans stand where the words behind plans_at do
pub plans_stand : (W X : List ℕ) (m : ℕ) → drop plans_at X ≡ drop plans_at W → plans_of m X ≡ plans_of m W
unfolding plan_at
plans_stand W X m e = ap (λ (l : List ℕ). tabulate m (λ (k : ℕ). plan_of (row 18 l k))) e

-- the atoms stand where a call was lent the words behind plans_at alone
pub atoms_stand : (W ys : List ℕ) (n : ℕ) → n ≤ 256 → length W ≡ 2432 → length ys ≡ 1152 → atoms_of n (with_part plans_at 1152 W ys) ≡ atoms_of n W
atoms_stand W ys n h long e = tabulate_same n (atom_at (with_part plans_at 1152 W ys)) (atom_at W)
    (λ k hk. atom_same W (with_part plans_at 1152 W ys) k (omega arith) front)
  where
    front : (j : ℕ) → j < plans_at → get_or (with_part plans_at 1152 W ys) j 0 ≡ get_or W j 0
    front j hj =
        let z : length (take plans_at W) ≡ plans_at = length-take-le plans_at W (omega arith) in
        get_or-append (take plans_at W) (ys ++ drop 1152 (drop plans_at W)) 0 j (omega arith) ∙ get_or-take plans_at W j 0 hj

-- an atom's five words behind the last atom
unfoldable pub with_atom : List ℕ → ℕ → ℕ → ℕ → ℕ → ℕ → ℕ → List ℕ
with_atom W n i p a b c = set (set (set (set (set W n i) (atom_p + n) p) (atom_a + n) a) (atom_b + n) b) (atom_cycle + n) c

module _ (W : List ℕ) (n i p a b c : ℕ) (long : length W ≡ 2432) (few : n < 256) where
  other : (j : ℕ) → j ≢ n → j ≢ atom_p + n → j ≢ atom_a + n → j ≢ atom_b + n → j ≢ atom_cycle + n → get_or (with_atom W n i p a b c) j 0 ≡ get_or W j 0
  unfolding with_atom
  other j h0 h1 h2 h3 h4 =
      get_or-set_other (set (set (set (set W n i) (atom_p + n) p) (atom_a + n) a) (atom_b + n) b) (atom_cycle + n) j c 0 h4
      ∙ get_or-set_other (set (set (set W n i) (atom_p + n) p) (atom_a + n) a) (atom_b + n) j b 0 h3
      ∙ get_or-set_other (set (set W n i) (atom_p + n) p) (atom_a + n) j a 0 h2
      ∙ get_or-set_other (set W n i) (atom_p + n) j p 0 h1
      ∙ get_or-set_other W n j i 0 h0

  before : (k : ℕ) → k < n → atom_at (with_atom W n i p a b c) k ≡ atom_at W k
  unfolding atom_at
  before k h =
      let x0 = other k (λ e. omega arith) (λ e. omega arith) (λ e. omega arith) (λ e. omega arith) (λ e. omega arith) in
      let x1 = other (atom_p + k) (λ e. omega arith) (λ e. omega arith) (λ e. omega arith) (λ e. omega arith) (λ e. omega arith) in
      let x2 = other (atom_a + k) (λ e. omega arith) (λ e. omega arith) (λ e. omega arith) (λ e. omega arith) (λ e. omega arith) in
      let x3 = other (atom_b + k) (λ e. omega arith) (λ e. omega arith) (λ e. omega arith) (λ e. omega arith) (λ e. omega arith) in
      let x4 = other (atom_cycle + k) (λ e. omega arith) (λ e. omega arith) (λ e. omega arith) (λ e. omega arith) (λ e. omega arith) in
      λ t. record { id = x0 t; p = x1 t; a = x2 t; b = x3 t; cycle = x4 t }

  here : atom_at (with_atom W n i p a b c) n ≡ record { id = i; p = p; a = a; b = b; cycle = c }
  unfolding atom_at with_atom
  here =
      let W1 : List ℕ = set W n i in
      let W2 : List ℕ = set W1 (atom_p + n) p in
      let W3 : List ℕ = set W2 (atom_a + n) a in
      let W4 : List ℕ = set W3 (atom_b + n) b in
      let l1 : length W1 ≡ 2432 = length-set W n i ∙ long in
      let l2 : length W2 ≡ 2432 = length-set W1 (atom_p + n) p ∙ l1 in
      let l3 : length W3 ≡ 2432 = length-set W2 (atom_a + n) a ∙ l2 in
      let l4 : length W4 ≡ 2432 = length-set W3 (atom_b + n) b ∙ l3 in
      let x4 = get_or-set_same W4 (atom_cycle + n) c 0 (omega arith) in
      let x3 = get_or-set_other W4 (atom_cycle + n) (atom_b + n) c 0 (λ e. omega arith) ∙ get_or-set_same W3 (atom_b + n) b 0 (omega arith) in
      let x2 = get_or-set_other W4 (atom_cycle + n) (atom_a + n) c 0 (λ e. omega arith) ∙ get_or-set_other W3 (atom_b + n) (atom_a + n) b 0 (λ e. omega arith) ∙ get_or-set_same W2 (atom_a + n) a 0 (omega arith) in
      let x1 = get_or-set_other W4 (atom_cycle + n) (atom_p + n) c 0 (λ e. omega arith) ∙ get_or-set_other W3 (atom_b + n) (atom_p + n) b 0 (λ e. omega arith) ∙ get_or-set_other W2 (atom_a + n) (atom_p + n) a 0 (λ e. omega arith) ∙ get_or-set_same W1 (atom_p + n) p 0 (omega arith) in
      let x0 = get_or-set_other W4 (atom_cycle + n) n c 0 (λ e. omega arith) ∙ get_or-set_other W3 (atom_b + n) n b 0 (λ e. omega arith) ∙ get_or-set_other W2 (atom_a + n) n a 0 (λ e. omega arith) ∙ get_or-set_other W1 (atom_p + n) n p 0 (λ e. omega arith) ∙ get_or-set_same W n i 0 (omega arith) in
      λ t. record { id = x0 t; p = x1 t; a = x2 t; b = x3 t; cycle = x4 t }

  behind : drop plans_at (with_atom W n i p a b c) ≡ drop plans_at W
  unfolding with_atom
  behind =
      drop-set-lt plans_at (set (set (set (set W n i) (atom_p + n) p) (atom_a + n) a) (atom_b + n) b) (atom_cycle + n) c (omega arith)
      ∙ drop-set-lt plans_at (set (set (set W n i) (atom_p + n) p) (atom_a + n) a) (atom_b + n) b (omega arith)
      ∙ drop-set-lt plans_at (set (set W n i) (atom_p + n) p) (atom_a + n) a (omega arith)
      ∙ drop-set-lt plans_at (set W n i) (atom_p + n) p (omega arith)
      ∙ drop-set-lt plans_at W n i (omega arith)

pub atom_appended : (W : List ℕ) (s : Scalars) (p a b : ℕ) → length W ≡ 2432 → s.atoms < 256 →
    config_of (with_atom W s.atoms s.next p a b s.cycle) (atom_counted s) ≡ add_atom p a b (config_of W s)
atom_appended W s p a b long h =
    let X : List ℕ = with_atom W s.atoms s.next p a b s.cycle in
    config_path s (s.next + 1)
    (tabulate_append s.atoms (atom_at W) (atom_at X) (record { id = s.next; p = p; a = a; b = b; cycle = s.cycle }) (before W s.atoms s.next p a b s.cycle long h) (here W s.atoms s.next p a b s.cycle long h))
    (plans_stand W X s.plans (behind W s.atoms s.next p a b s.cycle long h))
    (add-one s.next)

-- the words of a plan hold it
plan_of_words : (q : Declared.Plan) → length q.justifications ≡ 4 → length q.values ≡ 8 → plan_of (plan_words q) ≡ plan_by_value q
unfolding plan_words
plan_of_words q hj hv =
    let e = tabulate_get 4 q.justifications 0 hj in
    let f = tabulate_get 8 q.values 0 hv in
    λ i. record { id = q.id; set = q.set; rule = q.rule; values = f i; left = q.left; justifications = trimmed (e i); subgoal = q.subgoal; flags = q.flags }

-- a plan that is made
abbrev pub plan_made : Scalars → ℕ → ℕ → ℕ → List ℕ → List ℕ → Declared.Plan
plan_made s t n left js vs = record { id = s.next; set = t; rule = n; left = left; flags = 0; subgoal = 0; justifications = js; values = vs }

-- a call was lent the words behind plans_at and left ys there
pub plan_appended : (W : List ℕ) (s : Scalars) (t n left : ℕ) (js vs ys : List ℕ) → length W ≡ 2432 → s.atoms ≤ 256 → s.plans < 64 → length js ≡ 4 → length vs ≡ 8 →
    ys ≡ placed 18 (part plans_at 1152 W) s.plans (plan_words (plan_made s t n left js vs)) →
    config_of (with_part plans_at 1152 W ys) (plan_counted s) ≡ add_plan t n vs left (trimmed js) (config_of W s)
unfolding plan_at plan_words
plan_appended W s t n left js vs ys long ha hp hj hv e =
    let new : List ℕ = plan_words (plan_made s t n left js vs) in
    let P : List ℕ = drop plans_at W in
    let X : List ℕ = with_part plans_at 1152 W ys in
    let z : length P ≡ length W - plans_at = length-drop plans_at W in
    let is : ys ≡ placed 18 P s.plans new = e ∙ ap (λ (l : List ℕ). placed 18 l s.plans new) (plans_lent W long) in
    let fits : s.plans * 18 + 18 ≤ length P = omega arith in
    let same : drop plans_at X ≡ placed 18 P s.plans new = plans_left W ys long ∙ is in
    let ly : length ys ≡ 1152 = ap length is ∙ placed_long 18 P s.plans new refl fits ∙ z ∙ omega arith in
    config_path s (s.next + 1)
    (atoms_stand W ys s.atoms ha long ly)
    (tabulate_append s.plans (plan_at W) (plan_at X) (new_plan (config_of W s) t n vs left (trimmed js))
    (λ k q. ap plan_of (ap (λ (l : List ℕ). row 18 l k) same ∙ placed_before 18 P s.plans new refl fits k q))
    (ap plan_of (ap (λ (l : List ℕ). row 18 l s.plans) same ∙ placed_same 18 P s.plans new refl fits) ∙ plan_of_words (plan_made s t n left js vs) hj hv))
    (add-one s.next)
