-- What an action needs of the words, and that what it leaves can be worked on.
use Rattle.std.specs.Prelude.{if◌then◌else◌, Option, Some, is_some}
use mathlib.Core.Path.{◌≡◌, refl, sym, ap, ◌∙◌, subst}
use mathlib.Core.Bool.{Bool, true, false}
use mathlib.Core.Logic.{◌⊎◌}
use mathlib.Core.List.{List, map}
use Prim.Native.Nat.{ℕ, ◌+◌, ◌≤◌, ◌<◌}
use native.Mathlib.Omega.{arith}
use lib.Dec.{eqb}
use Rattle.lists.specs.Lists.{keep}
use Rattle.lists.specs.Tables.{PlaceOf, index_of}
use Rattle.lists.proofs.Lists.{all_map, keep_in}
use Rattle.model.specs.declared.Row.{Row}
use Rattle.model.specs.Program.{constant}
use Rattle.model.specs.Configuration.{Plan, Config, last_next, atom_alive, plan_alive, with_flags, at_plan, change_plan, add_atom}
use Rattle.model.specs.Graph.{reached, survives}
use Rattle.model.specs.Deletion.{graph, links_in, plan_without, remove}
use Rattle.model.specs.Events.{deletion, gone_by}
use Rattle.graph_laws.proofs.Turns.{change_plan_turns_not}
use Rattle.state.specs.declared.Scalars.{Scalars}
use Rattle.state.specs.View.{plan_at, config_of, atom_ids_of, plan_ids_of, SoundWords, LivePlan, atom_counted}
use Rattle.state.proofs.Room.{found}
use Rattle.state.proofs.Live.{sound_live, found_plan, found_atom_alive, found_plan_alive}
use Rattle.deletion.proofs.Sound.{sound_added, sound_still, counts_after}
use Rattle.stepping.proofs.Standing.{live_plan}
use Rattle.acting.specs.Actions.{Workable, FlagNumber}

-- WHAT IT LEAVES CAN BE WORKED ON
module _ (words words' : List ℕ) (s s' : Scalars) (w : Workable words s) where
  pub workable_added : (p a b : ℕ) → s.atoms < 256 → s.next < last_next → s' ≡ atom_counted s → config_of words' s' ≡ add_atom p a b (config_of words s) → Workable words' s'
  workable_added p a b h k q e = record {
    whole = sound_added words words' s s' w.whole p a b h q e;
    next_fits = let z : s'.next ≡ s.next + 1 = ap (λ (x : Scalars). x.next) q in omega arith;
    flags_fit = let z : (config_of words' s').plans ≡ (config_of words s).plans = ap (λ (x : Config). x.plans) e in rw z w.flags_fit;
  }

  -- a plan that stays keeps its flags
  workable_removed : (t : ℕ) → SoundWords words' s' → config_of words' s' ≡ remove t (config_of words s) → Workable words' s'
  workable_removed t v e = record {
    whole = v;
    next_fits = let z : s'.next ≡ s.next = ap (λ (x : Config). x.next) e in omega (arith, w.next_fits);
    flags_fit = let z : (config_of words' s').plans ≡ (remove t C).plans = ap (λ (x : Config). x.plans) e in
        rw z (all_map (λ (q : Plan). q.flags ≤ 65535) (plan_without D) (keep stays C.plans) (λ q i. w.flags_fit q (keep_in stays C.plans i).0));
  }
    where
      C : Config
      C = config_of words s

      D : List ℕ
      D = reached (links_in (config_of words s)) t

      stays : Plan → Bool
      stays q = survives (reached (links_in (config_of words s)) t) q.id

  few_gone : (t : ℕ) → config_of words' s' ≡ remove t (config_of words s) → gone_by (graph (config_of words s)) (deletion t) ≤ 320
  few_gone t e = let z = counts_after words words' s s' t e in omega (arith, w.whole.few_atoms, w.whole.few_plans)

  pub workable_deleted : (t gone : ℕ) → SoundWords words' s' → config_of words' s' ≡ remove t (config_of words s) → gone ≡ gone_by (graph (config_of words s)) (deletion t) → Workable words' s' × (gone ≤ 320)
  workable_deleted t gone v e f = (workable_removed t v e, (let z = few_gone t e in omega arith))

-- with other flags of a plan
pub workable_flags : (words words' : List ℕ) (s : Scalars) → Workable words s → (k : ℕ) (f : ℕ → ℕ) → ((n : ℕ) → n ≤ 65535 → f n ≤ 65535) → config_of words' s ≡ change_plan k (with_flags f) (config_of words s) → Workable words' s
workable_flags words words' s w k f h e = record {
  whole = sound_still words words' s s w.whole refl refl (ap graph e ∙ change_plan_turns_not k (with_flags f) (λ q. refl) (config_of words s));
  next_fits = w.next_fits;
  flags_fit = let z : (config_of words' s).plans ≡ map (at_plan k (with_flags f)) (config_of words s).plans = ap (λ (x : Config). x.plans) e in
      rw z (all_map (λ (q : Plan). q.flags ≤ 65535) (at_plan k (with_flags f)) (config_of words s).plans (λ q i. at q (w.flags_fit q i) (eqb q.id k)));
}
  where
    at : (q : Plan) → q.flags ≤ 65535 → (b : Bool) → (if b then with_flags f q else q).flags ≤ 65535
    at q i true = h q.flags i
    at q i false = i

-- WHETHER ITS INSTANCE LIVES: y is the id, and r is where the search for it ended
module _ (words : List ℕ) (s : Scalars) (x y : ℕ) (e : x ≡ y) where
  pub atom_lives : (r : Option ℕ) → PlaceOf s.atoms x (atom_ids_of s.atoms words) r → atom_alive (config_of words s) y ≡ is_some r
  atom_lives r f = ap (atom_alive (config_of words s)) (sym e) ∙ sym (found_atom_alive words s x) ∙ found s.atoms x (atom_ids_of s.atoms words) r f

  pub plan_lives : (r : Option ℕ) → PlaceOf s.plans x (plan_ids_of s.plans words) r → plan_alive (config_of words s) y ≡ is_some r
  plan_lives r f = ap (plan_alive (config_of words s)) (sym e) ∙ sym (found_plan_alive words s x) ∙ found s.plans x (plan_ids_of s.plans words) r f

  plan_there : (k : ℕ) → k ≡ index_of x (plan_ids_of s.plans words) → k < s.plans → (plan_at words k).id ≡ y
  plan_there k f h = ap (λ (k : ℕ). (plan_at words k).id) f ∙ found_plan s.plans words x (subst (λ (k : ℕ). k < s.plans) f h) ∙ e

  pub plan_flagged : (words' : List ℕ) (k : ℕ) → PlaceOf s.plans x (plan_ids_of s.plans words) (Some k) → (f : ℕ → ℕ → ℕ) (n m : ℕ) → n ≡ m → config_of words' s ≡ change_plan (plan_at words k).id (with_flags (f n)) (config_of words s) →
      config_of words' s ≡ change_plan y (with_flags (f m)) (config_of words s)
  plan_flagged words' k h f n m g c = let t = plan_there k h.0 h.1 in c ∙ (λ i. change_plan (t i) (with_flags (f (g i))) (config_of words s))

-- a flag of it can be set, and cleared
pub flag_number : (row : Row) → FlagNumber row → (row.op ≡ 23) ⊎ (row.op ≡ 24) → (1 ≤ constant row.a) × (constant row.a ≤ 16)
unfolding FlagNumber
flag_number row h = h

pub can_flag : (words : List ℕ) (s : Scalars) (row : Row) (i n : ℕ) → Workable words s → FlagNumber row → (row.op ≡ 23) ⊎ (row.op ≡ 24) → i < s.plans → n ≡ constant row.a → LivePlan words s i × ((plan_at words i).flags ≤ 65535) × (1 ≤ n) × (n ≤ 16)
can_flag words s row i n w h o k e = let z = flag_number row h o in (sound_live words s i w.whole k, w.flags_fit (plan_at words i) (live_plan words s i k), omega arith, omega arith)
