-- A withdrawal, atom by atom: what is left of it after the atoms so far.
use mathlib.Core.Path.{◌≡◌, refl, sym, ap, ◌∙◌, subst}
use mathlib.Core.Bool.{Bool, true, false, not, true≢false}
use mathlib.Core.List.{List, [], ◌∷◌, map}
use Prim.Native.Nat.{ℕ, zero, suc, ◌+◌, ◌-◌, ◌<◌, ◌≤◌}
use native.Mathlib.Omega.{arith}
use lib.ListN.{length, drop, drop_of_length-le}
use Rattle.lists.specs.Lists.{In, first, later, Pairs, put, keep, is_empty}
use Rattle.lists.proofs.Lists.{clash, in_map, map_in, in_cast, keep_in, in_member, out_member, member_out, map_keep, count_keep}
use Rattle.lists.proofs.Tests.{map_pairs}
use Rattle.lists.proofs.Tables.{tabulate_length, tabulate_from}
use Rattle.model.specs.declared.Atom.{Atom}
use Rattle.model.specs.Configuration.{Config, equal_to, atom_ids, atom_alive}
use Rattle.model.specs.Graph.{Graph, links, Reach, here, onward, reached, survives, Sound}
use Rattle.model.specs.Deletion.{graph, links_in, remove}
use Rattle.model.specs.Events.{deletion, gone_by}
use Rattle.model.specs.Log.{Log, emit_deletion}
use Rattle.model.specs.Calls.{equal_atoms, withdraw_if, withdraw}
use Rattle.state.specs.declared.Scalars.{Scalars}
use Rattle.state.specs.View.{atom_at, config_of, SoundWords}
use Rattle.graph_laws.proofs.Links.{graph_links, reached_is}
use Rattle.deletion.proofs.Sound.{counts_after}
use Rattle.sensing.specs.Sensing.{Ready, Withdraws}

-- the equal atoms from place k on
unfoldable pub equal_from : ℕ → ℕ → ℕ → ℕ → Config → List ℕ
equal_from p a b k c = map (λ (x : Atom). x.id) (keep (equal_to p a b) (drop k c.atoms))

module _ (p a b : ℕ) where
  pub equal_all : (c : Config) → equal_atoms p a b c ≡ equal_from p a b 0 c
  unfolding equal_from equal_atoms
  equal_all c = refl

  -- atom x stands at place k
  pub equal_skip : (c : Config) (k : ℕ) (x : Atom) → drop k c.atoms ≡ x ∷ drop (k + 1) c.atoms → equal_to p a b x ≡ false → equal_from p a b k c ≡ equal_from p a b (k + 1) c
  unfolding equal_from
  equal_skip c k x d e = ap (λ (l : List Atom). map (λ (y : Atom). y.id) (keep (equal_to p a b) l)) d ∙ ap (λ (t : Bool). map (λ (y : Atom). y.id) (put t x (keep (equal_to p a b) (drop (k + 1) c.atoms)))) e

  pub equal_take : (c : Config) (k : ℕ) (x : Atom) → drop k c.atoms ≡ x ∷ drop (k + 1) c.atoms → equal_to p a b x ≡ true → equal_from p a b k c ≡ x.id ∷ equal_from p a b (k + 1) c
  unfolding equal_from
  equal_take c k x d e = ap (λ (l : List Atom). map (λ (y : Atom). y.id) (keep (equal_to p a b) l)) d ∙ ap (λ (t : Bool). map (λ (y : Atom). y.id) (put t x (keep (equal_to p a b) (drop (k + 1) c.atoms)))) e

  pub equal_end : (c : Config) (k : ℕ) → length c.atoms ≤ k → equal_from p a b k c ≡ []
  unfolding equal_from
  equal_end c k h = ap (λ (l : List Atom). map (λ (y : Atom). y.id) (keep (equal_to p a b) l)) (drop_of_length-le c.atoms h)

-- lists
keep_keep : {A : Type 0} (f g : A → Bool) (l : List A) → keep f (keep g l) ≡ keep g (keep f l)
keep_keep f g [] = refl
keep_keep {A} f g (x ∷ l) = at (f x) refl (g x) refl (keep_keep f g l)
  where
    at : (s : Bool) → f x ≡ s → (t : Bool) → g x ≡ t → keep f (keep g l) ≡ keep g (keep f l) → keep f (put t x (keep g l)) ≡ keep g (put s x (keep f l))
    at true p true q h = rw (p, q) (ap {B = List A} (λ (m : List A). x ∷ m) h)
    at true p false q h = rw q h
    at false p true q h = rw p h
    at false p false q h = h

drop_in : {A : Type 0} (k : ℕ) (l : List A) (x : A) (rest : List A) → drop k l ≡ x ∷ rest → In x l
drop_in zero l x rest e = subst (In x) (sym e) (first refl)
drop_in (suc k) [] x rest e = absurd (true≢false (ap is_empty e))
drop_in (suc k) (y ∷ l) x rest e = later (drop_in k l x rest e)

-- x stands at place k of a rising list; what is below it passes the test, and it does not
drop_kept : (f : Atom → Bool) (l : List Atom) → Pairs (λ (x y : Atom). x.id < y.id) l → (k : ℕ) (x : Atom) (rest : List Atom) → drop k l ≡ x ∷ rest → ((y : Atom) → y.id < x.id → f y ≡ true) → f x ≡ false → drop k (keep f l) ≡ keep f rest
drop_kept f l o zero x rest e h d = ap (keep f) e ∙ ap (λ (b : Bool). put b x (keep f rest)) d
drop_kept f [] o (suc k) x rest e h d = absurd (true≢false (ap is_empty e))
drop_kept f (y ∷ l) o (suc k) x rest e h d = ap (λ (b : Bool). drop (suc k) (put b y (keep f l))) (h y (o.0 x (drop_in k l x rest e))) ∙ drop_kept f l o.1 k x rest e h d

-- so k of them at least stay, and one at least goes
kept_some : (f : Atom → Bool) (l : List Atom) → Pairs (λ (x y : Atom). x.id < y.id) l → (k : ℕ) (x : Atom) (rest : List Atom) → drop k l ≡ x ∷ rest → ((y : Atom) → y.id < x.id → f y ≡ true) → f x ≡ false → (k ≤ length (keep f l)) × (length (keep f l) < length l)
kept_some f l o zero x rest e h d =
    let a : length (keep f l) ≡ length (keep f rest) = ap length (drop_kept f l o zero x rest e h d) in
    let b = count_keep f rest in
    let c : length l ≡ suc (length rest) = ap length e in
    omega arith
kept_some f [] o (suc k) x rest e h d = absurd (true≢false (ap is_empty e))
kept_some f (y ∷ l) o (suc k) x rest e h d =
    let r = kept_some f l o.1 k x rest e h d in
    let a : length (keep f (y ∷ l)) ≡ suc (length (keep f l)) = ap (λ (b : Bool). length (put b y (keep f l))) (h y (o.0 x (drop_in k l x rest e))) in
    omega arith

-- a deletion reaches nothing below its target
module _ (g : Graph) (s : Sound g) (t : ℕ) where
  reach_above : {x : ℕ} → Reach (links g.plans) t x → t ≤ x
  reach_above (here e) = omega arith
  reach_above (onward {a = y} {x = x} r i) = let h = reach_above r in let k = (graph_links g s (record { from = y; to = x }) i).0 in omega arith

  pub below_survives : (x : ℕ) → x < t → survives (reached (links g.plans) t) x ≡ true
  below_survives x h = ap not (out_member x (reached (links g.plans) t) (λ i. let k = reach_above ((reached_is g s t x).0 i) in absurd (omega arith)))

  pub target_goes : survives (reached (links g.plans) t) t ≡ false
  target_goes = ap not (in_member ((reached_is g s t t).1 (here refl)))

-- what is dead stays dead, and is passed over
dead_stays : (c : Config) (t x : ℕ) → atom_alive c x ≡ false → atom_alive (remove t c) x ≡ false
unfolding atom_alive
dead_stays c t x e = out_member x (atom_ids (remove t c)) (λ i.
    let r = map_in (λ (y : Atom). y.id) (keep (λ (y : Atom). survives (reached (links_in c) t) y.id) c.atoms) i in
    let k = keep_in (λ (y : Atom). survives (reached (links_in c) t) y.id) c.atoms r.1 in
    member_out e (in_cast r.2 (in_map (λ (y : Atom). y.id) k.0)))

withdraw_dead : (f : ℕ → Bool) (ts : List ℕ) (N : Log) → ((x : ℕ) → f x ≡ false → atom_alive N.config x ≡ false) → withdraw ts N ≡ withdraw (keep f ts) N
unfolding withdraw withdraw_if
withdraw_dead f [] N h = refl
withdraw_dead f (x ∷ ts) N h = at (f x) refl (λ M g. withdraw_dead f ts M g)
  where
    after : (b : Bool) → (y : ℕ) → f y ≡ false → atom_alive (withdraw_if b x N).config y ≡ false
    after true y e = dead_stays N.config x y (h y e)
    after false y e = h y e

    at : (b : Bool) → f x ≡ b → ((M : Log) → ((y : ℕ) → f y ≡ false → atom_alive M.config y ≡ false) → withdraw ts M ≡ withdraw (keep f ts) M) → withdraw ts (withdraw_if (atom_alive N.config x) x N) ≡ withdraw (put b x (keep f ts)) N
    at true e more = more (withdraw_if (atom_alive N.config x) x N) (after (atom_alive N.config x))
    at false e more = ap (λ (b : Bool). withdraw ts (withdraw_if b x N)) (h x e) ∙ more N h

alive_first : (t : ℕ) (ts : List ℕ) (M : Log) → In t (atom_ids M.config) → withdraw (t ∷ ts) M ≡ withdraw ts (emit_deletion t M)
unfolding withdraw withdraw_if atom_alive
alive_first t ts M i = ap (λ (b : Bool). withdraw ts (withdraw_if b t M)) (in_member i)

-- atom x at place k is withdrawn
module _ (p a b : ℕ) (M : Log) (s : Sound (graph M.config)) (k : ℕ) (x : Atom) (d : drop k M.config.atoms ≡ x ∷ drop (k + 1) M.config.atoms) where
  abbrev D : List ℕ
  D = reached (links_in M.config) x.id

  abbrev stays : Atom → Bool
  stays y = survives D y.id

  pub place_kept : drop k (remove x.id M.config).atoms ≡ keep stays (drop (k + 1) M.config.atoms)
  place_kept = drop_kept stays M.config.atoms (map_pairs (λ (u v : ℕ). u < v) (λ (y : Atom). y.id) M.config.atoms s.atoms_rise) k x (drop (k + 1) M.config.atoms) d
      (λ y h. below_survives (graph M.config) s x.id y.id h) (target_goes (graph M.config) s x.id)

  left_equal : equal_from p a b k (remove x.id M.config) ≡ keep (survives D) (equal_from p a b (k + 1) M.config)
  unfolding equal_from
  left_equal = ap (λ (l : List Atom). map (λ (y : Atom). y.id) (keep (equal_to p a b) l)) place_kept
      ∙ ap (map (λ (y : Atom). y.id)) (keep_keep (equal_to p a b) stays (drop (k + 1) M.config.atoms))
      ∙ map_keep (λ (y : Atom). y.id) (survives D) (keep (equal_to p a b) (drop (k + 1) M.config.atoms))

  gone_dead : (y : ℕ) → survives D y ≡ false → atom_alive (remove x.id M.config) y ≡ false
  unfolding atom_alive
  gone_dead y e = out_member y (atom_ids (remove x.id M.config)) (λ i.
      let r = map_in (λ (z : Atom). z.id) (keep stays M.config.atoms) i in
      let q = keep_in stays M.config.atoms r.1 in
      clash (ap (survives D) r.2 ∙ q.1) e)

  pub withdraw_one : equal_to p a b x ≡ true → withdraw (equal_from p a b k M.config) M ≡ withdraw (equal_from p a b k (remove x.id M.config)) (emit_deletion x.id M)
  withdraw_one e =
      ap (λ (l : List ℕ). withdraw l M) (equal_take p a b M.config k x d e)
      ∙ first_alive
      ∙ withdraw_dead (survives D) (equal_from p a b (k + 1) M.config) (emit_deletion x.id M) gone_dead
      ∙ ap (λ (l : List ℕ). withdraw l (emit_deletion x.id M)) (sym left_equal)
    where
      first_alive : withdraw (x.id ∷ equal_from p a b (k + 1) M.config) M ≡ withdraw (equal_from p a b (k + 1) M.config) (emit_deletion x.id M)
      first_alive = alive_first x.id (equal_from p a b (k + 1) M.config) M (in_map (λ (y : Atom). y.id) (drop_in k M.config.atoms x (drop (k + 1) M.config.atoms) d))

-- THE LOOP
pub record Withdrawing (p a b : ℕ) (c : Config) (total : ℕ) (words : List ℕ) (s : Scalars) (gone k : ℕ) : Type 0 where
  pub ready : Ready words s
  pub inside : k ≤ s.atoms
  -- nothing but what went is missing
  pub sum : gone + (s.atoms + s.plans) ≡ total
  pub rest : (L : Log) → L.config ≡ c → (M : Log) × (M.config ≡ config_of words s) × (M.gone ≡ L.gone + gone) × (withdraw (equal_atoms p a b c) L ≡ withdraw (equal_from p a b k M.config) M)

-- the words after a deletion
module _ (words words' : List ℕ) (s s' : Scalars) (t : ℕ) (e : config_of words' s' ≡ remove t (config_of words s)) where
  pub ready_after : Ready words s → SoundWords words' s' → Ready words' s'
  ready_after r w = record { whole = w; next_fits = let h : s'.next ≡ s.next = ap (λ (d : Config). d.next) e in omega (arith, r.next_fits) }

module _ (p a b : ℕ) (c : Config) (total : ℕ) (words : List ℕ) (s : Scalars) where
  place : (k : ℕ) → k < s.atoms → drop k (config_of words s).atoms ≡ atom_at words k ∷ drop (k + 1) (config_of words s).atoms
  place k h = tabulate_from s.atoms (atom_at words) k h

  pub withdrawing_skip : (gone k : ℕ) → Withdrawing p a b c total words s gone k → k < s.atoms → equal_to p a b (atom_at words k) ≡ false → Withdrawing p a b c total words s gone (k + 1)
  withdrawing_skip gone k w h e = record {
    ready = w.ready;
    inside = omega arith;
    sum = w.sum;
    rest = λ L q. let r = w.rest L q in
        (r.0, r.1, r.2, r.3 ∙ ap (λ (l : List ℕ). withdraw l r.0) (equal_skip p a b r.0.config k (atom_at words k) (subst (λ (d : Config). drop k d.atoms ≡ atom_at words k ∷ drop (k + 1) d.atoms) (sym r.1) (place k h)) e));
  }

  pub withdrawing_past : (gone m k : ℕ) → Withdrawing p a b c total words s gone k → k + m ≤ s.atoms → ((i : ℕ) → k ≤ i → i < k + m → equal_to p a b (atom_at words i) ≡ false) → Withdrawing p a b c total words s gone (k + m)
  withdrawing_past gone zero k w h e = let z : k ≡ k + 0 = omega arith in subst (λ (i : ℕ). Withdrawing p a b c total words s gone i) z w
  withdrawing_past gone (suc m) k w h e =
      let z : k + 1 + m ≡ k + suc m = omega arith in
      subst (λ (i : ℕ). Withdrawing p a b c total words s gone i) z
      (withdrawing_past gone m (k + 1) (withdrawing_skip gone k w (omega arith) (e k (omega arith) (omega arith))) (omega arith) (λ i q r. e i (omega arith) (omega arith)))

  pub withdrawing_on : (gone k r : ℕ) → Withdrawing p a b c total words s gone k → k < s.atoms → equal_to p a b (atom_at words k) ≡ false → k + 1 ≤ r → r ≤ s.atoms → ((i : ℕ) → k + 1 ≤ i → i < r → equal_to p a b (atom_at words i) ≡ false) → Withdrawing p a b c total words s gone r
  withdrawing_on gone k r w h e u v f =
      let z : k + 1 + (r - (k + 1)) ≡ r = omega arith in
      subst (λ (i : ℕ). Withdrawing p a b c total words s gone i) z (withdrawing_past gone (r - (k + 1)) (k + 1) (withdrawing_skip gone k w h e) (omega arith) (λ i q x. f i q (omega arith)))

  pub withdrawing_end : (gone k : ℕ) → Withdrawing p a b c total words s gone k → s.atoms ≤ k → Withdraws p a b c (config_of words s) gone
  unfolding withdraw
  withdrawing_end gone k w h = record {
    leaves = λ L q. let r = w.rest L q in ap (λ (M : Log). M.config) (whole L q) ∙ r.1;
    counts = λ L q. let r = w.rest L q in ap (λ (M : Log). M.gone) (whole L q) ∙ r.2;
  }
    where
      whole : (L : Log) (q : L.config ≡ c) → withdraw (equal_atoms p a b c) L ≡ (w.rest L q).0
      whole L q =
          let r = w.rest L q in
          let n : length r.0.config.atoms ≤ k = (let m : length r.0.config.atoms ≡ s.atoms = ap (λ (d : Config). length d.atoms) r.1 ∙ tabulate_length s.atoms (atom_at words) in omega arith) in
          r.3 ∙ ap (λ (l : List ℕ). withdraw l r.0) (equal_end p a b r.0.config k n)

  -- atom k goes, with all that it leads to
  module _ (words' : List ℕ) (s' : Scalars) (gone k n : ℕ) (w : Withdrawing p a b c total words s gone k) (h : k < s.atoms) (d : equal_to p a b (atom_at words k) ≡ true)
      (v : SoundWords words' s') (e : config_of words' s' ≡ remove (atom_at words k).id (config_of words s)) (m : n ≡ gone_by (graph (config_of words s)) (deletion (atom_at words k).id)) where
    -- the places below k stay, and one goes
    pub fewer : (k ≤ s'.atoms) × (s'.atoms < s.atoms)
    fewer =
        let C : Config = config_of words s in
        let D : List ℕ = reached (links_in C) (atom_at words k).id in
        let r = kept_some (λ (y : Atom). survives D y.id) C.atoms (map_pairs (λ (u v : ℕ). u < v) (λ (y : Atom). y.id) C.atoms w.ready.whole.sound.atoms_rise) k (atom_at words k) (drop (k + 1) C.atoms) (place k h)
        (λ y z. below_survives (graph C) w.ready.whole.sound (atom_at words k).id y.id z) (target_goes (graph C) w.ready.whole.sound (atom_at words k).id) in
        let i : length (config_of words' s').atoms ≡ s'.atoms = tabulate_length s'.atoms (atom_at words') in
        let j : length C.atoms ≡ s.atoms = tabulate_length s.atoms (atom_at words) in
        let q : length (config_of words' s').atoms ≡ length (keep (λ (x : Atom). survives D x.id) C.atoms) = ap (λ (d : Config). length d.atoms) e in
        omega arith

    went : (M : Log) → M.config ≡ config_of words s → (L : Log) → M.gone ≡ L.gone + gone → withdraw (equal_atoms p a b c) L ≡ withdraw (equal_from p a b k M.config) M →
        (N : Log) × (N.config ≡ config_of words' s') × (N.gone ≡ L.gone + (gone + n)) × (withdraw (equal_atoms p a b c) L ≡ withdraw (equal_from p a b k N.config) N)
    went M f L g z = (
      emit_deletion (atom_at words k).id M,
      ap (remove (atom_at words k).id) f ∙ sym e,
      (let i : gone_by (graph M.config) (deletion (atom_at words k).id) ≡ gone_by (graph (config_of words s)) (deletion (atom_at words k).id) = ap (λ (x : Config). gone_by (graph x) (deletion (atom_at words k).id)) f in omega arith),
      z ∙ withdraw_one p a b M (subst (λ (x : Config). Sound (graph x)) (sym f) w.ready.whole.sound) k (atom_at words k) (subst (λ (x : Config). drop k x.atoms ≡ atom_at words k ∷ drop (k + 1) x.atoms) (sym f) (place k h)) d,
    )

    pub withdrawing_take : Withdrawing p a b c total words' s' (gone + n) k
    withdrawing_take = record {
      ready = ready_after words words' s s' (atom_at words k).id e w.ready v;
      inside = fewer.0;
      sum = let z = counts_after words words' s s' (atom_at words k).id e in omega (arith, w.sum, m);
      rest = λ L q. went (w.rest L q).0 (w.rest L q).1 L (w.rest L q).2 (w.rest L q).3;
    }

pub withdrawing_first : (p a b : ℕ) (words : List ℕ) (s : Scalars) → Ready words s → Withdrawing p a b (config_of words s) (s.atoms + s.plans) words s 0 0
withdrawing_first p a b words s r = record {
  ready = r;
  inside = omega arith;
  sum = omega arith;
  rest = λ L q. (L, q, omega arith, ap (λ (l : List ℕ). withdraw l L) (equal_all p a b (config_of words s) ∙ ap (equal_from p a b 0) (sym q)));
}

-- what `withdraw` rests on
pub ruleset withdrawing = (withdrawing_first, withdrawing_on, withdrawing_take, withdrawing_end, fewer, counts_after)
