-- The links of a graph: whose each is, that they rise between live ends, and that the pass over them is exact.
use mathlib.Core.Path.{◌≡◌, refl, ap, subst}
use mathlib.Core.Logic.{◌⊎◌, inl, inr, ⊎_elim, ◌↔◌, ◌≢◌}
use mathlib.Core.List.{List, [], ◌∷◌}
use Prim.Native.Nat.{ℕ, zero, suc, ◌≤◌, ◌<◌}
use native.Mathlib.Omega.{arith}
use Rattle.lists.specs.Lists.{In, first, later, Pairs}
use Rattle.lists.proofs.Lists.{in_nil, in_one, in_cast, in_left, in_right, in_append, in_map, map_in, pairs_append, pairs_map, pairs_all}
use Rattle.model.specs.Graph.{Link, Node, Graph, justification_links, subgoal_link, links_of, links, Reach, reached, Sound, Alive}
use Rattle.graph_laws.proofs.Sweep.{Before, Ordered, swept}

-- the link l is one of the plan q
abbrev pub Of : Node → Link → Type 0
Of q l = (In l.from q.justifications × (l.to ≡ q.id)) ⊎ ((l.from ≡ q.id) × (l.to ≡ q.subgoal) × (q.subgoal ≢ 0))

pub link_from : {l m : Link} → l ≡ m → l.from ≡ m.from
link_from e = ap (λ (l : Link). l.from) e

pub link_to : {l m : Link} → l ≡ m → l.to ≡ m.to
link_to e = ap (λ (l : Link). l.to) e

link_path : (l m : Link) → l.from ≡ m.from → l.to ≡ m.to → l ≡ m
link_path l m p q = λ i. record { from = p i; to = q i }

subgoal_link_in : (k s : ℕ) (l : Link) → In l (subgoal_link k s) → (l.from ≡ k) × (l.to ≡ s) × (s ≢ 0)
subgoal_link_in k zero l h = in_nil h
subgoal_link_in k (suc s) l h = let e = in_one h in (link_from e, link_to e, omega arith)

in_subgoal_link : (k s : ℕ) (l : Link) → l.from ≡ k → l.to ≡ s → s ≢ 0 → In l (subgoal_link k s)
in_subgoal_link k zero l p q n = absurd (n refl)
in_subgoal_link k (suc s) l p q n = first (link_path l (record { from = k; to = suc s }) p q)

of_in : (q : Node) (l : Link) → In l (links_of q) → Of q l
of_in q l h = ⊎_elim
    (λ u. let r = map_in (λ (j : ℕ). record { from = j; to = q.id }) q.justifications u in inl (in_cast (link_from r.2) r.1, link_to r.2))
    (λ d. inr (subgoal_link_in q.id q.subgoal l d))
    (in_append (justification_links q.id q.justifications) (subgoal_link q.id q.subgoal) h)

in_of : (q : Node) (l : Link) → Of q l → In l (links_of q)
in_of q l (inl u) =
    let e : l ≡ record { from = l.from; to = q.id } = link_path l (record { from = l.from; to = q.id }) refl u.1 in
    in_left (subgoal_link q.id q.subgoal) (in_cast e (in_map (λ (j : ℕ). record { from = j; to = q.id }) u.0))
in_of q l (inr d) = in_right (justification_links q.id q.justifications) (in_subgoal_link q.id q.subgoal l d.0 d.1 d.2)

pub owner_of : (qs : List Node) (l : Link) → In l (links qs) → (q : Node) × In q qs × Of q l
owner_of [] l h = in_nil h
owner_of (q ∷ qs) l h = ⊎_elim
    (λ k. (q, first refl, of_in q l k))
    (λ k. let r = owner_of qs l k in (r.0, later r.1, r.2))
    (in_append (links_of q) (links qs) h)

pub in_links : {q : Node} {qs : List Node} (l : Link) → In q qs → Of q l → In l (links qs)
in_links {q} l (first {y = p} {l = qs} e) o = in_left (links qs) (in_of p l (subst (λ (r : Node). Of r l) e o))
in_links l (later {y = p} h) o = in_right (links_of p) (in_links l h o)

-- ids rise along the links of each plan
abbrev pub Rising : List Node → Type 0
Rising qs = (q : Node) → In q qs → ((j : ℕ) → In j q.justifications → j < q.id) × (q.subgoal ≢ 0 → q.id < q.subgoal)

-- a link of q starts at q or below, ends at q or above, and rises
low : (qs : List Node) → Rising qs → (q : Node) → In q qs → (l : Link) → Of q l → l.from ≤ q.id
low qs r q h l (inl u) = let k = (r q h).0 l.from u.0 in omega arith
low qs r q h l (inr d) = omega arith

high : (qs : List Node) → Rising qs → (q : Node) → In q qs → (l : Link) → Of q l → q.id ≤ l.to
high qs r q h l (inl u) = omega arith
high qs r q h l (inr d) = let k = (r q h).1 d.2 in omega arith

link_rises : (qs : List Node) → Rising qs → (q : Node) → In q qs → (l : Link) → Of q l → l.from < l.to
link_rises qs r q h l (inl u) = let k = (r q h).0 l.from u.0 in omega arith
link_rises qs r q h l (inr d) = let k = (r q h).1 d.2 in omega arith

pub links_rise : (qs : List Node) → Rising qs → (l : Link) → In l (links qs) → l.from < l.to
links_rise qs r l h = let s = owner_of qs l h in link_rises qs r s.0 s.1 l s.2

subgoal_link_before : (k s : ℕ) → Pairs Before (subgoal_link k s)
subgoal_link_before k zero = tt
subgoal_link_before k (suc s) = (λ l h. in_nil h, tt)

of_before : (q : Node) → ((j : ℕ) → In j q.justifications → j < q.id) → (q.subgoal ≢ 0 → q.id < q.subgoal) → Pairs Before (links_of q)
of_before q f g =
    let to-q : ℕ → Link = λ (j : ℕ). record { from = j; to = q.id } in
    pairs_append Before (justification_links q.id q.justifications) (subgoal_link q.id q.subgoal)
    (pairs_map Before to-q q.justifications (pairs_all (λ (i j : ℕ). i ≢ q.id) q.justifications (λ i h j k. let b = f i h in omega arith)))
    (subgoal_link_before q.id q.subgoal)
    (λ l h m k. let r = map_in to-q q.justifications h in
    let d = subgoal_link_in q.id q.subgoal m k in
    let e : l.from ≡ r.0 = link_from r.2 in
    let b = f r.0 r.1 in
    let c = g d.2 in
    omega arith)

before : (qs : List Node) → Pairs (λ (p q : Node). p.id < q.id) qs → Rising qs → Pairs Before (links qs)
before [] s r = tt
before (q ∷ qs) s r = pairs_append Before (links_of q) (links qs)
    (of_before q (r q (first refl)).0 (r q (first refl)).1)
    (before qs s.1 (λ p h. r p (later h)))
    (λ l h m k. let u = owner_of qs m k in
    let a = low (q ∷ qs) r q (first refl) l (of_in q l h) in
    let b = high (q ∷ qs) r u.0 (later u.1) m u.2 in
    let c = s.0 u.0 u.1 in
    omega arith)

pub ordered : (qs : List Node) → Pairs (λ (p q : Node). p.id < q.id) qs → Rising qs → Ordered (links qs)
ordered qs s r = record { no_loop = λ l h. let b = links_rise qs r l h in omega arith; earlier = before qs s r }

module _ (g : Graph) (s : Sound g) where
  pub rising : Rising g.plans
  rising q h = (λ j k. (s.just_alive q h j k).1, λ z. (s.sub_alive q h z).1)

  pub ordered_graph : Ordered (links g.plans)
  ordered_graph = ordered g.plans s.plans_rise rising

  -- ids rise along every link, and both its ends are alive
  pub graph_links : (l : Link) → In l (links g.plans) → (l.from < l.to) × (Alive g l.from × Alive g l.to)
  graph_links l h = (links_rise g.plans rising l h, ends (owner_of g.plans l h))
    where
      ends : (q : Node) × In q g.plans × Of q l → Alive g l.from × Alive g l.to
      ends (q, i, inl u) = (inl (s.just_alive q i l.from u.0).0, inr (in_cast u.1 (in_map (λ (p : Node). p.id) i)))
      ends (q, i, inr d) = (inr (in_cast d.0 (in_map (λ (p : Node). p.id) i)), inl (in_cast d.1 (s.sub_alive q i d.2).0))

  -- the pass finds exactly what is reached
  pub reached_is : (t x : ℕ) → In x (reached (links g.plans) t) ↔ Reach (links g.plans) t x
  reached_is t x = swept (links g.plans) ordered_graph t x
