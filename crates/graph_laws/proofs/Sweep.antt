-- One pass over the links finds exactly what is reached, if no link stands before one that leads to its start.
use mathlib.Core.Path.{◌≡◌, refl, sym, ap, ◌∙◌, subst}
use mathlib.Core.Logic.{◌⊎◌, inl, inr, ⊎_elim, ◌↔◌, ◌≢◌}
use mathlib.Core.List.{List, [], ◌∷◌}
use Prim.Native.Nat.{ℕ}
use Rattle.lists.specs.Lists.{In, first, later, put, Pairs, member}
use Rattle.lists.proofs.Lists.{in_nil, in_cons, in_one, in_cast, member_in, in_member, put_old, put_new, put_cases}
use Rattle.model.specs.Graph.{Link, Reach, here, onward, sweep, reached}

-- no link stands before one that leads to its start, and none leads to its own start
abbrev pub Before : Link → Link → Type 0
Before l m = l.from ≢ m.to

pub record Ordered (L : List Link) : Type 0 where
  pub no_loop : (l : Link) → In l L → l.from ≢ l.to
  pub earlier : Pairs Before L

-- what is in stays in
sweep_old : (L : List Link) (D : List ℕ) {x : ℕ} → In x D → In x (sweep L D)
sweep_old [] D h = h
sweep_old (l ∷ L) D h = sweep_old L (put (member l.from D) l.to D) (put_old (member l.from D) l.to h)

-- what comes in is the end of a link
sweep_new : (L : List Link) (D : List ℕ) (x : ℕ) → In x (sweep L D) → In x D ⊎ ((l : Link) × In l L × (x ≡ l.to))
sweep_new [] D x h = inl h
sweep_new (l ∷ L) D x h = ⊎_elim
    (λ k. ⊎_elim (λ r. inr (l, first refl, r.1)) (λ o. inl o) (put_cases (member l.from D) x l.to D k))
    (λ r. inr (r.0, later r.1, r.2))
    (sweep_new L (put (member l.from D) l.to D) x h)

pub reach_trans : {L : List Link} {t a x : ℕ} → Reach L t a → Reach L a x → Reach L t x
reach_trans {L} {t} p (here e) = subst (Reach L t) (sym e) p
reach_trans p (onward r h) = onward (reach_trans p r) h

pub reach_link : {L : List Link} (l : Link) → In l L → Reach L l.from l.to
reach_link l h = onward {a = l.from} (here refl) h

-- more links reach more
pub reach_more : {L M : List Link} {t x : ℕ} → ((l : Link) → In l L → In l M) → Reach L t x → Reach M t x
reach_more f (here e) = here e
reach_more f (onward r h) = onward (reach_more f r) (f _ h)

-- what comes in is reached from what was in
new_reached : (L : List Link) (D : List ℕ) (x : ℕ) → In x (sweep L D) → (t : ℕ) × In t D × Reach L t x
new_reached [] D x h = (x, h, here refl)
new_reached (l ∷ L) D x h = from (new_reached L (put (member l.from D) l.to D) x h)
  where
    from : ((t : ℕ) × In t (put (member l.from D) l.to D) × Reach L t x) → (t : ℕ) × In t D × Reach (l ∷ L) t x
    from r =
        let up : Reach (l ∷ L) r.0 x = reach_more (λ m i. later i) r.2 in
        ⊎_elim
        (λ q. (l.from, member_in l.from D q.0, reach_trans (reach_link l (first refl)) (subst (λ (u : ℕ). Reach (l ∷ L) u x) q.1 up)))
        (λ o. (r.0, o, up))
        (put_cases (member l.from D) r.0 l.to D r.1)

-- what is in has the ends of its links in
closed : (L : List Link) → Ordered L → (D : List ℕ) (m : Link) → In m L → In m.from (sweep L D) → In m.to (sweep L D)
closed [] o D m i h = in_nil i
closed (l ∷ L) o D m i h = ⊎_elim this (λ k. closed L rest D' m k h) (in_cons i)
  where
    D' : List ℕ
    D' = put (member l.from D) l.to D

    rest : Ordered L
    rest = record { no_loop = λ n k. o.no_loop n (later k); earlier = o.earlier.1 }

    this : m ≡ l → In m.to (sweep L D')
    this e =
        let s : m.from ≡ l.from = ap (λ (n : Link). n.from) e in
        let g : m.to ≡ l.to = ap (λ (n : Link). n.to) e in
        let old : In m.from D = ⊎_elim
        (λ k. ⊎_elim (λ q. absurd (o.no_loop l (first refl) (sym s ∙ q.1))) (λ w. w) (put_cases (member l.from D) m.from l.to D k))
        (λ r. absurd (o.earlier.0 r.0 r.1 (sym s ∙ r.2)))
        (sweep_new L D' m.from h) in
        sweep_old L D' (put_new (member l.from D) l.to D (in_member (in_cast (sym s) old)) g)

-- the pass is exact
pub swept : (L : List Link) → Ordered L → (t x : ℕ) → In x (reached L t) ↔ Reach L t x
swept L o t x = (λ h. let r = new_reached L (t ∷ []) x h in subst (λ (u : ℕ). Reach L u x) (in_one r.1) r.2, λ r. all r)
  where
    all : {y : ℕ} → Reach L t y → In y (reached L t)
    all (here e) = sweep_old L (t ∷ []) (first e)
    all (onward r h) = closed L o (t ∷ []) (record { from = _; to = _ }) h (all r)

pub reached_closed : (L : List Link) → Ordered L → (t : ℕ) (m : Link) → In m L → In m.from (reached L t) → In m.to (reached L t)
reached_closed L o t = closed L o (t ∷ [])
