-- The pass plan by plan finds what the pass link by link finds.
use mathlib.Core.Path.{◌≡◌, refl, sym, ap, ◌∙◌}
use mathlib.Core.Bool.{Bool, true, false, ◌||◌}
use mathlib.Core.Logic.{⊎_elim}
use mathlib.Core.List.{List, [], ◌∷◌, ◌++◌}
use Prim.Native.Nat.{ℕ, zero, suc}
use borrow.Author.Tests.{eq-eqb}
use Rattle.lists.specs.Lists.{first, later, put, member}
use Rattle.lists.proofs.Lists.{in_cons, in_cast, in_member, member_in, member_same}
use Rattle.model.specs.Graph.{Link, Node, justification_links, subgoal_link, links_of, links, sweep}
use Rattle.graph_laws.specs.Pass.{touched, and_subgoal, visit_if, pass}

-- the same members
abbrev Like : List ℕ → List ℕ → Type 0
Like D E = (x : ℕ) → member x D ≡ member x E

put_like : (b : Bool) (y : ℕ) (D E : List ℕ) → Like D E → Like (put b y D) (put b y E)
put_like true y D E h x = rw (h x)
put_like false y D E h x = h x

sweep_like : (L : List Link) (D E : List ℕ) → Like D E → Like (sweep L D) (sweep L E)
sweep_like [] D E h = h
sweep_like (l ∷ L) D E h = sweep_like L (put (member l.from D) l.to D) (put (member l.from E) l.to E)
    (rw (h l.from) (put_like (member l.from E) l.to D E h))

sweep_append : (L M : List Link) (D : List ℕ) → sweep (L ++ M) D ≡ sweep M (sweep L D)
sweep_append [] M D = refl
sweep_append (l ∷ L) M D = sweep_append L M (put (member l.from D) l.to D)

-- what is in already adds nothing
dup : (k : ℕ) (D : List ℕ) → member k D ≡ true → Like D (k ∷ D)
dup k D m x = member_same x D (k ∷ D) (λ h. later h) (λ h. ⊎_elim (λ e. in_cast e (member_in k D m)) (λ i. i) (in_cons h))

again : (b : Bool) (k : ℕ) (D : List ℕ) → Like (put b k (k ∷ D)) (k ∷ D)
again true k D x = sym (dup k (k ∷ D) (in_member {x = k} {l = k ∷ D} (first refl)) x)
again false k D x = refl

justifications_like : (k : ℕ) (js D : List ℕ) → Like (sweep (justification_links k js) D) (put (touched js D) k D)
justifications_like k [] D x = refl
justifications_like k (j ∷ js) D x = at (member j D) (justifications_like k js (k ∷ D) x) (justifications_like k js D x)
  where
    at : (b : Bool) → member x (sweep (justification_links k js) (k ∷ D)) ≡ member x (put (touched js (k ∷ D)) k (k ∷ D)) →
        member x (sweep (justification_links k js) D) ≡ member x (put (touched js D) k D) →
        member x (sweep (justification_links k js) (put b k D)) ≡ member x (put (b || touched js D) k D)
    at true h g = h ∙ again (touched js (k ∷ D)) k D x
    at false h g = g

subgoal_link_in : (k s : ℕ) (D : List ℕ) → Like (sweep (subgoal_link k s) (k ∷ D)) (and_subgoal s (k ∷ D))
subgoal_link_in k zero D x = refl
subgoal_link_in k (suc s) D x = rw (eq-eqb k k refl)

subgoal_link_old : (k s : ℕ) (D : List ℕ) → member k D ≡ true → Like (sweep (subgoal_link k s) D) (and_subgoal s (k ∷ D))
subgoal_link_old k zero D e = dup k D e
subgoal_link_old k (suc s) D e = rw e (put_like true (suc s) D (k ∷ D) (dup k D e))

subgoal_link_out : (k s : ℕ) (D : List ℕ) → member k D ≡ false → Like (sweep (subgoal_link k s) D) D
subgoal_link_out k zero D e x = refl
subgoal_link_out k (suc s) D e x = rw e

visit_like : (q : Node) (D : List ℕ) (b c : Bool) → member q.id D ≡ c →
    Like (sweep (subgoal_link q.id q.subgoal) (put b q.id D)) (visit_if (c || b) q D)
visit_like q D true true e = subgoal_link_in q.id q.subgoal D
visit_like q D true false e = subgoal_link_in q.id q.subgoal D
visit_like q D false true e = subgoal_link_old q.id q.subgoal D e
visit_like q D false false e = subgoal_link_out q.id q.subgoal D e

pub pass_sweeps : (qs : List Node) (D : List ℕ) (x : ℕ) → member x (pass qs D) ≡ member x (sweep (links qs) D)
pass_sweeps [] D x = refl
pass_sweeps (q ∷ qs) D x =
    let E : List ℕ = visit_if (member q.id D || touched q.justifications D) q D in
    let ups : List Link = justification_links q.id q.justifications in
    let down : List Link = subgoal_link q.id q.subgoal in
    let hit : Bool = touched q.justifications D in
    let one : Like (sweep (links_of q) D) E = λ y. ap (member y) (sweep_append ups down D)
    ∙ sweep_like down (sweep ups D) (put hit q.id D) (justifications_like q.id q.justifications D) y
    ∙ visit_like q D hit (member q.id D) refl y in
    pass_sweeps qs E x
    ∙ sweep_like (links qs) E (sweep (links_of q) D) (λ y. sym (one y)) x
    ∙ ap (member x) (sym (sweep_append (links_of q) (links qs) D))
