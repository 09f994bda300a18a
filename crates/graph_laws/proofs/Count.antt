-- What is alive and what is gone are, in number, what was there and what was made; the journal counts as many gone.
use mathlib.Core.Path.{◌≡◌, refl, ap, ◌∙◌}
use mathlib.Core.List.{List, [], ◌∷◌}
use Prim.Native.Nat.{ℕ, ◌+◌}
use native.Mathlib.Omega.{arith}
use lib.ListN.{length, length-append, length-map}
use Rattle.lists.specs.Lists.{keep, member}
use Rattle.lists.proofs.Lists.{keep_same, count_keep}
use Rattle.model.specs.Graph.{Node, Graph, node_ids, links, reached, survives, Sound}
use Rattle.model.specs.Events.{Event, atom_made, plan_made, subgoal_made, deletion, change, changes, AllFit, made_by, gone_by, how_many, all_made, all_gone}
use Rattle.model.specs.Journal.{Journal, entered, gone_in_journal, all_gone_in_journal}
use Rattle.graph_laws.proofs.Keeps.{keeps}
use Rattle.graph_laws.proofs.Agree.{Agree, agree, same_reached, ids_unlinked}

pub change_size : (g : Graph) (e : Event) →
    length (change g e).atoms + length (change g e).plans + gone_by g e ≡ length g.atoms + length g.plans + made_by e
change_size g atom_made = simp length-append (omega arith)
change_size g (plan_made js) = simp length-append (omega arith)
change_size g (subgoal_made k) = simp (length-append, length-map) (omega arith)
change_size g (deletion t) =
    let D : List ℕ = reached (links g.plans) t in
    let a : how_many D g.atoms + length (keep (survives D) g.atoms) ≡ length g.atoms = count_keep (λ (x : ℕ). member x D) g.atoms in
    let ids : List ℕ = node_ids g.plans in
    let left : List Node = (change g (deletion t)).plans in
    let p : how_many D ids + length (keep (survives D) ids) ≡ length ids = count_keep (λ (x : ℕ). member x D) ids in
    let q : length ids ≡ length g.plans = length-map g.plans (λ (p : Node). p.id) in
    let r : length (node_ids left) ≡ length left = length-map left (λ (p : Node). p.id) in
    let w : length (node_ids left) ≡ length (keep (survives D) ids) = ap length (ids_unlinked D g.plans) in
    omega arith

pub changes_size : (g : Graph) (es : List Event) →
    length (changes g es).atoms + length (changes g es).plans + all_gone g es ≡ length g.atoms + length g.plans + all_made es
changes_size g [] = refl
changes_size g (e ∷ es) = let a = change_size g e in let b = changes_size (change g e) es in omega arith

-- the journal counts as many gone
pub same_gone : (g : Graph) (e : Event) (b : Journal) → Sound g → Agree g b → gone_by g e ≡ gone_in_journal b e
same_gone g atom_made b s a = refl
same_gone g (plan_made js) b s a = refl
same_gone g (subgoal_made k) b s a = refl
same_gone g (deletion t) b s a =
    let D : List ℕ = reached (links g.plans) t in
    let E : List ℕ = reached b.links t in
    let as_many : (l m : List ℕ) → l ≡ m → how_many D l ≡ how_many E m =
    λ l m e. ap length (keep_same _ _ l (same_reached g s b a t) ∙ ap (keep (λ (x : ℕ). member x E)) e) in
    let p = as_many g.atoms b.atoms a.same.same_atoms in
    let q = as_many (node_ids g.plans) b.plans a.same.same_plans in
    omega arith

pub same_gone_all : (g : Graph) (es : List Event) (b : Journal) → Sound g → AllFit g es → Agree g b → all_gone g es ≡ all_gone_in_journal b es
same_gone_all g [] b s ok a = refl
same_gone_all g (e ∷ es) b s ok a =
    let p = same_gone g e b s a in
    let q = same_gone_all (change g e) es (entered b e) (keeps g e s ok.0) ok.1 (agree g e b s ok.0 a) in
    omega arith
