-- "The book of demand 3", here a journal: fed with events alone, it gives the ids and keeps who is alive and the links.
use Rattle.std.specs.Prelude.{◌≡◌, ◌↔◌, ◌&&◌, List, [], ◌∷◌, ◌++◌, ℕ, suc, ◌+◌}
use Rattle.lists.specs.Lists.{In, keep, count_up}
use Rattle.model.specs.Graph.{Link, Graph, node_ids, links, justification_links, Reach, reached, survives}
use Rattle.model.specs.Events.{Event, atom_made, plan_made, subgoal_made, deletion, change, changes, how_many}

pub record Journal : Type 0 where
  pub atoms : List ℕ
  pub plans : List ℕ
  pub links : List Link
  pub next : ℕ

-- "It starts with atoms 1 to n alive for n initial atoms, and no links."
abbrev pub new_journal : ℕ → Journal
new_journal n = record { atoms = count_up 1 n; plans = []; links = []; next = suc n }

-- "strikes what is alive and reached .. and every link with an end there"
abbrev pub without : List ℕ → Journal → Journal
without D b = record {
  atoms = keep (survives D) b.atoms;
  plans = keep (survives D) b.plans;
  links = keep (λ (l : Link). survives D l.from && survives D l.to) b.links;
  next = b.next;
}

-- "What is made gets the lowest id never given; a plan gets a link from each atom its reasons matched, the atom of 36 one from
-- its plan. A deletion strikes what is alive and reached from its target by zero or more of the book's links"
abbrev pub entered : Journal → Event → Journal
entered b atom_made = record { atoms = b.atoms ++ (b.next ∷ []); plans = b.plans; links = b.links; next = suc b.next }
entered b (plan_made js) = record { atoms = b.atoms; plans = b.plans ++ (b.next ∷ []); links = b.links ++ justification_links b.next js; next = suc b.next }
entered b (subgoal_made k) = record { atoms = b.atoms ++ (b.next ∷ []); plans = b.plans; links = b.links ++ (record { from = k; to = b.next } ∷ []); next = suc b.next }
entered b (deletion t) = without (reached b.links t) b

abbrev pub all_entered : Journal → List Event → Journal
all_entered b [] = b
all_entered b (e ∷ es) = all_entered (entered b e) es

-- "a call's `gone` counts the instances that its deletions strike"
abbrev pub gone_in_journal : Journal → Event → ℕ
gone_in_journal b atom_made = 0
gone_in_journal b (plan_made js) = 0
gone_in_journal b (subgoal_made k) = 0
gone_in_journal b (deletion t) = how_many (reached b.links t) b.atoms + how_many (reached b.links t) b.plans

abbrev pub all_gone_in_journal : Journal → List Event → ℕ
all_gone_in_journal b [] = 0
all_gone_in_journal b (e ∷ es) = gone_in_journal b e + all_gone_in_journal (entered b e) es

-- the graph and the journal say the same
pub record Same (g : Graph) (b : Journal) : Type 0 where
  pub same_atoms : g.atoms ≡ b.atoms
  pub same_plans : node_ids g.plans ≡ b.plans
  pub same_next : g.next ≡ b.next
  pub same_links : (l : Link) → In l (links g.plans) ↔ In l b.links

-- at each deletion the journal's pass over its links finds exactly what they reach
abbrev pub Exact : Journal → List Event → Type 0
Exact b [] = Unit {0}
Exact b (atom_made ∷ es) = Exact (entered b atom_made) es
Exact b (plan_made js ∷ es) = Exact (entered b (plan_made js)) es
Exact b (subgoal_made k ∷ es) = Exact (entered b (subgoal_made k)) es
Exact b (deletion t ∷ es) = ((x : ℕ) → In x (reached b.links t) ↔ Reach b.links t x) × Exact (entered b (deletion t)) es

-- HISTORY: who is alive, by the events alone

abbrev pub Makes : Event → Type 0
Makes atom_made = Unit {0}
Makes (plan_made js) = Unit {0}
Makes (subgoal_made k) = Unit {0}
Makes (deletion t) = ⊥

-- the ids that are given along the events, in order
abbrev pub ids_given : Graph → List Event → List ℕ
ids_given g [] = []
ids_given g (atom_made ∷ es) = g.next ∷ ids_given (change g atom_made) es
ids_given g (plan_made js ∷ es) = g.next ∷ ids_given (change g (plan_made js)) es
ids_given g (subgoal_made k ∷ es) = g.next ∷ ids_given (change g (subgoal_made k)) es
ids_given g (deletion t ∷ es) = ids_given (change g (deletion t)) es

-- no deletion among the events, wherever it stands, has a target that leads to x along the links of that moment
abbrev pub Spared : Graph → List Event → ℕ → Type 0
Spared g es x = (before : List Event) (t : ℕ) (after : List Event) → es ≡ before ++ deletion t ∷ after → ¬ Reach (links (changes g before).plans) t x

-- x was made by one of the events, and no later deletion led to it
pub record Born (g : Graph) (es : List Event) (x : ℕ) : Type 0 where
  pub before : List Event
  pub event : Event
  pub after : List Event
  pub stands : es ≡ before ++ event ∷ after
  pub makes : Makes event
  pub gets : x ≡ (changes g before).next
  pub spared : Spared (change (changes g before) event) after x
