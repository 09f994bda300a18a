-- What matching means, with no search: rows hold under values, as a relation. The law that the search finds exactly this, and
-- the first in the paper's order, is `SearchExact` of specs/Claims.
use Rattle.std.specs.Prelude.{◌≡◌, true, false, ◌⊎◌, ◌↔◌, ◌≢◌, List, [], ◌∷◌, ◌++◌, ℕ, ◌+◌, ◌<◌, set}
use Rattle.lists.specs.Lists.{In}
use Rattle.model.specs.Program.{Row, any?, variable?, constant?, constant, body, rules_of, is_object}
use Rattle.model.specs.Configuration.{Atom, Plan, Config, no_value, place, value_of, has_flag}
use Rattle.model.specs.Matching.{Candidate, candidate, Found, nothing_found, negation, rule_rows}

-- "Op + 1 is the negation."
abbrev pub Asks : ℕ → Row → Type 0
Asks n r = (r.op ≡ n) ⊎ (r.op ≡ n + 1)

-- "Queries: 1 atom (i, p, a, b); 3 plan (i, a set, b rule); 5 remainder (i, a steps left); 7 justification (i plan, a atom);
-- 9 subgoal (i plan, a atom); 11 state (i, a a constant flag 1 to 16); 13 cycle (a)." k is what c shows the row.
pub data Shows (c : Config) (r : Row) (k : Candidate) : Type 0 where
  atom : Asks 1 r → (x : Atom) → In x c.atoms → x.p ≡ r.p → k ≡ candidate x.id x.a x.b → Shows c r k
  plan : Asks 3 r → (q : Plan) → In q c.plans → k ≡ candidate q.id q.set q.rule → Shows c r k
  remainder : Asks 5 r → (q : Plan) → In q c.plans → k ≡ candidate q.id q.left 0 → Shows c r k
  justification : Asks 7 r → (q : Plan) → In q c.plans → (j : ℕ) → In j q.justifications → k ≡ candidate q.id j 0 → Shows c r k
  subgoal : Asks 9 r → (q : Plan) → In q c.plans → q.subgoal ≢ 0 → k ≡ candidate q.id q.subgoal 0 → Shows c r k
  state : Asks 11 r → (q : Plan) → In q c.plans → has_flag (constant r.a) q.flags ≡ true → k ≡ candidate q.id (constant r.a) 0 → Shows c r k
  -- 13 and 14, the only other ops that a query has
  cycle : (r.op ≡ 0) ⊎ (12 < r.op) → k ≡ candidate 0 c.cycle 0 → Shows c r k

-- "A variable without a value takes the candidate's; one with a value must equal it." Operand x meets n: v becomes w.
pub data Meets (x n : ℕ) (v w : List ℕ) : Type 0 where
  by_any : any? x ≡ true → w ≡ v → Meets x n v w
  by_constant : constant? x ≡ true → constant x ≡ n → w ≡ v → Meets x n v w
  by_taking : variable? x ≡ true → value_of v x ≡ no_value → w ≡ set v (place x) n → Meets x n v w
  by_value : variable? x ≡ true → value_of v x ≢ no_value → value_of v x ≡ n → w ≡ v → Meets x n v w

-- the candidate fits the row: v becomes w
pub record Fits (r : Row) (k : Candidate) (v w : List ℕ) : Type 0 where
  pub after_i : List ℕ
  pub after_a : List ℕ
  pub meets_i : Meets r.i k.i v after_i
  pub meets_a : Meets r.a k.a after_i after_a
  pub meets_b : Meets r.b k.b after_a w

-- "A negation holds when no candidate fits"
abbrev pub NoneFits : Config → Row → List ℕ → Type 0
NoneFits c r v = (k : Candidate) → Shows c r k → (w : List ℕ) → ¬ Fits r k v w

-- "ids its reasons matched": those of part 1, row by row
abbrev pub Notes : Row → ℕ → List ℕ → List ℕ → Type 0
Notes r i before after = ((r.part ≡ 1) × (after ≡ before ++ (i ∷ []))) ⊎ ((r.part ≢ 1) × (after ≡ before))

-- a query's row takes one of its candidates, k: f becomes g
pub record Takes (c : Config) (r : Row) (k : Candidate) (f g : Found) : Type 0 where
  pub among : Shows c r k
  pub fits : Fits r k f.values g.values
  pub notes : Notes r k.i f.matched g.matched

-- the rows hold, left to right, with the candidates ks for the queries among them: f becomes g
abbrev pub Solves : Config → List Row → Found → List Candidate → Found → Type 0
Solves c [] f ks g = (ks ≡ []) × (g ≡ f)
Solves c (r ∷ rs) f ks g =
    ((negation r ≡ true) × NoneFits c r f.values × Solves c rs f ks g)
    ⊎ ((negation r ≡ false) × ((k : Candidate) × (h : Found) × (ls : List Candidate) × (ks ≡ k ∷ ls) × Takes c r k f h × Solves c rs h ls g))

-- "the same set and rule, the same set of justifications (ids its reasons matched, each once) and the same values of the variables
-- in its body": what rule n of set s found, and the plan q
pub record SamePlan (program : List Row) (s n : ℕ) (g : Found) (q : Plan) : Type 0 where
  pub same_set : q.set ≡ s
  pub same_rule : q.rule ≡ n
  pub same_justifications : (j : ℕ) → In j q.justifications ↔ In j g.matched
  pub same_values : (r : Row) → In r (body program s n) → (x : ℕ) → In x (r.i ∷ r.a ∷ r.b ∷ []) → variable? x ≡ true → value_of q.values x ≡ value_of g.values x

-- "An object rule's match counts only if no live plan has the same .."
abbrev pub Counts : List Row → Config → ℕ → ℕ → Found → Type 0
Counts program c s n g = is_object program s n ≡ true → (q : Plan) → In q c.plans → ¬ SamePlan program s n g q

-- a match of rule n of set s that counts
pub record Match (program : List Row) (c : Config) (s n : ℕ) (ks : List Candidate) (g : Found) : Type 0 where
  pub solves : Solves c (rule_rows program s n) nothing_found ks g
  pub counting : Counts program c s n g

abbrev pub HasMatch : List Row → Config → ℕ → ℕ → Type 0
HasMatch program c s n = (ks : List Candidate) × (g : Found) × Match program c s n ks g

-- "candidates in rising id (for 7: plan, then atom)"
abbrev pub Earlier : Candidate → Candidate → Type 0
Earlier k l = (k.i < l.i) ⊎ ((k.i ≡ l.i) × (k.a < l.a))

-- the order of matches: the first row with another candidate decides
abbrev pub NotAfter : List Candidate → List Candidate → Type 0
NotAfter [] ls = Unit {0}
NotAfter (k ∷ ks) [] = ⊥
NotAfter (k ∷ ks) (l ∷ ls) = Earlier k l ⊎ ((k ≡ l) × NotAfter ks ls)

-- "the first complete match counts": g is found by it, and no other match stands before it
abbrev pub FirstMatch : List Row → Config → ℕ → ℕ → Found → Type 0
FirstMatch program c s n g = (ks : List Candidate) × Match program c s n ks g × ((ls : List Candidate) (h : Found) → Match program c s n ls h → NotAfter ks ls)

-- the rule is the first of its set with a match
pub record FirstWithMatch (program : List Row) (c : Config) (s n : ℕ) : Type 0 where
  pub in_set : In n (rules_of program s)
  pub has : HasMatch program c s n
  pub none_before : (m : ℕ) → In m (rules_of program s) → m < n → ¬ HasMatch program c s m
