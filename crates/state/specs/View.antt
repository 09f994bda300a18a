-- What the words and the scalars of a configuration say.
use Rattle.std.specs.Prelude.{List, [], ◌∷◌, map, ℕ, ◌+◌, ◌*◌, ◌<◌, ◌≤◌, eqb, leb, take, drop, get_or, set, if◌then◌else◌}
use Rattle.lists.specs.Lists.{Pairs}
use Rattle.lists.specs.Tables.{tabulate, trimmed}
use Rattle.table.specs.Rows.{row}
use Rattle.model.specs.declared.Atom.{Atom}
use Rattle.model.specs.Configuration.{Plan, Config, most_atoms, most_plans, last_next}
use Rattle.model.specs.Graph.{Sound}
use Rattle.model.specs.Deletion.{graph}
use Rattle.state.specs.declared.Scalars.{Scalars}
use Rattle.state.specs.declared.Plan as Declared

-- a plan's eighteen words: id set rule left flags subgoal, four justifications (rising, then zeros), eight values
abbrev pub plan_of : List ℕ → Plan
plan_of r = record {
  id = get_or r 0 0;
  set = get_or r 1 0;
  rule = get_or r 2 0;
  values = take 8 (drop 10 r);
  left = get_or r 3 0;
  justifications = trimmed (take 4 (drop 6 r));
  subgoal = get_or r 5 0;
  flags = get_or r 4 0;
}

-- a plan by value, with zeros behind its justifications
abbrev pub plan_by_value : Declared.Plan → Plan
plan_by_value q = record {
  id = q.id;
  set = q.set;
  rule = q.rule;
  values = q.values;
  left = q.left;
  justifications = trimmed q.justifications;
  subgoal = q.subgoal;
  flags = q.flags;
}

-- where each column of the atoms begins, behind that of the ids; and where the plans begin
abbrev pub atom_p : ℕ
atom_p = 256

abbrev pub atom_a : ℕ
atom_a = 512

abbrev pub atom_b : ℕ
atom_b = 768

abbrev pub atom_cycle : ℕ
atom_cycle = 1024

abbrev pub plans_at : ℕ
plans_at = 1280

-- atoms stand by columns
unfoldable pub atom_at : List ℕ → ℕ → Atom
atom_at words k = record {
  id = get_or words k 0;
  p = get_or words (atom_p + k) 0;
  a = get_or words (atom_a + k) 0;
  b = get_or words (atom_b + k) 0;
  cycle = get_or words (atom_cycle + k) 0;
}

unfoldable pub plan_at : List ℕ → ℕ → Plan
plan_at words k = plan_of (row 18 (drop plans_at words) k)

-- As many as the count says, also where it is too high: such a configuration is seen with more atoms or plans than may live, so
-- that the model refuses it too.
abbrev pub atoms_of : ℕ → List ℕ → List Atom
atoms_of n words = tabulate n (atom_at words)

abbrev pub plans_of : ℕ → List ℕ → List Plan
plans_of n words = tabulate n (plan_at words)

abbrev pub config_of : List ℕ → Scalars → Config
config_of words s = record {
  atoms = atoms_of s.atoms words;
  plans = plans_of s.plans words;
  phase = s.phase;
  cycle = s.cycle;
  next = s.next;
  waiting = s.waiting;
}

abbrev pub atom_ids_of : ℕ → List ℕ → List ℕ
atom_ids_of n words = map (λ (x : Atom). x.id) (atoms_of n words)

abbrev pub plan_ids_of : ℕ → List ℕ → List ℕ
plan_ids_of n words = map (λ (q : Plan). q.id) (plans_of n words)

-- ids rise
abbrev pub AtomsRise : ℕ → List ℕ → Type 0
AtomsRise n words = Pairs (λ (x y : Atom). x.id < y.id) (atoms_of n words)

abbrev pub PlansRise : ℕ → List ℕ → Type 0
PlansRise n words = Pairs (λ (p q : Plan). p.id < q.id) (plans_of n words)

-- the words hold a sound configuration within its limits
pub record SoundWords (words : List ℕ) (s : Scalars) : Type 0 where
  pub few_atoms : s.atoms ≤ 256
  pub few_plans : s.plans ≤ 64
  pub sound : Sound (graph (config_of words s))

-- plan k is one of the live plans, whose ids rise
pub record LivePlan (words : List ℕ) (s : Scalars) (k : ℕ) : Type 0 where
  pub few_atoms : s.atoms ≤ 256
  pub few_plans : s.plans ≤ 64
  pub there : k < s.plans
  pub rise : PlansRise s.plans words

-- the scalars after one more was made, so that these live; after an atom, after a plan
abbrev pub one_more : ℕ → ℕ → Scalars → Scalars
one_more n m s = record s { next = s.next + 1; atoms = n; plans = m }

abbrev pub atom_counted : Scalars → Scalars
atom_counted s = one_more (s.atoms + 1) s.plans s

abbrev pub plan_counted : Scalars → Scalars
plan_counted s = one_more s.atoms (s.plans + 1) s

-- the scalars with another phase, with another plan waiting
abbrev pub phase_put : ℕ → Scalars → Scalars
phase_put n s = record s { phase = n }

abbrev pub cycle_put : Scalars → Scalars
cycle_put s = record s { phase = 0; cycle = s.cycle + 1 }

abbrev pub waiting_put : ℕ → Scalars → Scalars
waiting_put n s = record s { waiting = n }

-- the scalars with other counts
abbrev pub counts_put : ℕ → ℕ → Scalars → Scalars
counts_put n m s = record s { atoms = n; plans = m }

-- a word of a plan, and the words with another in its place
abbrev pub plan_word : List ℕ → ℕ → ℕ → ℕ
plan_word words k column = get_or (row 18 (drop plans_at words) k) column 0

unfoldable pub with_plan_word : List ℕ → ℕ → ℕ → ℕ → List ℕ
with_plan_word words k column v = set words (plans_at + (k * 18 + column)) v

-- the words of a plan by value
unfoldable pub plan_words : Declared.Plan → List ℕ
plan_words q =
    let js = q.justifications in
    let vs = q.values in
    q.id ∷ q.set ∷ q.rule ∷ q.left ∷ q.flags ∷ q.subgoal ∷ get_or js 0 0 ∷ get_or js 1 0 ∷ get_or js 2 0 ∷ get_or js 3 0 ∷
    get_or vs 0 0 ∷ get_or vs 1 0 ∷ get_or vs 2 0 ∷ get_or vs 3 0 ∷ get_or vs 4 0 ∷ get_or vs 5 0 ∷ get_or vs 6 0 ∷ get_or vs 7 0 ∷ []

-- "8 before 9 or 10": the refusal that one more meets where n live, by that of the most that may; or 0
abbrev pub bar : ℕ → ℕ → ℕ → ℕ → ℕ
bar most full next n = if eqb next last_next then 8 else if leb most n then full else 0

-- of one more atom, of one more plan
abbrev pub atom_bar : ℕ → ℕ → ℕ
atom_bar = bar most_atoms 9

abbrev pub plan_bar : ℕ → ℕ → ℕ
plan_bar = bar most_plans 10
