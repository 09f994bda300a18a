-- What an action asks for, and what it leaves, whatever the log holds already.
use Rattle.std.specs.Prelude.{◌≡◌, false, ◌⊎◌, List, ℕ, ◌+◌, ◌≤◌, set, Option, None, Result, IsSomeAnd, IsOkAnd, IsErrAnd, if◌then◌else◌}
use Rattle.model.specs.declared.refusal.Refusal.{Refusal}
use Rattle.model.specs.Refusals.{number_of}
use Rattle.lists.specs.Lists.{In}
use Rattle.model.specs.declared.Row.{Row}
use Rattle.model.specs.Program.{variable?, constant, body}
use Rattle.model.specs.Configuration.{Plan, Config, last_next, place}
use Rattle.model.specs.Deletion.{graph, remove}
use Rattle.model.specs.Events.{deletion, gone_by}
use Rattle.model.specs.Log.{nothing, fired, Log, begin, report, Outcome, refused, accepted}
use Rattle.model.specs.Calls.{Action, acted, stopped, barred, act, act_all}
use Rattle.program.specs.Rows.{rows_of}
use Rattle.matching.specs.declared.Rule.{Rule}
use Rattle.matching.specs.Rules.{Located}
use Rattle.state.specs.declared.Scalars.{Scalars}
use Rattle.state.specs.View.{config_of, SoundWords}
use Rattle.stepping.specs.declared.Made.{Made}
use Rattle.stepping.specs.declared.Progress.{Progress}
use Rattle.stepping.specs.Steps.{made_of, did_of, WellWords}
use Rattle.acting.specs.declared.Acted.{Acted}

-- "its id going to variable i"
unfoldable pub with_value : List ℕ → ℕ → ℕ → List ℕ
with_value values x id = if variable? x then set values (place x) id else values

-- the words hold a configuration that actions can change
pub record Workable (words : List ℕ) (s : Scalars) : Type 0 where
  pub whole : SoundWords words s
  pub next_fits : s.next ≤ last_next
  pub flags_fit : (q : Plan) → In q (config_of words s).plans → q.flags ≤ 65535

-- "23 set and 24 clear flag a (constant 1 to 16)"
unfoldable pub FlagNumber : Row → Type 0
FlagNumber r = (r.op ≡ 23) ⊎ (r.op ≡ 24) → (1 ≤ constant r.a) × (constant r.a ≤ 16)

-- what an action that is done leaves, and tells of the log
abbrev pub Done : ℕ → ℕ → Log → List ℕ → Acted → List ℕ → Log → Type 0
Done s n L words x values M = (values ≡ x.values) × (M.config ≡ config_of words x.scalars) × (M.gone ≡ L.gone + x.gone) × (M.did ≡ fired s n (made_of x.made))

-- what an action that began with the log L and these scalars leaves: none where the actions stop
abbrev pub Leaves : ℕ → ℕ → Log → Scalars → List ℕ → Result (Option Acted) Refusal → Action → Type 0
Leaves s n L lent words r (acted values M) = IsOkAnd r (λ o. IsSomeAnd o (λ x. Done s n L words x values M))
Leaves s n L lent words r stopped = IsOkAnd r (λ o. (o ≡ None) × (L.config ≡ config_of words lent))
Leaves s n L lent words r (barred m) = IsErrAnd r (λ e. m ≡ number_of e)

unfoldable pub Acts : Row → List ℕ → Made → Scalars → List ℕ → List ℕ → Result (Option Acted) Refusal → Type 0
Acts row values made lent before words r =
    (s n : ℕ) (L : Log) → L.config ≡ config_of before lent → L.did ≡ fired s n (made_of made) → Leaves s n L lent words r (act s n row values L)

-- what the deletion of an instance leaves
pub record Deletes (id : ℕ) (values : List ℕ) (made : Made) (c d : Config) (r : Acted) : Type 0 where
  pub left : d ≡ remove id c
  pub told : r ≡ record { scalars = r.scalars; values = values; gone = gone_by (graph c) (deletion id); made = made }

-- a meta rule whose body stands where it says
pub record Fires (program words : List ℕ) (s : Scalars) (rule : Rule) : Type 0 where
  pub well : WellWords program words s
  pub located : Located program rule
  pub meta : rule.object ≡ false

-- the actions of the rule, in order
unfoldable pub meta_work : List ℕ → Config → Rule → List ℕ → Outcome
meta_work program c rule values = act_all rule.set rule.number (body (rows_of program) rule.set rule.number) values (report (fired rule.set rule.number nothing) (begin c))

-- an outcome as the code shows it: what was done and what is left, or why it is refused
abbrev pub Shown : Outcome → List ℕ → Result Progress Refusal → Type 0
Shown (refused n) words r = IsErrAnd r (λ e. n ≡ number_of e)
Shown (accepted L) words r = IsOkAnd r (λ x. (did_of x.did ≡ L.did) × (config_of words x.scalars ≡ L.config) × (x.gone ≡ L.gone))
