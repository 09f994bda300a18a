-- What a host sees of a call: the number that it gives, the configuration in the lent words, the report.
use Rattle.std.specs.Prelude.{◌≡◌, Bool, true, ◌&&◌, List, [], ◌∷◌, ℕ, ◌+◌, ◌*◌, eqb, length, if◌then◌else◌}
use Rattle.model.specs.declared.Row.{Row}
use Rattle.model.specs.Configuration.{Config}
use Rattle.model.specs.WellFormed.{given_well}
use Rattle.model.specs.Load.{load}
use Rattle.model.specs.Log.{Answer}
use Rattle.model.specs.Run.{RunOutcome, run_refused, ran, run}
use Rattle.model.specs.Claims.{Call, reply}
use Rattle.program.specs.Loading as Loading
use Rattle.program.specs.Loading.{loading}
use Rattle.loading.specs.Starting.{started_from}
use Rattle.state.specs.View.{config_of}
use Rattle.in_place.specs.Given.{given_rows, Admitted}
use Rattle.host.specs.Layout.{scalars_of, sized, padded, report_of, run_report}

-- slices of other lengths are no configuration: one that no program has stands for them, so that every call says 1
abbrev pub no_config : Config
no_config = record { phase = 0; cycle = 65536; next = 1; waiting = 0; atoms = []; plans = [] }

unfoldable pub held : List ℕ → List ℕ → List ℕ → Config
held words scalars report = if sized words scalars report then config_of words (scalars_of scalars) else no_config

-- 0 for the lengths of a configuration and a well-formed pair, else 1
unfoldable pub checked : List ℕ → List ℕ → List ℕ → ℕ
checked program words scalars =
    if (eqb (length words) 2432 && eqb (length scalars) 6) && given_well (given_rows program) (config_of words (scalars_of scalars)) then 0 else 1

-- what a load or an accepted call leaves in the lent slices
pub record Trusted (program words scalars report : List ℕ) : Type 0 where
  pub lengths : sized words scalars report ≡ true
  pub well : Admitted program words (scalars_of scalars)

pub record Seen : Type 0 where
  pub number : ℕ
  pub config : Config
  pub report : List ℕ

abbrev pub seen : ℕ → List ℕ → List ℕ → List ℕ → Seen
seen number words scalars report = record { number = number; config = held words scalars report; report = report }

-- what is there after a call with this number: the new if it was accepted, else what was there
unfoldable pub settled : ℕ → List ℕ → List ℕ → List ℕ
settled number before after = if eqb number 0 then after else before

-- the answer of the rules
unfoldable pub answer_seen : Answer → List ℕ → Seen
answer_seen a report = record { number = a.number; config = a.config; report = settled a.number report (report_of a.made a.gone a.did) }

abbrev pub reply_seen : Call → List ℕ → List ℕ → List ℕ → Seen
reply_seen k words scalars report = answer_seen (reply k (held words scalars report)) report

unfoldable pub outcome_seen : RunOutcome → Config → List ℕ → Seen
outcome_seen (run_refused n) c report = record { number = n; config = c; report = report }
outcome_seen (ran r) c report = record { number = 0; config = r.config; report = run_report r.made r.gone r.steps r.stop }

abbrev pub run_seen : List Row → ℕ → List ℕ → List ℕ → List ℕ → Seen
run_seen rows limit words scalars report = outcome_seen (run rows (held words scalars report) limit) (held words scalars report) report

-- a load leaves the program too; its number is that of the refusal and, 2^32 times, the line
pub record LoadSeen : Type 0 where
  pub seen_of : Seen
  pub program : List ℕ

abbrev pub rows_report : ℕ → List ℕ
rows_report rows = padded 8 (rows ∷ [])

unfoldable pub loaded_as : Loading.Answer → Config → List ℕ → LoadSeen
loaded_as a c report = record {
  seen_of = record { number = a.number + a.line * 4294967296; config = c; report = settled a.number report (rows_report a.rows) };
  program = a.program;
}

unfoldable pub load_seen : List ℕ → List ℕ → List ℕ → List ℕ → List ℕ → LoadSeen
load_seen text program words scalars report =
    if eqb (length program) 4096 && sized words scalars report
    then loaded_as (loading text program) (started_from (held words scalars report) (load text)) report
    else record { seen_of = record { number = 1; config = held words scalars report; report = report }; program = program }
