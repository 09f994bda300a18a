-- Every row of the tables holds, by computation.
use mathlib.Core.Path.{refl}
use Rattle.model.specs.CaseTools.{opened}
use Rattle.model.specs.Tables.{KeysHold, CasesHold}

pub keys_hold : KeysHold
unfolding opened
keys_hold = refl

pub cases_hold : CasesHold
unfolding opened
cases_hold = record {
  layout_of_texts = refl;
  order_of_tests = refl;
  query_rows = refl;
  body_rows = refl;
  unused_columns = refl;
  limits_of_configurations = refl;
  clauses_of_configurations = refl;
  under_other_programs = refl;
  values_of_matches = refl;
  candidates_of_queries = refl;
  choice_of_matches = refl;
  of_sense = refl;
  of_firing = refl;
  of_exec = refl;
  of_deletion = refl;
  cycles_of_atoms = refl;
  of_run = refl;
  limits_of_calls = refl;
  of_keyrun = refl;
}
