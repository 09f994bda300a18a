-- The facts of the tables, one over all rows of each.
use Rattle.std.specs.Prelude.{◌≡◌, true}
use Rattle.lists.specs.Lists.{every}
use Rattle.model.specs.Play.{holds}
use Rattle.model.specs.CaseTools.{load_holds, handed_holds, dated_holds, counted_holds, printed_holds}
use Rattle.model.specs.Keys.{keys}
use Rattle.model.specs.LoadCases.{layout, order}
use Rattle.model.specs.RowCases as RowCases
use Rattle.model.specs.FormedCases as FormedCases
use Rattle.model.specs.MatchCases as MatchCases
use Rattle.model.specs.CallCases.{sensing, firing, executing, deleting, dates}
use Rattle.model.specs.RunCases as RunCases

-- "Those with ★ are established by proof about the rules, gathered in one table with one fact over all rows"
abbrev pub KeysHold : Type 0
KeysHold = every holds keys ≡ true

-- the decisions, case by case
pub record CasesHold : Type 0 where
  pub layout_of_texts : every load_holds layout ≡ true
  pub order_of_tests : every load_holds order ≡ true
  pub query_rows : every load_holds RowCases.queries ≡ true
  pub body_rows : every load_holds RowCases.bodies ≡ true
  pub unused_columns : every load_holds RowCases.unused ≡ true
  pub limits_of_configurations : every handed_holds FormedCases.limits ≡ true
  pub clauses_of_configurations : every handed_holds FormedCases.clauses ≡ true
  pub under_other_programs : every holds FormedCases.other_programs ≡ true
  pub values_of_matches : every holds MatchCases.values ≡ true
  pub candidates_of_queries : every holds MatchCases.queries ≡ true
  pub choice_of_matches : every holds MatchCases.choices ≡ true
  pub of_sense : every holds sensing ≡ true
  pub of_firing : every holds firing ≡ true
  pub of_exec : every holds executing ≡ true
  pub of_deletion : every holds deleting ≡ true
  pub cycles_of_atoms : every dated_holds dates ≡ true
  pub of_run : every holds RunCases.running ≡ true
  pub limits_of_calls : every counted_holds RunCases.limits ≡ true
  pub of_keyrun : every printed_holds RunCases.keyruns ≡ true
