-- `demands` returns what it is given; the claims that it promises are theorems of the files beside this folder.
use Rattle.program_laws.proofs.Places.{loads_rightly}
use Rattle.demands.proofs.DemandOne.{demand_one}
use Rattle.demands.proofs.DemandTwo.{demand_two}
use Rattle.demands.proofs.Calls.{demand_three, keeps_well_formed}
use Rattle.demands.proofs.Runs.{run_is_its_steps}
use Rattle.demands.proofs.demands.Goals as goal

pub returns : goal.returns
returns c = record {
  one = demand_one loads_rightly;
  two = demand_two;
  three = demand_three;
  well_formed = keeps_well_formed;
  run = run_is_its_steps;
}
