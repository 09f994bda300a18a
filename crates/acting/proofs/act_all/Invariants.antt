-- What is left of the actions is the rows from k on, after a log that the words show; each action took 320 instances at most.
use Prim.Native.Nat.{◌-◌, ◌*◌, ◌≤◌}
use Rattle.state.specs.View.{config_of}
use Rattle.acting.specs.Actions.{meta_work}
use Rattle.acting.proofs.Running.{Running}
use Rattle.acting.proofs.act_all.Given as goal

abbrev pub invariant-loop-k : goal.invariant-loop-k
invariant-loop-k l =
    Running (meta_work l.program (config_of l.fn.words l.fn.scalars) l.rule l.fn.values) l.program l.rule.set l.rule.number l.rule.end l.k l.words l.s l.v l.made l.gone × (l.gone ≤ (l.k - l.rule.body) * 320)
