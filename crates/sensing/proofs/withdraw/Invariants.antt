-- What is left of the withdrawal is that of the atoms from k on.
use Prim.Native.Nat.{◌+◌, ◌-◌, ◌≤◌}
use Rattle.state.specs.View.{config_of}
use Rattle.sensing.proofs.Withdrawals.{Withdrawing}
use Rattle.sensing.proofs.withdraw.Given as goal

abbrev pub invariant-loop-k : goal.invariant-loop-k
invariant-loop-k l = Withdrawing l.p l.a l.b (config_of l.initial.words l.initial.s) (l.initial.s.atoms + l.initial.s.plans) l.words l.s l.gone l.k × (l.initial.s.atoms + l.initial.s.plans ≤ 320)

abbrev pub decreases-loop-k : goal.decreases-loop-k
decreases-loop-k l = l.s.atoms - l.k
