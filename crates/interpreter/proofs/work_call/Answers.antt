use native.Mathlib.Omega.{arith}
use Rattle.interpreter.proofs.Words.{of_sense, of_step, of_answer, of_delete}
use Rattle.interpreter.proofs.Replies.{plain}
use Rattle.interpreter.proofs.work_call.Goals as goal

pub returns-in-1 : goal.returns-in-1
returns-in-1 c = rw (of_sense _ _ _ _ c.in-1.is) (plain _ _ _ c.sense.ensures.result_value)

pub returns-in-2 : goal.returns-in-2
returns-in-2 c = rw (of_step _ _ _ _ c.in-2.is) c.stepped.ensures

pub returns-in-3 : goal.returns-in-3
returns-in-3 c = rw (of_answer _ _ _ _ c.in-3.is) (plain _ _ _ c.answer.ensures.result_value)

pub returns-in_default : goal.returns-in_default
returns-in_default c = rw (of_delete _ c.args.kind _ _ (λ z. omega arith) (λ z. omega arith) (λ z. omega arith)) (plain _ _ _ c.delete.ensures.result_value)
