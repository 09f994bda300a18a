-- The kind of candidate is the row's.
use borrow.Author.Rules.{rules}
use Rattle.queries.specs.Answers.{candidate_at}
use Rattle.queries.proofs.Skips.{skip_as, skip_none, skipped_by}
use Rattle.queries.proofs.candidates.skip.Goals as goal

pub returns-in-Some : goal.returns-in-Some
returns-in-Some c = rw c.in-Some.is (c.skip_wanted.ensures c.args.a c.args.b)

pub returns-then-op : goal.returns-then-op
unfolding candidate_at
returns-then-op c = skip_as (c.skip_atoms.ensures _) (λ k. rw c.if-op.true)

pub returns-then-op-2 : goal.returns-then-op-2
unfolding candidate_at
returns-then-op-2 c = let e = c.skip_by.ensures in skipped_by e.on e.missed (λ k x p. rw (c.if-op.false, c.if-op-2.true) (search rules))

pub returns-then-op-3 : goal.returns-then-op-3
unfolding candidate_at
returns-then-op-3 c = let e = c.skip_by-then-op-3.ensures in skipped_by e.on e.missed (λ k x p. rw (c.if-op.false, c.if-op-2.false, c.if-op-3.true) (search rules))

pub returns-then-op-4 : goal.returns-then-op-4
unfolding candidate_at
returns-then-op-4 c = let a = c.args in skip_as (c.skip_justifications.ensures a.b) (λ k. rw (c.if-op.false, c.if-op-2.false, c.if-op-3.false, c.if-op-4.true))

pub returns-then-op-5 : goal.returns-then-op-5
unfolding candidate_at
returns-then-op-5 c = let e = c.skip_by-then-op-5.ensures in skipped_by e.on e.missed (λ k x p. rw (c.if-op.false, c.if-op-2.false, c.if-op-3.false, c.if-op-4.false, c.if-op-5.true) (search rules))

pub returns-then-op-6 : goal.returns-then-op-6
unfolding candidate_at
returns-then-op-6 c = let e = c.skip_by-then-op-6.ensures in skipped_by e.on e.missed (λ k x p. rw (c.if-op.false, c.if-op-2.false, c.if-op-3.false, c.if-op-4.false, c.if-op-5.false, c.if-op-6.true) (search rules))

pub returns : goal.returns
returns c = skip_none _ _ _ _ _
