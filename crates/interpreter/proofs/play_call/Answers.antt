use mathlib.Core.Path.{ap}
use mathlib.Core.List.{[]}
use Prim.Native.Nat.{◌+◌}
use native.Mathlib.Omega.{arith}
use Rattle.table.proofs.Parts.{rest_is}
use Rattle.interpreter.proofs.Words.{sized, readings_fit, with_loaded, with_own}
use Rattle.interpreter.proofs.play_call.Goals as goal

pub work_call-requires : goal.work_call-requires
work_call-requires c =
    let words = c.args.words.now in
    let own = c.own_words-end in
    readings_fit words (ap (λ m. 3 + m) own.ensures) (rest_is (3 + own.result) words []) (sized words c.requires)

pub returns-then-own-eq0 : goal.returns-then-own-eq0
returns-then-own-eq0 c =
    let words = c.args.words.now in
    let own = c.own_words-end in
    rw (with_loaded words (ap (λ m. 3 + m) own.ensures) (rest_is (3 + own.result) words []) _ c.if-own-eq0.true) c.work_call.ensures

pub work_call-requires-2 : goal.work_call-requires-2
work_call-requires-2 c =
    let words = c.args.words.now in
    let own = c.own_words-end in
    readings_fit words (ap (λ m. 3 + m) own.ensures) (rest_is (3 + own.result) words []) (sized words c.requires)

pub returns : goal.returns
returns c =
    let words = c.args.words.now in
    let own = c.own_words-end in
    rw (with_own words (ap (λ m. 3 + m) own.ensures) (rest_is (3 + own.result) words []) _ c.if-own-eq0.false) c.work_call-2.ensures

pub bounds-words-0 : goal.bounds-words-0
bounds-words-0 c = omega (arith, (sized _ c.requires).fits)

pub bounds-words-1 : goal.bounds-words-1
bounds-words-1 c = omega (arith, (sized _ c.requires).fits)

pub bounds-words-2 : goal.bounds-words-2
bounds-words-2 c = omega (arith, (sized _ c.requires).fits)

pub slice_bounds-rest-count : goal.slice_bounds-rest-count
slice_bounds-rest-count c = omega (arith, (sized _ c.requires).fits)

pub slice_bounds-rest-start : goal.slice_bounds-rest-start
slice_bounds-rest-start c = omega (arith, (sized _ c.requires).fits)

pub slice_bounds-work_call-end : goal.slice_bounds-work_call-end
slice_bounds-work_call-end c = omega (arith, (sized _ c.requires).fits)
