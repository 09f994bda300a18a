use mathlib.Core.Path.{sym}
use Prim.Native.Nat.{◌+◌}
use Rattle.interpreter.proofs.Words.{size_told, too_few}
use Rattle.interpreter.proofs.call_size.Goals as goal

pub returns-then-words-lt3 : goal.returns-then-words-lt3
returns-then-words-lt3 c = sym (too_few _ c.if-words-lt3.true)

pub returns : goal.returns
returns c =
    let own = c.own_words in
    let readings = c.reading_words in
    size_told c.args.words.now _ _ (λ i. 3 + own.ensures i + readings.ensures i) c.then_some.ensures
