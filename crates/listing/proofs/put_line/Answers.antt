use mathlib.Core.Path.{◌≡◌, sym, ap, ◌∙◌}
use mathlib.Core.List.{List, [], ◌∷◌, ◌++◌, append-nil, append_assoc}
use Prim.Native.Nat.{ℕ, ◌<◌}
use native.Mathlib.Omega.{arith}
use lib.ListN.{get_or}
use borrow.Author.Rules.{rules}
use Rattle.model.specs.Render.{decimal}
use Rattle.listing.proofs.Lines.{front, spaced_number, front_none, front_more, six}
use Rattle.listing.proofs.put_line.Goals as goal

in_six : {k n : ℕ} → k < 5 → n ≡ 6 → k < n
in_six h e = omega arith

pub loop-k-init : goal.loop-k-init
loop-k-init c = (rw front_none (sym (append-nil _)), omega arith)

pub loop-k-preserved : goal.loop-k-preserved
loop-k-preserved c =
    let a = c.args in
    let n = c.put_number.ensures in (
      n.puts ∙ ap (λ (l : List ℕ). l ++ spaced_number (get_or a.numbers c.loop-k.k 0)) c.loop-k.invariant.0 ∙ append_assoc a.out.now.items (front c.loop-k.k a.numbers) (spaced_number (get_or a.numbers c.loop-k.k 0))
          ∙ ap (λ (l : List ℕ). a.out.now.items ++ l) (sym (front_more c.loop-k.k a.numbers (in_six c.loop-k-test.true (search rules)))),
      omega (arith, n.short),
    )

pub returns : goal.returns
returns c =
    let a = c.args in
    let n = c.put_number-2.ensures in
    let last = decimal 5 (get_or a.numbers 5 0) ++ (10 ∷ []) in
    let e : c.loop-k.k ≡ 5 = omega (arith, c.loop-k-test.false) in
    let w = rw e at c.loop-k.invariant.0 in
    record {
      puts = n.puts ∙ ap (λ (l : List ℕ). l ++ last) w ∙ append_assoc a.out.now.items (front 5 a.numbers) last ∙ ap (λ (l : List ℕ). a.out.now.items ++ l) (six a.numbers (search rules));
      short = omega (arith, n.short, c.loop-k.invariant.1);
    }
