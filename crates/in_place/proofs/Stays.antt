-- What a call leaves is admitted again, and ids are only given out.
use mathlib.Core.Path.{◌≡◌, refl, sym, ap, subst}
use mathlib.Core.Bool.{true}
use mathlib.Core.List.{List}
use Prim.Native.Nat.{ℕ, ◌≤◌}
use native.Mathlib.Omega.{arith}
use Rattle.model.specs.declared.Row.{Row}
use Rattle.model.specs.Configuration.{Config}
use Rattle.model.specs.WellFormed.{given_well}
use Rattle.model.specs.Log.{Answer, Outcome, refused, accepted, answer_of}
use Rattle.model.specs.Run.{Run, ran, run}
use Rattle.model.specs.Calls.{Call, work, program_of, reply}
use Rattle.demands.proofs.Calls.{keeps_well_formed}
use Rattle.demands.proofs.Runs.{ran_keeps}
use Rattle.in_place.specs.Given.{given_rows, admitted}

reply_keeps : (k : Call) (c : Config) → given_well (program_of k) c ≡ true → given_well (program_of k) (reply k c).config ≡ true
unfolding answer_of
reply_keeps k c g = at (work k c) refl
  where
    at : (o : Outcome) → work k c ≡ o → given_well (program_of k) (answer_of c o).config ≡ true
    at (refused n) e = g
    at (accepted L) e = keeps_well_formed.calls_keep k c L e

module _ (program : List ℕ) (c : Config) (a : admitted program c ≡ true) where
  pub stays : (k : Call) → program_of k ≡ given_rows program → (x : Answer) → x ≡ reply k c → admitted program x.config ≡ true
  unfolding admitted
  stays k p x h =
      let before : given_well (program_of k) c ≡ true = subst (λ (rows : List Row). given_well rows c ≡ true) (sym p) a in
      let after : given_well (given_rows program) (reply k c).config ≡ true = subst (λ (rows : List Row). given_well rows (reply k c).config ≡ true) p (reply_keeps k c before) in
      subst (λ (y : Answer). given_well (given_rows program) y.config ≡ true) (sym h) after

-- and what a run leaves
pub run_stays : (program : List ℕ) (c : Config) (n : ℕ) (r : Run) → ran r ≡ run (given_rows program) c n → admitted program r.config ≡ true
unfolding admitted
run_stays program c n r e = ran_keeps (given_rows program) c n r (sym e)

pub rises : (k : Call) (c : Config) (x : Answer) → x ≡ reply k c → c.next ≤ x.config.next
rises k c x e =
    let h = keeps_well_formed.made_rises k c in
    let f : x.config.next ≡ (reply k c).config.next = ap (λ (y : Answer). y.config.next) e in
    omega arith
