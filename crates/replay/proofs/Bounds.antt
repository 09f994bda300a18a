-- Why what the program reads and writes stands within its buffers.
use mathlib.Core.Path.{◌≡◌, ap, sym, ◌∙◌}
use mathlib.Core.Bool.{true}
use mathlib.Core.List.{List, [], ◌∷◌}
use Prim.Native.Nat.{ℕ, ◌+◌, ◌≤◌}
use native.Mathlib.Omega.{arith}
use lib.ListN.{length, drop, length-drop}
use Rattle.std.specs.Prelude.{Ok}
use Rattle.script.specs.Reading.{spaces_in}
use Rattle.loading.specs.Starting.{Start, seen, starting}
use Rattle.program_laws.proofs.Lawful.{lawful}
use Rattle.program_laws.proofs.WellFormed.{loads_well_formed}
use Rattle.program.proofs.Accepts.{Accepts, number_0}
use Rattle.program.specs.Loading as Loading
use Rattle.state.specs.declared.Scalars.{Scalars}
use Rattle.state.specs.View.{config_of}
use Rattle.model.specs.Configuration as Configuration
use Rattle.listing.specs.Listing.{Listable}
use Rattle.listing.proofs.Well.{listable}
use Rattle.in_place.specs.Given.{admitted}
use Rattle.in_place.proofs.Outcomes.{given_admitted}

-- an accepted load has at most 512 rows
pub few_loaded : (text lent : List ℕ) (c d : Configuration.Config) (n : ℕ) (after : List ℕ) → seen d (Ok n) after ≡ starting text lent c → n ≤ 512
unfolding seen starting Loading.seen
few_loaded text lent c d n after e =
    let a : Accepts text lent = number_0 text lent (sym (ap (λ (s : Start). s.answer.number) e)) in
    let l = lawful a.rows (loads_well_formed text a.rows a.loads) in
    omega (arith, l.few_rows, a.counts, ap (λ (s : Start). s.answer.rows) e)

-- what is admitted can be listed
pub admitted_listable : (program words : List ℕ) (s : Scalars) → admitted program (config_of words s) ≡ true → Listable words s
admitted_listable program words s a = listable program words s (given_admitted program (config_of words s) a)

-- where a space follows, the line goes on
some_space : (l : List ℕ) → spaces_in l ≡ 1 → 1 ≤ length l
unfolding spaces_in
some_space [] e = absurd (omega (arith, e))
some_space (c ∷ l) e = omega arith

pub space_follows : (line : List ℕ) (end n : ℕ) → n ≡ spaces_in (drop end line) → n ≡ 1 → end + 1 ≤ length line
space_follows line end n e o =
    let h = some_space (drop end line) (sym e ∙ o) in
    let l = length-drop end line in
    omega (arith, h, l)
