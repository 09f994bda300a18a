-- Refusals, and what is known once the program and the configuration are admitted.
use Rattle.std.specs.Prelude.{if◌then◌else◌}
use mathlib.Core.Path.{◌≡◌, refl, sym, ap, ◌∙◌, subst}
use mathlib.Core.Bool.{Bool, true, false, not, ◌&&◌, and-eq-true_iff}
use mathlib.Core.List.{List, [], ◌∷◌}
use Prim.Native.Nat.{ℕ, ◌%◌}
use lib.Dec.{eqb}
use lib.ListN.{length}
use Rattle.lists.specs.Lists.{every}
use Rattle.lists.proofs.Lists.{clash}
use Rattle.model.specs.declared.Row.{Row}
use Rattle.model.specs.Configuration as Configuration
use Rattle.model.specs.Graph.{Sound}
use Rattle.model.specs.Deletion.{graph}
use Rattle.model.specs.Render.{well_formed, in_range}
use Rattle.model.specs.WellFormed.{config_formed, given_well}
use Rattle.model.specs.declared.refusal.Refusal.{Refusal}
use Rattle.model.specs.Refusals.{number_of}
use Rattle.model.specs.Log.{Outcome, refused, unless, answer_of}
use Rattle.model.specs.Calls.{sense, step, answer, delete, Call, to_sense, to_step, to_answer, to_delete, work, program_of, reply}
use native.Mathlib.Omega.{arith}
use Rattle.program.specs.Rows.{rows_of, program_formed}
use Rattle.state.specs.View.{config_of, SoundWords}
use Rattle.state.proofs.Live.{atoms_counted, plans_counted}
use Rattle.program_laws.specs.Lawful.{Lawful}
use Rattle.program_laws.proofs.Lawful.{lawful}
use Rattle.demands.proofs.Outcomes.{unless_true, unless_false}
use Rattle.demands.proofs.Shape.{Shaped, formed_shaped}
use Rattle.state.specs.declared.Scalars.{Scalars}
use Rattle.in_place.specs.Given.{no_row, given_rows, admitted, Admitted}
use Rattle.in_place.specs.Answers.{refused_with}

-- words that are not whole rows are refused
torn_refused : (c : Configuration.Config) → given_well (no_row ∷ []) c ≡ false
unfolding given_well well_formed in_range every
torn_refused c = refl

-- what is admitted is whole rows
pub rows_admitted : (program : List ℕ) (c : Configuration.Config) → admitted program c ≡ true → given_rows program ≡ rows_of program
unfolding admitted given_rows
rows_admitted program c = at (eqb (length program % 8) 0)
  where
    at : (x : Bool) → given_well (if x then rows_of program else no_row ∷ []) c ≡ true → (if x then rows_of program else no_row ∷ []) ≡ rows_of program
    at true e = refl
    at false e = clash e (torn_refused c)

-- what a refused call answers
pub refuses : (k : Call) (c : Configuration.Config) (e : Refusal) → work k c ≡ refused (number_of e) → refused_with c e ≡ reply k c
unfolding answer_of
refuses k c e d = ap (answer_of c) (sym d)

-- refusal 1
not_well : (k : Call) (c : Configuration.Config) → given_well (program_of k) c ≡ false → work k c ≡ refused 1
unfolding work sense step answer delete
not_well (to_sense p rs) c e = unless_true _ 1 _ (ap not e)
not_well (to_step p) c e = unless_true _ 1 _ (ap not e)
not_well (to_answer p n) c e = unless_true _ 1 _ (ap not e)
not_well (to_delete p t) c e = unless_true _ 1 _ (ap not e)

pub untested : (k : Call) (c : Configuration.Config) (e : Refusal) → given_well (program_of k) c ≡ false → number_of e ≡ 1 → refused_with c e ≡ reply k c
untested k c e g n = refuses k c e (not_well k c g ∙ ap refused (sym n))

module _ (program : List ℕ) (c : Configuration.Config) (o : Outcome) where
  pub is_admitted : admitted program c ≡ true → unless (not (given_well (given_rows program) c)) 1 o ≡ o
  unfolding admitted
  is_admitted e = unless_false (not (given_well (given_rows program) c)) 1 o (ap not e)

-- what is admitted is well formed
pub record Formed (program : List ℕ) (c : Configuration.Config) : Type 0 where
  pub lawful_rows : Lawful (rows_of program)
  pub sound : Sound (graph c)
  pub shaped : Shaped (rows_of program) c

pub given_admitted : (program : List ℕ) (c : Configuration.Config) → admitted program c ≡ true → given_well (rows_of program) c ≡ true
unfolding admitted
given_admitted program c e = subst (λ (rows : List Row). given_well rows c ≡ true) (rows_admitted program c e) e

pub admitted_well : (program : List ℕ) (c : Configuration.Config) → admitted program c ≡ true → Formed program c
unfolding given_well
admitted_well program c e =
    let b = (and-eq-true_iff (well_formed (rows_of program)) (config_formed (rows_of program) c)).0 (given_admitted program c e) in
    let d = formed_shaped (rows_of program) c b.1 in
    record { lawful_rows = lawful (rows_of program) b.0; sound = d.0; shaped = d.1 }

-- the words of an admitted configuration can be worked on
pub admitted_words : (program words : List ℕ) (s : Scalars) → Admitted program words s → SoundWords words s
admitted_words program words s e =
    let a = admitted_well program (config_of words s) e in
    record {
      few_atoms = let h = atoms_counted (words) (s) in omega (arith, a.shaped.few_atoms);
      few_plans = let h = plans_counted (words) (s) in omega (arith, a.shaped.few_plans);
      sound = a.sound;
    }

-- the two tests of refusal 1
pub program_refused : (program : List ℕ) (c : Configuration.Config) → program_formed program ≡ false → admitted program c ≡ false
unfolding program_formed admitted given_rows given_well
program_refused program c = at (eqb (length program % 8) 0)
  where
    at : (x : Bool) → (x && well_formed (rows_of program)) ≡ false → given_well (if x then rows_of program else no_row ∷ []) c ≡ false
    at true e = ap (λ (b : Bool). b && config_formed (rows_of program) c) e
    at false e = torn_refused c

pub program_passed : (program : List ℕ) (c : Configuration.Config) → program_formed program ≡ true → admitted program c ≡ config_formed (rows_of program) c
unfolding program_formed admitted given_rows given_well
program_passed program c = at (eqb (length program % 8) 0)
  where
    at : (x : Bool) → (x && well_formed (rows_of program)) ≡ true → given_well (if x then rows_of program else no_row ∷ []) c ≡ config_formed (rows_of program) c
    at true e = ap (λ (b : Bool). b && config_formed (rows_of program) c) e
    at false e = clash e refl

pub program_lawful : (program : List ℕ) → program_formed program ≡ true → Lawful (rows_of program)
unfolding program_formed
program_lawful program e = lawful (rows_of program) ((and-eq-true_iff (eqb (length program % 8) 0) (well_formed (rows_of program))).0 e).1

pub ruleset admitting = (program_refused, program_passed, program_lawful)
