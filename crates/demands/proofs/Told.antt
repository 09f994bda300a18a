-- What a work tells, accepted or refused: P of its log, or R of its number. `After` is the first half.
use Rattle.std.specs.Prelude.{if◌then◌else◌}
use mathlib.Core.Path.{◌≡◌, refl, subst}
use mathlib.Core.Bool.{Bool, true, false}
use Prim.Native.Nat.{ℕ, ◌≤◌}
use native.Mathlib.Omega.{arith}
use lib.ListN.{length}
use borrow.Author.Tests.{eqb-true, eqb-false, leb-true}
use Rattle.model.specs.Configuration.{most_atoms, most_plans, last_next}
use Rattle.model.specs.Log.{Log, Outcome, refused, accepted, and_then, unless}
use Rattle.model.specs.Calls.{room_for_atom, room_for_plan}
use Rattle.model.specs.Refusing.{NoRoomForAtom, NoRoomForPlan}
use Rattle.model.specs.Refusing as Refusing
use Rattle.graph_laws.specs.Faithful.{After}

unfoldable pub Told : (Log → Type 0) → (ℕ → Type 0) → Outcome → Type 0
Told P R (refused n) = R n
Told P R (accepted L) = P L

pub told_done : (P : Log → Type 0) (R : ℕ → Type 0) (L : Log) → P L → Told P R (accepted L)
unfolding Told
told_done P R L h = h

pub told_unless : (P : Log → Type 0) (R : ℕ → Type 0) (b : Bool) (n : ℕ) (o : Outcome) → (b ≡ true → R n) → (b ≡ false → Told P R o) → Told P R (unless b n o)
unfolding unless Told
told_unless P R true n o h k = h refl
told_unless P R false n o h k = k refl

pub told_if : (P : Log → Type 0) (R : ℕ → Type 0) (b : Bool) (o u : Outcome) → (b ≡ true → Told P R o) → (b ≡ false → Told P R u) → Told P R (if b then o else u)
told_if P R true o u h k = h refl
told_if P R false o u h k = k refl

pub told_then : (P Q : Log → Type 0) (R : ℕ → Type 0) (o : Outcome) (f : Log → Outcome) → Told P R o → ((L : Log) → P L → Told Q R (f L)) → Told Q R (and_then o f)
unfolding and_then Told
told_then P Q R (refused n) f h k = h
told_then P Q R (accepted L) f h k = k L h

pub told_map : (P Q : Log → Type 0) (R S : ℕ → Type 0) (o : Outcome) → ((L : Log) → P L → Q L) → ((n : ℕ) → R n → S n) → Told P R o → Told Q S o
unfolding Told
told_map P Q R S (refused n) f g h = g n h
told_map P Q R S (accepted L) f g h = f L h

-- with what holds after the work
pub told_after : (P Q : Log → Type 0) (R : ℕ → Type 0) (o : Outcome) → After P o → Told Q R o → Told (λ L. P L × Q L) R o
unfolding Told After
told_after P Q R (refused n) h k = k
told_after P Q R (accepted L) h k = (h, k)

pub told_accepted : (P : Log → Type 0) (R : ℕ → Type 0) {o : Outcome} {L : Log} → Told P R o → o ≡ accepted L → P L
unfolding Told
told_accepted P R h e = subst (Told P R) e h

pub told_refused : (P : Log → Type 0) (R : ℕ → Type 0) {o : Outcome} {n : ℕ} → Told P R o → o ≡ refused n → R n
unfolding Told
told_refused P R h e = subst (Told P R) e h

-- one more atom, one more plan
pub told_atom : (P : Log → Type 0) (R : ℕ → Type 0) (L : Log) (o : Outcome) → length L.config.atoms ≤ most_atoms → ((n : ℕ) → NoRoomForAtom L.config n → R n) → Told P R o → Told P R (room_for_atom L o)
unfolding room_for_atom
told_atom P R L o few none k = told_unless P R _ 8 _ (λ e. none 8 (Refusing.no_id (eqb-true L.config.next last_next e)))
    (λ e. told_unless P R _ 9 _ (λ f. let h = leb-true most_atoms (length L.config.atoms) f in none 9 (Refusing.no_place (eqb-false L.config.next last_next e) (omega arith))) (λ f. k))

pub told_plan : (P : Log → Type 0) (R : ℕ → Type 0) (L : Log) (o : Outcome) → length L.config.plans ≤ most_plans → ((n : ℕ) → NoRoomForPlan L.config n → R n) → Told P R o → Told P R (room_for_plan L o)
unfolding room_for_plan
told_plan P R L o few none k = told_unless P R _ 8 _ (λ e. none 8 (Refusing.no_id (eqb-true L.config.next last_next e)))
    (λ e. told_unless P R _ 10 _ (λ f. let h = leb-true most_plans (length L.config.plans) f in none 10 (Refusing.no_place (eqb-false L.config.next last_next e) (omega arith))) (λ f. k))
