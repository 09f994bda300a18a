-- What holds after a work, by its parts: in turn, with a test, under a choice.
use Rattle.std.specs.Prelude.{if◌then◌else◌}
use mathlib.Core.Path.{◌≡◌, refl, subst}
use mathlib.Core.Bool.{Bool, true, false}
use Prim.Native.Nat.{ℕ}
use Rattle.model.specs.Log.{Log, Outcome, refused, accepted, and_then, unless}
use Rattle.graph_laws.specs.Faithful.{After}

pub after_then : (P Q : Log → Type 0) (o : Outcome) (f : Log → Outcome) → After P o → ((L : Log) → P L → After Q (f L)) → After Q (and_then o f)
unfolding and_then After
after_then P Q (refused n) f h k = tt
after_then P Q (accepted L) f h k = k L h

pub after_unless : (P : Log → Type 0) (b : Bool) (n : ℕ) (o : Outcome) → (b ≡ false → After P o) → After P (unless b n o)
unfolding unless After
after_unless P true n o h = tt
after_unless P false n o h = h refl

pub after_if : (P : Log → Type 0) (b : Bool) (o u : Outcome) → (b ≡ true → After P o) → (b ≡ false → After P u) → After P (if b then o else u)
after_if P true o u h k = h refl
after_if P false o u h k = k refl

pub after_done : (P : Log → Type 0) (L : Log) → P L → After P (accepted L)
unfolding After
after_done P L h = h

pub after_map : (P Q : Log → Type 0) (o : Outcome) → ((L : Log) → P L → Q L) → After P o → After Q o
unfolding After
after_map P Q (refused n) f h = tt
after_map P Q (accepted L) f h = f L h

-- and so of the log of a work that was accepted
pub after_of : (P : Log → Type 0) {o : Outcome} {L : Log} → After P o → o ≡ accepted L → P L
unfolding After
after_of P h e = subst (After P) e h
