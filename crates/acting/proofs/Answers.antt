-- What the rule's work is as an answer, and that it meets no limit where there is room for eight more atoms.
use Rattle.std.specs.Prelude.{Result, Ok, Err, is_err, OnErr}
use mathlib.Core.Path.{◌≡◌, refl, ap}
use mathlib.Core.Bool.{true, false, not}
use mathlib.Core.List.{List, [], ◌∷◌}
use Prim.Native.Nat.{ℕ, ◌+◌, ◌-◌, ◌≤◌}
use native.Mathlib.Omega.{arith}
use lib.Dec.{eqb}
use lib.ListN.{length, length-append}
use borrow.Author.Tests.{ne_eqb, lt-leb}
use Rattle.lists.proofs.Lists.{count_keep, clash}
use Rattle.lists.proofs.Cuts.{if_either}
use Rattle.model.specs.declared.refusal.Refusal.{Refusal}
use Rattle.model.specs.declared.Row.{Row}
use Rattle.model.specs.declared.Atom.{Atom}
use Rattle.model.specs.Program.{body}
use Rattle.model.specs.Configuration.{most_atoms, last_next, operand, new_atom, atom_alive, plan_alive}
use Rattle.model.specs.Graph.{reached, survives}
use Rattle.model.specs.Deletion.{links_in}
use Rattle.model.specs.Log.{nothing, fired, an_atom, Log, begin, emit_atom, emit_deletion, report, Outcome, refused, accepted, answer_of}
use Rattle.model.specs.Calls.{Action, acted, stopped, barred, acted_on, add_action, act, after_action, act_all}
use Rattle.program.specs.Rows.{rows_of}
use Rattle.matching.specs.declared.Rule.{Rule}
use Rattle.state.specs.declared.Scalars.{Scalars}
use Rattle.state.specs.View.{config_of, atom_bar}
use Rattle.state.proofs.Live.{atoms_counted}
use Rattle.stepping.specs.declared.Progress.{Progress}
use Rattle.stepping.specs.Steps.{answered_by}
use Rattle.stepping.proofs.Answers.{answers_refused}
use Rattle.stepping.proofs.Room.{atom_free}
use Rattle.stepping.proofs.Standing.{lawful_rows}
use Rattle.acting.specs.Actions.{Fires, Shown, meta_work}

-- THE ANSWER
module _ (words : List ℕ) (s : Scalars) where
  -- the work is done
  pub answers_done : (words' : List ℕ) (r : Result Progress Refusal) (o : Outcome) → is_err r ≡ false → Shown o words' r → answered_by s words' r ≡ answer_of (config_of words s) o
  unfolding answer_of
  answers_done words' (Ok x) (refused n) z h = absurd h
  answers_done words' (Ok x) (accepted L) z h = λ i. record { number = 0; did = h.0 i; config = h.1 i; made = (h.1 i).next - s.next; gone = h.2 i }
  answers_done words' (Err e) o z h = clash refl z

  -- the work is refused, and the words are what they were
  pub answers_barred : (words' : List ℕ) (r : Result Progress Refusal) (o : Outcome) → is_err r ≡ true → Shown o words' r → answered_by s words r ≡ answer_of (config_of words s) o
  answers_barred words' (Ok x) o z h = clash z refl
  answers_barred words' (Err e) (refused n) z h = answers_refused words s e (refused n) (ap refused h)
  answers_barred words' (Err e) (accepted L) z h = absurd h

-- NO LIMIT IS MET
-- room for n more atoms
abbrev pub RoomFor : ℕ → Log → Type 0
RoomFor n L = (L.config.next + n ≤ last_next) × (length L.config.atoms + n ≤ most_atoms)

abbrev pub Accepts : Outcome → Type 0
Accepts (refused n) = ⊥
Accepts (accepted L) = Unit {0}

module _ (n : ℕ) (L : Log) where
  -- a deletion takes no room
  pub room_kept : (k : ℕ) → RoomFor n L → RoomFor n (emit_deletion k L)
  room_kept k h = let l = count_keep (λ (x : Atom). survives (reached (links_in L.config) k) x.id) L.config.atoms in (h.0, omega (arith, h.1))

  module _ (h : RoomFor (n + 1) L) where
    -- one more atom takes one place
    pub room_taken : (p a b : ℕ) → RoomFor n (emit_atom p a b L)
    room_taken p a b = (omega (arith, h.0), let l = length-append L.config.atoms (new_atom L.config p a b ∷ []) in omega (arith, h.1))

    pub no_bar : atom_bar L.config.next (length L.config.atoms) ≡ 0
    no_bar = rw (ne_eqb L.config.next last_next (omega (arith, h.0)), lt-leb most_atoms (length L.config.atoms) (omega (arith, h.1)))

    pub room_left : RoomFor n L
    room_left = (omega (arith, h.0), omega (arith, h.1))

-- an action that meets no limit and makes one atom at most
abbrev Goes : ℕ → Action → Type 0
Goes n (acted v M) = RoomFor n M
Goes n stopped = Unit {0}
Goes n (barred m) = ⊥

module _ (s t : ℕ) (n : ℕ) where
  module _ (r : Row) (v : List ℕ) (L : Log) (h : RoomFor (n + 1) L) where
    goes_deletion : (k : ℕ) → Goes n (acted v (emit_deletion k L))
    goes_deletion k = room_kept n L k (room_left n L h)

    goes_add : Goes n (add_action s t r v L)
    unfolding add_action acted_on
    goes_add = rw (atom_free L (accepted made) (no_bar n L h)) (room_taken n L h r.p (operand v r.a) (operand v r.b))
      where
        made : Log
        made = report (fired s t (an_atom L.config.next)) (emit_atom r.p (operand v r.a) (operand v r.b) L)

    goes_on : Goes n (act s t r v L)
    unfolding act
    goes_on =
        let k = operand v r.i in
        let still = room_left n L h in
        if_either (Goes n) (eqb r.op 21) goes_add
        (if_either (Goes n) (eqb r.op 22) (if_either (Goes n) (atom_alive L.config k) (goes_deletion k) tt)
        (if_either (Goes n) (not (plan_alive L.config k)) tt
        (if_either (Goes n) (eqb r.op 23) still (if_either (Goes n) (eqb r.op 24) still (goes_deletion k)))))

accepts_all : (s t : ℕ) (rows : List Row) (v : List ℕ) (L : Log) → RoomFor (length rows) L → Accepts (act_all s t rows v L)
unfolding act_all after_action
accepts_all s t [] v L h = tt
accepts_all s t (r ∷ rows) v L h = at (act s t r v L) (goes_on s t (length rows) r v L (omega (arith, h.0), omega (arith, h.1))) (λ u M. accepts_all s t rows u M)
  where
    at : (a : Action) → Goes (length rows) a → ((u : List ℕ) (M : Log) → RoomFor (length rows) M → Accepts (act_all s t rows u M)) → Accepts (after_action (λ u M. act_all s t rows u M) L a)
    at (acted u M) g more = more u M g
    at stopped g more = tt
    at (barred m) g more = g

-- "a rule has up to .. 8 of part 3 (body)": room for eight is enough
pub no_limit : (program words words' : List ℕ) (s : Scalars) (rule : Rule) (values : List ℕ) (r : Result Progress Refusal) → Fires program words s rule → s.next ≤ 65528 → s.atoms ≤ 248 →
    Shown (meta_work program (config_of words s) rule values) words' r → is_err r ≡ false
unfolding meta_work
no_limit program words words' s rule values r f h k = at r (act_all rule.set rule.number rows values L) (accepts_all rule.set rule.number rows values L room)
  where
    rows : List Row
    rows = body (rows_of program) rule.set rule.number

    L : Log
    L = report (fired rule.set rule.number nothing) (begin (config_of words s))

    room : RoomFor (length (body (rows_of program) rule.set rule.number)) (report (fired rule.set rule.number nothing) (begin (config_of words s)))
    room =
        let l = (lawful_rows program words s f.well).short_body rule.set rule.number in
        let n = atoms_counted words s in
        (omega arith, omega arith)

    at : (t : Result Progress Refusal) (o : Outcome) → Accepts o → Shown o words' t → is_err t ≡ false
    at t (refused n) a b = absurd a
    at (Ok x) (accepted M) a b = refl
    at (Err e) (accepted M) a b = absurd b

-- what is not refused tells nothing of a refusal
pub no_refusal : (P : Type 0) (r : Result Progress Refusal) → is_err r ≡ false → OnErr r P
no_refusal P (Ok x) z = tt
no_refusal P (Err e) z = clash refl z
