-- A row of sense, and rows in turn, as the model works them.
use Rattle.std.specs.Prelude.{if◌then◌else◌, Ok, Err, MatchBool}
use Rattle.std.specs.List.{range_with_len, AllWithin, HoldsAt}
use Rattle.std.proofs.lemmas.List.FromFn.{length-range_with_len, get_or-range_with_len}
use mathlib.Core.Path.{◌≡◌, refl, sym, ap, ◌∙◌, subst}
use mathlib.Core.Bool.{Bool, true, false}
use mathlib.Core.Logic.{◌≢◌}
use mathlib.Core.List.{List, [], ◌∷◌}
use Prim.Native.Nat.{ℕ, suc, ◌+◌, ◌-◌, ◌≤◌, ◌<◌}
use native.Mathlib.Omega.{arith}
use lib.Dec.{eqb, leb}
use lib.ListN.{length, get_or}
use borrow.Author.Tests.{eq-eqb, ne_eqb}
use Rattle.state.specs.declared.Scalars.{Scalars}
use Rattle.state.specs.View.{config_of, atom_counted, atom_bar}
use Rattle.deletion.proofs.Sound.{sound_added}
use Rattle.lists.specs.Lists.{every}
use Rattle.lists.proofs.Counted.{every_counted, counted_fails}
use Rattle.model.specs.declared.refusal.Refusal.{Refusal}
use Rattle.model.specs.Refusals.{number_of}
use Rattle.state.proofs.Room.{atoms_of_bar, bar_free, numbered}
use Rattle.deletion.specs.declared.Removal.{Removal}
use Rattle.model.specs.declared.Row.{Row}
use Rattle.model.specs.Configuration.{Config, add_atom}
use Rattle.model.specs.Log.{Log, emit_atom, Outcome, refused, accepted, unless, and_then}
use Rattle.model.specs.Calls.{Reading, taken_as, equal_atoms, withdraw, room_for_atom, make_atom, sense_row, sense_rows}
use Rattle.sensing.specs.Sensing.{reading_at, readings_from, Ready, Shows, Withdraws, SensesRow, SensesRows}

module _ (program : List Row) (r : Reading) (c : Config) where
  module _ (e : r.sign ≡ 1) where
    -- the work of an add, by its two bars
    add_is : (L : Log) → L.config ≡ c → sense_row program r L ≡ unless (eqb c.next 65536) 8 (unless (leb 256 (length c.atoms)) 9 (accepted (emit_atom (taken_as program r) r.a r.b L)))
    unfolding sense_row make_atom room_for_atom
    add_is L q = rw (eq-eqb r.sign 1 e, q)

    pub senses_barred : (words : List ℕ) (x : Refusal) → atom_bar c.next (length c.atoms) ≡ number_of x → SensesRow program r c words (Err x)
    unfolding SensesRow unless
    senses_barred words x n L q = rw (add_is L q) (at (eqb c.next 65536) (leb 256 (length c.atoms)) n)
      where
        at : (y z : Bool) → (if y then 8 else if z then 9 else 0) ≡ number_of x → Shows (unless y 8 (unless z 9 (accepted (emit_atom (taken_as program r) r.a r.b L)))) L.gone words (Err x)
        at true z n = n
        at false true n = n
        at false false n = absurd (numbered x (sym n))

    pub senses_added : (words : List ℕ) (x : Removal) → atom_bar c.next (length c.atoms) ≡ 0 → config_of words x.scalars ≡ add_atom (taken_as program r) r.a r.b c → x.gone ≡ 0 → SensesRow program r c words (Ok x)
    unfolding SensesRow unless
    senses_added words x n m g L q = rw (add_is L q) (at (eqb c.next 65536) (leb 256 (length c.atoms)) n)
      where
        at : (y z : Bool) → ◌≡◌ {A = ℕ} (if y then 8 else if z then 9 else 0) 0 → Shows (unless y 8 (unless z 9 (accepted (emit_atom (taken_as program r) r.a r.b L)))) L.gone words (Ok x)
        at true z n = absurd (omega arith)
        at false true n = absurd (omega arith)
        at false false n = (ap (add_atom (taken_as program r) r.a r.b) q ∙ sym m, omega arith)

  pub senses_withdrawal : r.sign ≢ 1 → (words : List ℕ) (x : Removal) → Withdraws (taken_as program r) r.a r.b c (config_of words x.scalars) x.gone → SensesRow program r c words (Ok x)
  unfolding SensesRow sense_row
  senses_withdrawal e words x w L q = rw (ne_eqb r.sign 1 e) (ap (λ (d : Config). (withdraw (equal_atoms (taken_as program r) r.a r.b d) L).config) q ∙ w.leaves L q, ap (λ (d : Config). (withdraw (equal_atoms (taken_as program r) r.a r.b d) L).gone) q ∙ w.counts L q)

-- the words after an atom was made
pub ready_added : (words words' : List ℕ) (s s' : Scalars) (p a b : ℕ) → Ready words s → s.atoms < 256 → s.next < 65536 → s' ≡ atom_counted s → config_of words' s' ≡ add_atom p a b (config_of words s) → Ready words' s'
ready_added words words' s s' p a b r h k q e = record {
  whole = sound_added words words' s s' r.whole p a b h q e;
  next_fits = let z : s'.next ≡ s.next + 1 = ap (λ (x : Scalars). x.next) q in omega arith;
}

-- ROWS IN TURN
pub record Sensing (program : List Row) (rs : List Reading) (c : Config) (left : List Reading) (words : List ℕ) (s : Scalars) (gone : ℕ) : Type 0 where
  pub ready : Ready words s
  pub rest : (L : Log) → L.config ≡ c → (M : Log) × (M.config ≡ config_of words s) × (M.gone ≡ L.gone + gone) × (sense_rows program rs L ≡ sense_rows program left M)

pub sensing_first : (program : List Row) (rs : List Reading) (words : List ℕ) (s : Scalars) → Ready words s → Sensing program rs (config_of words s) rs words s 0
sensing_first program rs words s r = record { ready = r; rest = λ L q. (L, q, omega arith, refl) }

pub sensing_end : (program : List Row) (rs : List Reading) (c : Config) (words : List ℕ) (s : Scalars) (gone : ℕ) → Sensing program rs c [] words s gone → SensesRows program rs c words (Ok (record { scalars = s; gone = gone }))
unfolding SensesRows sense_rows
sensing_end program rs c words s gone w L q = let r = w.rest L q in rw r.3 (r.1, r.2)

module _ (program : List Row) (rs : List Reading) (c : Config) (r : Reading) (left : List Reading) (words : List ℕ) (s : Scalars) (gone : ℕ) (w : Sensing program rs c (r ∷ left) words s gone) where
  -- a row that is refused
  pub sensing_barred : (words' : List ℕ) (x : Refusal) → SensesRow program r (config_of words s) words' (Err x) → SensesRows program rs c words' (Err x)
  unfolding SensesRow SensesRows sense_rows and_then
  sensing_barred words' x h L q = let y = w.rest L q in rw y.3 (at (sense_row program r y.0) (h y.0 y.1))
    where
      at : (o : Outcome) → Shows o (w.rest L q).0.gone words' (Err x) → Shows (and_then o (sense_rows program left)) L.gone words' (Err x)
      at (refused k) g = g
      at (accepted M) g = absurd g

  -- a row that is done
  pub sensing_next : (words' : List ℕ) (x : Removal) → Ready words' x.scalars → SensesRow program r (config_of words s) words' (Ok x) → Sensing program rs c left words' x.scalars (gone + x.gone)
  unfolding SensesRow sense_rows and_then
  sensing_next words' x y h = record { ready = y; rest = λ L q. let z = w.rest L q in at L z.0 z.2 z.3 (sense_row program r z.0) refl (h z.0 z.1) }
    where
      at : (L M : Log) → M.gone ≡ L.gone + gone → sense_rows program rs L ≡ sense_rows program (r ∷ left) M → (o : Outcome) → sense_row program r M ≡ o → Shows o M.gone words' (Ok x) →
          (N : Log) × (N.config ≡ config_of words' x.scalars) × (N.gone ≡ L.gone + (gone + x.gone)) × (sense_rows program rs L ≡ sense_rows program left N)
      at L M f e (refused k) d g = absurd g
      at L M f e (accepted N) d g = (N, g.0, omega (arith, g.1), e ∙ ap (λ (o : Outcome). and_then o (sense_rows program left)) d)

-- rows by their places
pub readings_step : (words : List ℕ) (k n : ℕ) → k < n → readings_from words k (n - k) ≡ reading_at words k ∷ readings_from words (k + 1) (n - (k + 1))
readings_step words k n h = let e : n - k ≡ suc (n - (k + 1)) = omega arith in let f : k + 1 ≡ suc k = omega arith in rw (e, f)

pub readings_all : (words : List ℕ) (n : ℕ) → readings_from words 0 n ≡ readings_from words 0 (n - 0)
readings_all words n = ap (readings_from words 0) (let e : n ≡ n - 0 = omega arith in e)

pub readings_none : (words : List ℕ) (k n : ℕ) → n ≤ k → readings_from words k (n - k) ≡ []
readings_none words k n h = let e : n - k ≡ 0 = omega arith in ap (readings_from words k) e

-- a test of each row in turn
pub every_reading : (f : Reading → Bool) (words : List ℕ) (n : ℕ) (b : Bool) → let places = range_with_len 0 n in
    MatchBool b (AllWithin (λ k. f (reading_at words k) ≡ true) places 0 (length places)) ((k : ℕ) × (k < length places) × HoldsAt (λ k. f (reading_at words k) ≡ false) places k) → b ≡ every f (readings_from words 0 n)
every_reading f words n true h =
    let z : length (range_with_len 0 n) ≡ n = length-range_with_len 0 n in
    rw (readings_all words n) (sym (every_counted f (reading_at words) 0 n (λ k p q. let g = h k 0 p (omega arith) in let e : get_or (range_with_len 0 n) k 0 ≡ k = get_or-range_with_len 0 n k 0 q ∙ omega arith in rw e at g)))
every_reading f words n false h =
    let z : length (range_with_len 0 n) ≡ n = length-range_with_len 0 n in
    let q : h.0 < n = omega (arith, h.1) in
    let e : get_or (range_with_len 0 n) h.0 0 ≡ h.0 = get_or-range_with_len 0 n h.0 0 q ∙ omega arith in
    rw (readings_all words n) (sym (counted_fails f (reading_at words) 0 n h.0 (omega arith) q (rw e at (h.2 0))))

-- the rows from place k on are left
module _ (program : List Row) (rows : List ℕ) (n : ℕ) (c : Config) where
  abbrev pub SensingAt : ℕ → List ℕ → Scalars → ℕ → Type 0
  SensingAt k words s gone = Sensing program (readings_from rows 0 n) c (readings_from rows k (n - k)) words s gone

  module _ (k : ℕ) (words : List ℕ) (s : Scalars) (gone : ℕ) (w : SensingAt k words s gone) where
    at_row : k < n → Sensing program (readings_from rows 0 n) c (reading_at rows k ∷ readings_from rows (k + 1) (n - (k + 1))) words s gone
    at_row h = subst (λ (l : List Reading). Sensing program (readings_from rows 0 n) c l words s gone) (readings_step rows k n h) w

    pub at_barred : k < n → (r : Reading) → r ≡ reading_at rows k → (words' : List ℕ) (x : Refusal) → SensesRow program r (config_of words s) words' (Err x) → SensesRows program (readings_from rows 0 n) c words' (Err x)
    at_barred h r q words' x y = sensing_barred program (readings_from rows 0 n) c (reading_at rows k) (readings_from rows (k + 1) (n - (k + 1))) words s gone (at_row h) words' x (subst (λ (u : Reading). SensesRow program u (config_of words s) words' (Err x)) q y)

    pub at_next : k < n → (r : Reading) → r ≡ reading_at rows k → (words' : List ℕ) (x : Removal) → Ready words' x.scalars → SensesRow program r (config_of words s) words' (Ok x) → SensingAt (k + 1) words' x.scalars (gone + x.gone)
    at_next h r q words' x y z = sensing_next program (readings_from rows 0 n) c (reading_at rows k) (readings_from rows (k + 1) (n - (k + 1))) words s gone (at_row h) words' x y (subst (λ (u : Reading). SensesRow program u (config_of words s) words' (Ok x)) q z)

    pub at_end : n ≤ k → SensesRows program (readings_from rows 0 n) c words (Ok (record { scalars = s; gone = gone }))
    at_end h = sensing_end program (readings_from rows 0 n) c words s gone (subst (λ (l : List Reading). Sensing program (readings_from rows 0 n) c l words s gone) (readings_none rows k n h) w)

pub at_first : (program : List Row) (rows : List ℕ) (n : ℕ) (words : List ℕ) (s : Scalars) → Ready words s → SensingAt program rows n (config_of words s) 0 words s 0
at_first program rows n words s r = subst (λ (l : List Reading). Sensing program (readings_from rows 0 n) (config_of words s) l words s 0) (readings_all rows n) (sensing_first program (readings_from rows 0 n) words s r)

-- what `sense_row` and `sense_rows` rest on
pub ruleset sensing = (senses_barred, senses_added, senses_withdrawal, ready_added, atoms_of_bar, bar_free)

pub ruleset in_turn = (at_first, at_barred, at_next, at_end)
