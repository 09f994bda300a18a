-- The load of a text goes by the places that it comes to: `Comes` says of a load what `load_lines` computes, and each ending of it is
-- one of the model's Places.
use mathlib.Core.Path.{◌≡◌, refl, ap, subst, ◌∙◌}
use mathlib.Core.Logic.{⊎_elim, ◌≢◌}
use mathlib.Core.Bool.{true, false, ◌&&◌, not}
use mathlib.Core.List.{List}
use mathlib.Core.Option.{Option, none, some}
use Prim.Native.Nat.{ℕ, ◌+◌}
use native.Mathlib.Omega.{arith}
use lib.Dec.{eqb}
use lib.ListN.{length, length-append}
use Rattle.lists.specs.Lists.{same}
use Rattle.lists.proofs.Lists.{test, clash}
use Rattle.lists.proofs.Tests.{same_equal, same_self}
use Rattle.lists.proofs.Cuts.{if_either}
use Rattle.model.specs.declared.Row.{Row}
use Rattle.model.specs.declared.Scan.{Scan}
use Rattle.model.specs.Text.{Lines, end, unended, line, lines, names, read_row}
use Rattle.model.specs.Load.{same_rule, lacking, too_many, begun, breaks, valueless, taken, fault, take_row, passed, refused_at, loaded, refused, finish, go_on, take_line, load_lines, from_names, load, at_first}
use Rattle.model.specs.Places.{LeavesLacking, Passes, Comes, behind_names, behind_row, ComesToRow, RefusedAt, not_named, not_ended, not_read, lacks_before, lacks_at_end, over_limit, against_rules, without_value, LoadedWith}
use Rattle.model.specs.Claims.{LoadsRightly}
use Rattle.program_laws.proofs.Tests.{and_left, and_right}
use Rattle.program_laws.proofs.Accepted.{passes as accepted}

-- the tests on a row, each way
module _ (s : Scan) (r : Row) where
  pub leaves_of : lacking s && not (same_rule s r) ≡ true → LeavesLacking s r
  leaves_of e = (and_left (lacking s) _ e, ⊎_elim (λ t. clash (and_right (lacking s) _ e) (rw t)) (λ f. f) (test (same_rule s r)))

  pub leaves_test : LeavesLacking s r → lacking s && not (same_rule s r) ≡ true
  leaves_test h = rw (h.0, h.1)

  pub stays_test : ¬ LeavesLacking s r → lacking s && not (same_rule s r) ≡ false
  stays_test n = ⊎_elim (λ t. absurd (n (leaves_of t))) (λ f. f) (test (lacking s && not (same_rule s r)))

  pub stays_of : lacking s && not (same_rule s r) ≡ false → ¬ LeavesLacking s r
  stays_of f h = clash (leaves_test h) f

  pub row_leaves : LeavesLacking s r → take_row s r ≡ refused_at 3 (s.count + 1)
  unfolding take_row
  row_leaves h = rw (leaves_test h)

  module _ (n : ¬ LeavesLacking s r) where
    pub row_faults : (k : ℕ) → fault s (begun s r) r ≡ k → eqb k 0 ≡ false → take_row s r ≡ refused_at k (s.count + 2)
    unfolding take_row
    row_faults k e z = rw (stays_test n, e, z)

    row_over : too_many s r ≡ true → take_row s r ≡ refused_at 5 (s.count + 2)
    unfolding fault
    row_over e = row_faults 5 (rw e) refl

    row_against : too_many s r ≡ false → breaks s (begun s r) r ≡ true → take_row s r ≡ refused_at 3 (s.count + 2)
    unfolding fault
    row_against e f = row_faults 3 (rw (e, f)) refl

    row_valueless : too_many s r ≡ false → breaks s (begun s r) r ≡ false → valueless (begun s r) r ≡ true → take_row s r ≡ refused_at 4 (s.count + 2)
    unfolding fault
    row_valueless e f g = row_faults 4 (rw (e, f, g)) refl

  pub row_passes : Passes s r → take_row s r ≡ passed (taken (begun s r) r)
  unfolding take_row fault
  row_passes p = rw (stays_test p.leaves_whole, p.within_limits, p.keeps_rules, p.has_values)

-- what comes of a row, by the tests in their order
pub data Judged (s : Scan) (r : Row) : Type 0 where
  leaves : LeavesLacking s r → Judged s r
  over : ¬ LeavesLacking s r → too_many s r ≡ true → Judged s r
  against : ¬ LeavesLacking s r → too_many s r ≡ false → breaks s (begun s r) r ≡ true → Judged s r
  valued : ¬ LeavesLacking s r → too_many s r ≡ false → breaks s (begun s r) r ≡ false → valueless (begun s r) r ≡ true → Judged s r
  passes : Passes s r → Judged s r

module _ (s : Scan) (r : Row) where
  pub judged : Judged s r
  judged =
      ⊎_elim (λ t. leaves (leaves_of s r t)) (λ l.
      let n = stays_of s r l in
      ⊎_elim (λ t. over n t) (λ a.
      ⊎_elim (λ t. against n a t) (λ b.
      ⊎_elim (λ t. valued n a b t) (λ c. passes (record { leaves_whole = n; within_limits = a; keeps_rules = b; has_values = c }))
      (test (valueless (begun s r) r)))
      (test (breaks s (begun s r) r)))
      (test (too_many s r)))
      (test (lacking s && not (same_rule s r)))

  pub passes_of : {t : Scan} → take_row s r ≡ passed t → Passes s r
  passes_of e = go judged e
    where
      never : {n k : ℕ} {t : Scan} → take_row s r ≡ refused_at n k → take_row s r ≡ passed t → Passes s r
      never f e = let z : ◌≡◌ {A = ℕ} 0 1 = cc in absurd (omega arith)

      go : {t : Scan} → Judged s r → take_row s r ≡ passed t → Passes s r
      go (leaves h) e = never (row_leaves s r h) e
      go (over n a) e = never (row_over s r n a) e
      go (against n a b) e = never (row_against s r n a b) e
      go (valued n a b c) e = never (row_valueless s r n a b c) e
      go (passes p) e = p

pub count_begun : (s : Scan) (r : Row) → (begun s r).count ≡ s.count
unfolding begun
count_begun s r = if_either (λ (t : Scan). t.count ≡ s.count) (same_rule s r) refl refl

names_missing : (text : List ℕ) → ((ls : Lines) → lines text ≢ line names ls) → (ls : Lines) → lines text ≡ ls → from_names ls ≡ refused 2 1
unfolding from_names
names_missing text f end e = refl
names_missing text f unended e = refl
names_missing text f (line l ls) e =
    ⊎_elim (λ t. absurd (f ls (e ∙ ap (λ (x : List ℕ). line x ls) (same_equal l names t)))) (λ t. rw t) (test (same l names))

module _ {text : List ℕ} where
  -- row n stands on line n + 1
  pub comes_count : {s : Scan} {rows : List Row} {ls : Lines} → Comes text s rows ls → s.count ≡ length rows
  unfolding at_first taken
  comes_count (behind_names e) = refl
  comes_count (behind_row {s = s} {rows = rows} {r = r} w e p) =
      let n = comes_count w in
      let b = count_begun s r in
      rw length-append (omega arith)

  -- "Set 0 rows have rule 0, part 0"
  pub comes_set_0 : {s : Scan} {rows : List Row} {ls : Lines} → Comes text s rows ls → s.set ≡ 0 → (s.rule ≡ 0) × (s.part ≡ 0)
  unfolding at_first taken
  comes_set_0 (behind_names e) z = (refl, refl)
  comes_set_0 (behind_row {s = s} {r = r} w e p) z = let f = (accepted s r _ (row_passes s r p)).accepted.in_set_0 z in (f.rule, f.part)

  -- the load is that of what follows
  pub comes_so_far : {s : Scan} {rows : List Row} {ls : Lines} → Comes text s rows ls → load text ≡ load_lines s rows ls
  unfolding load from_names load_lines take_line go_on
  comes_so_far (behind_names e) = rw (e, same_self names)
  comes_so_far (behind_row {s = s} {r = r} w e p) = comes_so_far w ∙ rw (e, row_passes s r p)

  -- a row that the load comes to is refused
  at_row : {s : Scan} {rows : List Row} {r : Row} {n : ℕ} (j : ℕ) → ComesToRow text s rows r → take_row s r ≡ refused_at n (s.count + j)
      → load text ≡ refused n (length rows + j)
  unfolding load_lines take_line go_on
  at_row j w e = comes_so_far w.comes ∙ rw (w.reads, e, comes_count w.comes)

  pub refused_as : {n k : ℕ} → RefusedAt text n k → load text ≡ refused n k
  unfolding load load_lines take_line finish
  refused_as (not_named f) = names_missing text f (lines text) refl
  refused_as (not_ended w) = comes_so_far w ∙ rw (comes_count w)
  refused_as (not_read w e) = comes_so_far w ∙ rw (e, comes_count w)
  refused_as (lacks_before w h) = at_row 1 w (row_leaves _ _ h)
  refused_as (lacks_at_end w e) = comes_so_far w ∙ rw (e, comes_count w)
  refused_as (over_limit w n e) = at_row 2 w (row_over _ _ n e)
  refused_as (against_rules w n e f) = at_row 2 w (row_against _ _ n e f)
  refused_as (without_value w n e f g) = at_row 2 w (row_valueless _ _ n e f g)

  pub loaded_as : {rows : List Row} → LoadedWith text rows → load text ≡ loaded rows
  unfolding load_lines finish
  loaded_as w = comes_so_far w.1 ∙ rw w.2

-- Every text is loaded with some rows or refused at some place. As `load` then says the same, it says that alone.
data Ends (text : List ℕ) : Type 0 where
  with_rows : {rows : List Row} → LoadedWith text rows → Ends text
  with_refusal : {n k : ℕ} → RefusedAt text n k → Ends text

module _ {text : List ℕ} where
  row_ends : {s : Scan} {rows : List Row} {r : Row} → ComesToRow text s rows r → (Passes s r → Ends text) → Ends text
  row_ends {s} {rows} {r} w pass = go (judged s r)
    where
      go : Judged s r → Ends text
      go (leaves h) = with_refusal (lacks_before w h)
      go (over n a) = with_refusal (over_limit w n a)
      go (against n a b) = with_refusal (against_rules w n a b)
      go (valued n a b c) = with_refusal (without_value w n a b c)
      go (passes p) = pass p

  line_ends : {s : Scan} {rows : List Row} {l : List ℕ} {ls : Lines} → Comes text s rows (line l ls) → (o : Option Row) → read_row l ≡ o
      → ((t : Scan) (rows : List Row) → Comes text t rows ls → Ends text) → Ends text
  line_ends w none e on = with_refusal (not_read w e)
  line_ends w (some r) e on = row_ends (record { bytes = _; behind = _; comes = w; reads = e }) (λ p. on _ _ (behind_row w e p))

  lines_end : (ls : Lines) {s : Scan} {rows : List Row} → Comes text s rows ls → Ends text
  lines_end end {s} w = ⊎_elim (λ t. with_refusal (lacks_at_end w t)) (λ t. with_rows (s, w, t)) (test (lacking s))
  lines_end unended w = with_refusal (not_ended w)
  lines_end (line l ls) w = line_ends w (read_row l) refl (λ t rows. lines_end ls)

names_end : (text : List ℕ) (ls : Lines) → lines text ≡ ls → Ends text
names_end text end e = with_refusal (not_named (λ ls q. let z : ◌≡◌ {A = ℕ} 0 1 = cc in absurd (omega arith)))
names_end text unended e = with_refusal (not_named (λ ls q. let z : ◌≡◌ {A = ℕ} 0 1 = cc in absurd (omega arith)))
names_end text (line l ls) e =
    ⊎_elim (λ t. lines_end ls (behind_names (e ∙ ap (λ (x : List ℕ). line x ls) (same_equal l names t))))
    (λ t. with_refusal (not_named (λ ks q. let p : l ≡ names = cc in clash (rw p (same_self names)) t)))
    (test (same l names))

module _ (text : List ℕ) where
  when_loaded : (rows : List Row) → Ends text → load text ≡ loaded rows → LoadedWith text rows
  when_loaded rows (with_rows {rows = out} w) e =
      let q = loaded_as w in
      let p : out ≡ rows = cc in
      subst (LoadedWith text) p w
  when_loaded rows (with_refusal x) e = let q = refused_as x in let z : ◌≡◌ {A = ℕ} 0 1 = cc in absurd (omega arith)

  when_refused : (n k : ℕ) → Ends text → load text ≡ refused n k → RefusedAt text n k
  when_refused n k (with_rows w) e = let q = loaded_as w in let z : ◌≡◌ {A = ℕ} 0 1 = cc in absurd (omega arith)
  when_refused n k (with_refusal {n = m} {k = j} x) e =
      let q = refused_as x in
      let p : m ≡ n = cc in
      let r : j ≡ k = cc in
      subst (RefusedAt text n) r (subst (λ (m : ℕ). RefusedAt text m j) p x)

pub loads_rightly : LoadsRightly
loads_rightly = record {
  accepted_when = λ text rows. (when_loaded text rows (names_end text (lines text) refl), loaded_as);
  refused_when = λ text n k. (when_refused text n k (names_end text (lines text) refl), refused_as);
}
