-- The load of a text, line by line: what each way through the code's loop says of the cause.
use mathlib.Core.Path.{◌≡◌, refl, ap, sym, subst, ◌∙◌}
use mathlib.Core.Logic.{⊎_elim, ◌≢◌}
use mathlib.Core.Bool.{Bool, true, false}
use mathlib.Core.List.{List, [], ◌∷◌, ◌++◌}
use mathlib.Core.Option.{Option, none, some}
use Prim.Native.Nat.{ℕ, ◌+◌, ◌-◌, ◌≤◌, ◌<◌}
use native.Mathlib.Omega.{arith}
use lib.Dec.{eqb}
use lib.ListN.{length, drop, take, get_or}
use borrow.Author.Tests.{eqb-true, eqb-false}
use Rattle.lists.specs.Lists.{same}
use Rattle.lists.proofs.Lists.{test, clash}
use Rattle.model.specs.declared.Row.{Row}
use Rattle.model.specs.declared.Scan.{Scan}
use Rattle.model.specs.Text.{Lines, lines, end, unended, line, names, read_row}
use Rattle.model.specs.Load.{load, loaded, refused, load_lines, take_line, go_on, passed, refused_at, begun, taken, take_row, finish, lacking, at_first}
use Rattle.model.specs.Places.{Comes, behind_names, behind_row}
use Rattle.program_laws.proofs.Range.{InRange}
use Rattle.program_laws.proofs.WellFormed.{RowInRange, line_in_range}
use Rattle.lists.proofs.Tests.{same_equal, same_self}
use Rattle.program_laws.proofs.Places.{comes_so_far, row_passes, passes_of}
use Rattle.text.specs.Reading.{Ends, line_of, as_line}
use Rattle.std.specs.Prelude.{Ok, Err, Some, None}
use Rattle.model.specs.declared.refusal.LoadError.{LoadError}
use Rattle.model.specs.Refusals as Refusals
use Rattle.rows.specs.declared.RuleScan.{RuleScan}
use Rattle.text.proofs.Ends.{lines_end, newline_at}
use Rattle.rows.specs.Scanning.{whole as scanned, Small, verdict_of}
use Rattle.rows.proofs.Scans.{small_first, passed_counts}
use Rattle.program.proofs.Loads.{no_line, wrong_names}
use Rattle.causes.specs.declared.Lack.{Lack}
use Rattle.causes.specs.Causes.{Lacks}
use Rattle.explain.specs.declared.Layout.{Layout}
use Rattle.explain.specs.declared.Layout.TheVariants as layout
use Rattle.explain.specs.declared.Cause.{Cause}
use Rattle.explain.specs.declared.Cause.TheVariants as cause
use Rattle.explain.specs.Explaining.{bytes_of, ComesTo, Misread, OfRow, number_of, told_by, Told, loads, not_names, not_ended, misread, of_row, at_end}
use Rattle.explain.proofs.Verdicts.{of_row_number}

module _ (text : List ℕ) {first : ℕ} (w : Ends text 0 first) where
  -- with no byte 10 there is no line
  no_lines : length text ≤ first → (ls : Lines) → lines text ≢ line names ls
  no_lines h ls q =
      ⊎_elim (λ t. let n = eqb-true (length text) 0 t in let e : lines text ≡ end = lines_end text 0 (omega arith) in differ e q)
      (λ t. let n : length text ≢ 0 = eqb-false (length text) 0 t in let e : lines text ≡ unended = w.no_end h (omega arith) in differ' e q)
      (test (eqb (length text) 0))
    where
      differ : lines text ≡ end → lines text ≡ line names ls → ⊥
      differ e q = let z : ◌≡◌ {A = ℕ} 0 1 = cc in omega arith

      differ' : lines text ≡ unended → lines text ≡ line names ls → ⊥
      differ' e q = let z : ◌≡◌ {A = ℕ} 0 1 = cc in omega arith

  pub names_missing : length text ≤ first → Told text (record { cause = cause.Layout layout.Names; line = 1; begin = 0; end = first })
  names_missing h = record { answers = ap told_by (no_line text w h).is; bounds = w; explains = not_names refl (no_lines h) }

  first_line : first < length text → lines text ≡ line (take first text) (lines (drop (first + 1) text))
  first_line h = let e : first - 0 ≡ first = omega arith in subst (λ (n : ℕ). lines text ≡ line (take n text) (lines (drop (first + 1) text))) e (w.ended h)

  pub names_wrong : {b : Bool} → first < length text → b ≡ same (take first text) names → b ≡ false
      → Told text (record { cause = cause.Layout layout.Names; line = 1; begin = 0; end = first })
  names_wrong {b} h q e = record {
    answers = ap told_by (wrong_names text w h q e).is;
    bounds = w;
    explains = not_names refl (λ ls l. let f = first_line h in let n : take first text ≡ names = cc in clash (rw n (same_self names)) (sym q ∙ e));
  }

-- the load stands at a place of the text
pub record Standing (text : List ℕ) (s : Scan) (at : ℕ) : Type 0 where
  pub inside : at ≤ length text
  pub small : Small s
  pub behind : get_or text (at - 1) 0 ≡ 10
  pub rows : List Row
  pub comes : Comes text s rows (lines (drop at text))

pub standing_first : (text : List ℕ) {first : ℕ} (w : Ends text 0 first) (s : Scan) {b : Bool} → first < length text → b ≡ same (take first text) names
    → b ≡ true → s ≡ at_first → Standing text s (first + 1)
standing_first text {first} w s {b} h q e z =
    let n : first + 1 - 1 ≡ first = omega arith in
    let m : take first text ≡ names = same_equal (take first text) names (sym q ∙ e) in
    rw z (record {
      inside = omega arith;
      small = small_first;
      behind = rw n (newline_at w h);
      rows = [];
      comes = behind_names (first_line text w h ∙ ap (λ (l : List ℕ). line l (lines (drop (first + 1) text))) m);
    })

module _ {text : List ℕ} {s : Scan} {at : ℕ} (w : Standing text s at) where
  comes_to : (ls : Lines) → lines (drop at text) ≡ ls → ComesTo text at s w.rows ls
  comes_to ls e = record { behind = w.behind; here = e; comes = subst (Comes text s w.rows) e w.comes }

  module _ (h : length text ≤ at) where
    ends_here : Ends text at at
    ends_here = record { low = omega arith; high = w.inside; ended = λ k. absurd (omega arith); no_end = λ k m. absurd (omega arith) }

    all_taken : ComesTo text at s w.rows end
    all_taken = comes_to end (lines_end text at h)

    pub told_lacking : {c : Lack} → lacking s ≡ true → Lacks s c → Told text (record { cause = cause.Lack c; line = s.count + 1; begin = at; end = at })
    unfolding load_lines finish
    told_lacking e x =
        let l : load text ≡ refused 3 (s.count + 1) = comes_so_far all_taken.comes ∙ rw e in
        record { answers = ap told_by l; bounds = ends_here; explains = at_end all_taken e x }

    pub told_loads : lacking s ≡ false → Told text (record { cause = cause.Loads; line = 0; begin = at; end = at })
    unfolding load_lines finish
    told_loads e =
        let l : load text ≡ loaded w.rows = comes_so_far all_taken.comes ∙ rw e in
        record { answers = ap told_by l; bounds = ends_here; explains = loads all_taken l }

  module _ {to : ℕ} (h : at < length text) (c : Ends text at to) where
    pub told_unended : length text ≤ to → Told text (record { cause = cause.Layout layout.Unended; line = s.count + 2; begin = at; end = to })
    unfolding load_lines
    told_unended k =
        let p = comes_to unended (c.no_end k h) in
        record { answers = ap told_by (comes_so_far p.comes); bounds = c; explains = not_ended p }

    module _ (k : to < length text) where
      at_line : ComesTo text at s w.rows (line (bytes_of text at to) (lines (drop (to + 1) text)))
      at_line = comes_to _ (c.ended k)

      pub told_misread : {m : Layout} → read_row (bytes_of text at to) ≡ none → Misread (bytes_of text at to) m
          → Told text (record { cause = cause.Layout m; line = s.count + 2; begin = at; end = to })
      unfolding load_lines take_line
      told_misread e x =
          let l : load text ≡ refused 2 (s.count + 2) = comes_so_far at_line.comes ∙ rw e in
          record { answers = ap told_by l; bounds = c; explains = misread at_line e x }

      module _ {row : Row} (e : read_row (bytes_of text at to) ≡ some row) where
        pub told_row : (f : LoadError) (m : Cause) → take_row s row ≡ refused_at (Refusals.number_of f.refusal) f.line → OfRow s row m
            → Told text (record { cause = m; line = f.line; begin = at; end = to })
        unfolding load_lines take_line go_on
        told_row f m q x =
            let n : number_of m ≡ Refusals.number_of f.refusal = of_row_number x q in
            let l : load text ≡ refused (Refusals.number_of f.refusal) f.line = comes_so_far at_line.comes ∙ rw (e, q) in
            record { answers = rw n (ap told_by l); bounds = c; explains = of_row at_line e x }

        pub row_taken : (v : RuleScan) (D : List ℕ) → verdict_of (Ok v) D ≡ take_row s row → Standing text (scanned v D) (to + 1)
        unfolding verdict_of
        row_taken v D f =
            let q : take_row s row ≡ passed (scanned v D) = sym f in
            let p = passed_counts row (scanned v D) w.small q in
            let g = row_passes s row (passes_of s row q) in
            let t : taken (begun s row) row ≡ scanned v D = cc in
            let n : to + 1 - 1 ≡ to = omega arith in
            record {
              inside = omega arith;
              small = p.small;
              behind = rw n (newline_at c k);
              rows = w.rows ++ (row ∷ []);
              comes = subst (λ (t : Scan). Comes text t (w.rows ++ (row ∷ [])) (lines (drop (to + 1) text))) t (behind_row at_line.comes e (passes_of s row q));
            }

-- what a refused row's answer says
pub refusal_of : (s : Scan) (row : Row) (f : LoadError) (D : List ℕ) → verdict_of (Err f) D ≡ take_row s row → take_row s row ≡ refused_at (Refusals.number_of f.refusal) f.line
unfolding verdict_of
refusal_of s row f D e = sym e

-- what the line reader answers
pub unread_line : (bytes : List ℕ) → None ≡ line_of bytes → read_row bytes ≡ none
unfolding line_of
unread_line bytes u = go (read_row bytes) refl u
  where
    go : (o : Option Row) → read_row bytes ≡ o → None ≡ as_line o → read_row bytes ≡ none
    go none q u = q
    go (some r) q u = let z : ◌≡◌ {A = ℕ} 0 1 = cc in absurd (omega arith)

pub whole_line : (bytes : List ℕ) {row : Row} → Some row ≡ line_of bytes → read_row bytes ≡ some row
unfolding line_of
whole_line bytes {row} u = go (read_row bytes) refl u
  where
    go : (o : Option Row) → read_row bytes ≡ o → Some row ≡ as_line o → read_row bytes ≡ some row
    go none q u = let z : ◌≡◌ {A = ℕ} 0 1 = cc in absurd (omega arith)
    go (some r) q u = let f : r ≡ row = cc in q ∙ ap some f

pub row_range : (bytes : List ℕ) {row : Row} → read_row bytes ≡ some row → InRange row
row_range bytes e = subst RowInRange e (line_in_range bytes)
