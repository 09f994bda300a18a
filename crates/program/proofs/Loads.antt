-- The load of a text, line by line: what each way through the code's loop says of the model's `load`.
use Rattle.std.specs.Prelude.{if◌then◌else◌, Some, None, Ok, Err}
use mathlib.Core.Path.{◌≡◌, refl, ap, sym, subst, ◌∙◌}
use mathlib.Core.Bool.{Bool, true, false}
use mathlib.Core.Logic.{◌≢◌}
use mathlib.Core.List.{List, [], ◌∷◌, ◌++◌}
use mathlib.Core.Option.{Option, none, some}
use Prim.Native.Nat.{ℕ, ◌+◌, ◌-◌, ◌*◌, ◌≤◌, ◌<◌}
use native.Mathlib.Omega.{arith}
use lib.ListN.{length, drop, take, length-append}
use lib.Dec.{eqb}
use borrow.Author.Tests.{eqb-true, eqb-false}
use Rattle.lists.specs.Lists.{same}
use Rattle.table.specs.Rows.{placed}
use Rattle.table.proofs.Rows.{placed_long}
use Rattle.model.specs.declared.Row.{Row}
use Rattle.model.specs.declared.Scan.{Scan}
use Rattle.model.specs.Text.{lines, names, read_row}
use Rattle.model.specs.Load.{load, from_names, load_lines, take_line, go_on, passed, take_row, finish, lacking, at_first, loaded, refused}
use Rattle.program_laws.proofs.Range.{InRange}
use Rattle.program_laws.proofs.WellFormed.{RowInRange, line_in_range}
use Rattle.text.specs.Reading.{Ends, line_of, as_line}
use Rattle.text.proofs.Ends.{lines_end}
use Rattle.rows.specs.Scanning.{whole as scanned, Small, verdict_of}
use Rattle.rows.specs.declared.RuleScan.{RuleScan}
use Rattle.rows.proofs.Scans.{small_first, passed_counts}
use Rattle.model.specs.declared.refusal.LoadError.{LoadError}
use Rattle.model.specs.declared.refusal.Refusal.TheVariants.{Layout}
use Rattle.model.specs.Refusals.{number_of}
use Rattle.program.specs.Rows.{row_words, words_of}
use Rattle.program.specs.Loading.{answer_of, loading, seen}
use Rattle.program.proofs.Words.{eight, store_row}

-- the text is refused with this number and line
pub record Refuses (text : List ℕ) (n k : ℕ) : Type 0 where
  pub is : load text ≡ refused n k

-- an error that says so, with the lent program as it was, is the load's answer
pub refused_as : (text lent : List ℕ) (f : LoadError) → Refuses text (number_of f.refusal) f.line → seen (Err f) lent ≡ loading text lent
unfolding seen loading answer_of
refused_as text lent f w = rw w.is

pub refused_layout : (text lent : List ℕ) {k : ℕ} (f : LoadError) → Refuses text 2 k → (f.refusal ≡ Layout) × (f.line ≡ k) → seen (Err f) lent ≡ loading text lent
refused_layout text lent f w e = refused_as text lent f (record { is = rw (e.0, e.1) w.is })

module _ (text : List ℕ) {first : ℕ} (w : Ends text 0 first) where
  pub no_line : length text ≤ first → Refuses text 2 1
  unfolding load from_names
  no_line h = record { is = go (eqb (length text) 0) refl }
    where
      go : (b : Bool) → eqb (length text) 0 ≡ b → load text ≡ refused 2 1
      go true t = let e = eqb-true (length text) 0 t in rw (lines_end text 0 (omega arith))
      go false t = let e : length text ≢ 0 = eqb-false (length text) 0 t in rw (w.no_end h (omega arith))

  pub names_first : first < length text → load text ≡ (if same (take first text) names then load_lines at_first [] (lines (drop (first + 1) text)) else refused 2 1)
  unfolding load from_names
  names_first h = let e : first - 0 ≡ first = omega arith in rw (w.ended h, e)

  pub wrong_names : {b : Bool} → first < length text → b ≡ same (take first text) names → b ≡ false → Refuses text 2 1
  wrong_names h q e = record { is = names_first h ∙ rw (sym q ∙ e) }

-- the load stands at a place of the text, after rows that stand first in the words
pub record Loading (text lent words : List ℕ) (s : Scan) (at : ℕ) : Type 0 where
  pub inside : at ≤ length text
  pub small : Small s
  pub long : length words ≡ 4096
  pub rows : List Row
  pub counted : length rows ≡ s.count
  pub stored : words ≡ words_of rows ++ drop (length rows * 8) lent
  pub so_far : load text ≡ load_lines s rows (lines (drop at text))

pub loading_begins : (text : List ℕ) {first : ℕ} (w : Ends text 0 first) (lent : List ℕ) (s : Scan) {b : Bool} {words : List ℕ} → length words ≡ 4096 → words ≡ lent → first < length text
    → b ≡ same (take first text) names → b ≡ true → s ≡ at_first → Loading text lent words s (first + 1)
unfolding at_first words_of
loading_begins text w lent s {b} l c h q e z = rw z (record {
  inside = omega arith;
  small = small_first;
  long = l;
  rows = [];
  counted = refl;
  stored = c;
  so_far = names_first text w h ∙ rw (sym q ∙ e);
})

module _ {text lent words : List ℕ} {s : Scan} {at : ℕ} (w : Loading text lent words s at) where
  pub done_lacking : {b : Bool} → length text ≤ at → b ≡ lacking s → b ≡ true → Refuses text 3 (s.count + 1)
  unfolding load_lines finish
  done_lacking h q e = record { is = w.so_far ∙ rw (lines_end text at h, sym q ∙ e) }

  pub done : {b : Bool} → length text ≤ at → b ≡ lacking s → b ≡ false → seen (Ok s.count) words ≡ loading text lent
  unfolding load_lines finish seen loading answer_of
  done h q e =
      let f : load text ≡ loaded w.rows = w.so_far ∙ rw (lines_end text at h, sym q ∙ e) in
      rw (f, w.counted, w.stored, w.counted)

  module _ {end : ℕ} (h : at < length text) (c : Ends text at end) where
    pub unended_line : length text ≤ end → Refuses text 2 (s.count + 2)
    unfolding load_lines
    unended_line k = record { is = w.so_far ∙ rw (c.no_end k h) }

    module _ (k : end < length text) where
      pub unread_line : None ≡ line_of (take (end - at) (drop at text)) → Refuses text 2 (s.count + 2)
      unfolding load_lines take_line line_of
      unread_line u = record { is = w.so_far ∙ rw (c.ended k) (go (read_row (take (end - at) (drop at text))) u) }
        where
          go : (o : Option Row) → None ≡ as_line o
              → take_line s (λ r t. load_lines t (w.rows ++ (r ∷ [])) (lines (drop (end + 1) text))) o ≡ refused 2 (s.count + 2)
          go none u = refl
          go (some r) u = let z : ◌≡◌ {A = ℕ} 0 1 = cc in absurd (omega arith)

      module _ {row : Row} (u : Some row ≡ line_of (take (end - at) (drop at text))) where
        the_row : read_row (take (end - at) (drop at text)) ≡ some row
        unfolding line_of
        the_row = go (read_row (take (end - at) (drop at text))) refl u
          where
            go : (o : Option Row) → read_row (take (end - at) (drop at text)) ≡ o → Some row ≡ as_line o → read_row (take (end - at) (drop at text)) ≡ some row
            go none q u = let z : ◌≡◌ {A = ℕ} 0 1 = cc in absurd (omega arith)
            go (some r) q u = let f : r ≡ row = cc in q ∙ ap some f

        pub row_range : InRange row
        row_range = subst RowInRange the_row (line_in_range (take (end - at) (drop at text)))

        at_row : load text ≡ go_on (λ t. load_lines t (w.rows ++ (row ∷ [])) (lines (drop (end + 1) text))) (take_row s row)
        unfolding load_lines take_line
        at_row = w.so_far ∙ rw (c.ended k, the_row)

        module _ (D : List ℕ) where
          pub row_refused : (f : LoadError) → verdict_of (Err f) D ≡ take_row s row → Refuses text (number_of f.refusal) f.line
          unfolding verdict_of go_on
          row_refused f v = record { is = at_row ∙ rw (← v) }

          module _ (t : RuleScan) (v : verdict_of (Ok t) D ≡ take_row s row) where
            passes_on : take_row s row ≡ passed (scanned t D)
            unfolding verdict_of
            passes_on = sym v

            pub row_room : s.count ≤ 511
            row_room = (passed_counts row (scanned t D) w.small passes_on).room

            pub row_taken : {new : List ℕ} → new ≡ placed 8 words s.count (row_words row) → Loading text lent new (scanned t D) (end + 1)
            unfolding go_on
            row_taken {new} y =
                let p = passed_counts row (scanned t D) w.small passes_on in
                let m = p.room in
                let n = w.counted in
                let l = w.long in
                record {
                  inside = omega arith;
                  small = p.small;
                  long = ap length y ∙ placed_long 8 words s.count (row_words row) (eight row) (omega arith) ∙ l;
                  rows = w.rows ++ (row ∷ []);
                  counted = length-append w.rows (row ∷ []) ∙ rw (p.count, n);
                  stored = y ∙ rw (← n, w.stored) (store_row lent w.rows row);
                  so_far = at_row ∙ rw passes_on;
                }
