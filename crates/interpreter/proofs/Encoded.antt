-- Every list of calls is one that words stand for.
use Rattle.std.specs.Prelude.{if◌then◌else◌}
use mathlib.Core.Path.{◌≡◌, refl, sym, ap, ap₂, ◌∙◌}
use mathlib.Core.Bool.{true}
use mathlib.Core.Logic.{◌≢◌}
use mathlib.Core.List.{List, [], ◌∷◌, ◌++◌}
use Prim.Native.Nat.{ℕ, zero, suc, ◌+◌, ◌*◌, ◌-◌, ◌%◌}
use native.Mathlib.Nat.{mul-div_left, mul-mod_left}
use native.Mathlib.Omega.{arith}
use lib.Dec.{eqb}
use lib.ListN.{length, drop, length-append}
use lib.Seq.{drop-drop, take-append_seam, drop-append_seam, drop-append-add}
use borrow.Author.Tests.{eq-eqb, le-leb}
use Rattle.lists.specs.Lists.{within, bind}
use Rattle.lists.proofs.Bind.{append-nil}
use Rattle.lists.proofs.Tests.{and2}
use Rattle.table.specs.Rows.{row}
use Rattle.model.specs.declared.Row.{Row}
use Rattle.model.specs.Calls.{Reading}
use Rattle.model.specs.Claims.{Call, to_sense, to_step, to_answer, to_delete}
use Rattle.program.specs.Rows.{words_of}
use Rattle.program.proofs.Words.{length_words}
use Rattle.program.proofs.Accepts.{rows_of_words}
use Rattle.sensing.specs.Sensing.{reading_at, readings_from}
use Rattle.in_place.specs.Given.{given_rows, readings_of}
use Rattle.interpreter.specs.Playing.{program_end, call_end, call_size, call_by, first_call, calls_of, EveryList}
use Rattle.interpreter.proofs.Words.{size_is, too_few, with_own, of_sense, of_step, of_answer, of_delete, no_calls, more_calls}

-- ROWS AND READINGS, from their words
rows_back : (rows : List Row) → given_rows (words_of rows) ≡ rows
unfolding given_rows
rows_back rows =
    let whole : length (words_of rows) % 8 ≡ 0 = rw (length_words rows) (mul-mod_left (length rows) 8) in
    rw (eq-eqb (length (words_of rows) % 8) 0 whole) (rows_of_words rows)

reading_words : Reading → List ℕ
reading_words r = r.sign ∷ r.p ∷ r.a ∷ r.b ∷ []

length_readings : (rs : List Reading) → length (bind rs reading_words) ≡ length rs * 4
unfolding reading_words
length_readings [] = refl
length_readings (r ∷ rs) = let h = length_readings rs in omega arith

module _ (r : Reading) (words : List ℕ) where
  reading_behind : (k : ℕ) → reading_at (reading_words r ++ words) (suc k) ≡ reading_at words k
  unfolding row reading_words
  reading_behind k = let e : suc k * 4 ≡ 4 + k * 4 = omega arith in rw (e, ← drop-drop (k * 4) 4 (reading_words r ++ words))

  readings_behind : (n k : ℕ) → readings_from (reading_words r ++ words) (suc k) n ≡ readings_from words k n
  readings_behind zero k = refl
  readings_behind (suc n) k = ap₂ {C = List Reading} (λ (q : Reading) (l : List Reading). q ∷ l) (reading_behind k) (readings_behind n (suc k))

  reading_first : reading_at (reading_words r ++ words) 0 ≡ r
  unfolding row reading_words
  reading_first = refl

readings_there : (rs : List Reading) → readings_from (bind rs reading_words) 0 (length rs) ≡ rs
readings_there [] = refl
readings_there (r ∷ rs) =
    ap₂ {C = List Reading} (λ (q : Reading) (l : List Reading). q ∷ l) (reading_first r (bind rs reading_words)) (readings_behind r (bind rs reading_words) (length rs) 0 ∙ readings_there rs)

readings_back : (rs : List Reading) → readings_of (bind rs reading_words) ≡ rs
unfolding readings_of
readings_back rs = rw (length_readings rs, mul-div_left (length rs) {n = 4} (omega arith), eq-eqb (length rs * 4 % 4) 0 (mul-mod_left (length rs) 4)) (append-nil _ ∙ readings_there rs)

-- A CALL in front of other words
record Front (program : List Row) (k : Call) (rest : List ℕ) : Type 0 where
  words : List ℕ
  sized : call_size words ≢ 0
  call : first_call program words ≡ k
  behind : drop (call_size words) words ≡ rest

-- its kind, its operand, the words of its program and of its readings
module _ (kind n : ℕ) (own readings rest : List ℕ) (w : within 1 4 kind ≡ true) (r : (if eqb kind 1 then n else 0) ≡ length readings) where
  abbrev laid : List ℕ
  laid = kind ∷ (length own + 1) ∷ n ∷ own ++ (readings ++ rest)

  laid_size : 3 + length own + length readings ≡ call_size laid
  laid_size =
      let e : 3 + length own + length readings ≡ call_end laid = omega (arith, r) in
      size_is laid (3 + length own + length readings) true e (and2 w (le-leb _ (length laid) (omega (arith, length-append own (readings ++ rest), length-append readings rest))))

  laid_call : (program : List Row) → first_call program laid ≡ call_by (given_rows own) kind n (readings ++ rest)
  laid_call program =
      let e : drop (length own) (own ++ (readings ++ rest)) ≡ drop (3 + length own) laid = drop-drop (length own) 3 laid in
      let f : 3 + length own - 3 ≡ length own = omega arith in
      let m : 3 + length own ≡ program_end laid = omega arith in
      with_own laid m (sym (drop-append_seam own (readings ++ rest)) ∙ e) program (λ z. omega arith)
      ∙ rw (f, take-append_seam own (readings ++ rest))

  front : (program : List Row) (k : Call) → call_by (given_rows own) kind n (readings ++ rest) ≡ k → Front program k rest
  front program k e = record {
    words = laid;
    sized = λ z. let s = laid_size in omega arith;
    call = laid_call program ∙ e;
    behind =
        let s : call_size laid ≡ 3 + (length own + length readings) = omega (arith, laid_size) in
        ap (λ (m : ℕ). drop m laid) s ∙ sym (drop-drop (length own + length readings) 3 laid)
        ∙ drop-append-add own (readings ++ rest) (length readings) ∙ drop-append_seam readings rest;
  }

in_front : (program : List Row) (k : Call) (rest : List ℕ) → Front program k rest
in_front program (to_sense rows rs) rest = front 1 (length (bind rs reading_words)) (words_of rows) (bind rs reading_words) rest refl refl program _
    (of_sense _ 1 _ _ refl ∙ rw (rows_back rows, take-append_seam (bind rs reading_words) rest, readings_back rs))
in_front program (to_step rows) rest = front 2 0 (words_of rows) [] rest refl refl program _ (of_step _ 2 0 rest refl ∙ ap to_step (rows_back rows))
in_front program (to_answer rows n) rest = front 3 n (words_of rows) [] rest refl refl program _ (of_answer _ 3 n rest refl ∙ ap (λ (p : List Row). to_answer p n) (rows_back rows))
in_front program (to_delete rows n) rest = front 4 n (words_of rows) [] rest refl refl program _ (of_delete _ 4 n rest (λ z. omega arith) (λ z. omega arith) (λ z. omega arith) ∙ ap (λ (p : List Row). to_delete p n) (rows_back rows))

pub every_list : EveryList
unfolding EveryList
every_list program ks = go ks
  where
    go : (ks : List Call) → (words : List ℕ) × (calls_of program words ≡ ks)
    go [] = ([], no_calls program [] (sym (too_few [] (omega arith))))
    go (k ∷ ks) =
        let rest = go ks in
        let f = in_front program k rest.0 in
        (f.words, more_calls program f.words f.sized ∙ ap₂ {C = List Call} (λ (j : Call) (js : List Call). j ∷ js) f.call (ap (calls_of program) f.behind ∙ rest.1))
