-- A table of nogoods: it begins true, stays true with what a failing search notes, and what it says of the present values holds of them.
use mathlib.Core.Path.{◌≡◌, sym, ap, ◌∙◌, subst}
use mathlib.Core.Logic.{◌⊎◌, inl, inr, ⊎_elim, ◌≢◌}
use mathlib.Core.List.{List}
use Prim.Native.Nat.{ℕ, ◌+◌, ◌-◌, ◌*◌, ◌<◌}
use native.Mathlib.Omega.{arith}
use lib.ListN.{length, take, drop, replicate, length-drop, get_or-replicate}
use lib.Seq.{length-take-le}
use Rattle.lists.proofs.Tables.{get_within}
use Rattle.model.specs.Configuration.{no_value, place}
use Rattle.model.specs.Matching.{Found}
use Rattle.table.specs.Rows.{row}
use Rattle.table.proofs.Rows.{row_at, row_long}
use Rattle.nogoods.specs.Nogoods.{nogood, rest_in, values_in, count_in, ids_in, SpeaksOf, Recalled, Replaced}
use Rattle.nogoods.proofs.Laws.{nogood_values, nogood_count, nogood_ids, nogood_long, row_replaced}
use Rattle.state.specs.declared.Scalars.{Scalars}
use Rattle.queries.specs.View.{found_in}
use Rattle.matching.specs.declared.Rule.{Rule}
use Rattle.matching.specs.Sets.{Same, Barren, True, Remembered}
use Rattle.matching.proofs.Failing.{same_on}

-- the values and ids of a nogood are the present ones, as far as its set goes
speaks_same : (e : List ℕ) (rest set : ℕ) (values : List ℕ) (count : ℕ) (ids : List ℕ) → length e ≡ 15 → length values ≡ 8 → SpeaksOf e rest set values count ids →
    Same set (found_in (values_in e) (ids_in e) (count_in e)) (found_in values ids count)
speaks_same e rest set values count ids l v x =
    let d = length-drop 2 e in
    let w : length (values_in e) ≡ 8 = length-take-le 8 (drop 2 e) (omega arith) in (
      record {
        long_left = w;
        long_right = v;
        agrees = λ y m p q.
            let low : place y < 8 = omega arith in
            get_within (values_in e) (place y) no_value 0 (omega arith) ∙ x.values_are (place y) low (m p q) ∙ get_within values (place y) 0 no_value (omega arith);
      },
      λ i. let z = x.ids_are i in ap (take count) (sym z.1) ∙ ap (λ (n : ℕ). take n (ids_in e)) (sym z.0),
    )

module _ (program words : List ℕ) (s : Scalars) (rule : Rule) where
  -- what is the same to the set fails alike
  pub barren_alike : (k : ℕ) (f g : Found) (set : ℕ) → Same set f g → Barren program words s rule k f set → Barren program words s rule k g set
  barren_alike k f g set a b = record { small = b.small; none = λ h e. b.none h (same_on set f g h a e) }

  pub remembered_empty : Remembered program words s rule (replicate 7680 0)
  remembered_empty = record { holds = λ i h n. absurd (n (row_at 15 (replicate 7680 0) i 0 (omega arith) ∙ get_or-replicate {A = ℕ} 7680 (i * 15 + 0) 0 0 (omega arith))) }

  -- a failure noted, or not
  pub remembered_more : (t u : List ℕ) (rest set : ℕ) (values : List ℕ) (count : ℕ) (ids : List ℕ) → length t ≡ 7680 → length values ≡ 8 → length ids ≡ 4 →
      Remembered program words s rule t → Barren program words s rule (rule.body - rest) (found_in values ids count) set →
      (u ≡ t) ⊎ Replaced t u (nogood rest set values count ids) → Remembered program words s rule u
  remembered_more t u rest set values count ids long v n m b (inl e) = subst (Remembered program words s rule) (sym e) m
  remembered_more t u rest set values count ids long v n m b (inr p) = record {
    holds = λ i h. ⊎_elim
        (λ q. subst (True program words s rule) (sym q) new)
        (λ q. subst (True program words s rule) (sym q) (m.holds i h))
        (row_replaced t u e long l p i h);
  }
    where
      e : List ℕ
      e = nogood rest set values count ids

      l : length e ≡ 15
      l = nogood_long rest set values count ids v n

      new : True program words s rule e
      new z =
          subst (λ (w : List ℕ). Barren program words s rule (rule.body - rest) (found_in w (ids_in e) (count_in e)) set) (sym (nogood_values rest set values count ids v))
          (subst (λ (w : List ℕ). Barren program words s rule (rule.body - rest) (found_in values w (count_in e)) set) (sym (nogood_ids rest set values count ids v))
          (subst (λ (w : ℕ). Barren program words s rule (rule.body - rest) (found_in values ids w) set) (sym (nogood_count rest set values count ids v)) b))

  -- a failure of the rows from k on noted, or not, with other ids in place behind those that are matched
  pub noted : (k : ℕ) → k < rule.body → (t u : List ℕ) (set : ℕ) (values ids b : List ℕ) (count : ℕ) → length t ≡ 7680 → length values ≡ 8 → length b ≡ 4 → take count b ≡ take count ids →
      Remembered program words s rule t → Barren program words s rule k (found_in values ids count) set →
      (u ≡ t) ⊎ Replaced t u (nogood (rule.body - k) set values count b) → Remembered program words s rule u
  noted k low t u set values ids b count long v n h m f r =
      let e : k ≡ rule.body - (rule.body - k) = omega arith in
      remembered_more t u (rule.body - k) set values count b long v n m
      (subst (λ (k : ℕ). Barren program words s rule k (found_in values b count) set) e
      (subst (λ (l : List ℕ). Barren program words s rule k (record { values = values; matched = l }) set) (sym h) f)) r

  -- what is recalled holds
  pub remembered_says : (t : List ℕ) (rest set : ℕ) (values : List ℕ) (count : ℕ) (ids : List ℕ) → length t ≡ 7680 → length values ≡ 8 → rest ≢ 0 →
      Remembered program words s rule t → Recalled t rest set values count ids → Barren program words s rule (rule.body - rest) (found_in values ids count) set
  remembered_says t rest set values count ids long v z m c =
      let e = row 15 t c.place in
      let x = c.speaks in
      let low = c.low in
      let b = m.holds c.place low (λ q. z (sym x.rest_is ∙ q)) in
      barren_alike (rule.body - rest) (found_in (values_in e) (ids_in e) (count_in e)) (found_in values ids count) set
      (speaks_same e rest set values count ids (row_long 15 t c.place (omega arith)) v x)
      (subst (λ (w : ℕ). Barren program words s rule (rule.body - w) (found_in (values_in e) (ids_in e) (count_in e)) set) x.rest_is
      (subst (λ (w : ℕ). Barren program words s rule (rule.body - rest_in e) (found_in (values_in e) (ids_in e) (count_in e)) w) x.set_is b))
