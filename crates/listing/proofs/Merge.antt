-- Lines inserted by id, as a merge: of what is left the line with the lowest id stands first.
use mathlib.Core.Path.{◌≡◌, refl}
use mathlib.Core.List.{List, [], ◌∷◌}
use Prim.Native.Nat.{ℕ, ◌<◌, ◌≤◌}
use lib.ListN.{get_or}
use borrow.Author.Tests.{lt-ltb, le-ltb}
use Rattle.lists.specs.Lists.{In, first, later}
use Rattle.model.specs.Run.{by_id, all_by_id}

-- the second number of a line
abbrev pub id_of : List ℕ → ℕ
id_of l = get_or l 1 0

-- a line that no line to insert stands below
pub low_first : (x : List ℕ) (ls xs : List (List ℕ)) → ((l : List ℕ) → In l ls → id_of x ≤ id_of l) → all_by_id ls (x ∷ xs) ≡ x ∷ all_by_id ls xs
unfolding all_by_id by_id
low_first x [] xs h = refl
low_first x (l ∷ ls) xs h = rw (le-ltb (id_of l) (id_of x) (h l (first refl))) (low_first x ls (by_id l xs) (λ m i. h m (later i)))

-- a line to insert that stands below all others
pub insert_first : (l : List ℕ) (ls : List (List ℕ)) → ((m : List ℕ) → In m ls → id_of l ≤ id_of m) → all_by_id (l ∷ ls) [] ≡ l ∷ all_by_id ls []
unfolding all_by_id by_id
insert_first l ls h = low_first l ls [] h

pub insert_below : (l x : List ℕ) (ls xs : List (List ℕ)) → ((m : List ℕ) → In m ls → id_of l ≤ id_of m) → id_of l < id_of x → all_by_id (l ∷ ls) (x ∷ xs) ≡ l ∷ all_by_id ls (x ∷ xs)
unfolding all_by_id by_id
insert_below l x ls xs h k = rw (lt-ltb (id_of l) (id_of x) k) (low_first l ls (x ∷ xs) h)
