-- A line: each number but the last with a space behind it, the last with byte 10.
use mathlib.Core.Path.{◌≡◌, refl, sym}
use mathlib.Core.List.{List, [], ◌∷◌, ◌++◌, map, append_assoc, append-nil}
use Prim.Native.Nat.{ℕ, ◌+◌, ◌<◌}
use native.Mathlib.Omega.{arith}
use native.Mathlib.Numerals.{add-one}
use lib.ListN.{length, take, get_or}
use lib.Seq.{take-suc}
use Rattle.lists.specs.Lists.{bind}
use Rattle.lists.proofs.Bind.{bind_append}
use Rattle.model.specs.Render.{decimal, spaced}
use Rattle.model.specs.Configuration.{Plan}
use Rattle.model.specs.Run.{plan_line, as_text, refusal}
use Rattle.listing.specs.Listing.{line}
use Rattle.listing.proofs.Decimals.{integer_is}

abbrev pub spaced_number : ℕ → List ℕ
spaced_number n = decimal 5 n ++ (32 ∷ [])

-- the first k numbers of a line
unfoldable pub front : ℕ → List ℕ → List ℕ
front k ns = bind (take k ns) spaced_number

pub front_none : (ns : List ℕ) → front 0 ns ≡ []
unfolding front
front_none ns = refl

pub front_more : (k : ℕ) (ns : List ℕ) → k < length ns → front (k + 1) ns ≡ front k ns ++ spaced_number (get_or ns k 0)
unfolding front
front_more k ns h = rw (add-one, take-suc ns k 0 h, bind_append spaced_number (take k ns) (get_or ns k 0 ∷ []), append-nil (spaced_number (get_or ns k 0)))

pub six : (ns : List ℕ) → length ns ≡ 6 → front 5 ns ++ (decimal 5 (get_or ns 5 0) ++ (10 ∷ [])) ≡ line ns
unfolding front line spaced
six [] h = absurd (omega arith)
six (a ∷ []) h = absurd (omega arith)
six (a ∷ b ∷ []) h = absurd (omega arith)
six (a ∷ b ∷ c ∷ []) h = absurd (omega arith)
six (a ∷ b ∷ c ∷ d ∷ []) h = absurd (omega arith)
six (a ∷ b ∷ c ∷ d ∷ e ∷ []) h = absurd (omega arith)
six (a ∷ b ∷ c ∷ d ∷ e ∷ f ∷ []) h = simp (integer_is, append_assoc)
six (a ∷ b ∷ c ∷ d ∷ e ∷ f ∷ g ∷ ns) h = absurd (omega arith)

-- the numbers of a plan's line
pub plan_line_is : (q : Plan) {id set rule left subgoal : ℕ} → id ≡ q.id → set ≡ q.set → rule ≡ q.rule → left ≡ q.left → subgoal ≡ q.subgoal → 2 ∷ id ∷ set ∷ rule ∷ left ∷ subgoal ∷ [] ≡ plan_line q
unfolding plan_line
plan_line_is q a b c d e = cc

pub text_line : (r : List ℕ) (rs : List (List ℕ)) → as_text (r ∷ rs) ≡ line r ++ as_text rs
unfolding as_text line
text_line r rs = sym (append_assoc (spaced (map (λ n. n + 9) r)) (10 ∷ []) (as_text rs))

-- a refusal's number alone
pub refusal_is : (n : ℕ) → refusal n ≡ decimal 5 n ++ (10 ∷ [])
unfolding refusal as_text spaced
refusal_is n = rw (integer_is n)
