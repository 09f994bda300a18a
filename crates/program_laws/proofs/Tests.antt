-- Tests, as facts.
use mathlib.Core.Path.{◌≡◌, refl}
use mathlib.Core.Bool.{Bool, true, false, ◌&&◌, ◌||◌, true≢false, false≢true}

-- a test that holds: both parts of `&&`
pub and_left : (a b : Bool) → a && b ≡ true → a ≡ true
and_left true b e = refl
and_left false b e = e

pub and_right : (a b : Bool) → a && b ≡ true → b ≡ true
and_right true b e = e
and_right false true e = refl
and_right false false e = e

-- a test that fails: both parts of `||`, and the other part of `&&` where one holds
pub or_neither_left : (a b : Bool) → a || b ≡ false → a ≡ false
or_neither_left true b e = e
or_neither_left false b e = refl

pub or_neither_right : (a b : Bool) → a || b ≡ false → b ≡ false
or_neither_right true b e = absurd (true≢false e)
or_neither_right false b e = e

pub and_other : (a b : Bool) → a && b ≡ false → a ≡ true → b ≡ false
and_other true b e p = e
and_other false b e p = absurd (false≢true p)

-- the parts of a test that holds, of one that fails: for `search`
pub ruleset parts = (and_left, and_right)

pub ruleset misses = (or_neither_left, or_neither_right)
