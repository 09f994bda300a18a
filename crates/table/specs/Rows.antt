-- Records of one width, one after the other in a list of numbers.
use Rattle.std.specs.Prelude.{List, map, ℕ, ◌*◌, take, drop, get_or}
use Rattle.std.proofs.Math.Seq.{paste}
use Rattle.lists.specs.Tables.{tabulate}

-- record k of width w
unfoldable pub row : ℕ → List ℕ → ℕ → List ℕ
row w l k = take w (drop (k * w) l)

-- the first n records of width w
abbrev pub rows : ℕ → ℕ → List ℕ → List (List ℕ)
rows w n l = tabulate n (row w l)

-- the list with its record k replaced by the w numbers r
unfoldable pub placed : ℕ → List ℕ → ℕ → List ℕ → List ℕ
placed w l k r = paste l (k * w) r w

-- the first number of a record
abbrev pub key : List ℕ → ℕ
key r = get_or r 0 0

-- the first numbers of the first n records
abbrev pub keys : ℕ → ℕ → List ℕ → List ℕ
keys w n l = map key (rows w n l)
