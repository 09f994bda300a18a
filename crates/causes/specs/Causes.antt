-- What each cause of a refused row says of the row r, of the scan s before it and of the scan t as the row finds it.
use Rattle.std.specs.Prelude.{ℕ, ◌+◌, ◌≤◌, ◌<◌, ◌≡◌, ◌≢◌, Bool, true, false, ◌&&◌, ◌||◌, not, leb, eqb, get_or, if◌then◌else◌}
use Rattle.lists.specs.Lists.{within}
use Rattle.model.specs.declared.Row.{Row}
use Rattle.model.specs.declared.Scan.{Scan}
use Rattle.model.specs.Program.{any?, constant?, unused?, constant_within, flag?}
use Rattle.model.specs.Load.{same_rule, part_full, initial, against_kind, new_variable}
use Rattle.causes.specs.declared.Limit.{Limit}
use Rattle.causes.specs.declared.Limit.TheVariants as limit
use Rattle.causes.specs.declared.Breach.{Breach}
use Rattle.causes.specs.declared.Breach.TheVariants as breach
use Rattle.causes.specs.declared.Section.{Section}
use Rattle.causes.specs.declared.Section.TheVariants as section
use Rattle.causes.specs.declared.Lack.{Lack}
use Rattle.causes.specs.declared.Lack.TheVariants as lack
use Rattle.causes.specs.declared.Unvalued.{Unvalued}

-- the operand in a column, by the column's number in the line; p is held 9 higher, as the others are
abbrev pub operand : Row → ℕ → ℕ
operand r column = if eqb column 5 then r.i else if eqb column 6 then r.p + 9 else if eqb column 7 then r.a else r.b

-- 5: "set over 8, rule over 32, too many rows (in all or of a part) or initial atoms"
abbrev pub Exceeds : Scan → Row → Limit → Type 0
Exceeds s r (limit.Set n) = (n ≡ r.set) × (8 < n)
Exceeds s r (limit.Rule n) = (n ≡ r.rule) × (32 < n)
Exceeds s r limit.Rows = 512 ≤ s.count
Exceeds s r (limit.Part n) = (n ≡ r.part) × (same_rule s r && part_full s r ≡ true)
Exceeds s r limit.Atoms = initial r && leb 256 s.atoms ≡ true

-- 3: "one row at least in parts 1 and 2 together. With reasons it is an object rule, otherwise a meta rule with a body of one row
-- or more." What the rule of the last row lacks.
abbrev pub Lacks : Scan → Lack → Type 0
Lacks s lack.Condition = (1 ≤ s.set) × (s.reasons ≡ 0) × (s.context ≡ 0)
Lacks s lack.Body = (1 ≤ s.set) × (s.reasons ≡ 0) × (s.body ≡ 0)

-- Where a row stands: in set 0, among reasons, in the context and the body of an object rule, in those of a meta rule.
abbrev pub place_of : Scan → Row → Section
place_of t r =
    if eqb r.set 0 then section.SetZero
    else if eqb r.part 1 then section.Reasons
    else if eqb r.part 2 then (if t.object then section.ObjectContext else section.MetaContext)
    else (if t.object then section.ObjectBody else section.MetaBody)

-- "Set 0 rows .. op 41 .. op 40"; "Reasons use 1; an object rule's context 1 and 2; a meta rule's context 1 to 14."; "Actions of
-- meta rules: 21 .. 25"; "Steps of plans: 31 .. 36"
abbrev pub may_stand : Section → ℕ → Bool
may_stand section.SetZero op = within 40 41 op
may_stand section.Reasons op = eqb op 1
may_stand section.ObjectContext op = within 1 2 op
may_stand section.MetaContext op = within 1 14 op
may_stand section.ObjectBody op = within 31 36 op
may_stand section.MetaBody op = within 21 25 op

-- "p is 1 to 255 in ops 1, 2, 21, 31 to 34, 36 and 41, and in 40."
abbrev pub has_predicate : ℕ → Bool
has_predicate op = within 1 2 op || eqb op 21 || within 31 34 op || eqb op 36 || within 40 41 op

-- an op that has a predicate, and p is 0
abbrev pub must_be_predicate : ℕ → ℕ → Bool
must_be_predicate op p = has_predicate op && eqb p 0

-- the ops that name an atom by p, a and b in a body: add-atom, the external action, the tests, the subgoal
abbrev pub names_atom : ℕ → Bool
names_atom op = eqb op 21 || within 31 34 op || eqb op 36

-- the ops whose i is an atom or plan that lives: delete-atom, set and clear a flag, delete-plan
abbrev pub names_instance : ℕ → Bool
names_instance op = within 22 25 op || eqb op 35

-- "11 state (i, a a constant flag 1 to 16)", "23 set and 24 clear flag a (constant 1 to 16) of plan i"
abbrev pub has_flag : ℕ → Bool
has_flag op = within 11 12 op || within 23 24 op

-- an op that has a flag, and a is none
abbrev pub must_be_flag : ℕ → ℕ → Bool
must_be_flag op a = has_flag op && not (flag? a)

-- "Unused columns are 0.": the columns that an op does not use
abbrev pub is_unused : ℕ → ℕ → Bool
is_unused op column =
    (eqb column 5 && (within 13 14 op || within 31 33 op || within 40 41 op))
    || (eqb column 6 && (within 3 14 op || names_instance op))
    || (eqb column 7 && (eqb op 22 || eqb op 25 || eqb op 35))
    || (eqb column 8 && (within 5 14 op || names_instance op))

-- a column that is not used, with another operand than 0
abbrev pub must_be_zero : ℕ → ℕ → ℕ → Bool
must_be_zero op column x = is_unused op column && not (unused? x)

-- "Each other body operand that is used is a constant or a variable"
abbrev pub is_given : ℕ → ℕ → Bool
is_given op column = (eqb column 5 && names_instance op) || (eqb column 7 && names_atom op) || (eqb column 8 && names_atom op)

-- a column that must be a constant or a variable, and is any
abbrev pub must_be_given : ℕ → ℕ → ℕ → Bool
must_be_given op column x = is_given op column && any? x

-- 3: "row breaks a rule of its op, part or order"
abbrev pub Breaches : Scan → Scan → Row → Breach → Type 0
-- "both numbered from 1 without gaps, rows by set, rule, part"
Breaches s t r (breach.SetOrder last set) = (last ≡ s.set) × (set ≡ r.set) × (set ≢ last) × (set ≢ last + 1)
Breaches s t r (breach.FirstRule set rule) = (set ≡ r.set) × (set ≡ s.set + 1) × (rule ≡ r.rule) × (rule ≢ 1)
Breaches s t r (breach.RuleOrder last rule) =
    (last ≡ s.rule) × (rule ≡ r.rule) × (r.set ≡ s.set) × (1 ≤ s.set) × (rule ≢ last) × (rule ≢ last + 1)
Breaches s t r (breach.PartOrder last part) =
    (last ≡ s.part) × (part ≡ r.part) × (r.set ≡ s.set) × (r.rule ≡ s.rule) × (part < last)
-- "A set holds one kind, that of its first rule; a row against it is 3."
Breaches s t r (breach.Kind object) = (object ≡ s.object) × (against_kind s r ≡ true)
-- "Set 0 rows have rule 0, part 0"
Breaches s t r (breach.SetZero column) = (eqb column 2 || eqb column 3) && (eqb r.set 0 && not (eqb (if eqb column 2 then r.rule else r.part) 0)) ≡ true
-- "part 1 (reasons)", "part 2 (context)", "part 3 (body)"
Breaches s t r (breach.NoPart part) = (part ≡ r.part) × (leb 1 r.set && not (within 1 3 part) ≡ true)
Breaches s t r (breach.Op op place) = (op ≡ r.op) × (place ≡ place_of t r) × (may_stand place op ≡ false)
-- "op 40 a ceiling, at most one per predicate"
Breaches s t r (breach.SecondCeiling p) = (p ≡ r.p) × (r.op ≡ 40) × (get_or s.ceilings p 0 ≢ 0)
Breaches s t r (breach.NotZero op column) = (op ≡ r.op) × (must_be_zero op column (operand r column) ≡ true)
Breaches s t r (breach.NoPredicate op) = (op ≡ r.op) × (must_be_predicate op r.p ≡ true)
Breaches s t r (breach.NoFlag op) = (op ≡ r.op) × (must_be_flag op r.a ≡ true)
Breaches s t r (breach.NoValue op column) = (op ≡ r.op) × (must_be_given op column (operand r column) ≡ true)
-- "In 34 and 36 i is -9."
Breaches s t r (breach.NotAny op) = (op ≡ r.op) × ((eqb op 34 || eqb op 36) && not (any? r.i) ≡ true)
-- "21 add-atom p, a, b, its id going to variable i, which has no value yet, or i = -9"
Breaches s t r breach.NotNew = (r.op ≡ 21) × (r.i ≢ 0) × (new_variable t.valued r.i ≡ false)
-- "constants only"; "a (1 to 65,535) is taken as predicate b (1 to 255)"
Breaches s t r (breach.NoConstant column) = (eqb column 7 || eqb column 8) && (eqb r.op 41 && not (constant? (operand r column))) ≡ true
Breaches s t r breach.NoThreshold = eqb r.op 40 && not (constant_within 1 65535 r.a) ≡ true
Breaches s t r breach.NoCeiling = eqb r.op 40 && not (constant_within 1 255 r.b) ≡ true

-- "Each other body operand that is used": columns a and b, and i but for 21, whose i takes a value
abbrev pub needs_value : ℕ → ℕ → Bool
needs_value op column = eqb column 7 || eqb column 8 || (eqb column 5 && not (eqb op 21))

-- 4: "body variable without value": operand 8 is variable 1, 1 is variable 8
abbrev pub LacksValue : Scan → Row → Unvalued → Type 0
LacksValue t r u =
    (r.part ≡ 3)
    × (needs_value r.op u.column ≡ true)
    × (new_variable t.valued (operand r u.column) ≡ true)
    × (u.variable + operand r u.column ≡ 9)
