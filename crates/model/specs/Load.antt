-- Load: what a text loads to, line by line. `Scan` says where the load stands after the rows so far.
use Rattle.std.specs.Prelude.{ℕ, ◌+◌, Bool, false, ◌&&◌, ◌||◌, not, List, [], ◌∷◌, ◌++◌, leb, ltb, eqb, get_or, set, replicate, if◌then◌else◌}
use Rattle.std.proofs.Math.Option.{Option, none, some}
use Rattle.lists.specs.Lists.{within, bit, same}
pub use Rattle.model.specs.declared.Scan.{Scan}
use Rattle.model.specs.Program.{Row, any?, variable?, constant?, unused?, constant_within, flag?}
use Rattle.model.specs.Text.{Lines, end, unended, line, lines, read_row, names}

-- before the first row: set, rule and part are 0
unfoldable pub at_first : Scan
at_first = record {
  count = 0;
  atoms = 0;
  set = 0;
  rule = 0;
  part = 0;
  reasons = 0;
  context = 0;
  body = 0;
  object = false;
  valued = replicate 9 0;
  ceilings = replicate 256 0;
}

-- a row of the rule that the last row is of
abbrev pub same_rule : Scan → Row → Bool
same_rule s r = eqb r.set s.set && eqb r.rule s.rule

-- "one row at least in parts 1 and 2 together. With reasons it is an object rule, otherwise a meta rule with a body of one row or more."
abbrev pub lacking : Scan → Bool
lacking s = leb 1 s.set && eqb s.reasons 0 && (eqb s.context 0 || eqb s.body 0)

-- "up to 4 rows of part 1 (reasons), 6 of part 2 (context), 8 of part 3 (body)"; of the rule being read (DECISIONS 12)
abbrev pub part_full : Scan → Row → Bool
part_full s r =
    (eqb r.part 1 && leb 4 s.reasons) || (eqb r.part 2 && leb 6 s.context) || (eqb r.part 3 && leb 8 s.body)

abbrev pub initial : Row → Bool
initial r = eqb r.set 0 && eqb r.op 41

-- 5: "set over 8, rule over 32, too many rows (in all or of a part) or initial atoms"; "At most 512 rows, 256 initial atoms."
unfoldable pub too_many : Scan → Row → Bool
too_many s r =
    ltb 8 r.set || ltb 32 r.rule || leb 512 s.count || (same_rule s r && part_full s r) || (initial r && leb 256 s.atoms)

-- 3: "both numbered from 1 without gaps, rows by set, rule, part"; set 0 rows "stand first"
abbrev pub in_order : Scan → Row → Bool
in_order s r =
    (same_rule s r && leb s.part r.part)
    || (eqb r.set s.set && leb 1 s.set && eqb r.rule (s.rule + 1))
    || (eqb r.set (s.set + 1) && eqb r.rule 1)

-- 3: "op 41 an initial atom p, a, b", "constants only"
abbrev pub atom_row : Row → Bool
atom_row r = eqb r.op 41 && constant? r.a && constant? r.b

-- 3: "op 40 a ceiling, at most one per predicate", "a (1 to 65,535) is taken as predicate b (1 to 255)"
abbrev pub ceiling_row : Scan → Row → Bool
ceiling_row s r =
    eqb r.op 40 && constant_within 1 65535 r.a && constant_within 1 255 r.b && eqb (get_or s.ceilings r.p 0) 0

-- 3: "Set 0 rows have rule 0, part 0"
abbrev pub set_0_row : Scan → Row → Bool
set_0_row s r = eqb r.rule 0 && eqb r.part 0 && leb 1 r.p && unused? r.i && (atom_row r || ceiling_row s r)

-- 3: "Queries: 1 atom (i, p, a, b); 3 plan (i, a set, b rule); 5 remainder (i, a steps left); 7 justification (i plan, a atom);
-- 9 subgoal (i plan, a atom); 11 state (i, a a constant flag 1 to 16); 13 cycle (a). Op + 1 is the negation."
abbrev pub query : Row → Bool
query r =
    (within 1 2 r.op && leb 1 r.p)
    || (within 3 4 r.op && eqb r.p 0)
    || (within 5 10 r.op && eqb r.p 0 && unused? r.b)
    || (within 11 12 r.op && eqb r.p 0 && flag? r.a && unused? r.b)
    || (within 13 14 r.op && eqb r.p 0 && unused? r.i && unused? r.b)

-- "Each other body operand that is used is a constant or a variable": no any
abbrev pub names_atom : Row → Bool
names_atom r = leb 1 r.p && not (any? r.a) && not (any? r.b)

abbrev pub names_instance : Row → Bool
names_instance r = not (any? r.i) && eqb r.p 0 && unused? r.b

-- a variable that has no value yet
unfoldable pub new_variable : List ℕ → ℕ → Bool
new_variable valued x = variable? x && eqb (get_or valued x 0) 0

-- 3: "Actions of meta rules: 21 add-atom p, a, b, its id going to variable i, which has no value yet, or i = -9; 22 delete-atom i;
-- 23 set and 24 clear flag a (constant 1 to 16) of plan i; 25 delete-plan i."
unfoldable pub action : Scan → Row → Bool
action s r =
    (eqb r.op 21 && names_atom r && (any? r.i || new_variable s.valued r.i))
    || ((eqb r.op 22 || eqb r.op 25) && names_instance r && unused? r.a)
    || (within 23 24 r.op && names_instance r && flag? r.a)

-- 3: "Steps of plans: 31 external action p(a, b); 32 test that some atom p(a, b) is alive; 33 test that none is; 34 add-atom;
-- 35 delete-atom i; 36 subgoal p(a, b). In 34 and 36 i is -9."
unfoldable pub plan_step : Row → Bool
plan_step r =
    (within 31 33 r.op && names_atom r && unused? r.i)
    || ((eqb r.op 34 || eqb r.op 36) && names_atom r && any? r.i)
    || (eqb r.op 35 && names_instance r && unused? r.a)

-- The scan as the row finds it: a row of another rule begins that rule. "A rule whose first row is of part 2 or 3 counts as
-- meta from that row."
unfoldable pub begun : Scan → Row → Scan
begun s r =
    if same_rule s r then s
    else record {
      count = s.count;
      atoms = s.atoms;
      set = r.set;
      rule = r.rule;
      part = 0;
      reasons = 0;
      context = 0;
      body = 0;
      object = eqb r.part 1;
      valued = replicate 9 0;
      ceilings = s.ceilings;
    }

-- 3: "Reasons use 1; an object rule's context 1 and 2; a meta rule's context 1 to 14."
unfoldable pub rule_row : Scan → Row → Bool
rule_row s r =
    (eqb r.part 1 && eqb r.op 1 && query r)
    || (eqb r.part 2 && query r && (not s.object || leb r.op 2))
    || (eqb r.part 3 && s.object && plan_step r)
    || (eqb r.part 3 && not s.object && action s r)

-- 3: "A set holds one kind, that of its first rule; a row against it is 3."
abbrev pub against_kind : Scan → Row → Bool
against_kind s r = eqb r.set s.set && not (same_rule s r) && ((s.object && not (eqb r.part 1)) || (not s.object && eqb r.part 1))

-- 3: "row breaks a rule of its op, part or order"; s is the scan before the row, t as the row finds it
unfoldable pub breaks : Scan → Scan → Row → Bool
breaks s t r =
    not (in_order s r) || against_kind s r || (eqb r.set 0 && not (set_0_row s r)) || (leb 1 r.set && not (rule_row t r))

-- 4: "body variable without value"; the i of 21 takes one
unfoldable pub valueless : Scan → Row → Bool
valueless s r =
    eqb r.part 3
    && (new_variable s.valued r.a || new_variable s.valued r.b || (not (eqb r.op 21) && new_variable s.valued r.i))

-- "a variable given a value by a reason, a positive context row or an earlier 21"
unfoldable pub give : ℕ → List ℕ → List ℕ
give x valued = if variable? x then set valued x 1 else valued

abbrev pub odd_query : ℕ → Bool
odd_query n = eqb n 1 || eqb n 3 || eqb n 5 || eqb n 7 || eqb n 9 || eqb n 11 || eqb n 13

unfoldable pub gives : Row → List ℕ → List ℕ
gives r valued =
    if odd_query r.op then give r.i (give r.a (give r.b valued))
    else if eqb r.op 21 then give r.i valued
    else valued

unfoldable pub with_ceiling : Row → List ℕ → List ℕ
with_ceiling r table = if eqb r.set 0 && eqb r.op 40 then set table r.p 1 else table

-- the scan after the row
unfoldable pub taken : Scan → Row → Scan
taken s r = record {
  count = s.count + 1;
  atoms = s.atoms + bit (initial r);
  set = r.set;
  rule = r.rule;
  part = r.part;
  reasons = s.reasons + bit (eqb r.part 1);
  context = s.context + bit (eqb r.part 2);
  body = s.body + bit (eqb r.part 3);
  object = s.object;
  valued = gives r s.valued;
  ceilings = with_ceiling r s.ceilings;
}

-- "on each 2, 5, 3, 4": the refusal that a readable row meets, or 0
unfoldable pub fault : Scan → Scan → Row → ℕ
fault s t r = if too_many s r then 5 else if breaks s t r then 3 else if valueless t r then 4 else 0

pub data Verdict : Type 0 where
  passed : Scan → Verdict
  refused_at : ℕ → ℕ → Verdict

-- The tests on a readable row. Row n stands on line n + 1. "a rule lacking rows is 3 at its last line, found when a readable row
-- of another rule or the end of the text follows"
unfoldable pub take_row : Scan → Row → Verdict
take_row s r =
    if lacking s && not (same_rule s r) then refused_at 3 (s.count + 1)
    else if eqb (fault s (begun s r) r) 0 then passed (taken (begun s r) r)
    else refused_at (fault s (begun s r) r) (s.count + 2)

-- what a text loads to: the rows of a program, or the refusal's number and line
pub data Loaded : Type 0 where
  loaded : List Row → Loaded
  refused : ℕ → ℕ → Loaded

unfoldable pub finish : Scan → List Row → Loaded
finish s rows = if lacking s then refused 3 (s.count + 1) else loaded rows

-- what comes of a row: the rest of the load, or the refusal
unfoldable pub go_on : (Scan → Loaded) → Verdict → Loaded
go_on rest (passed s) = rest s
go_on rest (refused_at n k) = refused n k

unfoldable pub take_line : Scan → (Row → Scan → Loaded) → Option Row → Loaded
take_line s rest none = refused 2 (s.count + 2)
take_line s rest (some r) = go_on (rest r) (take_row s r)

-- "Load tests lines in order": the lines after the rows so far
unfoldable pub load_lines : Scan → List Row → Lines → Loaded
load_lines s rows end = finish s rows
load_lines s rows unended = refused 2 (s.count + 2)
load_lines s rows (line l ls) = take_line s (λ r t. load_lines t (rows ++ (r ∷ [])) ls) (read_row l)

-- "Line 1 is the names line."
unfoldable pub from_names : Lines → Loaded
from_names end = refused 2 1
from_names unended = refused 2 1
from_names (line l ls) = if same l names then load_lines at_first [] ls else refused 2 1

unfoldable pub load : List ℕ → Loaded
load text = from_names (lines text)

unfoldable pub opened : Unit {0}
unfolding at_first too_many new_variable action plan_step begun rule_row breaks valueless give gives with_ceiling taken fault take_row finish go_on take_line load_lines from_names load
opened = tt
