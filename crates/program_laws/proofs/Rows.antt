-- What a lawful program says of one row: of which rule it is, what it names, and how large its columns are.
use mathlib.Core.Path.{◌≡◌, refl}
use mathlib.Core.Bool.{true, false, ◌&&◌, ◌||◌}
use mathlib.Core.Logic.{◌⊎◌, inl, inr, ⊎_elim, ◌≢◌}
use mathlib.Core.List.{List, [], ◌∷◌}
use Prim.Native.Nat.{ℕ, zero, suc, ◌≤◌}
use native.Mathlib.Omega.{arith}
use lib.Dec.{eqb}
use lib.ListN.{length}
use borrow.Author.Tests.{eqb-true, leb-true, not-true}
use Rattle.lists.specs.Lists.{In, first, within}
use Rattle.lists.proofs.Lists.{keep_in, or_cases}
use Rattle.model.specs.declared.Row.{Row}
use Rattle.model.specs.declared.Scan.{Scan}
use Rattle.model.specs.Program.{any?, variable?, unused?, flag?, constant, part_of, body, reasons, is_object, initial_atoms}
use Rattle.model.specs.Load.{new_variable, names_atom, names_instance, action, plan_step}
use Rattle.program_laws.specs.Lawful.{Lawful}
use Rattle.program_laws.proofs.Tests.{and_left, parts}
use Rattle.program_laws.proofs.Range.{InRange, in_range_of}
use Rattle.program_laws.proofs.Parts.{some_rows}

-- a row of a part stands in the program, in that place
pub record PartRow (program : List Row) (s n k : ℕ) (r : Row) : Type 0 where
  pub among : In r program
  pub set : r.set ≡ s
  pub rule : r.rule ≡ n
  pub part : r.part ≡ k

pub part_row : (program : List Row) (s n k : ℕ) (r : Row) → In r (part_of program s n k) → PartRow program s n k r
unfolding part_of
part_row program s n k r i =
    let h = keep_in (λ (r : Row). eqb r.set s && (eqb r.rule n && eqb r.part k)) program i in
    let e = h.1 in
    record { among = h.0; set = eqb-true _ _ (search parts); rule = eqb-true _ _ (search parts); part = eqb-true _ _ (search parts) }

-- "p(a, b)" of a body: no any
pub record NamesAtom (r : Row) : Type 0 where
  pub low : 1 ≤ r.p
  pub high : r.p ≤ 255
  pub a : any? r.a ≡ false
  pub b : any? r.b ≡ false

names_of : (r : Row) → r.p ≤ 255 → names_atom r ≡ true → NamesAtom r
names_of r h e = record { low = leb-true _ _ (search parts); high = h; a = not-true _ (search parts); b = not-true _ (search parts) }

-- a step of a plan
pub record StepRow (r : Row) : Type 0 where
  pub low : 31 ≤ r.op
  pub high : r.op ≤ 36
  pub atom : r.op ≢ 35 → NamesAtom r
  pub instance : r.op ≡ 35 → any? r.i ≡ false

step_of : (r : Row) → r.p ≤ 255 → plan_step r ≡ true → StepRow r
unfolding plan_step
step_of r h e = ⊎_elim (λ q. ⊎_elim tests makes (or_cases _ _ q)) deletes (or_cases _ _ e)
  where
    tests : within 31 33 r.op && names_atom r && unused? r.i ≡ true → StepRow r
    tests q =
        let low : 31 ≤ r.op = leb-true _ _ (search parts depth 9) in
        let high : r.op ≤ 33 = leb-true _ _ (search parts depth 9) in
        record { low = low; high = omega arith; atom = λ o. names_of r h (search parts); instance = λ o. absurd (omega arith) }

    makes : (eqb r.op 34 || eqb r.op 36) && names_atom r && any? r.i ≡ true → StepRow r
    makes q =
        let one : eqb r.op 34 || eqb r.op 36 ≡ true = search parts in
        let op : (34 ≤ r.op) × (r.op ≤ 36) × (r.op ≢ 35)
        = ⊎_elim (λ k. let o = eqb-true r.op 34 k in omega arith) (λ k. let o = eqb-true r.op 36 k in omega arith) (or_cases _ _ one) in
        record { low = omega arith; high = op.1; atom = λ z. names_of r h (search parts); instance = λ z. absurd (op.2 z) }

    deletes : eqb r.op 35 && names_instance r && unused? r.a ≡ true → StepRow r
    deletes q =
        let o : r.op ≡ 35 = eqb-true _ _ (search parts depth 9) in
        record { low = omega arith; high = omega arith; atom = λ z. absurd (z o); instance = λ z. not-true _ (search parts depth 9) }

-- an action of a meta rule
pub record ActionRow (r : Row) : Type 0 where
  pub low : 21 ≤ r.op
  pub high : r.op ≤ 25
  pub atom : r.op ≡ 21 → NamesAtom r
  pub takes_id : r.op ≡ 21 → (any? r.i ≡ true) ⊎ (variable? r.i ≡ true)
  pub instance : r.op ≢ 21 → any? r.i ≡ false
  pub flag : (r.op ≡ 23) ⊎ (r.op ≡ 24) → flag? r.a ≡ true

action_of : (r : Row) → r.p ≤ 255 → (t : Scan) → action t r ≡ true → ActionRow r
unfolding action new_variable
action_of r h t e = ⊎_elim (λ q. ⊎_elim adds deletes (or_cases _ _ q)) flags (or_cases _ _ e)
  where
    adds : eqb r.op 21 && names_atom r && (any? r.i || new_variable t.valued r.i) ≡ true → ActionRow r
    adds q =
        let o : r.op ≡ 21 = eqb-true _ _ (search parts depth 9) in
        let i : any? r.i || new_variable t.valued r.i ≡ true = search parts in
        record {
          low = omega arith;
          high = omega arith;
          atom = λ z. names_of r h (search parts);
          takes_id = λ z. ⊎_elim (λ k. inl k) (λ k. inr (and_left (variable? r.i) _ k)) (or_cases _ _ i);
          instance = λ z. absurd (z o);
          flag = ⊎_elim (λ z. absurd (omega arith)) (λ z. absurd (omega arith));
        }

    deletes : (eqb r.op 22 || eqb r.op 25) && names_instance r && unused? r.a ≡ true → ActionRow r
    deletes q =
        let one : eqb r.op 22 || eqb r.op 25 ≡ true = search parts in
        let op : (22 ≤ r.op) × (r.op ≤ 25) × (r.op ≢ 23) × (r.op ≢ 24)
        = ⊎_elim (λ k. let o = eqb-true r.op 22 k in omega arith) (λ k. let o = eqb-true r.op 25 k in omega arith) (or_cases _ _ one) in
        record {
          low = omega arith;
          high = op.1;
          atom = λ z. absurd (omega arith);
          takes_id = λ z. absurd (omega arith);
          instance = λ z. not-true _ (search parts depth 9);
          flag = ⊎_elim (λ z. absurd (op.2 z)) (λ z. absurd (op.3 z));
        }

    flags : within 23 24 r.op && names_instance r && flag? r.a ≡ true → ActionRow r
    flags q =
        let low : 23 ≤ r.op = leb-true _ _ (search parts depth 9) in
        let high : r.op ≤ 24 = leb-true _ _ (search parts depth 9) in
        record {
          low = omega arith;
          high = omega arith;
          atom = λ z. absurd (omega arith);
          takes_id = λ z. absurd (omega arith);
          instance = λ z. not-true _ (search parts depth 9);
          flag = λ z. search parts;
        }

-- "23 set and 24 clear flag a (constant 1 to 16)"
pub action_flag : (r : Row) → ActionRow r → (r.op ≡ 23) ⊎ (r.op ≡ 24) → (1 ≤ constant r.a) × (constant r.a ≤ 16)
action_flag r a o =
    let f = a.flag o in
    let low : 10 ≤ r.a = leb-true _ _ (search parts) in
    let high : r.a ≤ 25 = leb-true _ _ (search parts) in
    omega arith

-- "Columns i, a, b of rules are operands": a constant is at most 65,535
pub constant_small : (x : ℕ) → x ≤ 65544 → constant x ≤ 65535
constant_small x h = omega arith

module _ {program : List Row} (w : Lawful program) where
  pub row_range : (r : Row) → In r program → InRange r
  row_range r i = in_range_of r (w.ranges r i)

  pub object_step : (s n : ℕ) → is_object program s n ≡ true → (r : Row) → In r (body program s n) → StepRow r
  object_step s n o r i = step_of r (row_range r (part_row program s n 3 r i).among).p (w.object_body s n o r i)

  pub meta_action : (s n : ℕ) → is_object program s n ≡ false → (r : Row) → In r (body program s n) → ActionRow r
  meta_action s n o r i = let a = w.meta_body s n o r i in action_of r (row_range r (part_row program s n 3 r i).among).p a.0 a.1

  -- an initial atom's row and a ceiling's
  pub initial_row : (r : Row) → In r (initial_atoms program) → In r program
  unfolding initial_atoms
  initial_row r i = (keep_in (λ (r : Row). eqb r.set 0 && eqb r.op 41) program i).0

  -- an object rule has a reason, and is none of set 0
  pub object_reasons : (s n : ℕ) → is_object program s n ≡ true → 1 ≤ length (reasons program s n)
  unfolding is_object
  object_reasons s n o = some_rows (reasons program s n) o

  pub object_place : (s n : ℕ) → is_object program s n ≡ true → (1 ≤ s) × (s ≤ 8) × (1 ≤ n) × (n ≤ 32)
  object_place s n o = go (reasons program s n) (λ r i. part_row program s n 1 r i) (object_reasons s n o)
    where
      go : (l : List Row) → ((r : Row) → In r l → PartRow program s n 1 r) → 1 ≤ length l → (1 ≤ s) × (s ≤ 8) × (1 ≤ n) × (n ≤ 32)
      go [] f h = absurd (omega arith)
      go (r ∷ l) f h = of_row r (f r (first refl)) r.set refl
        where
          of_row : (r : Row) → PartRow program s n 1 r → (m : ℕ) → r.set ≡ m → (1 ≤ s) × (s ≤ 8) × (1 ≤ n) × (n ≤ 32)
          of_row r q zero e = let z = (w.set_0_rows r q.among e).1 in let d = q.part in absurd (omega arith)
          of_row r q (suc m) e = let z = w.rule_rows r q.among (omega arith) in let d = q.set in let c = q.rule in omega arith
