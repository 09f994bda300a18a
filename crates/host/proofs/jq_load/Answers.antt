-- A refused load, and an accepted one with what it leaves in the lent slices.
use mathlib.Core.Path.{◌≡◌, refl, sym, ap, ◌∙◌}
use mathlib.Core.List.{List}
use Prim.Native.Nat.{ℕ}
use lib.ListN.{length}
use Rattle.loading.specs.Starting.{starting}
use Rattle.state.specs.View.{config_of}
use Rattle.host.specs.Layout.{scalars_of, padded}
use Rattle.host.proofs.Settled.{long, sized_by, held_as}
use Rattle.host.proofs.Loads.{load_refused, load_accepted}
use Rattle.host.proofs.Started.{load_trusted}
use Rattle.host.proofs.jq_load.Goals as goal

pub returns-in-Err : goal.returns-in-Err
returns-in-Err c =
    let a = c.args in
    let z = sym c.is_sized.ensures ∙ c.if-not-is_sized.false in
    let was = c.fresh-config.result in
    let lent = c.in-Some.ensures.cases in
    let e = c.in-Err.ensures.program_after ∙ ap (λ (x : List ℕ). starting a.text.now x (config_of was.words was.scalars)) lent.same in
    let r = load_refused a.text.now a.program.now a.words.now a.scalars.now a.report.now lent.long z c.load.new.program _ _
    c.in-Err.error e c.number.result c.number.ensures in record {
      program_after = r.0;
      untouched = λ n. (r.1, refl, refl, refl);
      formed = λ y. absurd (r.2 y);
    }

pub returns-in-Ok : goal.returns-in-Ok
unfolding padded
returns-in-Ok c =
    let a = c.args in
    let z = sym c.is_sized.ensures ∙ c.if-not-is_sized.false in
    let was = c.fresh-config.result in
    let lent = c.in-Some.ensures.cases in
    let e = c.in-Ok.ensures.program_after ∙ ap (λ (x : List ℕ). starting a.text.now x (config_of was.words was.scalars)) lent.same in
    let words = c.copy_from_slice.new.self in
    let scalars = c.copy_from_slice-in-Ok.new.self in
    let report = c.copy_from_slice-in-Ok-2.new.self in
    let w = c.copy_from_slice.ensures in
    let s = c.copy_from_slice-in-Ok.ensures.after ∙ c.scalar_words.ensures in
    let t = c.copy_from_slice-in-Ok-2.ensures.after in
    let size = sized_by words scalars report (w.len ∙ (long a.words.now a.scalars.now a.report.now z).0) (ap length s) (ap length t) in
    let left = c.load.new.config in
    let h : config_of words (scalars_of scalars) ≡ config_of left.words left.scalars = λ i. config_of (w.after i) (scalars_of (s i)) in record {
      program_after = load_accepted a.text.now a.program.now a.words.now a.scalars.now a.report.now lent.long z c.load.new.program _ _
          c.in-Ok.rows e words scalars report (held_as words scalars report size ∙ h) t;
      untouched = λ n. absurd (n refl);
      formed = λ y. load_trusted a.text.now a.program.now _ _ c.in-Ok.rows c.load.new.program e words scalars report size h t;
    }
