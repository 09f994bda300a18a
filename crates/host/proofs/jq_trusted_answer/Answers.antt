-- What the call tells is settled in the lent slices.
use Rattle.std.proofs.Common.{◌≡◌, rules, length}
use Rattle.model.specs.Claims.{to_answer}
use Rattle.in_place.specs.Given.{given_rows}
use Rattle.host.proofs.Settled.{call_after}
use Rattle.host.proofs.jq_trusted_answer.Goals as goal

pub returns : goal.returns
returns c =
    let a = c.args in
    let told = c.answer_admitted-told in
    let s = c.settle in
    let same : c.unwrap-words.result.now ≡ a.words.now = search rules in
    let long : length told.new.words ≡ 2432 = search rules in
    let all = call_after a.program.now a.words.now told.new.words a.scalars.now s.new.scalars a.report.now s.new.report told.new.scalars s.result
    c.requires _ _ same c.scalars_of-left.ensures long told.ensures.stays (to_answer (given_rows a.program.now) a.n)
    told.result c.map.result told.ensures.result_after told.ensures.untouched c.map.ensures.cases s.ensures in record {
      report_after = all.0;
      untouched = all.1;
      stays = all.2;
    }
