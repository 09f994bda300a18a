use Rattle.std.specs.Prelude.{Err}
use mathlib.Core.Path.{sym, ◌∙◌}
use Rattle.interpreter.specs.Playing.{after_load}
use Rattle.interpreter.proofs.Loads.{none_played, rows_whole, rows_stand, begun, then_calls}
use Rattle.interpreter.proofs.Totals.{accounts}
use Rattle.interpreter.proofs.Encoded.{every_list}
use Rattle.interpreter.proofs.play.Goals as goal

pub slice_bounds-rows-end : goal.slice_bounds-rows-end
slice_bounds-rows-end c = rows_stand _ _ _ _ _ _ c.in-Ok.ensures.program_after

pub slice_bounds-play_calls-end : goal.slice_bounds-play_calls-end
slice_bounds-play_calls-end c = rows_whole _ _ _ _ _ _ c.in-Ok.ensures.program_after

pub play_calls-requires : goal.play_calls-requires
play_calls-requires c = begun _ _ _ _ _ _ c.in-Ok.ensures.program_after

pub returns-in-Ok : goal.returns-in-Ok
unfolding after_load
returns-in-Ok c =
    let e = c.play_calls.ensures ∙ sym (then_calls _ _ _ _ _ _ c.in-Ok.ensures.program_after _) in
    record {
      result_value = e;
      accounted = accounts _ _ _ e;
      every_list = every_list;
    }

pub returns-in-Err : goal.returns-in-Err
returns-in-Err c =
    let e = none_played _ _ _ _ _ _ c.in-Err.ensures.program_after c.fresh-config.ensures _ in
    record {
      result_value = e;
      accounted = accounts _ _ (record { config = c.load.new.config; worked = Err c.in-Err.error }) e;
      every_list = every_list;
    }
