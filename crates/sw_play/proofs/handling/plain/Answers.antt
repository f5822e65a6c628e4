use Rattle.std.proofs.Common.{map}
use Rattle.std.specs.Prelude.{string_bytes}
use Rattle.sw_following.specs.Following.{IsFresh}
use Rattle.sw_play.proofs.Counts.{enough}
use Rattle.sw_play.proofs.Texts.{plain_so}
use Rattle.sw_play.proofs.handling.plain.Goals as goal

pub run-requires : goal.run-requires
run-requires c =
    enough (IsFresh c.args.script.now) c.args.settings.now (map (λ hs. hs.items) c.in_ok-crew.crew.items) c.in_ok-tasks.tasks.items c.worker_num.result c.task_worker_num.result c.generation_num-generations.result
    c.worker_num.ensures.value c.task_worker_num.ensures.value c.generation_num-generations.ensures.bounds.0 c.in_ok-crew.ensures c.in_ok-tasks.ensures.0

pub returns : goal.returns
returns c =
    plain_so c.args.script.now c.args.settings.now (map (λ hs. hs.items) c.in_ok-crew.crew.items) c.in_ok-tasks.tasks.items c.args.lines string_bytes c.run.result c.worker_num.result c.task_worker_num.result c.generation_num-generations.result
    c.worker_num.ensures.value c.task_worker_num.ensures.value c.generation_num-generations.ensures.value c.in_ok-crew.ensures c.in_ok-tasks.ensures c.run.ensures
