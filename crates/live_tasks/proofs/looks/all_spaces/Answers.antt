use Rattle.std.proofs.Common.{length, refl, ◌∙◌, arith}
use Rattle.std.proofs.lemmas.Option.{slice_get_read}
use Rattle.live_tasks.specs.Below.system_meaning.specs.Supervisor.{spaces_of}
use Rattle.live_tasks.proofs.Counting.{sum_more, sum_all}
use Rattle.live_tasks.proofs.Standing.{For, as_long}
use Rattle.live_tasks.proofs.Zips.{zip_found}
use Rattle.live_tasks.proofs.looks.all_spaces.Goals as goal

pub loop-task-preserved : goal.loop-task-preserved
loop-task-preserved c = record {
  few = omega (arith, c.loop-task.invariant.few, c.spaces-count.ensures.few);
  told =
      λ kinds_of pages owns h.
      let tasks = c.args.tasks.now in
      let at = slice_get_read tasks (length tasks) c.loop-task.task-index c.task-item.result refl c.loop-task-test.true c.task-item.is in
      let found = zip_found (For kinds_of pages) tasks owns c.loop-task.task-index c.task-item.result h at in
      let own = found.0 in
      omega (
        arith,
        c.loop-task.invariant.told kinds_of pages owns h,
        c.spaces-count.ensures.count (kinds_of own.packets) pages own found.2,
        sum_more spaces_of owns c.loop-task.task-index own found.1,
      );
}

pub returns-clause-count : goal.returns-clause-count
returns-clause-count c = λ kinds_of pages owns h.
    let long = as_long kinds_of pages c.args.tasks.now owns h in
    c.loop-task.invariant.told kinds_of pages owns h ∙ sum_all spaces_of owns c.loop-task.task-index (omega (arith, long, c.loop-task-test.false))
