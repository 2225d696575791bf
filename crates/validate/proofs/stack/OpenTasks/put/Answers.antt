use Rattle.std.proofs.Common.{rules, ◌+◌, ◌≤◌, ◌<◌, ◌++◌, length, reverse, take, set, vec_items, sym, ap, ◌∙◌, arith, length-set}
use Rattle.std.proofs.lemmas.List.{length-reverse, length_push, with_items_is}
use Rattle.std.proofs.lemmas.Iterator.Adapters.{YieldsList-from_rev_slice}
use Rattle.std.proofs.lemmas.Iterator.Consumers.{YieldsList-turn}
use Rattle.rules.specs.declared.entries.OpenTask.{OpenTask}
use Rattle.rules.specs.Places.{at_level}
use Rattle.validate.specs.Stacks.{tasks_of, rows_of}
use Rattle.validate.proofs.Stacking.{push_more, tasks_long}
use Rattle.validate.proofs.stack.OpenTasks.put.Goals as goal

pub invariant_of-self : goal.invariant_of-self
invariant_of-self c =
    let fits : length c.args.tasks.now + c.args.self.now.used ≤ length (rows_of c.args.self.now) = search rules in
    let turn = YieldsList-turn (YieldsList-from_rev_slice c.args.tasks.now cc) c.loop-task.yielded _ c.loop-task.yielded_by _ _ c.in-Some.task c.in-Some.is c.next.ensures.steps in
    let i = c.loop-task.invariant in
    record {
      within = omega (arith, turn.0, length-reverse c.args.tasks.now, i.3, i.5, fits, c.args.self.now.room, tasks_long c.args.self.now);
      room = omega (arith, ap length i.6, i.5, c.args.self.now.room);
    }

pub loop-task-preserved : goal.loop-task-preserved
loop-task-preserved c =
    let fits : length c.args.tasks.now + c.args.self.now.used ≤ length (rows_of c.args.self.now) = search rules in
    let turn = YieldsList-turn (YieldsList-from_rev_slice c.args.tasks.now cc) c.loop-task.yielded _ c.loop-task.yielded_by _ _ c.in-Some.task c.in-Some.is c.next.ensures.steps in
    let i = c.loop-task.invariant in
    let now = c.loop-task.self in
    let backwards = reverse c.args.tasks.now in
    let rest = tasks_of c.args.self.now in
    let more = length_push c.loop-task.yielded c.in-Some.task in
    let long = length-reverse c.args.tasks.now in
    let room : now.used < length (vec_items now.entries) = omega (arith, turn.0, long, i.3, i.5, fits, c.args.self.now.room, tasks_long c.args.self.now, now.entries.ok.0) in
    let put : OpenTask = record { task = c.in-Some.task.now; level = c.args.level } in
    let stored = c.store.ensures.after ∙ ap (λ xs. set xs now.used put) c.as_mut_slice.ensures.value in
    let is = with_items_is now.entries c.store.new.entries (ap length stored ∙ length-set (vec_items now.entries) now.used put ∙ sym now.entries.ok.0) ∙ stored in (
      tt,
      tt,
      push_more (vec_items now.entries) _ c.args.level now.used (length c.loop-task.yielded) _ backwards rest is room turn.0 turn.1 i.2
          ∙ ap (λ n. at_level c.args.level (reverse (take n backwards)) ++ rest) (sym more),
      omega (arith, i.3, more),
      omega (arith, turn.0, long, more),
      i.5,
      i.6,
    )
