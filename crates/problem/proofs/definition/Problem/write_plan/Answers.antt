use Rattle.std.proofs.Common.{length}
use Rattle.std.proofs.lemmas.Bool.{leb-true}
use Rattle.std.proofs.lemmas.Result.{err_from_is_err_and}
use Rattle.problem.specs.Loaded.{problem_of}
use Rattle.problem.specs.Plans.{plan_text}
use Rattle.problem.proofs.Texts.{keeps}
use Rattle.problem.proofs.PlanTexts.{asked_yes, plan_wrote, plan_short, plan_loads_lem}
use Rattle.problem.proofs.definition.Problem.write_plan.Goals as goal

pub returns-in_err-count-clause-writes : goal.returns-in_err-count-clause-writes
unfolding problem_of plan_text
returns-in_err-count-clause-writes c =
    let p = err_from_is_err_and c.from_residual-in_err-count.result c.from_residual-in_err-count.ensures.1 in
    let few = leb-true (length c.args.rows.now) 2000 (asked_yes _ _ c.in_ok-ask.ensures) in
    simp (p.1, p.2) (plan_short (problem_of c.args.self.now) c.args.rows.now few c.in_default.ensures c.args.bytes.now c.write.new.bytes c.in_err-count.field-0.0 c.in_err-count.ensures)

pub returns-clause-writes : goal.returns-clause-writes
unfolding problem_of plan_text
returns-clause-writes c =
    let few = leb-true (length c.args.rows.now) 2000 (asked_yes _ _ c.in_ok-ask.ensures) in
    plan_wrote (problem_of c.args.self.now) c.args.rows.now few c.in_default.ensures c.args.bytes.now c.write.new.bytes c.in_ok-count.count c.in_ok-count.ensures

pub returns-clause-loads_back : goal.returns-clause-loads_back
unfolding problem_of plan_text
returns-clause-loads_back c =
    let few = leb-true (length c.args.rows.now) 2000 (asked_yes _ _ c.in_ok-ask.ensures) in
    plan_loads_lem (problem_of c.args.self.now) c.args.rows.now few c.in_default.ensures (keeps c.args.self.now) c.args.bytes.now c.write.new.bytes c.in_ok-count.count c.in_ok-count.ensures
