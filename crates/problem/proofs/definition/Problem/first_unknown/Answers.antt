use Rattle.std.proofs.Common.{◌+◌, sym, ap, ◌∙◌}
use Rattle.std.specs.Option.{option_map}
use Rattle.problem.specs.Loaded.{problem_of}
use Rattle.problem.proofs.PlanTexts.{unknown_is}
use Rattle.problem.proofs.definition.Problem.first_unknown.Goals as goal

pub returns-in_err-at : goal.returns-in_err-at
returns-in_err-at c =
    c.from_residual.ensures ∙ sym (unknown_is (problem_of c.args.self.now) c.args.rows.now ∙ ap (option_map (λ k. k + 1)) (sym c.unknown.ensures.is ∙ c.in_err-at.was))

pub returns : goal.returns
returns c = sym (unknown_is (problem_of c.args.self.now) c.args.rows.now ∙ ap (option_map (λ k. k + 1)) (sym c.unknown.ensures.is ∙ c.in_ok-at.was))
