use Rattle.std.proofs.Common.{ℕ, List, sym, refl, ap, ◌∙◌}
use Rattle.std.proofs.lemmas.Result.{err_from_is_err_and}
use Rattle.problem.specs.Files.{loads}
use Rattle.problem.specs.Loaded.{LoadsExactly}
use Rattle.problem.proofs.FileLaws.{file_there, file_back}
use Rattle.problem.proofs.Stopping.{file_stops}
use Rattle.problem.proofs.definition.Problem.load.Goals as goal

exactly : (text : List ℕ) → LoadsExactly text
exactly text p = ((λ e. file_back text p e), (λ l t. ap loads (sym t) ∙ file_there p l))

pub returns-in_err-loaded : goal.returns-in_err-loaded
returns-in_err-loaded c =
    let p = err_from_is_err_and c.from_residual.result c.from_residual.ensures.1 in
    simp (p.1, p.2) record { fills = (c.in_err-loaded.ensures, refl); exactly = exactly c.args.text.now; back = tt; stops = file_stops c.args.text.now _ c.in_err-loaded.ensures }

pub returns : goal.returns
returns c =
    let e = c.in_ok-loaded.ensures in
    record { fills = e; exactly = exactly c.args.text.now; back = (file_back c.args.text.now _ e).1; stops = tt }
