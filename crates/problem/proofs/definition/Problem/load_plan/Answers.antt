use Rattle.std.proofs.Common.{◌≡◌, ℕ, ◌≤◌, ◌++◌, length, drop, vec_items, sym, refl, ap, ◌∙◌, arith}
use Rattle.std.proofs.lemmas.Result.{err_from_is_err_and}
use Rattle.problem.specs.Loaded.{problem_of}
use Rattle.problem.proofs.PlanLaws.{plan_back, plan_exactly}
use Rattle.problem.proofs.Stopping.{plan_stops}
use Rattle.problem.proofs.Texts.{keeps}
use Rattle.problem.proofs.definition.Problem.load_plan.Goals as goal

pub returns-in_err-loaded : goal.returns-in_err-loaded
returns-in_err-loaded c =
    let p = err_from_is_err_and c.from_residual.result c.from_residual.ensures.1 in
    simp (p.1, p.2) record { fills = (c.in_err-loaded.ensures, refl); exactly = plan_exactly (problem_of c.args.self.now) (length c.args.rows.now) (keeps c.args.self.now) c.args.text.now; stops = plan_stops (problem_of c.args.self.now) (length c.args.rows.now) c.args.text.now _ c.in_err-loaded.ensures }

pub store_rows-requires : goal.store_rows-requires
store_rows-requires c =
    let few : length (vec_items c.in_ok-loaded.loaded) ≤ length c.args.rows.now = (plan_back (problem_of c.args.self.now) (length c.args.rows.now) c.args.text.now _ c.in_ok-loaded.ensures).1 in
    let is = ap length c.deref.ensures.value in
    omega (arith, is)

pub returns : goal.returns
returns c =
    let v = c.in_ok-loaded.loaded in
    let e = c.in_ok-loaded.ensures in
    let few : length (vec_items v) ≤ length c.args.rows.now = (plan_back (problem_of c.args.self.now) (length c.args.rows.now) c.args.text.now _ e).1 in
    let n : c.len.result ≡ length (vec_items v) = c.len.ensures ∙ v.ok.0 in
    record {
      fills = (
        vec_items v,
        e,
        n,
        omega arith,
        c.store_rows.ensures ∙ (λ i. c.deref.ensures.value i ++ drop (length (c.deref.ensures.value i)) c.args.rows.now) ∙ ap (λ (k : ℕ). vec_items v ++ drop k c.args.rows.now) (sym n),
      );
      exactly = plan_exactly (problem_of c.args.self.now) (length c.args.rows.now) (keeps c.args.self.now) c.args.text.now;
      stops = tt;
    }
