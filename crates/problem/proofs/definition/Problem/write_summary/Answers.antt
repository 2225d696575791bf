use Rattle.std.proofs.Common.{◌≡◌, ℕ, Bool, List, length, subst, rules}
use Rattle.std.specs.Str.{bytes_eq}
use Rattle.text.specs.Rendered.{Written}
use Rattle.problem.specs.declared.definition.Problem.{Problem}
use Rattle.problem.specs.Loaded.{problem_of}
use Rattle.problem.specs.Reports.{summary_lines, summary}
use Rattle.problem.proofs.Texts.{operators_are, methods_are}
use Rattle.problem.proofs.definition.Problem.write_summary.Goals as goal

lines_are : (p : Problem) (text back : List ℕ) (same : Bool) → same ≡ bytes_eq text back
    → summary_lines p.number p.facts p.operators.len p.tasks p.methods.len p.first.len (length text) same ≡ summary (problem_of p) text back
unfolding problem_of
lines_are p text back same e = λ i. summary_lines p.number p.facts (operators_are p i) p.tasks (methods_are p i) (p.first.ok.0 i) (length text) (e i)

pub returns : goal.returns
returns c =
    let same : c.eq-same.result ≡ bytes_eq c.args.text.now c.args.back.now = search rules in
    subst (λ (t : List ℕ). Written t c.args.bytes.now c.write.new.bytes c.write.result)
    (lines_are c.args.self.now c.args.text.now c.args.back.now c.eq-same.result same) c.write.ensures
