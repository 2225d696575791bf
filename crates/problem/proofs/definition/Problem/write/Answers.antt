use Rattle.std.proofs.Common.{ℕ, List, subst}
use Rattle.text.specs.Rendered.{Written}
use Rattle.problem.specs.Files.{text_of}
use Rattle.problem.specs.Loaded.{problem_of}
use Rattle.problem.proofs.Texts.{bytes_are, always_fits, written_back}
use Rattle.problem.proofs.definition.Problem.write.Goals as goal

pub returns : goal.returns
returns c =
    let p = c.args.self.now in
    let w : Written (text_of (problem_of p)) c.args.bytes.now c.write.new.bytes c.write.result = subst (λ (t : List ℕ). Written t c.args.bytes.now c.write.new.bytes c.write.result) (bytes_are p) c.write.ensures in
    record { writes = w; never_longer = always_fits p c.args.bytes.now c.write.new.bytes c.write.result w; loads_back = written_back p c.args.bytes.now c.write.new.bytes c.write.result w }
