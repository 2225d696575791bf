-- The lines that programs print of a fault and of a problem. Assumes nothing.
use Rattle.std.specs.Prelude.{ℕ, Bool, cond, List, [], ◌∷◌, ◌++◌, length, Some, None, vec_len, codes, decimal, Option}
use Rattle.std.specs.Str.{bytes_eq}
use Rattle.base.specs.Questions.{number_of}
use Rattle.text.specs.Lists.{line_of}
use Rattle.problem.specs.declared.faults.LoadFault.{LoadFault}
use Rattle.problem.specs.declared.faults.LoadFault.TheVariants.{Text, Entry, Memory}
use Rattle.problem.specs.declared.faults.Refusal.{Refusal}
use Rattle.problem.specs.declared.reports.FaultLine.{FaultLine}
use Rattle.problem.specs.declared.reports.Summary.{Summary}
use Rattle.problem.specs.Data.{ProblemData}

-- the question and the place, whoever asked; want of memory has none
abbrev pub refusal_of : {W : Type 0} → LoadFault W → Option Refusal
refusal_of (Text f) = Some (record { question = f.question; place = f.place })
refusal_of (Entry f) = Some f
refusal_of (Memory p) = None

-- `fault=`, the subject, and the refusal's number, line and byte, with commas between them
abbrev pub fault_line : List ℕ → Refusal → List ℕ
fault_line subject f =
    codes "fault=" ++ (subject ++ (codes "," ++ (decimal (number_of f.question) ++ (codes "," ++ (decimal f.place.line ++ (codes "," ++ (decimal f.place.byte ++ (10 ∷ []))))))))

abbrev pub fault_bytes : FaultLine → List ℕ
fault_bytes f = fault_line f.subject.now f.refusal

-- what was loaded, line by line; the last two tell the length of the text, and 1 where the text written back is that text, else 0
abbrev pub summary_lines : ℕ → ℕ → ℕ → ℕ → ℕ → ℕ → ℕ → Bool → List ℕ
summary_lines number facts ops tasks methods first bytes same =
    line_of (codes "shop") (number ∷ [])
    ++ (line_of (codes "facts") (facts ∷ [])
    ++ (line_of (codes "ops") (ops ∷ [])
    ++ (line_of (codes "tasks") (tasks ∷ [])
    ++ (line_of (codes "methods") (methods ∷ [])
    ++ (line_of (codes "first") (first ∷ [])
    ++ (line_of (codes "bytes") (bytes ∷ [])
    ++ line_of (codes "same") (cond same 1 0 ∷ [])))))))

abbrev pub summary : ProblemData → List ℕ → List ℕ → List ℕ
summary p text back = summary_lines p.number p.facts (length p.operators) p.tasks (length p.methods) (length p.first) (length text) (bytes_eq text back)

abbrev pub summary_bytes : Summary → List ℕ
summary_bytes s =
    let p = s.problem.now in
    summary_lines p.number p.facts (vec_len p.operators) p.tasks (vec_len p.methods) (vec_len p.first) s.bytes s.same
