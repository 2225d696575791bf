use Rattle.std.proofs.Common.{◌≡◌, ℕ, ◌+◌, [], ◌∷◌, ◌++◌, length, sym, ap, ◌∙◌, add-zero, arith}
use Rattle.std.proofs.lemmas.List.{take_rest}
use Rattle.std.proofs.lemmas.Result.{err_from_is_err_and}
use Rattle.text.specs.Values.{due, scan, numbers_of}
use Rattle.text.proofs.FedLaws.{fed_start, fed_push, fed_is, fed_to}
use Rattle.text.proofs.Turns.{on_last, on_empty, on_stop, on_more, on_put, at_end_lem, took, refused, line_as, fault_as}
use Rattle.text.proofs.values.value.Goals as goal

pub loop-i-init : goal.loop-i-init
loop-i-init g c = ([], fed_start g.V.Numbers.takes _, ap (λ (at : ℕ). scan c.args.many (due c.args.many) at c.args.bytes.now) (sym (add-zero c.args.from)))

pub returns-in-Last-clause-reads : goal.returns-in-Last-clause-reads
returns-in-Last-clause-reads g c =
    let i = c.loop-i.invariant in
    line_as _ _ _ _ _ (on_last _ _ c.args.bytes.now c.args.from c.loop-i.i _ i.0 c.loop-i-test.true i.2 c.in-Last.n (took _ _ c.in_ok-next.ensures.ok_part c.take_byte.ensures c.in-Last.is)) (take_rest c.args.bytes.now (c.loop-i.i + 1))

pub returns-in-Last-clause-fed : goal.returns-in-Last-clause-fed
returns-in-Last-clause-fed g c =
    let i = c.loop-i.invariant in
    let e = on_last _ _ c.args.bytes.now c.args.from c.loop-i.i _ i.0 c.loop-i-test.true i.2 c.in-Last.n (took _ _ c.in_ok-next.ensures.ok_part c.take_byte.ensures c.in-Last.is) in
    fed_is g.V.Numbers.takes _ _ _ _ (sym (ap numbers_of e)) (fed_push g.V.Numbers.takes _ i.0 c.loop-i.out c.in-Last.n _ i.1 c.put-in-Last.ensures)

pub returns-in-Empty-clause-reads : goal.returns-in-Empty-clause-reads
returns-in-Empty-clause-reads g c =
    let i = c.loop-i.invariant in
    line_as _ _ _ _ _ (on_empty _ _ c.args.bytes.now c.args.from c.loop-i.i _ i.0 c.loop-i-test.true i.2 (took _ _ c.in_ok-next.ensures.ok_part c.take_byte.ensures c.in-Empty.is)) (take_rest c.args.bytes.now (c.loop-i.i + 1))

pub returns-in-Empty-clause-fed : goal.returns-in-Empty-clause-fed
returns-in-Empty-clause-fed g c =
    let i = c.loop-i.invariant in
    let e = on_empty _ _ c.args.bytes.now c.args.from c.loop-i.i _ i.0 c.loop-i-test.true i.2 (took _ _ c.in_ok-next.ensures.ok_part c.take_byte.ensures c.in-Empty.is) in
    fed_is g.V.Numbers.takes _ _ _ _ (sym (ap numbers_of e)) i.1

pub returns-in_err-next-clause-reads : goal.returns-in_err-next-clause-reads
returns-in_err-next-clause-reads g c =
    let i = c.loop-i.invariant in
    let p = err_from_is_err_and c.from_residual.result c.from_residual.ensures.1 in
    rw (p.1, p.2 ∙ refused _ _ _ c.in_err-next.ensures.ok_part c.in_err-next.ensures.value)
    (fault_as _ _ _ (on_stop _ _ c.args.bytes.now c.args.from c.loop-i.i _ i.0 c.loop-i-test.true i.2 _ c.in_err-next.ensures.ok_part c.take_byte.ensures))

pub returns-in_err-next-clause-fed : goal.returns-in_err-next-clause-fed
returns-in_err-next-clause-fed g c =
    let i = c.loop-i.invariant in
    let e = on_stop _ _ c.args.bytes.now c.args.from c.loop-i.i _ i.0 c.loop-i-test.true i.2 _ c.in_err-next.ensures.ok_part c.take_byte.ensures in
    fed_is g.V.Numbers.takes _ _ _ _ (sym (ap numbers_of e)) i.1

pub loop-i-preserved : goal.loop-i-preserved
loop-i-preserved g c =
    let i = c.loop-i.invariant in
    elim c.match-branch-2.branch [
      | goal.in-On w ↦ (
        i.0,
        fed_to g.V.Numbers.takes _ _ _ _ w.out-is i.1,
        on_more _ _ c.args.bytes.now c.args.from c.loop-i.i _ i.0 c.loop-i-test.true i.2 _ _ (took _ _ c.in_ok-next.ensures.ok_part c.take_byte.ensures w.in-On.is) w.before-is,
      )
      | goal.in-Put w ↦ (
        i.0 ++ (w.in-Put.n ∷ []),
        fed_to g.V.Numbers.takes _ _ _ _ w.out-is (fed_push g.V.Numbers.takes _ i.0 c.loop-i.out w.in-Put.n _ i.1 w.put.ensures),
        on_put _ _ c.args.bytes.now c.args.from c.loop-i.i _ i.0 c.loop-i-test.true i.2 w.in-Put.n _ (took _ _ c.in_ok-next.ensures.ok_part c.take_byte.ensures w.in-Put.is) w.before-is,
      )
    ]

pub returns-clause-reads : goal.returns-clause-reads
returns-clause-reads g c =
    let i = c.loop-i.invariant in
    let n : c.loop-i.i ≡ length c.args.bytes.now = omega arith in
    fault_as _ _ _ (at_end_lem _ _ c.args.bytes.now c.args.from c.loop-i.i _ i.0 n i.2)

pub returns-clause-fed : goal.returns-clause-fed
returns-clause-fed g c =
    let i = c.loop-i.invariant in
    let n : c.loop-i.i ≡ length c.args.bytes.now = omega arith in
    let e = at_end_lem _ _ c.args.bytes.now c.args.from c.loop-i.i _ i.0 n i.2 in
    fed_is g.V.Numbers.takes _ _ _ _ (sym (ap numbers_of e)) i.1
