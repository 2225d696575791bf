use Rattle.std.proofs.Common.{◌≡◌, ℕ, ◌<◌, cond, length, get_or, vec_items, vec_len, vec_capacity, sym, ap, ◌∙◌, subst, arith}
use Rattle.std.specs.List.{insert}
use Rattle.std.specs.List.Sorted.{IsStrictlyIncreasing}
use Rattle.state.specs.declared.definitions.SparseState.{SparseState}
use Rattle.state.proofs.SparseSteps.{FitsAt, found, missing, has_at, stays, adds, spare, climbs_inserted, inserted_below}
use Rattle.state.proofs.definitions.SparseState.insert.Goals as goal

below : (s : SparseState) → (k : ℕ) → k < length (vec_items s.held) → get_or (vec_items s.held) k 0 < s.size
below s k h = s.below k (omega arith)

-- a state that lacks a fact below its size has room for it
room : (s : SparseState) (x i : ℕ) → FitsAt (vec_items s.held) i x → x < s.size → vec_len s.held < vec_capacity s.held
room s x i at h = let one = spare (vec_items s.held) s.size x i s.rising at h (below s) in omega arith

pub invariant_of-self : goal.invariant_of-self
invariant_of-self c =
    let s = c.args.self.now in
    let ns = vec_items s.held in
    let i = c.in-Err.place in
    let x = c.args.fact in
    let at = missing ns _ x i s.rising c.deref.ensures.value c.in-Err.ensures.position in
    let is : vec_items c.insert.new.self ≡ insert ns i x =
    c.insert.ensures.items ∙ ap (λ b. cond b (insert ns i x) ns) (c.insert.ensures.succeeds (room s x i at c.requires)) in
    record {
      small = s.small;
      room = omega arith;
      rising = subst IsStrictlyIncreasing (sym is) (climbs_inserted ns i x s.rising at);
      below = λ k l.
          let long : k < length (insert ns i x) = omega (arith, ap length is) in
          omega (arith, ap (λ zs. get_or zs k 0) is, inserted_below ns i x s.size at.0 c.requires (below s) k long);
    }

pub unwrap-requires : goal.unwrap-requires
unwrap-requires c =
    let s = c.args.self.now in
    let ns = vec_items s.held in
    let at = missing ns _ c.args.fact c.in-Err.place s.rising c.deref.ensures.value c.in-Err.ensures.position in
    c.insert.ensures.succeeds (room s c.args.fact c.in-Err.place at c.requires)

pub returns-in-Err : goal.returns-in-Err
returns-in-Err c =
    let s = c.args.self.now in
    let ns = vec_items s.held in
    let i = c.in-Err.place in
    let x = c.args.fact in
    let at = missing ns _ x i s.rising c.deref.ensures.value c.in-Err.ensures.position in
    let is : vec_items c.insert.new.self ≡ insert ns i x =
    c.insert.ensures.items ∙ ap (λ b. cond b (insert ns i x) ns) (c.insert.ensures.succeeds (room s x i at c.requires)) in
    adds ns _ s.size x i c.requires is

pub returns-in_default : goal.returns-in_default
returns-in_default c =
    let s = c.args.self.now in
    let ns = vec_items s.held in
    let f = found ns _ c.args.fact c.in_default.field-0 s.rising c.deref.ensures.value c.in_default.ensures.position in
    stays ns s.size c.args.fact _ c.requires (has_at ns c.in_default.field-0 c.args.fact f.0 f.1)
