-- What the literals of two parts fold to, joined.
use Rattle.std.proofs.Common.{ℕ, ◌-◌, ◌*◌, ◌/◌, ◌≤◌, ◌++◌, sym, ap, ◌∙◌, arith, slice_range}
use Rattle.std.proofs.Math.Nat.{div-le_self, div-mul-le_self, mul-le-mul_left}
use Rattle.term_table.specs.Folding.{folded_literals}
use Rattle.term_table.proofs.FoldedLemmas.{range_split, folded_literals-append}
use Rattle.term_table.proofs.folded.+parts.Goals as goal

pub returns : goal.returns
returns g t c =
    let terms = c.args.terms.now in
    let from : ℕ = c.args.from in
    let to : ℕ = c.args.to in
    let low = rw c.in_ok-folded.was at c.join-low.ensures.first in
    let high = rw c.in_ok-rest.was at c.join-low.ensures.second in
    let share : ℕ = (c.args.to - from) / c.args.threads in
    let theirs : ℕ = c.args.threads / 2 in
    let fair : share * theirs ≤ c.args.to - from =
    omega (arith, mul-le-mul_left share (div-le_self c.args.threads 2), div-mul-le_self (c.args.to - from) c.args.threads) in
    let middle : ℕ = to - share * theirs in
    let parts = range_split terms from middle to (omega (arith, fair, c.requires.ordered)) (omega arith) in
    c.in_ok-append.ensures.ok ∙ (λ j. low j ++ high j)
    ∙ sym (ap folded_literals parts ∙ folded_literals-append (slice_range terms from middle) (slice_range terms middle to))
