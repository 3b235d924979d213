-- What is known of two parts, joined.
use Rattle.std.proofs.Common.{ℕ, ◌-◌, ◌*◌, ◌/◌, ◌≤◌, sym, subst, arith}
use Rattle.std.proofs.Math.Nat.{div-le_self, div-mul-le_self, mul-le-mul_left}
use Rattle.term_table.specs.Known.{AreKnown}
use Rattle.term_table.proofs.KnownLemmas.{AreKnown-append}
use Rattle.term_table.proofs.looking.+parts.Goals as goal

pub returns-clause-known : goal.returns-clause-known
returns-clause-known g t c =
    let names = c.args.names.now in
    let terms = c.args.terms.now in
    let from = c.args.from in
    let low = rw c.in_ok-known.was at c.join-low.ensures.first in
    let high = rw c.in_ok-rest.was at c.join-low.ensures.second in
    let share : ℕ = (c.args.to - from) / c.args.threads in
    let theirs : ℕ = c.args.threads / 2 in
    let fair : share * theirs ≤ c.args.to - from =
    omega (arith, mul-le-mul_left share (div-le_self c.args.threads 2), div-mul-le_self (c.args.to - from) c.args.threads) in
    subst (AreKnown names terms from) (sym c.in_ok-append.ensures.items)
    (AreKnown-append names terms from _ c.in_ok-known.known.items c.in_ok-rest.rest.items (omega (arith, low.1, fair)) low.0 high.0)
