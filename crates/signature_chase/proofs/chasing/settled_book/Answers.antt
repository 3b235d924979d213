-- At first all groups wait.
use Rattle.std.proofs.Common.{List, ℕ, Contains, length, ◌≡◌, ◌<◌, sym, ap, subst, arith}
use Rattle.valuation_groups.specs.Groups.{GroupShape}
use Rattle.signature_chase.proofs.Queues.{Contains-range}
use Rattle.signature_chase.proofs.chasing.settled_book.Goals as goal

pub settle_all-requires-clause-waiting : goal.settle_all-requires-clause-waiting
settle_all-requires-clause-waiting c = λ g h.
    let long : length c.in_ok-setting.setting.groups ≡ length c.args.groups.now = ap (λ (gs : List GroupShape). length gs) c.in_ok-setting.ensures.groups in
    subst (λ (ws : List ℕ). Contains ws g) (sym c.in_ok-queue.ensures.list) (Contains-range c.len.result g (omega (arith, c.len.ensures.length)))
