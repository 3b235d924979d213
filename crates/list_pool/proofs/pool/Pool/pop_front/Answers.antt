use Rattle.std.proofs.Common.{◌∙◌, ap, sym, set, ◌≡◌, ℕ, Some}
use Rattle.std.specs.Prelude.{slice_get}
use Rattle.list_pool.specs.Pool.{list_at}
use Rattle.list_pool.proofs.Plain.{pop_is}
use Rattle.list_pool.proofs.pool.Pool.pop_front.Goals as goal

pub returns-clause-lists : goal.returns-clause-lists
returns-clause-lists c =
    let xs = list_at c.args.self.now.lists c.args.list in
    let x = c.in_ok-first.first in
    let here = sym c.first.ensures.first ∙ c.in_ok-first.was in
    let once : (i : ℕ) → slice_get xs i ≡ Some x → 0 ≡ i = λ i e. (c.first.ensures.once c.args.list c.args.list 0 i x here e).1 in
    c.remove.ensures.lists ∙ ap (set c.args.self.now.lists c.args.list) (pop_is xs x here once)
