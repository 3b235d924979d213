-- A pair is set aside where it is Missed and its other end looks at the label.
use Rattle.std.proofs.Common.{[], ◌∷◌, ◌++◌, ◌≡◌, vec_capacity, subst, sym, ◌∙◌, refl, true≢false}
use Rattle.chase_core.specs.Gathering.{LooksFrom, LooksAt}
use Rattle.chase_core.proofs.Aside.{aside_none, aside_same, aside_one, aside_other, aside_push, aside_room, not_missed}
use Rattle.chase_core.proofs.gather.gather_pair.Goals as goal

pub push_reserved-requires : goal.push_reserved-requires
push_reserved-requires c =
    rw c.args.aside.now.ok.0 (aside_room c.args.table.now.states c.args.aside.now.items (vec_capacity c.args.aside.now) c.requires.aside c.args.pair c.in-Missed.ensures.state)

pub returns-then-looks_at-clause-aside : goal.returns-then-looks_at-clause-aside
returns-then-looks_at-clause-aside c =
    rw (c.mark.ensures.states, c.push_reserved.ensures.items, c.push_reserved.ensures.capacity)
    (aside_push c.args.table.now.states c.args.aside.now.items (vec_capacity c.args.aside.now) c.requires.aside c.args.pair c.in-Missed.ensures.state)

pub returns-then-looks_at-clause-sets : goal.returns-then-looks_at-clause-sets
returns-then-looks_at-clause-sets c =
    let S = c.args.setup.now in
    let labels = c.args.book.now.labels in
    let old = c.args.table.now in
    let new = c.mark.new.self in
    let p = c.args.pair in
    let xs = c.args.aside.now.items in
    let other = c.other_end-other.result in
    let looks : LooksAt S labels other c.args.label = c.looks_at.ensures.0 c.if-looks_at.true in
    rw c.push_reserved.ensures.items (aside_same (λ q. p ≡ q) (λ q. (p ≡ q) × LooksFrom S labels c.args.label q c.args.end) old new xs (xs ++ p ∷ [])
    (λ q. ((λ e. (e, subst (λ n. LooksFrom S labels c.args.label n c.args.end) e (other, c.other_end-other.ensures.ends, looks))), (λ h. h.0)))
    (aside_one old new p xs c.in-Missed.ensures.ready c.in-Missed.ensures.state c.mark.ensures.states c.mark.ensures.ready))

pub returns-else-looks_at-clause-sets : goal.returns-else-looks_at-clause-sets
returns-else-looks_at-clause-sets c =
    let S = c.args.setup.now in
    let labels = c.args.book.now.labels in
    let p = c.args.pair in
    aside_none (λ q. (p ≡ q) × LooksFrom S labels c.args.label q c.args.end) c.args.table.now c.args.aside.now.items
    (λ q h. let from : LooksFrom S labels c.args.label p c.args.end = subst (λ n. LooksFrom S labels c.args.label n c.args.end) (sym h.0) h.1 in
    let looks : LooksAt S labels c.other_end-other.result c.args.label = subst (λ n. LooksAt S labels n c.args.label) (c.other_end-other.ensures.only from.0 from.1) from.2 in
    true≢false (sym (c.looks_at.ensures.1 looks) ∙ c.if-looks_at.false))

pub returns-in_default : goal.returns-in_default
returns-in_default c =
    let S = c.args.setup.now in
    let labels = c.args.book.now.labels in
    record {
      states = c.requires.states;
      aside = c.requires.aside;
      sets = aside_other (λ q. LooksFrom S labels c.args.label q c.args.end) c.args.table.now c.args.pair c.args.aside.now.items
          (not_missed c.args.table.now.states c.args.pair c.state.result c.state.ensures.state c.in_default.not-Missed);
      capacity = refl;
    }
