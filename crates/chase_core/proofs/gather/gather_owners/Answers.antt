-- The pairs of one owner after another.
use Rattle.std.proofs.Common.{ℕ, Contains, take, get_or, subst, sym, ◌∙◌, take_all, refl}
use Rattle.std.proofs.lemmas.List.Elements.{Contains-get_or}
use Rattle.list_pool.specs.Pool.{list_at}
use Rattle.near_lists.specs.Neighbourhoods.{Neighbourhoods}
use Rattle.chase_core.specs.Gathering.{LooksFrom, LooksPast}
use Rattle.chase_core.proofs.Members.{Contains-nil}
use Rattle.chase_core.proofs.Aside.{aside_none, aside_same, aside_more}
use Rattle.chase_core.proofs.gather.gather_owners.Goals as goal

pub owners-end-items-requires : goal.owners-end-items-requires
owners-end-items-requires c = rw (c.near.ensures.near, c.near.ensures.exact.one_each) c.requires.name

pub gather_pairs-requires-clause-end : goal.gather_pairs-requires-clause-end
gather_pairs-requires-clause-end c =
    let owners = c.owners-end-items.result.now in
    let r = (c.owners-end-items.ensures.exact (get_or owners c.loop-end.end-index 0)).0 (Contains-get_or owners c.loop-end.end-index 0 c.loop-end-test.true) in
    rw (c.near.ensures.near, c.near.ensures.exact.one_each) at r.0

pub loop-end-init : goal.loop-end-init
loop-end-init c =
    let S = c.args.setup.now in
    let labels = c.args.book.now.labels in
    record {
      states = c.requires.states;
      aside = c.requires.aside;
      sets = aside_none (λ q. (e : ℕ) × Contains (take 0 c.owners-end-items.result.now) e × LooksFrom S labels c.args.label q e) c.args.table.now c.args.aside.now.items (λ q h. Contains-nil h.0 h.1);
      capacity = refl;
    }

pub loop-end-preserved : goal.loop-end-preserved
loop-end-preserved c =
    let S = c.args.setup.now in
    let labels = c.args.book.now.labels in
    let e = c.gather_pairs.ensures in
    let v = c.loop-end.invariant in
    record {
      states = e.states;
      aside = e.aside;
      sets = aside_more (λ q n. LooksFrom S labels c.args.label q n) c.owners-end-items.result.now c.loop-end.end-index c.args.table.now c.loop-end.table c.gather_pairs.new.table
          c.args.aside.now.items c.loop-end.aside.items c.gather_pairs.new.aside.items c.loop-end-test.true v.sets e.sets;
      capacity = e.capacity ∙ v.capacity;
    }

pub returns-clause-sets : goal.returns-clause-sets
returns-clause-sets c =
    let S = c.args.setup.now in
    let labels = c.args.book.now.labels in
    let owners = c.owners-end-items.result.now in
    let whole = take_all c.loop-end.end-index owners c.loop-end-test.false in
    aside_same (λ q. (e : ℕ) × Contains (take c.loop-end.end-index owners) e × LooksFrom S labels c.args.label q e) (λ q. LooksPast S labels c.args.label q c.args.name)
    c.args.table.now c.loop-end.table c.args.aside.now.items c.loop-end.aside.items
    (λ q. (
      (λ h. let r = (c.owners-end-items.ensures.exact h.0).0 (subst (λ xs. Contains xs h.0) whole h.1) in
          (h.0, rw (c.near.ensures.near, c.near.ensures.exact.one_each) at r.0, subst (λ (N : Neighbourhoods). Contains (list_at N.near h.0) c.args.name) c.near.ensures.near r.1, h.2)),
      (λ h. (
        h.0,
        subst (λ xs. Contains xs h.0) (sym whole) ((c.owners-end-items.ensures.exact h.0).1
            (rw (c.near.ensures.near, c.near.ensures.exact.one_each) h.1, subst (λ (N : Neighbourhoods). Contains (list_at N.near h.0) c.args.name) (sym c.near.ensures.near) h.2)),
        h.3,
      )),
    ))
    c.loop-end.invariant.sets
