-- Pair by pair.
use Rattle.std.proofs.Common.{ℕ, ◌≡◌, Contains, take, get_or, subst, sym, ◌∙◌, refl, take_all}
use Rattle.std.proofs.lemmas.List.Elements.{Contains-get_or}
use Rattle.chase_core.specs.Gathering.{LooksFrom}
use Rattle.chase_core.proofs.Members.{Contains-nil}
use Rattle.chase_core.proofs.Across.{end_of}
use Rattle.chase_core.proofs.Aside.{aside_none, aside_same, aside_more}
use Rattle.chase_core.proofs.gather.gather_pairs.Goals as goal

pub gather_pair-requires-clause-pair : goal.gather_pair-requires-clause-pair
gather_pair-requires-clause-pair c =
    let numbers = c.pairs_of-pair-items.result.now in
    let i = c.loop-pair.pair-index in
    (c.pairs_of-pair-items.ensures.exact (get_or numbers i 0)).0 (Contains-get_or numbers i 0 c.loop-pair-test.true)

pub loop-pair-init : goal.loop-pair-init
loop-pair-init c =
    let S = c.args.setup.now in
    let labels = c.args.book.now.labels in
    record {
      states = c.requires.states;
      aside = c.requires.aside;
      sets = aside_none (λ q. (p : ℕ) × Contains (take 0 c.pairs_of-pair-items.result.now) p × ((p ≡ q) × LooksFrom S labels c.args.label q c.args.end)) c.args.table.now c.args.aside.now.items
          (λ q h. Contains-nil h.0 h.1);
      capacity = refl;
    }

pub loop-pair-preserved : goal.loop-pair-preserved
loop-pair-preserved c =
    let S = c.args.setup.now in
    let labels = c.args.book.now.labels in
    let e = c.gather_pair.ensures in
    let v = c.loop-pair.invariant in
    record {
      states = e.states;
      aside = e.aside;
      sets = aside_more (λ q p. (p ≡ q) × LooksFrom S labels c.args.label q c.args.end) c.pairs_of-pair-items.result.now c.loop-pair.pair-index c.args.table.now c.loop-pair.table c.gather_pair.new.table
          c.args.aside.now.items c.loop-pair.aside.items c.gather_pair.new.aside.items c.loop-pair-test.true v.sets e.sets;
      capacity = e.capacity ∙ v.capacity;
    }

pub returns-clause-sets : goal.returns-clause-sets
returns-clause-sets c =
    let S = c.args.setup.now in
    let labels = c.args.book.now.labels in
    let numbers = c.pairs_of-pair-items.result.now in
    let i = c.loop-pair.pair-index in
    let whole = take_all i numbers c.loop-pair-test.false in
    aside_same (λ q. (p : ℕ) × Contains (take i numbers) p × ((p ≡ q) × LooksFrom S labels c.args.label q c.args.end)) (λ q. LooksFrom S labels c.args.label q c.args.end)
    c.args.table.now c.loop-pair.table c.args.aside.now.items c.loop-pair.aside.items
    (λ q. (
      (λ h. h.2.1),
      (λ h. (q, subst (λ xs. Contains xs q) (sym whole) ((c.pairs_of-pair-items.ensures.exact q).1 (end_of S.task.pairs q c.args.end h.0 h.1)), (refl, h))),
    ))
    c.loop-pair.invariant.sets
