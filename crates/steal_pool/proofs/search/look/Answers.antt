-- The view has the names of the near lists of the pair's ends.
use Rattle.std.proofs.Common.{◌≡◌, ◌<◌, ℕ, Contains, inl, inr, subst, sym, ap, ◌∙◌, arith}
use Rattle.list_pool.specs.Pool.{list_at}
use Rattle.near_lists.specs.Neighbourhoods.{Neighbourhoods}
use Rattle.chase_laws.specs.Core.{name_count}
use Rattle.chase_laws.proofs.CallerLemmas.{All-at}
use Rattle.steal_pool.proofs.search.look.Goals as goal

pub returns-clause-near : goal.returns-clause-near
returns-clause-near c =
    let S = c.args.setup.now in
    let a = c.args.ticket.now.a in
    let b = c.args.ticket.now.b in
    let named = All-at (λ (p : ℕ × ℕ). (p.0 < p.1) × (p.1 < name_count S.task)) S.task.pairs c.args.ticket.now.pair (a, b) c.pairs.ensures.task.named c.requires.ends in
    let b_in : b < name_count S.task = named.1 in
    let less = named.0 in
    let a_in : a < name_count S.task = omega arith in
    let first : c.near-left.result.now ≡ list_at S.near.near a = c.near-left.ensures.list ∙ ap (λ (N : Neighbourhoods). list_at N.near a) c.near-near.ensures.near in
    let second : c.near-right.result.now ≡ list_at S.near.near b = c.near-right.ensures.list ∙ ap (λ (N : Neighbourhoods). list_at N.near b) c.near-near.ensures.near in
    let exact = c.near-near.ensures.exact.exact in
    λ n. (
      (λ h. elim ((c.fill.ensures.names n).0 h) [
        | inl k ↦ inl ((exact a n a_in).0 (subst (λ xs. Contains xs n) first k))
        | inr k ↦ inr ((exact b n b_in).0 (subst (λ xs. Contains xs n) second k))
      ]),
      (λ h. (c.fill.ensures.names n).1 (elim h [
        | inl k ↦ inl (subst (λ xs. Contains xs n) (sym first) ((exact a n a_in).1 k))
        | inr k ↦ inr (subst (λ xs. Contains xs n) (sym second) ((exact b n b_in).1 k))
      ])),
    )
