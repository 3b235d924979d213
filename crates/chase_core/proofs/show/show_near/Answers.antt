-- The view is as wide as the near lists of the pair's ends, and has their names.
use Rattle.std.proofs.Common.{◌≡◌, Contains, inl, inr, length, sym, subst, ◌∙◌, ap, arith}
use Rattle.list_pool.specs.Pool.{list_at}
use Rattle.near_lists.specs.Neighbourhoods.{Neighbourhoods}
use Rattle.chase_core.proofs.Across.{ends_named}
use Rattle.chase_core.proofs.Widest.{room_enough}
use Rattle.chase_core.proofs.show.show_near.Goals as goal

pub show_both-requires-clause-room : goal.show_both-requires-clause-room
show_both-requires-clause-room c =
    let S = c.args.setup.now in
    let a = c.args.ticket.a in
    let b = c.args.ticket.b in
    let first : length c.near.result.now ≡ length (list_at S.near.near a) = ap length c.near.ensures.list ∙ ap (λ (N : Neighbourhoods). length (list_at N.near a)) c.near-near.ensures.near in
    let second : length c.near-2.result.now ≡ length (list_at S.near.near b) = ap length c.near-2.ensures.list ∙ ap (λ (N : Neighbourhoods). length (list_at N.near b)) c.near-near.ensures.near in
    let enough = room_enough S c.near-near.ensures.widest c.args.ticket.pair a b c.requires.ends in
    omega (arith, enough, first, second, c.requires.labels, c.requires.room)

pub returns-clause-near : goal.returns-clause-near
returns-clause-near c =
    let S = c.args.setup.now in
    let a = c.args.ticket.a in
    let b = c.args.ticket.b in
    let ends = ends_named S.task c.prepared.ensures.task c.args.ticket.pair a b c.requires.ends in
    let first : c.near.result.now ≡ list_at S.near.near a = c.near.ensures.list ∙ ap (λ (N : Neighbourhoods). list_at N.near a) c.near-near.ensures.near in
    let second : c.near-2.result.now ≡ list_at S.near.near b = c.near-2.ensures.list ∙ ap (λ (N : Neighbourhoods). list_at N.near b) c.near-near.ensures.near in
    let exact = c.near-near.ensures.exact.exact in
    λ n. (
      (λ h. elim ((c.show_both.ensures.listed n).0 h) [
        | inl k ↦ inl ((exact a n ends.0).0 (subst (λ xs. Contains xs n) first k))
        | inr k ↦ inr ((exact b n ends.1).0 (subst (λ xs. Contains xs n) second k))
      ]),
      (λ h. (c.show_both.ensures.listed n).1 (elim h [
        | inl k ↦ inl (subst (λ xs. Contains xs n) (sym first) ((exact a n ends.0).1 k))
        | inr k ↦ inr (subst (λ xs. Contains xs n) (sym second) ((exact b n ends.1).1 k))
      ])),
    )
