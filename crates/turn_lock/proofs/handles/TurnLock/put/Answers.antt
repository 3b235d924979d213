use Rattle.std.proofs.Common.{rules, ℕ, ◌≡◌, ◌+◌, ◌%◌, ◌^◌, ◌<◌, ◌∷◌, Some, sym, ap, ◌∙◌, subst}
use Rattle.atomic_table.specs.Table.{rest}
use Rattle.turn_lock.specs.Lists.{StartsWith}
use Rattle.turn_lock.proofs.Keeps.{counts, releases}
use Rattle.turn_lock.proofs.Calling.{next_ticket, word_again}
use Rattle.turn_lock.proofs.handles.TurnLock.put.Goals as goal

pub store-requires : goal.store-requires
store-requires g c = let now = c.exchange.ensures.3 in let x = c.args.value in (
  search rules,
  search rules,
  counts _ _ _ _ _ _ _ c.requires.inside.0.0 _ x (ap (λ m. m.0.stage) now ∙ c.requires.inside.0.1) (subst (λ m. 0 < m.0.parts) (sym now) (search rules))
      (ap (λ m. m.1) now ∙ ap (λ l. (0, Some x) ∷ l) (sym (ap (λ m. rest m.1) now)))
      (subst (λ m. StartsWith (g.T.Journaled.entries x) m.0.own.seen) (sym now) c.requires.value.1)
      c.count-count.ensures
      (search rules),
)

pub store-requires-2 : goal.store-requires-2
store-requires-2 g c = let now = c.exchange.ensures.3 in let x = c.args.value in let t = c.requires.inside.0.0 in
    let has = ap (λ m. m.1) now ∙ ap (λ l. (0, Some x) ∷ l) (sym (ap (λ m. rest m.1) now)) in let told = c.store.ensures.2 x has in let has' = told.1 ∙ has ∙ ap (λ l. (0, Some x) ∷ l) (sym (ap rest told.1)) in
    let n : ℕ = (c.args.ticket + 1) % 2 ^ 64 in let next : n ≡ (t + 1) % 2 ^ 64 = next_ticket t c.args.ticket c.requires.inside.0.2 in (
      search rules,
      search rules,
      releases _ _ _ _ _ _ t _ _ _ x next (c.serving_word-word.ensures.word ∙ word_again (t + 1) n next) (ap (λ v. v.stage) told.0 ∙ ap (λ m. m.0.stage) now ∙ c.requires.inside.0.1) (subst (λ (n : ℕ). 0 < n) (sym (ap (λ v. v.parts) told.0 ∙ ap (λ m. m.0.parts) now)) (search rules))
          has' (c.requires.value.0 ∙ sym (ap (λ v. v.own.base) told.0 ∙ ap (λ m. m.0.own.base) now)) (sym (ap (λ v. v.own.seen) told.0)),
    )
