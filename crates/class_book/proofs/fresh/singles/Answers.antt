use Rattle.std.proofs.Common.{subst, inl, inr, Contains, arith}
use Rattle.std.proofs.lemmas.Bool.{cases_lt}
use Rattle.class_book.proofs.Alone.{in_one, in_none}
use Rattle.class_book.proofs.fresh.singles.Goals as goal

pub push_back-requires-clause-free : goal.push_back-requires-clause-free
push_back-requires-clause-free c =
    let i = c.loop-i.i in
    λ l _ stands. elim (cases_lt l i) [
      | inl h ↦ let same = in_one l i (subst (λ xs. Contains xs i) (c.loop-i.invariant.own l h) stands) in absurd (omega arith)
      | inr h ↦ in_none i (subst (λ xs. Contains xs i) (c.loop-i.invariant.rest l h) stands)
    ]
