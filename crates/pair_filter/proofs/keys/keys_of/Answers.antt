-- What is before the first is idle, and so is what is behind the last.
use Rattle.std.proofs.Common.{ℕ, ◌-◌, inl, inr, sym, subst}
use Rattle.std.proofs.lemmas.Bool.{cases_lt}
use Rattle.pair_filter.specs.Keys.{ArePairedAt}
use Rattle.pair_filter.proofs.keys.keys_of.Goals as goal

pub returns-clause-keys : goal.returns-clause-keys
returns-clause-keys c =
    let G = c.args.graph.now in
    let K = c.args.patterns.now in
    let a = c.args.pair.0 in
    let b = c.args.pair.1 in
    let first = c.in_ok-first.first in
    let end = c.end_key-end.result in
    let told = c.range_from.ensures in
    record {
      idle = λ key Q at out. elim (cases_lt key first) [
        | inl before ↦ c.in_ok-first.ensures.first key Q before at
        | inr from ↦ elim (cases_lt key end) [
          | inl within ↦ absurd (out (told.end key from within))
          | inr behind ↦ c.end_key-end.ensures.last key Q behind at
        ]
      ];
      first = λ lt. subst (λ (key : ℕ). ArePairedAt G K key a b) (sym (told.first_told lt)) c.in_ok-first.ensures.paired;
      last = λ lt. subst (λ (e : ℕ). ArePairedAt G K (e - 1) a b) (sym (told.end_told lt)) c.end_key-end.ensures.paired;
    }
