-- Sorted, each once.
use Rattle.std.proofs.Common.{arith}
use Rattle.std.proofs.lemmas.List.Filters.{dedup_is}
use Rattle.std.proofs.lemmas.List.Kept.{Contains-dedup_nat, Contains-from_dedup}
use Rattle.std.proofs.lemmas.List.Sorted.{Contains-permutation, IsPermutation-sym}
use Rattle.std.proofs.lemmas.Map.Keys.{IsStrictlyIncreasing-dedup}
use Rattle.pair_seed.proofs.gather.put_in_order.Goals as goal

pub returns-in_ok-sort : goal.returns-in_ok-sort
returns-in_ok-sort c =
    let is = dedup_is _ _ _ c.dedup.ensures.filtered in
    let moved = c.in_ok-sort.ensures.permutation in
    record {
      ascending = rw is (IsStrictlyIncreasing-dedup _ c.in_ok-sort.ensures.sorted);
      same = λ b. (
        (λ h. Contains-permutation _ _ b (IsPermutation-sym _ _ moved) (Contains-from_dedup _ _ b (rw is at h))),
        (λ h. rw is (Contains-dedup_nat _ b (Contains-permutation _ _ b moved h))),
      );
    }

pub returns-else-len-gt1 : goal.returns-else-len-gt1
returns-else-len-gt1 c = record {
  ascending = λ k within. absurd (omega (arith, within, c.if-len-gt1.false, c.len.ensures));
  same = λ b. ((λ h. h), (λ h. h));
}
