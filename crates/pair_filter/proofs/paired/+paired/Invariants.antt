use Rattle.std.proofs.Common.{ℕ, Some, slice_get, take, Contains, ◌≡◌, ◌≢◌, ◌<◌, ◌+◌, ◌*◌, ◌-◌}
use Rattle.chase_laws.specs.declared.pattern.Edge.{Edge}
use Rattle.chase_laws.specs.Graph.{HasRow}
use Rattle.pair_filter.specs.Along.{ArePairedAlong, ArePairedExcept, HavePaired, HasPartner, HasAlone, HaveCommon, HaveCommonPartner}
use Rattle.pair_filter.proofs.paired.+paired.Given as goal

abbrev pub decreases-are_paired : goal.decreases-are_paired
decreases-are_paired l = 9 * l.depth + 1

abbrev pub decreases-are_paired_along : goal.decreases-are_paired_along
decreases-are_paired_along l = 9 * l.depth

abbrev pub decreases-are_paired_forth : goal.decreases-are_paired_forth
decreases-are_paired_forth l = 9 * l.depth + 8

abbrev pub decreases-are_paired_back : goal.decreases-are_paired_back
decreases-are_paired_back l = 9 * l.depth + 8

abbrev pub decreases-have_paired : goal.decreases-have_paired
decreases-have_paired l = 9 * l.depth + 7

abbrev pub decreases-have_value : goal.decreases-have_value
decreases-have_value l = 9 * l.depth + 6

abbrev pub decreases-have_any_paired : goal.decreases-have_any_paired
decreases-have_any_paired l = 9 * l.depth + 5

abbrev pub decreases-have_common : goal.decreases-have_common
decreases-have_common l = 9 * l.depth + 5

abbrev pub decreases-has_common_among : goal.decreases-has_common_among
decreases-has_common_among l = 9 * l.depth + 4

abbrev pub decreases-has_alone : goal.decreases-has_alone
decreases-has_alone l = 9 * l.depth + 4

abbrev pub decreases-have_few_paired : goal.decreases-have_few_paired
decreases-have_few_paired l = 9 * l.depth + 3

abbrev pub decreases-has_partner : goal.decreases-has_partner
decreases-has_partner l = 9 * l.depth + 4

abbrev pub decreases-has_partner_by : goal.decreases-has_partner_by
decreases-has_partner_by l = 9 * l.depth + 3

abbrev pub decreases-has_partner_among : goal.decreases-has_partner_among
decreases-has_partner_among l = 9 * l.depth + 2

abbrev pub decreases-has_partner_in : goal.decreases-has_partner_in
decreases-has_partner_in l = 9 * l.depth + 2

abbrev pub invariant-are_paired_along-loop-place : goal.invariant-are_paired_along-loop-place
invariant-are_paired_along-loop-place l = (k : ℕ) (e : Edge) → k < l.place → l.skipped ≢ Some k → slice_get l.pattern.edges k ≡ Some e → ArePairedAlong l.graph l.pattern (l.depth - 1) e l.s l.u l.w

abbrev pub invariant-has_common_among-loop-n : goal.invariant-has_common_among-loop-n
invariant-has_common_among-loop-n l = ¬ (HaveCommon l.graph l.pattern l.skipped l.depth l.s (take l.n-index l.names) l.others)

abbrev pub invariant-have_any_paired-loop-u : goal.invariant-have_any_paired-loop-u
invariant-have_any_paired-loop-u l = ¬ (HavePaired l.graph l.pattern l.skipped l.depth l.s (take l.u-index l.us) l.ws)

abbrev pub invariant-have_few_paired-loop-u : goal.invariant-have_few_paired-loop-u
invariant-have_few_paired-loop-u l = ¬ (HavePaired l.graph l.pattern l.skipped l.depth l.s (take l.u-index l.us) l.ws)

abbrev pub invariant-has_alone-loop-n : goal.invariant-has_alone-loop-n
invariant-has_alone-loop-n l = ¬ (HasAlone l.graph l.pattern l.skipped l.depth l.s (take l.n-index l.names))

abbrev pub invariant-has_partner_in-loop-w : goal.invariant-has_partner_in-loop-w
invariant-has_partner_in-loop-w l = ¬ (HasPartner l.graph l.pattern l.skipped l.depth l.s l.u (take l.w-index l.ws))

-- no partner has one of the values so far
abbrev pub invariant-has_partner_by-loop-l : goal.invariant-has_partner_by-loop-l
invariant-has_partner_by-loop-l l = (w x : ℕ) → Contains l.ws w → ArePairedExcept l.graph l.pattern l.skipped l.depth l.s l.u w → HasRow l.graph w l.edge.pred x → Contains (take l.l-index l.l-items) x → ⊥

abbrev pub invariant-has_partner_among-loop-w : goal.invariant-has_partner_among-loop-w
invariant-has_partner_among-loop-w l = ¬ (HaveCommonPartner l.graph l.pattern l.skipped l.depth l.s l.u (take l.w-index l.names) l.others)
