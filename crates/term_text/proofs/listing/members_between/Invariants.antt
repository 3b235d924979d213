use Rattle.std.proofs.Common.{◌≡◌, ◌-◌, map, get_or}
use Rattle.std.specs.List.{filter, range_with_len}
use Rattle.term_text.specs.Labels.{is_shared_in}
use Rattle.term_text.specs.Members.{member_at}
use Rattle.term_text.specs.CanonicalText.{texts_of}
use Rattle.term_text.proofs.listing.members_between.Given as goal

abbrev pub invariant-loop-place : goal.invariant-loop-place
invariant-loop-place l = l.members ≡ map (member_at (texts_of l.names) l.labels) (filter (λ n. is_shared_in l.counts (get_or l.labels n 0)) (range_with_len l.from (l.place - l.from)))
