use Rattle.std.proofs.Common.{◌≡◌, take}
use Rattle.term_text.specs.MemberTexts.{joined_members}
use Rattle.term_text.proofs.listing.lent_members.Given as goal

abbrev pub invariant-loop-place : goal.invariant-loop-place
invariant-loop-place l = l.members.items ≡ joined_members (take l.place l.parts)
