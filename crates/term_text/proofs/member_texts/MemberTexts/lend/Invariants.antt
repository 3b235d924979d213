use Rattle.std.proofs.Common.{◌≡◌, ◌++◌, take}
use Rattle.term_text.specs.MemberTexts.{members_of}
use Rattle.term_text.proofs.member_texts.MemberTexts.lend.Given as goal

abbrev pub invariant-loop-number : goal.invariant-loop-number
invariant-loop-number l = l.members.items ≡ l.fn.members.items ++ members_of l.self-inside.bytes.items (take l.number l.self-inside.places.items)
