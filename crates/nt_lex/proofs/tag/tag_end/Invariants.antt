use Rattle.std.proofs.Common.{◌-◌, length}
use Rattle.nt_lex.proofs.PartLemmas.{TagSoFar}
use Rattle.nt_lex.proofs.tag.tag_end.Given as goal

abbrev pub invariant-groups : goal.invariant-groups
invariant-groups l = TagSoFar l.line l.from l.end

abbrev pub decreases-groups : goal.decreases-groups
decreases-groups l = length l.line - l.end
