use Rattle.std.proofs.Common.{◌-◌, length}
use Rattle.key_lang.proofs.SeenLemmas.{IsAt}
use Rattle.key_lang.proofs.file.see_lines.Given as goal

abbrev pub invariant-lines : goal.invariant-lines
invariant-lines l = IsAt l.front l.from l.number l.after_return l.state

abbrev pub decreases-lines : goal.decreases-lines
decreases-lines l = length l.front - l.from
