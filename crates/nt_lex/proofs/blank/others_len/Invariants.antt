use Rattle.std.proofs.Common.{◌≤◌, length}
use Rattle.nt_lex.proofs.OthersLemmas.{OthersSoFar}
use Rattle.nt_lex.proofs.blank.others_len.Given as goal

abbrev pub invariant-loop-c : goal.invariant-loop-c
invariant-loop-c l = record {
  so_far : OthersSoFar l.text l.chars.rest.now l.len;
  within : length l.chars.rest.now ≤ length l.text;
}
