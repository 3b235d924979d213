use Rattle.std.proofs.Common.{◌≡◌, ℕ, ◌+◌, ◌<◌, ◌≤◌, length, get_or, None}
use Rattle.term_text.specs.Labels.{place_at}
use Rattle.term_text.specs.Lines.{place_from, member_in}
use Rattle.term_text.proofs.links.link.Given as goal

abbrev pub invariant-loop-place : goal.invariant-loop-place
invariant-loop-place l = record {
  count : length l.next.items ≡ length l.members;
  next : (k : ℕ) → l.place ≤ k → k < length l.members → get_or l.next.items k None ≡ place_from l.members (k + 1) (member_in l.members k).label;
  first : (label : ℕ) → place_at l.firsts label ≡ place_from l.members l.place label;
}
