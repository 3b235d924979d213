use Rattle.std.proofs.Common.{sym, ◌∙◌}
use Rattle.nt_reader.specs.Line.{no_dot, text, over}
use Rattle.nt_reader.proofs.LineLemmas.{true_false}
use Rattle.nt_reader.proofs.line.end_fault.Goals as goal

pub returns-then-byte_at-ne46 : goal.returns-then-byte_at-ne46
returns-then-byte_at-ne46 c = no_dot (λ is. c.if-byte_at-ne46.true (c.byte_at.ensures ∙ is))

pub returns-then-is_over : goal.returns-then-is_over
returns-then-is_over c =
    over c.skip_space.result (sym c.byte_at.ensures ∙ c.if-byte_at-ne46.false) c.skip_space.ensures (c.is_over.ensures.0 c.if-is_over.true)

pub returns-else-is_over : goal.returns-else-is_over
returns-else-is_over c =
    text c.skip_space.result (sym c.byte_at.ensures ∙ c.if-byte_at-ne46.false) c.skip_space.ensures
    (λ o. true_false (sym (c.is_over.ensures.1 o) ∙ c.if-is_over.false))
