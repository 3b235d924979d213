use Rattle.std.proofs.Common.{sym, ◌∙◌}
use Rattle.nt_lex.proofs.PartLemmas.{tag_starts, tag_goes_on, tag_stops, tag_fails}
use Rattle.nt_lex.proofs.tag.tag_end.Goals as goal

pub groups-init : goal.groups-init
groups-init c = tag_starts c.args.line.now c.args.from c.letters_end-end.result c.letters_end-end.ensures c.if-end-from.false

pub groups-preserved : goal.groups-preserved
groups-preserved c =
    tag_goes_on c.args.line.now c.args.from c.groups.end c.subtag_end-next.result c.groups.invariant (sym c.byte_at.ensures ∙ c.groups-test.true)
    c.subtag_end-next.ensures c.if-next-end.false

pub returns-then-next-end : goal.returns-then-next-end
returns-then-next-end c =
    tag_fails c.args.line.now c.args.from c.groups.end c.subtag_end-next.result c.groups.invariant (sym c.byte_at.ensures ∙ c.groups-test.true)
    c.subtag_end-next.ensures c.if-next-end.true

pub returns : goal.returns
returns c = tag_stops c.args.line.now c.args.from c.groups.end c.groups.invariant (λ is. c.groups-test.false (c.byte_at.ensures ∙ is))
