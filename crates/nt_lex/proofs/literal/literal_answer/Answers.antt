use Rattle.std.proofs.Common.{◌∙◌, sym}
use Rattle.std.proofs.lemmas.Bool.{cond-true, cond-false, eq-eqb, ne_eqb}
use Rattle.std.specs.Cow.{cow_slice_items}
use Rattle.nt_lex.proofs.AnswerParts.{closed_so, open_fails}
use Rattle.nt_lex.proofs.literal.literal_answer.Goals as goal

pub returns-then-byte-eq34 : goal.returns-then-byte-eq34
returns-then-byte-eq34 c =
    let line = c.args.line.now in
    closed_so line c.args.at c.requires.inside c.requires.opens (cow_slice_items c.in_ok-text.text) c.in_ok-text.end c.in_ok-text.ensures (sym c.byte_at-byte.ensures ∙ c.if-byte-eq34.true) _
    c.read_suffix.ensures

pub returns-then-byte-eq92 : goal.returns-then-byte-eq92
returns-then-byte-eq92 c =
    open_fails c.args.line.now c.args.at c.requires.inside c.requires.opens (cow_slice_items c.in_ok-text.text) c.in_ok-text.end c.in_ok-text.ensures _
    (λ is. c.if-byte-eq34.false (c.byte_at-byte.ensures ∙ is))
    (sym (cond-true _ _ _ (eq-eqb _ _ (sym c.byte_at-byte.ensures ∙ c.if-byte-eq92.true))))

pub returns : goal.returns
returns c =
    open_fails c.args.line.now c.args.at c.requires.inside c.requires.opens (cow_slice_items c.in_ok-text.text) c.in_ok-text.end c.in_ok-text.ensures _
    (λ is. c.if-byte-eq34.false (c.byte_at-byte.ensures ∙ is))
    (sym (cond-false _ _ _ (ne_eqb _ _ (λ is. c.if-byte-eq92.false (c.byte_at-byte.ensures ∙ is)))))
