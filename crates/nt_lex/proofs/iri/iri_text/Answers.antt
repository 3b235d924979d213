use Rattle.std.proofs.Common.{◌<◌, ◌∙◌, sym, ap, length, arith}
use Rattle.std.specs.Cow.{cow_slice_items}
use Rattle.nt_lex.specs.Chars.{is_absolute}
use Rattle.nt_lex.proofs.PartLemmas.{iri_closed}
use Rattle.nt_lex.proofs.iri.iri_text.Goals as goal

pub returns-then-is_absolute : goal.returns-then-is_absolute
returns-then-is_absolute c =
    let line = c.args.line.now in
    let end = c.in_ok-text.end in
    let before : end < length line = omega (arith, c.in_ok-text.ensures.within, c.if-end-line.false) in
    iri_closed line c.args.at (cow_slice_items c.in_ok-text.text) end c.requires.inside c.requires.opens c.in_ok-text.ensures before c.in-62.is
    (ap is_absolute (sym c.as_slice.ensures.value) ∙ sym c.is_absolute.ensures ∙ c.if-is_absolute.true)
