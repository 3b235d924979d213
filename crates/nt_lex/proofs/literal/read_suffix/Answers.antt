use Rattle.std.proofs.Common.{◌≡◌, ◌+◌, sym, ap, ◌∙◌, subst, get_or, map, slice_range}
use Rattle.std.proofs.lemmas.Result.{err_from_is_err_and}
use Rattle.std.specs.Char.{to_ascii_lowercase}
use Rattle.std.specs.Cow.{cow_slice_items}
use Rattle.gk_base.specs.declared.term.Term.TheVariants.{Lang}
use Rattle.gk_base.specs.Answers.{IsSo}
use Rattle.nt_lex.specs.Parts.{SuffixAt, SuffixSays}
use Rattle.nt_lex.proofs.AnswerParts.{plain_so, tagged_so, untagged_so, typed_so, mistyped_so, untyped_so}
use Rattle.nt_lex.proofs.literal.read_suffix.Goals as goal
use Rattle.nt_lex.proofs.literal.read_suffix.Goals.{in-Some+in_ok-tag-in-Some, in-None, else-byte_at-eq94-via-then-byte_at-eq94+else-byte_at-eq94-2, else-byte_at-eq94-via-else-byte_at-eq94}

pub returns-then-byte_at-ne60 : goal.returns-then-byte_at-ne60
returns-then-byte_at-ne60 c =
    untyped_so c.args.line.now c.args.close c.skip_space-next.result c.skip_space-next.ensures
    (sym c.byte_at.ensures ∙ c.if-byte_at-eq94.true) (sym c.byte_at-then-byte_at-eq94.ensures ∙ c.if-byte_at-eq94-2.true)
    c.skip_space-begin.result c.skip_space-begin.ensures (λ is. c.if-byte_at-ne60.true (c.byte_at-then-byte_at-eq94-2.ensures ∙ is))

pub returns-then-byte_at-eq94-2 : goal.returns-then-byte_at-eq94-2
returns-then-byte_at-eq94-2 c =
    typed_so c.args.line.now c.args.close c.skip_space-next.result c.skip_space-next.ensures (sym c.byte_at.ensures ∙ c.if-byte_at-eq94.true)
    (sym c.byte_at-then-byte_at-eq94.ensures ∙ c.if-byte_at-eq94-2.true) c.skip_space-begin.result c.skip_space-begin.ensures
    (cow_slice_items c.args.form) (cow_slice_items c.in_ok-iri.iri) c.in_ok-iri.end c.with_datatype.result c.requires.inside c.in_ok-iri.ensures c.with_datatype.ensures

pub returns-in_err-iri : goal.returns-in_err-iri
returns-in_err-iri c =
    let p = err_from_is_err_and c.from_residual.result c.from_residual.ensures.1 in
    rw (p.1, p.2)
    (mistyped_so c.args.line.now c.args.close c.skip_space-next.result c.skip_space-next.ensures (sym c.byte_at.ensures ∙ c.if-byte_at-eq94.true)
    (sym c.byte_at-then-byte_at-eq94.ensures ∙ c.if-byte_at-eq94-2.true) c.skip_space-begin.result c.skip_space-begin.ensures
    (cow_slice_items c.args.form) c.in_err-iri.field-0.0 (sym c.byte_at-then-byte_at-eq94-2.ensures ∙ c.if-byte_at-ne60.false) c.in_err-iri.ensures)

pub returns-then-byte_at-eq64 : goal.returns-then-byte_at-eq64
returns-then-byte_at-eq64 c =
    let line = c.args.line.now in
    let form = cow_slice_items c.args.form in
    let next = c.skip_space-next.result in
    let opens : get_or line next 0 ≡ 0x40 = sym c.byte_at-2.ensures ∙ c.if-byte_at-eq64.true in
    elim c.match-tag_end.branch [
      | in-Some+in_ok-tag-in-Some w ↦
          let lower : w.new.result ≡ Lang form (map to_ascii_lowercase (slice_range line (next + 1) w.in-Some.end)) = w.new.ensures ∙ ap (Lang form) w.in_ok-tag-in-Some.ensures in
          subst (IsSo (SuffixSays line form c.args.close)) (sym w.result-is)
          (subst (λ t. SuffixAt line form c.args.close t w.in-Some.end) (sym lower)
          (tagged_so line c.args.close next c.skip_space-next.ensures form w.in-Some.end c.requires.inside opens w.in-Some.ensures))
      | in-None w ↦
          subst (IsSo (SuffixSays line form c.args.close)) (sym w.result-is)
          (untagged_so line c.args.close next c.skip_space-next.ensures opens w.in-None.ensures)
    ]

pub returns : goal.returns
returns c =
    let line = c.args.line.now in
    let form = cow_slice_items c.args.form in
    subst (λ t. SuffixAt line form c.args.close t c.args.close) (sym c.plain.ensures)
    (plain_so line c.args.close c.skip_space-next.result c.skip_space-next.ensures form c.requires.inside
    (elim c.else-byte_at-eq94.branch [
      | else-byte_at-eq94-via-then-byte_at-eq94+else-byte_at-eq94-2 w ↦ λ first other. w.if-byte_at-eq94-2.false (w.byte_at-then-byte_at-eq94.ensures ∙ other)
      | else-byte_at-eq94-via-else-byte_at-eq94 w ↦ λ first other. w.if-byte_at-eq94.false (c.byte_at.ensures ∙ first)
    ])
    (λ is. c.if-byte_at-eq64.false (c.byte_at-2.ensures ∙ is)))
