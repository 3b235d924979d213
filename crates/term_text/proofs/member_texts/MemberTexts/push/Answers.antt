use Rattle.std.proofs.Common.{◌++◌, ◌∷◌, [], List, ap, ◌∙◌}
use Rattle.term_text.specs.CanonicalText.{term_text}
use Rattle.term_text.specs.declared.member.Member.{Member}
use Rattle.term_text.proofs.TextLemmas.{member_pushed}
use Rattle.term_text.proofs.member_texts.MemberTexts.push.Goals as goal

pub returns : goal.returns
returns c =
    let pushed : Member = record { text = term_text c.args.term.now; label = c.args.label } in
    member_pushed c.self.inside.bytes.items (term_text c.args.term.now) c.put_lent_term.new.buf.items c.self.inside.places.items c.push.new.self.items
    (record { from = c.len-from.result; to = c.len-to.result; label = c.args.label })
    c.self.invariant c.in_ok-put_lent_term.ensures.ok (c.len-from.ensures ∙ c.self.inside.bytes.ok.0) (c.len-to.ensures ∙ c.put_lent_term.new.buf.ok.0) c.in_ok-push.ensures.items
    ∙ ap (λ (ms : List Member). ms ++ pushed ∷ []) c.self.view_is
