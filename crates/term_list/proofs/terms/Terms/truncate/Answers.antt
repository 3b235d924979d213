use Rattle.std.proofs.Common.{take, sym, ap, subst, ◌∙◌, length}
use Rattle.std.proofs.lemmas.List.{take-map}
use Rattle.term_list.specs.Packed.{terms_in, term_in, AreWithin}
use Rattle.term_list.proofs.PackedLemmas.{AreWithin-front}
use Rattle.term_list.proofs.terms.Terms.truncate.Goals as goal

pub invariant_of-self : goal.invariant_of-self
invariant_of-self c =
    let size = length c.self.inside.bytes.items in
    subst (AreWithin size) (sym c.truncate.ensures.items) (AreWithin-front size c.args.len c.self.inside.spans.items c.self.invariant)

pub returns : goal.returns
returns c =
    let bytes = c.self.inside.bytes.items in
    ap (terms_in bytes) c.truncate.ensures.items ∙ sym (take-map (term_in bytes) c.args.len c.self.inside.spans.items) ∙ ap (take c.args.len) c.self.view_is
