-- The texts stand where the span of the term says.
use Rattle.std.proofs.Common.{arith, ap, ◌∙◌, length, slice_range}
use Rattle.term_list.proofs.PackedLemmas.{within_at, term_at, part_none}
use Rattle.term_list.proofs.terms.Terms.get.Goals as goal

pub part-requires-clause-ordered : goal.part-requires-clause-ordered
part-requires-clause-ordered c =
    (within_at c.self.inside.bytes.items c.self.inside.spans.items c.args.self.now c.args.at c.index-span.result.now c.self.view_is c.requires c.index-span.ensures c.self.invariant).first

pub part-requires-clause-within : goal.part-requires-clause-within
part-requires-clause-within c =
    let w = within_at c.self.inside.bytes.items c.self.inside.spans.items c.args.self.now c.args.at c.index-span.result.now c.self.view_is c.requires c.index-span.ensures c.self.invariant in
    let e = ap length c.deref.ensures.value in
    omega (arith, w.second, w.inside, e)

pub part-requires-2-clause-ordered : goal.part-requires-2-clause-ordered
part-requires-2-clause-ordered c =
    (within_at c.self.inside.bytes.items c.self.inside.spans.items c.args.self.now c.args.at c.index-span.result.now c.self.view_is c.requires c.index-span.ensures c.self.invariant).second

pub part-requires-2-clause-within : goal.part-requires-2-clause-within
part-requires-2-clause-within c =
    let w = within_at c.self.inside.bytes.items c.self.inside.spans.items c.args.self.now c.args.at c.index-span.result.now c.self.view_is c.requires c.index-span.ensures c.self.invariant in
    let e = ap length c.deref-2.ensures.value in
    omega (arith, w.inside, e)

pub invariant_of-result : goal.invariant_of-result
invariant_of-result c one =
    let w = within_at c.self.inside.bytes.items c.self.inside.spans.items c.args.self.now c.args.at c.index-span.result.now c.self.view_is c.requires c.index-span.ensures c.self.invariant in
    c.part-2.ensures ∙ part_none c.deref-2.result.now c.index-span.result.now.middle c.index-span.result.now.end (w.one one)

pub returns : goal.returns
returns c =
    let span = c.index-span.result.now in
    term_at c.self.inside.bytes.items c.self.inside.spans.items c.args.self.now c.args.at span c.self.view_is c.requires c.index-span.ensures
    c.part.result.now c.part-2.result.now
    (c.part.ensures ∙ ap (λ l. slice_range l span.start span.middle) c.deref.ensures.value)
    (c.part-2.ensures ∙ ap (λ l. slice_range l span.middle span.end) c.deref-2.ensures.value)
