-- The parts of a key's pattern: the slots keep their numbers while the edges are numbered.
use Rattle.std.proofs.Common.{◌∙◌, ap, subst}
use Rattle.key_file.specs.KeyShape.{KeyShape}
use Rattle.key_file.specs.Key.{IsKey}
use Rattle.key_file.proofs.PatternLemmas.{pattern_room, pattern_parts, pattern_valid}
use Rattle.key_file.proofs.patterns.pattern.Goals as goal

pub edges-requires : goal.edges-requires
edges-requires c = record {
  room = pattern_room c.args.names.now c.slots.new.names c.args.key.now c.deref.result.now c.deref-2.result.now 4294967295
      (c.deref.ensures.value ∙ ap (λ (k : KeyShape). k.slots) c.key.view_is) (c.deref-2.ensures.value ∙ ap (λ (k : KeyShape). k.edges) c.key.view_is)
      c.in_ok-slots.ensures.names c.requires.room;
}

pub returns-clause-pattern : goal.returns-clause-pattern
returns-clause-pattern c =
    pattern_parts c.args.names.now c.slots.new.names c.edges.new.names c.args.key.now c.deref.result.now c.deref-2.result.now c.in_ok-slots.slots.items c.in_ok-edges.edges.items
    (c.deref.ensures.value ∙ ap (λ (k : KeyShape). k.slots) c.key.view_is) (c.deref-2.ensures.value ∙ ap (λ (k : KeyShape). k.edges) c.key.view_is)
    c.in_ok-slots.ensures.names c.in_ok-edges.ensures.names c.in_ok-slots.ensures.slots c.in_ok-edges.ensures.edges

pub invariant_of-result : goal.invariant_of-result
invariant_of-result c =
    pattern_valid c.slots.new.names c.edges.new.names c.args.key.now c.deref-2.result.now (record { slots = c.in_ok-slots.slots.items; edges = c.in_ok-edges.edges.items })
    (subst IsKey c.key.view_is c.key.invariant) (c.deref-2.ensures.value ∙ ap (λ (k : KeyShape). k.edges) c.key.view_is) c.in_ok-edges.ensures.names (returns-clause-pattern c)
