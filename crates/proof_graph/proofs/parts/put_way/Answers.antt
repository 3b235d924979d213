use Rattle.std.proofs.Common.{◌≡◌, ◌++◌, length, All, arith, sym, ap, subst, ◌∙◌, append_assoc}
use Rattle.std.specs.Option.{option_to_list}
use Rattle.std.proofs.lemmas.List.{length-map}
use Rattle.chase_laws.specs.declared.entry.Entry.{Entry}
use Rattle.chase_laws.specs.Joined.{links}
use Rattle.proof_graph.specs.Parts.{parts_places, work_left, IsWayPart, first_part, second_part}
use Rattle.proof_graph.proofs.PartLemmas.{parts_of, pieces_divided, work_divided, pieces_same, same_or, all_parts, push_two}
use Rattle.proof_graph.proofs.parts.put_way.Goals as goal

pub loop-part-smaller-in-Continue-branch-2 : goal.loop-part-smaller-in-Continue-branch-2
loop-part-smaller-in-Continue-branch-2 c =
    let ps = links c.args.journal.now in
    let k = length c.args.journal.now in
    let whole : k ≡ length ps = sym (length-map c.args.journal.now (λ (e : Entry). (e.a, e.b))) in
    let less = work_divided ps k c.pop.new.self.items c.in-Some.part c.in-Some-meet.meeting whole c.in-Some-meet.ensures.some in
    let a = ap (work_left ps k) c.in_ok-divide-in-Some-meet.ensures in
    let b = ap (work_left ps k) c.in-Some.ensures.items in
    omega arith

pub loop-part-preserved-in-Continue-branch-2 : goal.loop-part-preserved-in-Continue-branch-2
loop-part-preserved-in-Continue-branch-2 c =
    let H = c.args.journal.now in
    let ps = links H in
    let k = length H in
    let n = length c.args.nodes.now in
    let part = c.in-Some.part in
    let m = c.in-Some-meet.meeting in
    let whole : k ≡ length ps = sym (length-map H (λ (e : Entry). (e.a, e.b))) in
    let both = all_parts (IsWayPart ps n) c.pop.new.self.items c.loop-part.parts.items part c.in-Some.ensures.items c.loop-part.invariant.each in
    let two = parts_of H n k part m whole c.requires.ends both.1 c.in-Some-meet.ensures.some in
    record {
      each = subst (All (IsWayPart ps n)) (sym c.in_ok-divide-in-Some-meet.ensures) (push_two (IsWayPart ps n) c.pop.new.self.items (second_part part m) (first_part part m) both.0 two.1 two.0);
      whole = ap (λ l. c.loop-part.places.items ++ parts_places ps k l) c.in_ok-divide-in-Some-meet.ensures
          ∙ ap (λ l. c.loop-part.places.items ++ l) (pieces_divided ps k c.pop.new.self.items part m whole c.in-Some-meet.ensures.some)
          ∙ ap (λ l. c.loop-part.places.items ++ parts_places ps k l) (sym c.in-Some.ensures.items) ∙ c.loop-part.invariant.whole;
      kept = c.loop-part.invariant.kept;
    }

pub loop-part-preserved : goal.loop-part-preserved
loop-part-preserved c =
    let H = c.args.journal.now in
    let ps = links H in
    let k = length H in
    let n = length c.args.nodes.now in
    let part = c.in-Some.part in
    let both = all_parts (IsWayPart ps n) c.pop.new.self.items c.loop-part.parts.items part c.in-Some.ensures.items c.loop-part.invariant.each in
    let same = same_or part.from part.to ps c.in-None.ensures.none both.1.2 in
    record {
      each = both.0;
      whole = ap (λ l. l ++ parts_places ps k c.pop.new.self.items) c.in_ok-put_some-in-None.ensures.ok
          ∙ append_assoc c.loop-part.places.items (option_to_list part.then) (parts_places ps k c.pop.new.self.items)
          ∙ ap (λ l. c.loop-part.places.items ++ l) (sym (pieces_same ps k c.pop.new.self.items part same))
          ∙ ap (λ l. c.loop-part.places.items ++ parts_places ps k l) (sym c.in-Some.ensures.items) ∙ c.loop-part.invariant.whole;
      kept = record {
        more = c.loop-part.invariant.kept.more ++ option_to_list part.then;
        is = c.in_ok-put_some-in-None.ensures.ok ∙ ap (λ l. l ++ option_to_list part.then) c.loop-part.invariant.kept.is
            ∙ append_assoc c.args.places.now.items c.loop-part.invariant.kept.more (option_to_list part.then);
      };
    }
