use Rattle.std.proofs.Common.{◌<◌, ◌≡◌, Some, length, slice_get, get_or, sym, ap, subst, ◌∙◌, true, false}
use Rattle.std.proofs.lemmas.Option.{slice_get-get_or}
use Rattle.chase_laws.specs.declared.entry.Entry.{Entry}
use Rattle.chase_laws.specs.Joined.{links}
use Rattle.proof_graph.proofs.TreeLemmas.{link_at, joined_ends, kept_trees, hung_trees}
use Rattle.proof_graph.proofs.trees.join.Goals as goal

pub returns-then-a-b : goal.returns-then-a-b
returns-then-a-b c =
    let e = c.index-journal-place.result in
    let H = c.args.journal.now in
    let at : slice_get H c.args.place ≡ Some e = slice_get-get_or H c.args.place e c.requires.inside ∙ ap Some (sym c.index-journal-place.is) in
    let ends = c.requires.ends c.args.place e c.requires.inside in
    let read : get_or H c.args.place e ≡ e = sym c.index-journal-place.is in
    let inside : (e.a < length c.args.nodes.now) × (e.b < length c.args.nodes.now) = subst (λ (f : Entry). (f.a < length c.args.nodes.now) × (f.b < length c.args.nodes.now)) read ends in
    let same = joined_ends (links H) c.args.nodes.now c.args.place e.a e.b c.top-a.result c.top-b.result c.requires.trees c.requires.small inside.0 inside.1 c.top-a.ensures.climbs c.top-b.ensures.climbs c.if-a-b.true in
    kept_trees (links H) c.args.nodes.now c.args.place (e.a, e.b) c.requires.trees c.requires.small (link_at H c.args.place e at) same

pub returns-then-nodes-a : goal.returns-then-nodes-a
returns-then-nodes-a c =
    let e = c.index-journal-place.result in
    let H = c.args.journal.now in
    let at : slice_get H c.args.place ≡ Some e = slice_get-get_or H c.args.place e c.requires.inside ∙ ap Some (sym c.index-journal-place.is) in
    let ends = c.requires.ends c.args.place e c.requires.inside in
    let read : get_or H c.args.place e ≡ e = sym c.index-journal-place.is in
    let inside : (e.a < length c.args.nodes.now) × (e.b < length c.args.nodes.now) = subst (λ (f : Entry). (f.a < length c.args.nodes.now) × (f.b < length c.args.nodes.now)) read ends in
    hung_trees (links H) c.args.nodes.now c.hang.new.nodes c.args.place (e.a, e.b) c.requires.trees c.requires.small (link_at H c.args.place e at) c.top-a.result c.top-b.result false c.hang.ensures
    c.top-a.ensures.inside c.top-b.ensures.inside inside.0 inside.1 c.top-a.ensures.climbs c.top-b.ensures.climbs c.if-a-b.false

pub returns-else-nodes-a : goal.returns-else-nodes-a
returns-else-nodes-a c =
    let e = c.index-journal-place.result in
    let H = c.args.journal.now in
    let at : slice_get H c.args.place ≡ Some e = slice_get-get_or H c.args.place e c.requires.inside ∙ ap Some (sym c.index-journal-place.is) in
    let ends = c.requires.ends c.args.place e c.requires.inside in
    let read : get_or H c.args.place e ≡ e = sym c.index-journal-place.is in
    let inside : (e.a < length c.args.nodes.now) × (e.b < length c.args.nodes.now) = subst (λ (f : Entry). (f.a < length c.args.nodes.now) × (f.b < length c.args.nodes.now)) read ends in
    hung_trees (links H) c.args.nodes.now c.hang-else-nodes-a.new.nodes c.args.place (e.a, e.b) c.requires.trees c.requires.small (link_at H c.args.place e at) c.top-b.result c.top-a.result true c.hang-else-nodes-a.ensures
    c.top-b.ensures.inside c.top-a.ensures.inside inside.1 inside.0 c.top-b.ensures.climbs c.top-a.ensures.climbs (λ q. c.if-a-b.false (sym q))
