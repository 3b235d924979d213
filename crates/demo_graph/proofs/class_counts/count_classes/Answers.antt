use Rattle.std.proofs.Common.{◌+◌, length, get_or, sym, subst, arith, refl}
use Rattle.demo_graph.specs.Counts.{SharesItsLabel, LeadsItsClass}
use Rattle.demo_graph.specs.Spans.{IsNoted, IsSpan}
use Rattle.demo_graph.proofs.PlaceLemmas.{IsCountTo, counts_this, leaves_out_this, all_counted, shares, shares_none, leads, leads_none, leader_shares}
use Rattle.demo_graph.proofs.class_counts.count_classes.Goals as goal
use Rattle.demo_graph.proofs.class_counts.count_classes.Goals.{in-Some+then-span+then-span-place, in-Some+then-span+else-span-place, in-Some+else-span, in_default}

pub loop-place-preserved : goal.loop-place-preserved
loop-place-preserved c =
    let labels = c.args.labels.now in
    let place = c.loop-place.place in
    let label = get_or labels place 0 in
    let within = c.loop-place-test.true in
    let members = c.loop-place.invariant.members in
    let classes = c.loop-place.invariant.classes in
    let old_members = c.loop-place.members in
    let old_classes = c.loop-place.classes in
    elim c.match-get.branch [
      | in-Some+then-span+then-span-place w ↦
          (let noted : IsSpan labels (length labels) label w.in-Some.span.now = subst (IsNoted labels (length labels) label) (sym w.in-Some.ensures.value) (c.in_ok-spans.ensures label) in
          record {
            members = subst (IsCountTo (SharesItsLabel labels) (place + 1)) (sym w.members-is) (counts_this (SharesItsLabel labels) place old_members members (shares labels place w.in-Some.span.now within noted w.if-span.true));
            classes = subst (IsCountTo (LeadsItsClass labels) (place + 1)) (sym w.classes-is) (counts_this (LeadsItsClass labels) place old_classes classes (leads labels place w.in-Some.span.now within noted w.if-span.true w.if-span-place.true));
            few_members = omega (arith, w.members-is);
            few_classes = omega (arith, w.classes-is);
          })
      | in-Some+then-span+else-span-place w ↦
          (let noted : IsSpan labels (length labels) label w.in-Some.span.now = subst (IsNoted labels (length labels) label) (sym w.in-Some.ensures.value) (c.in_ok-spans.ensures label) in
          record {
            members = subst (IsCountTo (SharesItsLabel labels) (place + 1)) (sym w.members-is) (counts_this (SharesItsLabel labels) place old_members members (shares labels place w.in-Some.span.now within noted w.if-span.true));
            classes = subst (IsCountTo (LeadsItsClass labels) (place + 1)) (sym w.classes-is) (leaves_out_this (LeadsItsClass labels) place old_classes classes (leads_none labels place w.in-Some.span.now within noted w.if-span-place.false));
            few_members = omega (arith, w.members-is);
            few_classes = omega (arith, w.classes-is);
          })
      | in-Some+else-span w ↦
          (let noted : IsSpan labels (length labels) label w.in-Some.span.now = subst (IsNoted labels (length labels) label) (sym w.in-Some.ensures.value) (c.in_ok-spans.ensures label) in
          record {
            members = subst (IsCountTo (SharesItsLabel labels) (place + 1)) (sym w.members-is) (leaves_out_this (SharesItsLabel labels) place old_members members (shares_none labels place w.in-Some.span.now within noted w.if-span.false));
            classes = subst (IsCountTo (LeadsItsClass labels) (place + 1)) (sym w.classes-is) (leaves_out_this (LeadsItsClass labels) place old_classes classes (λ h. shares_none labels place w.in-Some.span.now within noted w.if-span.false (leader_shares labels place h)));
            few_members = omega (arith, w.members-is);
            few_classes = omega (arith, w.classes-is);
          })
      | in_default w ↦ absurd (subst (IsNoted labels (length labels) label) (sym w.in_default.ensures.value) (c.in_ok-spans.ensures label) place within refl)
    ]

pub returns-clause-classes : goal.returns-clause-classes
returns-clause-classes c = all_counted (LeadsItsClass c.args.labels.now) c.loop-place.place c.loop-place.classes c.loop-place.invariant.classes
    (λ i h. let within = h.later.2.0 in let done = c.loop-place-test.false in omega arith)

pub returns-clause-members : goal.returns-clause-members
returns-clause-members c = all_counted (SharesItsLabel c.args.labels.now) c.loop-place.place c.loop-place.members c.loop-place.invariant.members
    (λ i h. let within = h.2.0 in let done = c.loop-place-test.false in omega arith)
