-- Key by key.
use Rattle.std.proofs.Common.{List, Some, All, get_or, ◌<◌, ◌+◌, inl, inr, sym, ◌∙◌, ap, subst, arith}
use Rattle.std.proofs.lemmas.List.Elements.{Contains-get_or, All-contains}
use Rattle.std.proofs.lemmas.Option.{slice_get-get_or, slice_get_within}
use Rattle.chase_laws.specs.Shape.{Shape}
use Rattle.chase_laws.specs.Graph.{NumberedGraph}
use Rattle.chase_laws.specs.Signature.{SignatureParts}
use Rattle.valuation_groups.specs.Groups.{GroupShape, listed_of, AreApart}
use Rattle.key_valuations.proofs.GroupLaws.{AreListedTo, apart_none, listed_none, listed_more, listed_all}
use Rattle.key_valuations.proofs.list.list_within.Goals as goal

abbrev IsInv : NumberedGraph → List Shape → List GroupShape → Type 0
IsInv G K groups = record { listed : AreListedTo G K 0 (listed_of groups); apart : AreApart groups; keys : All (λ (group : GroupShape). group.key < 0) groups }

pub loop-key-init : goal.loop-key-init
loop-key-init g c = subst (λ (groups : List GroupShape). IsInv c.args.graph.now c.args.patterns.now groups) (sym c.new-groups.ensures)
    (record { listed = listed_none c.args.graph.now c.args.patterns.now; apart = apart_none; keys = λ k d h. absurd (omega arith) })

pub add-requires-clause-fresh : goal.add-requires-clause-fresh
add-requires-clause-fresh g c = λ k d h e. absurd (let lt = c.loop-key.invariant.keys k d h in let r = c.in_ok-rows.ensures.rows_of.key in omega arith)

pub loop-key-preserved : goal.loop-key-preserved
loop-key-preserved g c =
    let G = c.args.graph.now in
    let K = c.args.patterns.now in
    let key = c.loop-key.key in
    let Q = c.index-patterns-key.result in
    let rows = c.in_ok-rows.rows in
    let groups = c.add.new.self in
    record {
      listed = subst (λ (listed : List SignatureParts). AreListedTo G K (key + 1) listed) (sym c.in_ok-add.ensures.listed)
          (listed_more G K key Q (slice_get-get_or K key Q (omega arith) ∙ ap Some (sym c.index-patterns-key.is)) (listed_of c.loop-key.groups) rows c.loop-key.invariant.listed c.in_ok-rows.ensures);
      apart = c.in_ok-add.ensures.apart;
      keys = λ k d h. elim (c.in_ok-add.ensures.keys (get_or groups k d) (Contains-get_or groups k d h)) [
        | inl old ↦ (let lt = All-contains (λ (group : GroupShape). group.key < key) c.loop-key.groups (get_or groups k d) c.loop-key.invariant.keys old in omega arith)
        | inr e ↦ (let r = c.in_ok-rows.ensures.rows_of.key in omega arith)
      ];
    }

pub returns-clause-listed : goal.returns-clause-listed
returns-clause-listed g c = listed_all c.args.graph.now c.args.patterns.now c.loop-key.key (listed_of c.loop-key.groups) (omega arith) c.loop-key.invariant.listed (λ key Q at. slice_get_within c.args.patterns.now key Q at)
