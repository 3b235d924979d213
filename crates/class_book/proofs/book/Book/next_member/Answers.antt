use Rattle.std.proofs.Common.{◌∙◌, ap, sym, subst, arith, ◌<◌, ◌≡◌, length, get_or, Contains}
use Rattle.std.proofs.lemmas.List.{get_or_default}
use Rattle.std.proofs.lemmas.List.Elements.{All-get_or}
use Rattle.std.proofs.lemmas.Option.{IfSome_then}
use Rattle.std.specs.Prelude.{IfSome, vec_capacity}
use Rattle.list_pool.specs.Pool.{list_at}
use Rattle.class_book.specs.Classes.{Classes, class_of}
use Rattle.class_book.proofs.Members.{label_listed, listed_class}
use Rattle.class_book.proofs.book.Book.next_member.Goals as goal

pub next-requires-clause-stands : goal.next-requires-clause-stands
next-requires-clause-stands c =
    let labels = c.self.inside.labels.items in
    let m_in : c.args.m < length labels = omega (arith, ap (λ (v : Classes). length v.labels) c.self.view_is, c.requires) in
    let l = c.index.result.now in
    let is : l ≡ get_or labels c.args.m 0 = c.index.ensures ∙ get_or_default labels c.args.m l 0 m_in in
    let l_in : l < length labels = rw is (All-get_or (λ x. x < length labels) labels c.args.m 0 m_in c.self.invariant.labelled.in_range) in
    label_listed labels c.self.inside.sizes.items c.self.inside.members.lists c.self.invariant.roster l c.args.m l_in m_in (sym is)

next_listed : (c : goal.After-next) → IfSome c.next.result (λ n. (n < length c.args.self.now.labels) × (class_of c.args.self.now n ≡ class_of c.args.self.now c.args.m))
next_listed c =
    let inside = c.self.inside in
    let labels = inside.labels.items in
    let lists = inside.members.lists in
    let m_in : c.args.m < length labels = omega (arith, ap (λ (v : Classes). length v.labels) c.self.view_is, c.requires) in
    let l = c.index.result.now in
    let is : l ≡ get_or labels c.args.m 0 = c.index.ensures ∙ get_or_default labels c.args.m l 0 m_in in
    let l_in : l < length labels = rw is (All-get_or (λ x. x < length labels) labels c.args.m 0 m_in c.self.invariant.labelled.in_range) in
    IfSome_then c.next.result {P = Contains (list_at lists l)} {Q = λ n. (n < length c.args.self.now.labels) × (class_of c.args.self.now n ≡ class_of c.args.self.now c.args.m)} c.next.ensures.stands (λ n stands.
    subst (λ (v : Classes). (n < length v.labels) × (class_of v n ≡ class_of v c.args.m)) c.self.view_is
    (listed_class (record { labels = labels; members = lists; journal = inside.journal.items; room = vec_capacity inside.journal }) inside.sizes.items c.self.invariant.roster c.args.m l n is l_in stands))

pub returns-clause-in_range : goal.returns-clause-in_range
returns-clause-in_range c = IfSome_then c.next.result {P = λ n. (n < length c.args.self.now.labels) × (class_of c.args.self.now n ≡ class_of c.args.self.now c.args.m)} {Q = λ n. n < length c.args.self.now.labels} (next_listed c) (λ n h. h.0)

pub returns-clause-same_class : goal.returns-clause-same_class
returns-clause-same_class c = IfSome_then c.next.result {P = λ n. (n < length c.args.self.now.labels) × (class_of c.args.self.now n ≡ class_of c.args.self.now c.args.m)} {Q = λ n. class_of c.args.self.now n ≡ class_of c.args.self.now c.args.m} (next_listed c) (λ n h. h.1)
