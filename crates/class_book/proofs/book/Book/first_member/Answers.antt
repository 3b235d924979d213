use Rattle.std.proofs.Common.{◌∙◌, ap, sym, subst, arith, Contains, Some, ◌<◌, ◌≡◌, length, get_or}
use Rattle.std.specs.Prelude.{IfSome, vec_capacity}
use Rattle.std.proofs.lemmas.List.{get_or_default}
use Rattle.std.proofs.lemmas.List.Elements.{All-get_or}
use Rattle.list_pool.specs.Pool.{list_at}
use Rattle.class_book.specs.Classes.{Classes, IsClass, class_of}
use Rattle.class_book.proofs.Members.{label_listed, listed_class, is_class, some_first}
use Rattle.class_book.proofs.book.Book.first_member.Goals as goal

pub unwrap-requires : goal.unwrap-requires
unwrap-requires c =
    let labels = c.self.inside.labels.items in
    let lists = c.self.inside.members.lists in
    let roster = c.self.invariant.roster in
    let a_in : c.args.a < length labels = omega (arith, ap (λ (v : Classes). length v.labels) c.self.view_is, c.requires) in
    let l = c.index.result.now in
    let is : l ≡ get_or labels c.args.a 0 = c.index.ensures ∙ get_or_default labels c.args.a l 0 a_in in
    let l_in : l < length labels = rw is (All-get_or (λ x. x < length labels) labels c.args.a 0 a_in c.self.invariant.labelled.in_range) in
    let stands = label_listed labels c.self.inside.sizes.items lists roster l c.args.a l_in a_in (sym is) in
    some_first (list_at lists l) c.args.a c.first.result stands c.first.ensures.first

first_listed : (c : goal.After-unwrap) → (c.unwrap.result < length c.args.self.now.labels) × (class_of c.args.self.now c.unwrap.result ≡ class_of c.args.self.now c.args.a)
first_listed c =
    let inside = c.self.inside in
    let labels = inside.labels.items in
    let lists = inside.members.lists in
    let a_in : c.args.a < length labels = omega (arith, ap (λ (v : Classes). length v.labels) c.self.view_is, c.requires) in
    let l = c.index.result.now in
    let is : l ≡ get_or labels c.args.a 0 = c.index.ensures ∙ get_or_default labels c.args.a l 0 a_in in
    let l_in : l < length labels = rw is (All-get_or (λ x. x < length labels) labels c.args.a 0 a_in c.self.invariant.labelled.in_range) in
    let stands : IfSome (Some c.unwrap.result) (Contains (list_at lists l)) = subst (λ o. IfSome o (Contains (list_at lists l))) c.unwrap.ensures c.first.ensures.stands in
    subst (λ (v : Classes). (c.unwrap.result < length v.labels) × (class_of v c.unwrap.result ≡ class_of v c.args.a)) c.self.view_is
    (listed_class (record { labels = labels; members = lists; journal = inside.journal.items; room = vec_capacity inside.journal }) inside.sizes.items c.self.invariant.roster c.args.a l c.unwrap.result is l_in stands)

pub returns-clause-in_range : goal.returns-clause-in_range
returns-clause-in_range c = (first_listed c).0

pub returns-clause-same_class : goal.returns-clause-same_class
returns-clause-same_class c = (first_listed c).1

pub returns-clause-class : goal.returns-clause-class
returns-clause-class c =
    let labels = c.self.inside.labels.items in
    let a_in : c.args.a < length labels = omega (arith, ap (λ (v : Classes). length v.labels) c.self.view_is, c.requires) in
    subst (λ (v : Classes). IsClass v.labels v.journal c.args.a (class_of v c.args.a)) c.self.view_is
    (is_class labels c.self.inside.sizes.items c.self.inside.members.lists c.self.invariant.roster c.self.inside.journal.items c.args.a c.self.invariant.labelled a_in)
