-- A group after another.
use Rattle.std.proofs.Common.{◌≡◌, ◌-◌, take, drop, length, ap, sym, subst, arith}
use Rattle.term_table.specs.Known.{AreKnown, HasNumbered}
use Rattle.term_table.proofs.TogetherLemmas.{HasNumbered-join, HasTakenSome-join, all_numbers, few_names, known_along, on_error, taken_some}
use Rattle.term_table.proofs.names.Names.number_in_groups.Goals as goal

pub returns-in_err-look_again-clause-err : goal.returns-in_err-look_again-clause-err
returns-in_err-look_again-clause-err c =
    on_error c.from_residual-in_err-look_again.result
    (taken_some c.args.self.now c.args.terms.now 0 c.groups.self c.groups.numbers.items (length c.groups.numbers.items) c.groups.invariant.numbered)

pub look_again-requires-clause-earlier : goal.look_again-requires-clause-earlier
look_again-requires-clause-earlier c =
    let terms = c.args.terms.now in
    let numbers = c.groups.numbers.items in
    let count = c.min-end.result - c.len-start.result in
    subst (λ names. AreKnown names terms c.len-start.result (take count (drop c.len-start.result c.args.known.now))) (sym c.self-in-groups.view_is)
    (known_along c.args.self.now terms (length numbers) c.groups.self numbers c.groups.invariant.numbered c.args.known.now c.len-start.result count c.requires.one_each c.requires.known)

pub number_known-requires-clause-room : goal.number_known-requires-clause-room
number_known-requires-clause-room c =
    let i = c.groups.invariant in
    let few = few_names c.args.self.now c.args.terms.now 0 c.groups.self c.groups.numbers.items (length c.groups.numbers.items) i.numbered in
    let lens = c.groups.numbers.ok.0 in
    let known = ap length c.deref.ensures.value in
    omega (arith, few, known, lens, c.in_ok-look_again.ensures.one_each, c.len-start.ensures, c.min-end.ensures, c.len-in-groups-3.ensures, c.groups-test.true, c.len-in-groups.ensures, c.len-in-groups-2.ensures, c.requires)

pub groups-preserved : goal.groups-preserved
groups-preserved c =
    let i = c.groups.invariant in
    let more = c.in_ok-number_known.ensures.ok in
    let lens = c.groups.numbers.ok.0 in
    let known = ap length c.deref.ensures.value in
    let joined = HasNumbered-join c.args.self.now c.args.terms.now (length c.groups.numbers.items) c.groups.self c.groups.numbers.items i.numbered
    c.number_known.new.self c.number_known.new.numbers.items (length c.deref.result.now) more in
    record {
      within = omega (arith, more.one_each, known, lens, c.in_ok-look_again.ensures.one_each, c.len-start.ensures, c.min-end.ensures, c.len-in-groups-3.ensures, c.groups-test.true, c.len-in-groups.ensures, c.len-in-groups-2.ensures);
      numbered = subst (HasNumbered c.args.self.now c.args.terms.now 0 c.number_known.new.self c.number_known.new.numbers.items) (sym more.one_each) joined;
    }

pub returns-in_err-number_known-clause-err : goal.returns-in_err-number_known-clause-err
returns-in_err-number_known-clause-err c =
    on_error c.from_residual-in_err-number_known.result
    (HasTakenSome-join c.args.self.now c.args.terms.now (length c.groups.numbers.items) c.groups.self c.groups.numbers.items c.groups.invariant.numbered
    c.number_known.new.self c.in_err-number_known.ensures.err)

pub returns-clause-numbers : goal.returns-clause-numbers
returns-clause-numbers c =
    let i = c.groups.invariant in
    let whole : length c.groups.numbers.items ≡ length c.args.terms.now =
    omega (arith, i.within, c.groups.numbers.ok.0, c.groups-test.false, c.len-in-groups.ensures, c.len-in-groups-2.ensures) in
    all_numbers c.args.self.now c.args.terms.now c.groups.self c.groups.numbers.items
    (subst (HasNumbered c.args.self.now c.args.terms.now 0 c.groups.self c.groups.numbers.items) whole i.numbered)
