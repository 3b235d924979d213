-- Term by term.
use Rattle.std.proofs.Common.{◌≡◌, ◌+◌, ◌∷◌, [], ◌++◌, ◌<◌, Some, get_or, slice_get, length, drop, refl, sym, subst, ap, ◌∙◌, arith}
use Rattle.gk_base.specs.declared.term.Term.{Term}
use Rattle.term_table.specs.Known.{HasNumbered}
use Rattle.term_table.specs.Numbering.{HasTakenSome}
use Rattle.term_table.proofs.KnownLemmas.{known_at, some_at}
use Rattle.term_table.proofs.TogetherLemmas.{HasNumbered-none, HasNumbered-next, IsNext, came_before, few_names, on_error, taken_some, was_named}
use Rattle.term_table.proofs.names.Names.number_known.Goals.{in-Before, in-Named, in-Unknown+in_ok-number-in-Unknown}
use Rattle.term_table.proofs.names.Names.number_known.Goals as goal

pub loop-k-init : goal.loop-k-init
loop-k-init c = HasNumbered-none c.args.self.now c.args.terms.now (length c.args.numbers.now.items) c.args.numbers.now.items c.len.ensures.distinct c.requires.numbered refl

pub index-requires : goal.index-requires
index-requires c =
    let known = known_at c.args.self.now c.args.terms.now (length c.args.numbers.now.items) c.loop-k.k c.args.known.now _ _ c.requires.known c.loop-k-test.true c.in-Before.is in
    let h = c.loop-k.invariant in
    let lens = c.loop-k.numbers.ok.0 in
    omega (arith, known.0, h.one_each, lens)

pub intern_lent-requires : goal.intern_lent-requires
intern_lent-requires c =
    let few = few_names c.args.self.now c.args.terms.now (length c.args.numbers.now.items) c.loop-k.self c.loop-k.numbers.items c.loop-k.k c.loop-k.invariant in
    omega (arith, few, c.requires.room, c.loop-k-test.true)

pub returns-in_err-number-in-Unknown-clause-err : goal.returns-in_err-number-in-Unknown-clause-err
returns-in_err-number-in-Unknown-clause-err c =
    let start = length c.args.numbers.now.items in
    on_error c.from_residual.result
    (subst (HasTakenSome c.args.self.now (drop start c.args.terms.now)) (sym c.in_err-number-in-Unknown.ensures.err)
    (taken_some c.args.self.now c.args.terms.now start c.loop-k.self c.loop-k.numbers.items c.loop-k.k c.loop-k.invariant))

pub returns-in_err-push-clause-err : goal.returns-in_err-push-clause-err
returns-in_err-push-clause-err c =
    let names = c.args.self.now in
    let terms = c.args.terms.now in
    let start = length c.args.numbers.now.items in
    let numbers = c.loop-k.numbers.items in
    let k = c.loop-k.k in
    let h = c.loop-k.invariant in
    let within : start + k < length terms = omega (arith, c.requires.within, c.loop-k-test.true) in
    let term = some_at terms (start + k) within in
    let next : (t : Term) × (slice_get terms (start + k) ≡ Some t) × IsNext c.loop-k.self c.match-known-k.self t c.match-known-k.number =
    elim c.match-known-k.branch [
      | in-Before w ↦
          let known = known_at names terms start k c.args.known.now _ _ c.requires.known c.loop-k-test.true w.in-Before.is in (
            term.0,
            term.1,
            came_before names terms start c.loop-k.self numbers k h term.0 w.in-Before.first c.match-known-k.number c.match-known-k.self
                known.0 (known.1 ∙ term.1) (subst (λ n. n ≡ get_or numbers w.in-Before.first n) (sym w.number-is) w.index.ensures) w.self-is,
          )
      | in-Named w ↦
          let known = known_at names terms start k c.args.known.now _ _ c.requires.known c.loop-k-test.true w.in-Named.is in (
            term.0,
            term.1,
            was_named names terms start c.loop-k.self numbers k h term.0 c.match-known-k.number c.match-known-k.self
                (ap (slice_get names) w.number-is ∙ known ∙ term.1) w.self-is,
          )
      | in-Unknown+in_ok-number-in-Unknown w ↦
          let here : start + k ≡ w.len-in-Unknown.result = omega (arith, h.one_each, c.loop-k.numbers.ok.0, w.len-in-Unknown.ensures) in (
            w.get.result,
            ap (slice_get terms) here ∙ w.get.ensures,
            rw (w.self-is, w.number-is) (record {
              names_are = w.in_ok-number-in-Unknown.ensures.ok;
              distinct = w.in_ok-number-in-Unknown.ensures.distinct;
              place = w.in_ok-number-in-Unknown.ensures.place;
            }),
          )
    ] in
    on_error c.from_residual-in_err-push.result
    (taken_some names terms start c.match-known-k.self (numbers ++ c.match-known-k.number ∷ []) (c.loop-k.k + 1)
    (HasNumbered-next names terms start c.loop-k.self numbers k h next.0 c.match-known-k.self c.match-known-k.number next.1 next.2))

pub loop-k-preserved : goal.loop-k-preserved
loop-k-preserved c =
    let names = c.args.self.now in
    let terms = c.args.terms.now in
    let start = length c.args.numbers.now.items in
    let numbers = c.loop-k.numbers.items in
    let k = c.loop-k.k in
    let h = c.loop-k.invariant in
    let within : start + k < length terms = omega (arith, c.requires.within, c.loop-k-test.true) in
    let term = some_at terms (start + k) within in
    let next : (t : Term) × (slice_get terms (start + k) ≡ Some t) × IsNext c.loop-k.self c.match-known-k.self t c.match-known-k.number =
    elim c.match-known-k.branch [
      | in-Before w ↦
          let known = known_at names terms start k c.args.known.now _ _ c.requires.known c.loop-k-test.true w.in-Before.is in (
            term.0,
            term.1,
            came_before names terms start c.loop-k.self numbers k h term.0 w.in-Before.first c.match-known-k.number c.match-known-k.self
                known.0 (known.1 ∙ term.1) (subst (λ n. n ≡ get_or numbers w.in-Before.first n) (sym w.number-is) w.index.ensures) w.self-is,
          )
      | in-Named w ↦
          let known = known_at names terms start k c.args.known.now _ _ c.requires.known c.loop-k-test.true w.in-Named.is in (
            term.0,
            term.1,
            was_named names terms start c.loop-k.self numbers k h term.0 c.match-known-k.number c.match-known-k.self
                (ap (slice_get names) w.number-is ∙ known ∙ term.1) w.self-is,
          )
      | in-Unknown+in_ok-number-in-Unknown w ↦
          let here : start + k ≡ w.len-in-Unknown.result = omega (arith, h.one_each, c.loop-k.numbers.ok.0, w.len-in-Unknown.ensures) in (
            w.get.result,
            ap (slice_get terms) here ∙ w.get.ensures,
            rw (w.self-is, w.number-is) (record {
              names_are = w.in_ok-number-in-Unknown.ensures.ok;
              distinct = w.in_ok-number-in-Unknown.ensures.distinct;
              place = w.in_ok-number-in-Unknown.ensures.place;
            }),
          )
    ] in
    subst (λ ns. HasNumbered names terms start c.match-known-k.self ns (c.loop-k.k + 1)) (sym c.in_ok-push.ensures.items)
    (HasNumbered-next names terms start c.loop-k.self numbers k h next.0 c.match-known-k.self c.match-known-k.number next.1 next.2)
