use Rattle.std.proofs.Common.{◌+◌, ◌-◌, ◌≡◌, ◌++◌, ◌∷◌, [], Some, length, slice_get, slice_index, arith, sym, ap, ◌∙◌, subst, set}
use Rattle.std.proofs.lemmas.List.{get_or_read}
use Rattle.term_table.specs.Numbering.{place_of}
use Rattle.proof_file.specs.Steps.{term_at}
use Rattle.proof_file.specs.TermNumbers.{NotesPlaces}
use Rattle.proof_file.proofs.PlacedLemmas.{placed_known, placed_new, number_known, number_new, placed_more}
use Rattle.proof_file.proofs.term_numbers.TermNumbers.number.Goals as goal

pub returns-then-noted-gt0-clause-terms : goal.returns-then-noted-gt0-clause-terms
returns-then-noted-gt0-clause-terms c =
    let places = c.args.self.now.places.items in
    let n = c.requires.places.count in
    let m = c.requires.named in
    let some = c.if-noted-gt0.true in
    let is : c.index-noted.result.now ≡ slice_index places c.args.name = get_or_read places c.args.name c.index-noted.result.now (omega arith) c.index-noted.ensures 0 in
    placed_known c.args.names.now c.args.self.now.terms places c.args.name c.requires.places c.requires.named (omega arith)

pub returns-then-noted-gt0-clause-number : goal.returns-then-noted-gt0-clause-number
returns-then-noted-gt0-clause-number c =
    let places = c.args.self.now.places.items in
    let n = c.requires.places.count in
    let m = c.requires.named in
    let some = c.if-noted-gt0.true in
    let is : c.index-noted.result.now ≡ slice_index places c.args.name = get_or_read places c.args.name c.index-noted.result.now (omega arith) c.index-noted.ensures 0 in
    number_known c.args.names.now c.args.self.now.terms places c.args.name (c.index-noted.result.now - 1) c.requires.places c.requires.named (omega arith)

pub returns-clause-terms : goal.returns-clause-terms
returns-clause-terms c =
    let places = c.args.self.now.places.items in
    let n = c.requires.places.count in
    let m = c.requires.named in
    let none = c.if-noted-gt0.false in
    let is : c.index-noted.result.now ≡ slice_index places c.args.name = get_or_read places c.args.name c.index-noted.result.now (omega arith) c.index-noted.ensures 0 in
    let t = c.term.result in
    let at : slice_get c.args.names.now c.args.name ≡ Some t = c.term.ensures in
    c.in_ok-push.ensures.ok ∙ placed_new c.args.names.now c.args.self.now.terms places c.args.name t c.requires.places c.requires.named (omega arith) at

pub returns-clause-number : goal.returns-clause-number
returns-clause-number c =
    let places = c.args.self.now.places.items in
    let n = c.requires.places.count in
    let m = c.requires.named in
    let none = c.if-noted-gt0.false in
    let is : c.index-noted.result.now ≡ slice_index places c.args.name = get_or_read places c.args.name c.index-noted.result.now (omega arith) c.index-noted.ensures 0 in
    let t = c.term.result in
    let at : slice_get c.args.names.now c.args.name ≡ Some t = c.term.ensures in
    let count : c.len-count.result ≡ length c.args.self.now.terms = c.len-count.ensures in
    count ∙ number_new c.args.names.now c.args.self.now.terms places c.args.name t c.requires.places c.requires.named (omega arith) at
    ∙ ap (λ l. place_of l (term_at c.args.names.now c.args.name)) (sym c.in_ok-push.ensures.ok)

pub returns-clause-places : goal.returns-clause-places
returns-clause-places c =
    let places = c.args.self.now.places.items in
    let n = c.requires.places.count in
    let m = c.requires.named in
    let none = c.if-noted-gt0.false in
    let is : c.index-noted.result.now ≡ slice_index places c.args.name = get_or_read places c.args.name c.index-noted.result.now (omega arith) c.index-noted.ensures 0 in
    let t = c.term.result in
    let at : slice_get c.args.names.now c.args.name ≡ Some t = c.term.ensures in
    let count : c.len-count.result ≡ length c.args.self.now.terms = c.len-count.ensures in
    subst (λ l. NotesPlaces c.args.names.now l (set places c.args.name (c.len-count.result + 1))) (sym c.in_ok-push.ensures.ok)
    (subst (λ k. NotesPlaces c.args.names.now (c.args.self.now.terms ++ t ∷ []) (set places c.args.name (k + 1))) (sym count)
    (placed_more c.args.names.now c.args.self.now.terms places c.args.name t c.requires.distinct c.requires.places c.requires.named (omega arith) at))
