-- The number that a term got is its number.
use Rattle.key_file.proofs.CompileLemmas.{numbered}
use Rattle.key_file.proofs.patterns.number.Goals as goal

pub returns-clause-number : goal.returns-clause-number
returns-clause-number c =
    numbered c.args.names.now c.intern.new.self c.in_ok-copy.field-0 c.args.term.now c.in_ok-number.number c.in_ok-copy.ensures
    c.in_ok-number.ensures.number c.in_ok-number.ensures.ok c.in_ok-number.ensures.distinct
