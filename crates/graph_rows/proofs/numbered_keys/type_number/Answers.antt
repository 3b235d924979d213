-- The look-up finds the number.
use Rattle.std.proofs.Common.{ap}
use Rattle.gk_base.specs.declared.term.Term.TheVariants.{Iri}
use Rattle.key_file.proofs.CallerLemmas.{type_found}
use Rattle.graph_rows.proofs.numbered_keys.type_number.Goals as goal

pub returns : goal.returns
returns c = type_found c.args.names.now c.find.result (Iri c.in_ok-from_bytes.field-0) (ap Iri c.in_ok-from_bytes.ensures) c.find.ensures.number c.find.ensures.present
