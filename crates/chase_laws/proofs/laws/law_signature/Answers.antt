-- Each clause is a lemma.
use Rattle.chase_laws.proofs.SignatureLaws.{signed_coincide, matches_signed, coincide_valued, signature_coarser, signed_step, settled_closed, settled_same}
use Rattle.chase_laws.proofs.laws.law_signature.Goals as goal

pub returns-clause-coincide : goal.returns-clause-coincide
returns-clause-coincide c = signed_coincide

pub returns-clause-matches : goal.returns-clause-matches
returns-clause-matches c = matches_signed

pub returns-clause-values : goal.returns-clause-values
returns-clause-values c = coincide_valued

pub returns-clause-coarser : goal.returns-clause-coarser
returns-clause-coarser c = signature_coarser

pub returns-clause-step : goal.returns-clause-step
returns-clause-step c = signed_step

pub returns-clause-closed : goal.returns-clause-closed
returns-clause-closed c = settled_closed

pub returns-clause-same : goal.returns-clause-same
returns-clause-same c = settled_same
