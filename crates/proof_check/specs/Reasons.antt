-- What each reason against a step is called in the checker's answer: this project's own texts.
use Rattle.std.specs.Prelude.{List, ℕ, codes}
use Rattle.proof_check.specs.declared.reason.Reason.{Reason}
use Rattle.proof_check.specs.declared.reason.Reason.TheVariants.{UnknownKey, WrongShape, TermNotInTheGraph, TermTwice, WrongKindOrType, TripleMissing, ConstantDiffers, ValueDiffers, SupportNotEarlier, SupportDoesNotLeadThere}

-- the text of a reason
abbrev pub reason_text : Reason → List ℕ
reason_text UnknownKey = codes "unknown key"
reason_text WrongShape = codes "wrong shape"
reason_text TermNotInTheGraph = codes "term not in the graph"
reason_text TermTwice = codes "term twice"
reason_text WrongKindOrType = codes "wrong kind or type"
reason_text TripleMissing = codes "triple missing"
reason_text ConstantDiffers = codes "constant differs"
reason_text ValueDiffers = codes "value differs"
reason_text SupportNotEarlier = codes "support not earlier"
reason_text SupportDoesNotLeadThere = codes "support does not lead there"
