-- What each fault of a key file is called in an error message, and which fault of a key file a fault of a term is: this
-- project's own.
use Rattle.std.specs.Prelude.{List, ℕ, codes}
use Rattle.gk_base.specs.declared.lex_fault.LexFault.{LexFault}
use Rattle.gk_base.specs.declared.lex_fault.LexFault.TheVariants as lex
use Rattle.key_lang.specs.declared.fault.KeyFault.{KeyFault}
use Rattle.key_lang.specs.declared.fault.KeyFault.TheVariants as key

-- the text of a fault of a key file
abbrev pub key_fault_text : KeyFault → List ℕ
key_fault_text key.NotUtf8 = codes "not UTF-8"
key_fault_text key.BadIri = codes "bad IRI"
key_fault_text key.RelativeIri = codes "relative IRI"
key_fault_text key.BadEscape = codes "bad escape"
key_fault_text key.StringNotClosed = codes "string not closed"
key_fault_text key.BadBlankNodeLabel = codes "bad blank node label"
key_fault_text key.BadLanguageTag = codes "bad language tag"
key_fault_text key.UnknownStatement = codes "unknown statement"
key_fault_text key.BadName = codes "bad name"
key_fault_text key.NameUsedTwice = codes "name used twice"
key_fault_text key.StatementOutOfPlace = codes "statement out of place"
key_fault_text key.VariableDeclaredTwice = codes "variable declared twice"
key_fault_text key.VariableNotDeclared = codes "variable not declared"
key_fault_text key.SubjectMustBeAnEntityVariableOrWildcard = codes "subject must be an entity variable or wildcard"
key_fault_text key.TooManyNodes = codes "too many nodes"
key_fault_text key.TooManyTriplesInKey = codes "too many triples in key"
key_fault_text key.KeyWithoutTriples = codes "key without triples"
key_fault_text key.VariableNotUsed = codes "variable not used"
key_fault_text key.NotConnected = codes "not connected"
key_fault_text key.FileEndsInsideAKey = codes "file ends inside a key"
key_fault_text key.TooManyKeys = codes "too many keys"
key_fault_text key.FileTooLong = codes "file too long"

-- a fault of N-Triples, in a key file: those of terms keep their names, and with another one the line would be no statement
abbrev pub fault_of_term : LexFault → KeyFault
fault_of_term lex.NotUtf8 = key.NotUtf8
fault_of_term lex.SubjectExpected = key.UnknownStatement
fault_of_term lex.PredicateExpected = key.UnknownStatement
fault_of_term lex.ObjectExpected = key.UnknownStatement
fault_of_term lex.DotExpected = key.UnknownStatement
fault_of_term lex.TextAfterTheDot = key.UnknownStatement
fault_of_term lex.BadIri = key.BadIri
fault_of_term lex.RelativeIri = key.RelativeIri
fault_of_term lex.BadEscape = key.BadEscape
fault_of_term lex.StringNotClosed = key.StringNotClosed
fault_of_term lex.BadBlankNodeLabel = key.BadBlankNodeLabel
fault_of_term lex.BadLanguageTag = key.BadLanguageTag
