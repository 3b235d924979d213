-- What each fault of a graph file is called in an error message: this project's own texts.
use Rattle.std.specs.Prelude.{List, ℕ, codes}
use Rattle.gk_base.specs.declared.lex_fault.LexFault.{LexFault}
use Rattle.gk_base.specs.declared.lex_fault.LexFault.TheVariants as lex
use Rattle.gk_base.specs.declared.read_fault.ReadFault.{ReadFault}
use Rattle.gk_base.specs.declared.read_fault.ReadFault.TheVariants as read

-- the text of a fault of a line
abbrev pub lex_text : LexFault → List ℕ
lex_text lex.NotUtf8 = codes "not UTF-8"
lex_text lex.SubjectExpected = codes "subject expected"
lex_text lex.PredicateExpected = codes "predicate expected"
lex_text lex.ObjectExpected = codes "object expected"
lex_text lex.DotExpected = codes "dot expected"
lex_text lex.TextAfterTheDot = codes "text after the dot"
lex_text lex.BadIri = codes "bad IRI"
lex_text lex.RelativeIri = codes "relative IRI"
lex_text lex.BadEscape = codes "bad escape"
lex_text lex.StringNotClosed = codes "string not closed"
lex_text lex.BadBlankNodeLabel = codes "bad blank node label"
lex_text lex.BadLanguageTag = codes "bad language tag"

-- the text of a fault of a graph file
abbrev pub read_text : ReadFault → List ℕ
read_text (read.Lex fault) = lex_text fault
read_text read.TooManyTriples = codes "too many triples"
read_text read.TooLong = codes "file too long"
