-- A term as its kind and its texts (RDF 1.1 Concepts, sections 3.2 to 3.4): a name or a label has one text, and a literal its
-- lexical form and, where it has one, its datatype or its language tag.
use Rattle.std.specs.Prelude.{◌≡◌, ℕ, Bool, true, false, List, []}
use Rattle.gk_base.specs.declared.term.Term.{Term}
use Rattle.gk_base.specs.declared.term.Term.TheVariants as term
use Rattle.term_list.specs.declared.kind.TermKind.{TermKind}
use Rattle.term_list.specs.declared.kind.TermKind.TheVariants as kind

-- the kind of a term
abbrev pub kind_of : Term → TermKind
kind_of (term.Iri name) = kind.Iri
kind_of (term.Blank label) = kind.Blank
kind_of (term.Plain form) = kind.Plain
kind_of (term.Typed form datatype) = kind.Typed
kind_of (term.Lang form tag) = kind.Lang

-- its name, label or lexical form
abbrev pub first_text : Term → List ℕ
first_text (term.Iri name) = name
first_text (term.Blank label) = label
first_text (term.Plain form) = form
first_text (term.Typed form datatype) = form
first_text (term.Lang form tag) = form

-- its datatype or its language tag, or nothing
abbrev pub second_text : Term → List ℕ
second_text (term.Iri name) = []
second_text (term.Blank label) = []
second_text (term.Plain form) = []
second_text (term.Typed form datatype) = datatype
second_text (term.Lang form tag) = tag

-- whether terms of this kind have two texts
abbrev pub has_two : TermKind → Bool
has_two kind.Iri = false
has_two kind.Blank = false
has_two kind.Plain = false
has_two kind.Typed = true
has_two kind.Lang = true

-- the term of this kind with these texts
abbrev pub made_of : TermKind → List ℕ → List ℕ → Term
made_of kind.Iri first second = term.Iri first
made_of kind.Blank first second = term.Blank first
made_of kind.Plain first second = term.Plain first
made_of kind.Typed first second = term.Typed first second
made_of kind.Lang first second = term.Lang first second

-- a second text that goes with the kind: there is none where terms of this kind have one text
abbrev pub GoesWith : TermKind → List ℕ → Type 0
GoesWith kind second = has_two kind ≡ false → second ≡ []
