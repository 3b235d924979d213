-- What a file of N-Triples says: the triples of its lines (RDF 1.1 N-Triples, section 7: ntriplesDoc), or why it is refused.
-- The refusals, their order and the limits are this project's own.
use Rattle.std.specs.Prelude.{◌≡◌, ℕ, ◌+◌, ◌<◌, ◌≤◌, ◌⊎◌, ◌&&◌, ◌==◌, nat_le, if◌then◌else◌, List, ◌∷◌, ◌++◌, length, take, slice_index, Option, Some, Result, Ok, Err}
use Rattle.std.specs.List.{AllZip, filter_map}
use Rattle.gk_base.specs.declared.term.Triple.{Triple}
use Rattle.gk_base.specs.declared.limits.Limits.{Limits}
use Rattle.gk_base.specs.declared.lex_fault.LexFault.{LexFault}
use Rattle.gk_base.specs.declared.read_fault.ReadFault.{ReadFault}
use Rattle.gk_base.specs.declared.read_fault.ReadFault.TheVariants.{Lex, TooManyTriples, TooLong}
use Rattle.gk_base.specs.declared.read_fault.ReadRefusal.{ReadRefusal}
use Rattle.nt_reader.specs.Line.{LineSays}
use Rattle.nt_reader.specs.Lines.{cut_of, lines}

-- the triples of lines that have one or none
abbrev pub triples_of : List (Option Triple) → List Triple
triples_of answers = filter_map (λ answer. answer) answers

-- the line is good, and this is its triple or that it has none
abbrev pub IsGood : List ℕ → Option Triple → Type 0
IsGood line answer = LineSays line (Ok answer)

-- each of the lines is good, and these are their triples in order
pub record AreGood (content : List (List ℕ)) (triples : List Triple) : Type 0 where
  pub answers : List (Option Triple)
  pub each : AllZip IsGood content answers
  pub have : triples ≡ triples_of answers

-- after lines with these triples, this line is refused: it is faulty, or it has a triple when there are as many as may be
pub record RefusesLine (most : ℕ) (triples : List Triple) (line : List ℕ) (fault : ReadFault) : Type 0 where
  pub why : ((f : LexFault) × LineSays line (Err f) × (fault ≡ Lex f))
      ⊎ ((triple : Triple) × LineSays line (Ok (Some triple)) × (most ≤ length triples) × (fault ≡ TooManyTriples))

-- the lines are good up to one that is refused
pub record StopsIn (most : ℕ) (content : List (List ℕ)) (refusal : ReadRefusal) : Type 0 where
  pub good : List (List ℕ)
  pub bad : List ℕ
  pub more : List (List ℕ)
  pub triples : List Triple
  pub here : content ≡ good ++ bad ∷ more
  pub before : AreGood good triples
  pub few : length triples ≤ most
  pub number : refusal.line ≡ length good + 1
  pub refused : RefusesLine most triples bad refusal.fault

-- the lines that are judged: those that end within the limit of bytes, and the last one where the whole text is within it
abbrev pub judged : ℕ → List ℕ → List (List ℕ)
judged most bytes = if nat_le (length bytes) most then lines bytes else (cut_of (take most bytes)).ended

-- the line to which the byte after the limit belongs: a line feed right after a carriage return
-- belongs to the line that the return ends
abbrev pub line_of_next : List ℕ → ℕ → ℕ
line_of_next front b =
    if (cut_of front).returned && b == 0x0A then length (cut_of front).ended else length (cut_of front).ended + 1

-- a byte comes after the limit, and no line was refused before it
pub record IsTooLong (limits : Limits) (bytes : List ℕ) (refusal : ReadRefusal) : Type 0 where
  pub triples : List Triple
  pub longer : limits.bytes < length bytes
  pub before : AreGood (cut_of (take limits.bytes bytes)).ended triples
  pub few : length triples ≤ limits.triples
  pub line : refusal.line ≡ line_of_next (take limits.bytes bytes) (slice_index bytes limits.bytes)
  pub fault : refusal.fault ≡ TooLong

-- the triples of a file under the limits, or why it is refused
abbrev pub FileSays : Limits → List ℕ → Result (List Triple) ReadRefusal → Type 0
FileSays limits bytes (Ok triples) = (length bytes ≤ limits.bytes) × AreGood (lines bytes) triples × (length triples ≤ limits.triples)
FileSays limits bytes (Err refusal) = StopsIn limits.triples (judged limits.bytes bytes) refusal ⊎ IsTooLong limits bytes refusal

-- a file that begins so is refused so, whatever follows
pub record Refuses (limits : Limits) (bytes : List ℕ) (refusal : ReadRefusal) : Type 0 where
  pub always : (more : List ℕ) → FileSays limits (bytes ++ more) (Err refusal)

-- no file that begins so is refused for what it begins with
abbrev pub IsOpen : Limits → List ℕ → Type 0
IsOpen limits bytes = (refusal : ReadRefusal) → ¬ (Refuses limits bytes refusal)
