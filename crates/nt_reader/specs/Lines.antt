-- The lines of a text (RDF 1.1 N-Triples, section 7: EOL), which is cut at each line feed, at each carriage return and line
-- feed together, and at each carriage return alone.
use Rattle.std.specs.Prelude.{◌≡◌, ℕ, Bool, true, false, not, ◌&&◌, ◌||◌, ◌==◌, if◌then◌else◌, List, [], ◌∷◌, ◌++◌, fold}
use Rattle.std.specs.List.{list_all}
use Rattle.nt_lex.specs.Scans.{NextFails}

-- a line feed or a carriage return
abbrev pub is_line_end : ℕ → Bool
is_line_end b = b == 0x0A || b == 0x0D

-- a byte that ends no line
abbrev pub is_line_byte : ℕ → Bool
is_line_byte b = not (is_line_end b)

-- a front of a text: the lines that have ended, what has come of the next one, and whether a carriage return came last
pub record Cut : Type 0 where
  pub ended : List (List ℕ)
  pub rest : List ℕ
  pub returned : Bool

-- the front after one byte more: a line feed right after a carriage return ends no line of its own
abbrev pub next : Cut → ℕ → Cut
next cut b =
    if b == 0x0A && cut.returned then record { ended = cut.ended; rest = cut.rest; returned = false }
    else if b == 0x0A || b == 0x0D then record { ended = cut.ended ++ cut.rest ∷ []; rest = []; returned = b == 0x0D }
    else record { ended = cut.ended; rest = cut.rest ++ b ∷ []; returned = false }

-- of an empty text
abbrev pub uncut : Cut
uncut = record { ended = []; rest = []; returned = false }

-- the front that is the whole text
unfoldable pub cut_of : List ℕ → Cut
cut_of bytes = fold next uncut bytes

-- a last line with no end counts where it is not empty
abbrev pub last_of : List ℕ → List (List ℕ)
last_of [] = []
last_of (b ∷ bs) = (b ∷ bs) ∷ []

-- the lines of the text
abbrev pub lines : List ℕ → List (List ℕ)
lines bytes = (cut_of bytes).ended ++ last_of (cut_of bytes).rest

-- the lines as a grammar: the text is these contents, each without line feeds and carriage returns and each with its end, and
-- a rest without them. An end is a line feed, a carriage return and a line feed, or a carriage return that no line feed follows.
pub data Lined : List (List ℕ) → List ℕ → List ℕ → Type 0 where
  rest : {bytes : List ℕ} → list_all is_line_byte bytes ≡ true → Lined [] bytes bytes
  feed : {line last bytes all : List ℕ} {more : List (List ℕ)} → list_all is_line_byte line ≡ true → Lined more last bytes
      → all ≡ line ++ 0x0A ∷ bytes → Lined (line ∷ more) last all
  return_feed : {line last bytes all : List ℕ} {more : List (List ℕ)} → list_all is_line_byte line ≡ true → Lined more last bytes
      → all ≡ line ++ 0x0D ∷ 0x0A ∷ bytes → Lined (line ∷ more) last all
  return : {line last bytes all : List ℕ} {more : List (List ℕ)} → list_all is_line_byte line ≡ true → NextFails (λ b. b == 0x0A) bytes
      → Lined more last bytes → all ≡ line ++ 0x0D ∷ bytes → Lined (line ∷ more) last all
