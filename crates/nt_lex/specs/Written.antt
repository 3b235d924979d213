-- A character as it is written inside an IRIREF or a STRING_LITERAL_QUOTE (RDF 1.1 N-Triples, section 7).
use Rattle.std.specs.Prelude.{◌≡◌, ◌≢◌, ℕ, ◌<◌, ◌≤◌, Bool, true, false, not, ◌&&◌, ◌==◌, if◌then◌else◌, List, [], ◌∷◌, ◌++◌, length, drop, encode_utf8}
use Rattle.std.specs.List.{flat_map, list_all}
use Rattle.std.specs.Char.{is_digit as is_digit_of}
use Rattle.std.specs.Str.Parse.{digits_value}
use lib.Utf8.{scalar}
use Rattle.nt_lex.specs.Chars.{is_iri_excluded, is_string_excluded, is_escape_letter}

-- the character itself; `\u` or `\U` and these digits (UCHAR); a backslash and this letter (ECHAR)
pub data Written : Type 0 where
  Raw : ℕ → Written
  Short : List ℕ → Written
  Long : List ℕ → Written
  Letter : ℕ → Written

-- its bytes
abbrev pub spelled : Written → List ℕ
spelled (Raw c) = encode_utf8 c
spelled (Short digits) = 0x5C ∷ 0x75 ∷ digits
spelled (Long digits) = 0x5C ∷ 0x55 ∷ digits
spelled (Letter l) = 0x5C ∷ l ∷ []

-- what the letter of an ECHAR stands for; " ' \ stand for themselves
abbrev pub meant_by_letter : ℕ → ℕ
meant_by_letter l =
    if l == 0x74 then 0x09 else if l == 0x62 then 0x08 else if l == 0x6E then 0x0A else if l == 0x72 then 0x0D else if l == 0x66 then 0x0C else l

-- the character that it stands for
abbrev pub meant : Written → ℕ
meant (Raw c) = c
meant (Short digits) = digits_value 16 digits
meant (Long digits) = digits_value 16 digits
meant (Letter l) = meant_by_letter l

-- HEX: a hexadecimal digit of either case
abbrev pub is_hex : ℕ → Bool
is_hex c = is_digit_of c 16

-- this many hexadecimal digits, which name a Unicode scalar value
unfoldable pub is_code : ℕ → List ℕ → Bool
is_code n digits = (length digits == n && list_all is_hex digits) && scalar (digits_value 16 digits)

-- UCHAR
abbrev pub is_uchar : Written → Bool
is_uchar (Raw c) = false
is_uchar (Short digits) = is_code 4 digits
is_uchar (Long digits) = is_code 8 digits
is_uchar (Letter l) = false

-- it may stand in a terminal: a raw character that is not excluded there, a UCHAR, or a backslash with one of the letters
abbrev pub may_stand : (ℕ → Bool) → (ℕ → Bool) → Written → Bool
may_stand excluded letters (Raw c) = scalar c && not (excluded c)
may_stand excluded letters (Short digits) = is_code 4 digits
may_stand excluded letters (Long digits) = is_code 8 digits
may_stand excluded letters (Letter l) = letters l

-- an IRIREF has no ECHAR
abbrev pub is_no_letter : ℕ → Bool
is_no_letter l = false

-- it may stand in an IRIREF
abbrev pub in_iri : Written → Bool
in_iri w = may_stand is_iri_excluded is_no_letter w

-- it may stand in a STRING_LITERAL_QUOTE
abbrev pub in_string : Written → Bool
in_string w = may_stand is_string_excluded is_escape_letter w

-- the bytes of characters as they are written
abbrev pub spelling : List Written → List ℕ
spelling ws = flat_map spelled ws

-- the UTF-8 of what they stand for
abbrev pub meaning : List Written → List ℕ
meaning ws = flat_map (λ w. encode_utf8 (meant w)) ws

-- no character that may stand there comes next
pub record Stops (may : Written → Bool) (rest : List ℕ) : Type 0 where
  pub none : (w : Written) (more : List ℕ) → may w ≡ true → rest ≢ spelled w ++ more

-- the bytes begin with these characters, all of which may stand there, and no further one goes on with them
pub record Runs (may : Written → Bool) (bytes : List ℕ) (ws : List Written) (rest : List ℕ) : Type 0 where
  pub each : list_all may ws ≡ true
  pub whole : bytes ≡ spelling ws ++ rest
  pub stops : Stops may rest

-- the longest run of such characters from the one place on ends at the other, and stands for this text
pub record RunsTo (may : Written → Bool) (line : List ℕ) (from : ℕ) (text : List ℕ) (end : ℕ) : Type 0 where
  pub written : List Written
  pub runs : Runs may (drop from line) written (drop end line)
  pub says : text ≡ meaning written
  pub ordered : from ≤ end
  pub within : end ≤ length line

-- an escape that may stand there begins at the one place, stands for this character and ends before the other place
pub record EscapeAt (may : Written → Bool) (line : List ℕ) (at c end : ℕ) : Type 0 where
  pub written : Written
  pub may_be : may written ≡ true
  pub whole : drop at line ≡ spelled written ++ drop end line
  pub means : c ≡ meant written
  pub ordered : at < end
  pub within : end ≤ length line
