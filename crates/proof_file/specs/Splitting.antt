-- A text without its first line (this project's own).
use Rattle.std.specs.Prelude.{List, [], ◌∷◌, ℕ, ◌<◌, Bool, false, length, ◌≡◌}
use Rattle.nt_reader.specs.Lines.{cut_of}

-- no line ends in the text
pub record HasNoEnd (text : List ℕ) : Type 0 where
  pub ended : (cut_of text).ended ≡ []
  pub rest : (cut_of text).rest ≡ text
  pub returned : (cut_of text).returned ≡ false

-- whether a carriage return came last, where it did before this rest
abbrev pub returned_after : Bool → List ℕ → Bool
returned_after returned [] = returned
returned_after returned (b ∷ rest) = (cut_of (b ∷ rest)).returned

-- the text is this line with its end, which is a carriage return alone or not, and this rest
pub record IsSplit (text line rest : List ℕ) (returned : Bool) : Type 0 where
  pub ended : (cut_of text).ended ≡ line ∷ (cut_of rest).ended
  pub last : (cut_of text).rest ≡ (cut_of rest).rest
  pub returned_is : (cut_of text).returned ≡ returned_after returned rest
  pub shorter : length rest < length text
