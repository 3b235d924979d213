-- The answers of statements.
use Rattle.std.proofs.Common.{◌≡◌, ℕ, false, List, Result, Ok, Err, IsUtf8, refl, sym, subst}
use Rattle.nt_lex.specs.Chars.{is_blank}
use Rattle.nt_lex.specs.Scans.{IsRunAt}
use Rattle.key_file.specs.KeyShape.{KeyShape}
use Rattle.gk_base.specs.Answers.{IsSo}
use Rattle.key_lang.specs.declared.fault.KeyFault.{KeyFault}
use Rattle.key_lang.specs.Answers.{LineStop, stops, goes_on, no}
use Rattle.gk_base.specs.declared.stop.Stop.TheVariants.{NoMemory, Fault}
use Rattle.key_lang.specs.Tokens.{is_over}
use Rattle.key_lang.specs.Parts.{reopened_by}
use Rattle.key_lang.specs.OpenKey.{OpenShape, KeyState}
use Rattle.key_lang.specs.Statements.{Changes, StatementSays, KeyLineSays, text}

-- a statement changed the open key
pub reopened_so : (keys : List KeyShape) (Says : Result OpenShape KeyFault → Type 0) (r : Result OpenShape LineStop) (s : Result KeyState LineStop)
    → s ≡ reopened_by keys r → IsSo Says r → IsSo (Changes keys Says) s
reopened_so keys Says r s e so = subst (IsSo (Changes keys Says)) (sym e) (given r so)
  where
    given : (r : Result OpenShape LineStop) → IsSo Says r → IsSo (Changes keys Says) (reopened_by keys r)
    given (Ok key) so = goes_on so refl
    given (Err NoMemory) so = tt
    given (Err (Fault f)) so = stops so

-- a line that is text
pub text_so : (state : KeyState) (line : List ℕ) (at : ℕ) (r : Result KeyState LineStop) → IsUtf8 line → IsRunAt is_blank line 0 at → is_over line at ≡ false
    → IsSo (StatementSays state line at) r → IsSo (KeyLineSays state line) r
text_so state line at (Ok x) u k o so = text u (record { next = at; skips = k; says = no o so })
text_so state line at (Err NoMemory) u k o so = tt
text_so state line at (Err (Fault f)) u k o so = text u (record { next = at; skips = k; says = no o so })
