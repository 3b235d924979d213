-- One answer is so, and so it is the one that was given.
use Rattle.std.proofs.Common.{◌≡◌, ◌⊎◌, inl, inr, sym, subst, ℕ, ◌+◌, ◌<◌, List, length, drop, get_or, Result, Ok, Err, IsUtf8}
use Rattle.std.proofs.lemmas.Str.{IsUtf8-drop, IsCharBoundary-after_ascii}
use Rattle.gk_base.specs.declared.lex_fault.LexFault.{LexFault}
use Rattle.gk_base.specs.Answers.{LexStop, IsSo, Gives, HasOne}
use Rattle.gk_base.specs.declared.stop.Stop.TheVariants.{NoMemory, Fault}

pub only_from : {A : Type 0} (Says : Result A LexFault → Type 0) → HasOne Says → (r : Result A LexStop) → IsSo Says r
    → (answer : Result A LexFault) → Says answer → Gives r answer
only_from Says one (Ok x) so answer says = one (Ok x) answer so says
only_from Says one (Err NoMemory) so answer says = tt
only_from Says one (Err (Fault f)) so answer says = one (Err f) answer so says

-- the same answer is so, and so is want of memory
pub owned_so : {A : Type 0} (Says : Result A LexFault → Type 0) (r answer : Result A LexStop) → (r ≡ answer) ⊎ (r ≡ Err NoMemory) → IsSo Says answer → IsSo Says r
owned_so Says r answer (inl is) so = subst (IsSo Says) (sym is) so
owned_so Says r answer (inr is) so = subst (IsSo Says) (sym is) tt

-- what follows an ASCII byte of a text is a text
pub utf_after_byte : (line : List ℕ) (at : ℕ) → IsUtf8 line → at < length line → get_or line at 0 < 128 → IsUtf8 (drop (at + 1) line)
utf_after_byte line at u inside low = IsUtf8-drop line (at + 1) u (IsCharBoundary-after_ascii line at u inside low)
