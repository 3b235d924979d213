-- The lines of a file, one after another.
use Rattle.std.proofs.Common.{◌≡◌, ℕ, ◌+◌, List, [], ◌∷◌, ◌++◌, length, Result, Ok, Err, ◌∙◌, subst, arith}
use Rattle.key_lang.specs.declared.fault.KeyRefusal.{KeyRefusal}
use Rattle.key_lang.specs.OpenKey.{KeyState}
use Rattle.key_lang.specs.Statements.{KeyLineSays}
use Rattle.key_lang.specs.KeyText.{LinesSay, none, faulty, good}

-- good lines, and then more
pub lines_append : (ls more : List (List ℕ)) (s t : KeyState) (n m : ℕ) (answer : Result KeyState KeyRefusal) → m ≡ n + length ls → LinesSay s n ls (Ok t) → LinesSay t m more answer
    → LinesSay s n (ls ++ more) answer
lines_append [] more s t n m answer e none b = subst (λ k. LinesSay s k more answer) (e ∙ omega arith) b
lines_append (l ∷ ls) more s t n m answer e (good {next = u} x y) b = good x (lines_append ls more u t (n + 1) m answer (omega (arith, e)) y b)

-- one more good line
pub lines_push : (ls : List (List ℕ)) (line : List ℕ) (s t u : KeyState) (n m : ℕ) → m ≡ n + length ls → LinesSay s n ls (Ok t) → KeyLineSays t line (Ok u) → LinesSay s n (ls ++ line ∷ []) (Ok u)
lines_push ls line s t u n m e a b = lines_append ls (line ∷ []) s t n m (Ok u) e a (good b none)

-- a faulty line, whatever follows
pub lines_stop : (ls more : List (List ℕ)) (line : List ℕ) (s t : KeyState) (n : ℕ) (refusal : KeyRefusal) → refusal.line ≡ n + length ls → LinesSay s n ls (Ok t) → KeyLineSays t line (Err refusal.fault)
    → LinesSay s n (ls ++ line ∷ more) (Err refusal)
lines_stop ls more line s t n refusal e a b = lines_append ls (line ∷ more) s t n refusal.line (Err refusal) e a (faulty b)

-- what is refused stays refused
pub refused_more : (ls more : List (List ℕ)) (s : KeyState) (n : ℕ) (refusal : KeyRefusal) → LinesSay s n ls (Err refusal) → LinesSay s n (ls ++ more) (Err refusal)
refused_more [] more s n refusal x = elim x [ ]
refused_more (l ∷ ls) more s n refusal (faulty x) = faulty x
refused_more (l ∷ ls) more s n refusal (good {next = u} x y) = good x (refused_more ls more u (n + 1) refusal y)
