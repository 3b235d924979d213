-- What a sink took in two calls, one after the other.
use Rattle.std.proofs.Common.{List, ℕ, Option, Some, None, ◌++◌, ◌+◌, ◌-◌, ◌≤◌, take, drop, length, append_assoc, ap, subst, ◌∙◌, take-add, length-take, length-drop, arith}
use Rattle.std.proofs.lemmas.List.{take_rest}
use Rattle.gk_io.specs.Taken.{Appends}

-- first x and then y
pub Appends-append : (a b c : Option (List ℕ)) (x y : List ℕ) → Appends a b x → Appends b c y → Appends a c (x ++ y)
Appends-append a b None x y h k = tt
Appends-append a None (Some w) x y h k = elim k [ ]
Appends-append None (Some v) (Some w) x y h k = elim h [ ]
Appends-append (Some u) (Some v) (Some w) x y h k = k ∙ ap (λ t. t ++ y) h ∙ append_assoc u x y

-- first the front of a text before `at`, and then the n bytes from there on
pub Appends-more : (a b c : Option (List ℕ)) (text : List ℕ) (at n : ℕ) → Appends a b (take at text) → Appends b c (take n (take (length text - at) (drop at text))) → Appends a c (take (at + n) text)
Appends-more a b c text at n h k =
    rw (take-add at n text) (Appends-append a b c (take at text) (take n (drop at text)) h (subst (λ r. Appends b c (take n r)) (take_rest text at) k))

-- n bytes of what is left of a text from `at` on lie within it
pub length_rest : (text : List ℕ) (at n : ℕ) → at ≤ length text → n ≤ length (take (length text - at) (drop at text)) → at + n ≤ length text
length_rest text at n h k = let m = simp (length-take, length-drop) at k in omega arith
