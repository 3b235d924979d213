-- Texts that are appended piece by piece.
use Rattle.std.proofs.Common.{List, ℕ, ◌++◌, ◌≡◌, ap, ◌∙◌, append_assoc}
use Rattle.term_text.specs.Appending.{BeginsWith}

pub four_pieces : (old p q r s a b c d : List ℕ) → a ≡ old ++ p → b ≡ a ++ q → c ≡ b ++ r → d ≡ c ++ s → d ≡ old ++ (p ++ (q ++ (r ++ s)))
four_pieces old p q r s a b c d ha hb hc hd =
    let whole : d ≡ (((old ++ p) ++ q) ++ r) ++ s = hd ∙ ap (λ l. l ++ s) (hc ∙ ap (λ l. l ++ r) (hb ∙ ap (λ l. l ++ q) ha)) in
    whole ∙ simp append_assoc

pub five_pieces : (old p q r s t a b c d e : List ℕ) → a ≡ old ++ p → b ≡ a ++ q → c ≡ b ++ r → d ≡ c ++ s → e ≡ d ++ t → e ≡ old ++ (p ++ (q ++ (r ++ (s ++ t))))
five_pieces old p q r s t a b c d e ha hb hc hd he =
    let whole : e ≡ ((((old ++ p) ++ q) ++ r) ++ s) ++ t = he ∙ ap (λ l. l ++ t) (hd ∙ ap (λ l. l ++ s) (hc ∙ ap (λ l. l ++ r) (hb ∙ ap (λ l. l ++ q) ha))) in
    whole ∙ simp append_assoc

pub begins_trans : (a b c : List ℕ) → BeginsWith a b → BeginsWith b c → BeginsWith a c
begins_trans a b c x y = record { more = x.more ++ y.more; is = y.is ∙ ap (λ l. l ++ y.more) x.is ∙ append_assoc a x.more y.more }
