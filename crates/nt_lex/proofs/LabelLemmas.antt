-- Labels: one reading.
use Rattle.std.proofs.Common.{◌≡◌, ◌≢◌, ℕ, Bool, true, eqb, List, [], ◌∷◌, ◌++◌, get_or, drop, refl, sym, ap, ap₂, ◌∙◌, arith, append_assoc}
use Rattle.std.proofs.lemmas.Bool.{and_parts, and_from, eqb-true, or_right}
use Rattle.std.proofs.lemmas.List.Folds.{list_all-append}
use Rattle.std.proofs.lemmas.Str.{encode_same, encodes-append, encode_ascii}
use Rattle.std.specs.List.{list_all}
use lib.Utf8.{encode, encodes}
use Rattle.nt_lex.specs.Chars.{is_label_inner, is_pn_chars}
use Rattle.nt_lex.specs.Spelling.{SpellsLabel}
use Rattle.nt_lex.specs.Reading.{LabelStops, LabelFails}

-- a character is a dot
abbrev pub is_dot : ℕ → Bool
is_dot b = eqb b 0x2E

-- no character that passes the test comes next
abbrev pub NoChar : (ℕ → Bool) → List ℕ → Type 0
NoChar p rest = (c : ℕ) (more : List ℕ) → p c ≡ true → rest ≢ encode c ++ more

-- it ends with no dot
abbrev pub NoLastDot : List ℕ → Type 0
NoLastDot cs = (before : List ℕ) → cs ≢ before ++ 0x2E ∷ []

-- there is one longest run of characters
pub chars_once : (p : ℕ → Bool) (cs ds r t : List ℕ) → list_all p cs ≡ true → list_all p ds ≡ true → NoChar p r → NoChar p t
    → encodes cs ++ r ≡ encodes ds ++ t → (cs ≡ ds) × (r ≡ t)
chars_once p [] [] r t x y nr nt e = (refl, e)
chars_once p [] (d ∷ ds) r t x y nr nt e = absurd (nr d (encodes ds ++ t) (and_parts _ _ y).0 (e ∙ append_assoc (encode d) (encodes ds) t))
chars_once p (c ∷ cs) [] r t x y nr nt e = absurd (nt c (encodes cs ++ r) (and_parts _ _ x).0 (sym e ∙ append_assoc (encode c) (encodes cs) r))
chars_once p (c ∷ cs) (d ∷ ds) r t x y nr nt e =
    let one = encode_same c d (encodes cs ++ r) (encodes ds ++ t) (sym (append_assoc (encode c) (encodes cs) r) ∙ e ∙ append_assoc (encode d) (encodes ds) t) in
    let more = chars_once p cs ds r t (and_parts _ _ x).1 (and_parts _ _ y).1 nr nt one.1 in
    (ap₂ (λ u (us : List ℕ). u ∷ us) one.0 more.0, more.1)

-- dots are their own bytes
pub encodes_dots : (ds : List ℕ) → list_all is_dot ds ≡ true → encodes ds ≡ ds
encodes_dots [] a = refl
encodes_dots (d ∷ ds) a =
    let is : d ≡ 0x2E = eqb-true d 0x2E (and_parts _ _ a).0 in
    ap₂ (λ (u us : List ℕ). u ++ us) (encode_ascii d (omega arith)) (encodes_dots ds (and_parts _ _ a).1)

pub inner_dots : (ds : List ℕ) → list_all is_dot ds ≡ true → list_all is_label_inner ds ≡ true
inner_dots [] a = refl
inner_dots (d ∷ ds) a = and_from _ _ (or_right (is_pn_chars d) (is_dot d) (and_parts _ _ a).0) (inner_dots ds (and_parts _ _ a).1)

dots_end : (d : ℕ) (ds : List ℕ) → list_all is_dot (d ∷ ds) ≡ true → (before : List ℕ) × (d ∷ ds ≡ before ++ 0x2E ∷ [])
dots_end d [] a = ([], ap (λ u. u ∷ []) (eqb-true d 0x2E (and_parts _ _ a).0))
dots_end d (e ∷ ds) a = let q = dots_end e ds (and_parts _ _ a).1 in (d ∷ q.0, ap (λ (l : List ℕ). d ∷ l) q.1)

only_dots : (d : ℕ) (ds ts us : List ℕ) → list_all is_dot us ≡ true → us ≡ (d ∷ ds) ++ ts → NoLastDot (d ∷ ds) → ⊥
only_dots d ds ts us a e n =
    let all : list_all is_dot ((d ∷ ds) ++ ts) ≡ true = ap (list_all is_dot) (sym e) ∙ a in
    let front = and_parts (list_all is_dot (d ∷ ds)) (list_all is_dot ts) (sym (list_all-append is_dot (d ∷ ds) ts) ∙ all) in
    let q = dots_end d ds front.0 in
    n q.0 q.1

-- the dots at the end are taken off in one way
pub trim_once : (a b ds es : List ℕ) → NoLastDot a → NoLastDot b → list_all is_dot ds ≡ true → list_all is_dot es ≡ true → a ++ ds ≡ b ++ es → a ≡ b
trim_once [] [] ds es na nb x y e = refl
trim_once [] (d ∷ b) ds es na nb x y e = absurd (only_dots d b es ds x e nb)
trim_once (c ∷ a) [] ds es na nb x y e = absurd (only_dots c a ds es y (sym e) na)
trim_once (c ∷ a) (d ∷ b) ds es na nb x y e =
    let head : c ≡ d = ap (λ l. get_or l 0 0) e in
    let tail = trim_once a b ds es (λ before q. na (c ∷ before) (ap (λ (l : List ℕ). c ∷ l) q)) (λ before q. nb (d ∷ before) (ap (λ (l : List ℕ). d ∷ l) q)) x y (ap (drop 1) e) in
    ap₂ (λ u (us : List ℕ). u ∷ us) head tail

-- what follows the first character, and the dots after it
others_whole : (others r : List ℕ) (s : LabelStops r) → encodes others ++ r ≡ encodes (others ++ s.dots) ++ s.after
others_whole others r s =
    ap (λ (l : List ℕ). encodes others ++ l) (s.whole ∙ ap (λ (l : List ℕ). l ++ s.after) (sym (encodes_dots s.dots s.each)))
    ∙ sym (append_assoc (encodes others) (encodes s.dots) s.after)
    ∙ ap (λ (l : List ℕ). l ++ s.after) (sym (encodes-append others s.dots))

others_inner : (others r : List ℕ) (s : LabelStops r) → list_all is_label_inner others ≡ true → list_all is_label_inner (others ++ s.dots) ≡ true
others_inner others r s each = list_all-append is_label_inner others s.dots ∙ and_from _ _ each (inner_dots s.dots s.each)

label_bytes : (p l r : List ℕ) (x : SpellsLabel p l) → drop 2 (p ++ r) ≡ encode x.first ++ (encodes x.others ++ r)
label_bytes p l r x = ap (λ (q : List ℕ). drop 2 (q ++ r)) x.whole ∙ ap (λ (q : List ℕ). q ++ r) x.says ∙ append_assoc (encode x.first) (encodes x.others) r

pub label_once : (p q l m r t : List ℕ) → SpellsLabel p l → SpellsLabel q m → LabelStops r → LabelStops t → p ++ r ≡ q ++ t → (p ≡ q) × (l ≡ m)
label_once p q l m r t x y sr st e =
    let bytes : encode x.first ++ (encodes x.others ++ r) ≡ encode y.first ++ (encodes y.others ++ t) = sym (label_bytes p l r x) ∙ ap (drop 2) e ∙ label_bytes q m t y in
    let first = encode_same x.first y.first (encodes x.others ++ r) (encodes y.others ++ t) bytes in
    let runs = chars_once is_label_inner (x.others ++ sr.dots) (y.others ++ st.dots) sr.after st.after (others_inner x.others r sr x.each) (others_inner y.others t st y.each)
    sr.none st.none (sym (others_whole x.others r sr) ∙ first.1 ∙ others_whole y.others t st) in
    let others = trim_once x.others y.others sr.dots st.dots x.ends y.ends sr.each st.each runs.0 in
    let labels : l ≡ m = x.says ∙ ap₂ (λ c (cs : List ℕ). encodes (c ∷ cs)) first.0 others ∙ sym y.says in
    (x.whole ∙ ap (λ (v : List ℕ). 0x5F ∷ 0x3A ∷ v) labels ∙ sym y.whole, labels)

-- what spells a label is not faulty
pub label_conflict : (p l r more : List ℕ) → SpellsLabel p l → p ++ r ≡ 0x5F ∷ more → LabelFails more → ⊥
label_conflict p l r more x e f =
    f.none x.first (encodes x.others ++ r) x.begins
    (sym (ap (drop 1) e) ∙ ap (λ (q : List ℕ). drop 1 (q ++ r)) x.whole ∙ ap (λ (v : List ℕ). 0x3A ∷ v) (ap (λ (q : List ℕ). q ++ r) x.says ∙ append_assoc (encode x.first) (encodes x.others) r))
