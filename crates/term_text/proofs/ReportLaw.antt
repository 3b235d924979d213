-- The report, made from the members of shared labels alone.
use Rattle.std.proofs.Common.{◌≡◌, ℕ, ◌+◌, ◌<◌, ◌≤◌, zero, suc, Bool, true, false, cond, ◌||◌, eqb, List, [], ◌∷◌, ◌++◌, length, get_or, map, refl, sym, ap, ◌∙◌, subst, arith, ⊎_elim, append_assoc, true≢false, count_by}
use Rattle.std.specs.List.{filter, flat_map, list_any, range_with_len, join_with_byte}
use Rattle.std.specs.List.Sorted.{IsSortedBy, IsStableBy, ties}
use Rattle.std.proofs.lemmas.Bool.{cases_Bool, eqb-true, eqb-false, eq-eqb, ne_eqb, ltb-false}
use Rattle.std.proofs.lemmas.List.{map-append, length-map, length-append}
use Rattle.std.proofs.lemmas.List.Elements.{filter-append}
use Rattle.std.proofs.lemmas.List.Sums.{length-filter}
use Rattle.std.proofs.lemmas.List.FromFn.{length-map-range_with_len, get_or-map-range_with_len}
use Rattle.std.proofs.Math.Seq.{ext_get_or}
use Rattle.chase_laws.specs.Report.{text_at, ordered, line, class_line, report_text}
use Rattle.term_text.specs.declared.member.Member.{Member}
use Rattle.term_text.specs.declared.label_counts.LabelCounts.{LabelCounts}
use Rattle.term_text.specs.Labels.{is_shared_in, label_count, CountsLabels}
use Rattle.term_text.specs.Members.{member_at, members_for, is_before, Prints}
use Rattle.term_text.specs.Lines.{has_label, rest_text, class_text, lines_after}
use Rattle.term_text.proofs.Sorting.{ascends_sorted, ascends-filter, ascends-map, one_sort, tied_below}
use Rattle.term_text.proofs.MemberOrder.{before_is_order}
use Rattle.term_text.proofs.Ordered.{below, ascends-by_text, filter-by_text, many-by_text}

-- ---- filters

map-cond : {X Y : Type 0} (f : X → Y) (b : Bool) (x : X) (xs : List X) → cond b (f x ∷ map f xs) (map f xs) ≡ map f (cond b (x ∷ xs) xs)
map-cond f true x xs = refl
map-cond f false x xs = refl

filter-map : {X Y : Type 0} (q : Y → Bool) (f : X → Y) (xs : List X) → filter q (map f xs) ≡ map f (filter (λ x. q (f x)) xs)
filter-map q f [] = refl
filter-map q f (x ∷ xs) = ap (λ l. cond (q (f x)) (f x ∷ l) l) (filter-map q f xs) ∙ map-cond f (q (f x)) x (filter (λ y. q (f y)) xs)

list_any-map : {X Y : Type 0} (q : Y → Bool) (f : X → Y) (xs : List X) → list_any q (map f xs) ≡ list_any (λ x. q (f x)) xs
list_any-map q f [] = refl
list_any-map q f (x ∷ xs) = ap (λ b. q (f x) || b) (list_any-map q f xs)

-- a filter of what another keeps, where that keeps all that passes
filter-weaker : {X : Type 0} (p q : X → Bool) → ((x : X) → p x ≡ true → q x ≡ true) → (xs : List X) → filter p (filter q xs) ≡ filter p xs
filter-weaker p q h [] = refl
filter-weaker p q h (x ∷ xs) =
    ⊎_elim
    (λ e. ap (λ b. filter p (cond b (x ∷ filter q xs) (filter q xs))) e ∙ ap (λ l. cond (p x) (x ∷ l) l) (filter-weaker p q h xs))
    (λ e. ap (λ b. filter p (cond b (x ∷ filter q xs) (filter q xs))) e
    ∙ (filter-weaker p q h xs
    ∙ ⊎_elim (λ t. absurd (true≢false (sym (h x t) ∙ e))) (λ t. sym (ap (λ b. cond b (x ∷ filter p xs) (filter p xs)) t)) (cases_Bool (p x))))
    (cases_Bool (q x))

filter-comm : {X : Type 0} (p q : X → Bool) (xs : List X) → filter p (filter q xs) ≡ filter q (filter p xs)
filter-comm p q [] = refl
filter-comm p q (x ∷ xs) =
    ⊎_elim
    (λ e. ⊎_elim
    (λ g. ap (λ b. filter p (cond b (x ∷ filter q xs) (filter q xs))) g
    ∙ (ap (λ b. cond b (x ∷ filter p (filter q xs)) (filter p (filter q xs))) e
    ∙ (ap (λ l. x ∷ l) (filter-comm p q xs)
    ∙ (sym (ap (λ b. cond b (x ∷ filter q (filter p xs)) (filter q (filter p xs))) g)
    ∙ sym (ap (λ b. filter q (cond b (x ∷ filter p xs) (filter p xs))) e)))))
    (λ g. ap (λ b. filter p (cond b (x ∷ filter q xs) (filter q xs))) g
    ∙ (filter-comm p q xs
    ∙ (sym (ap (λ b. cond b (x ∷ filter q (filter p xs)) (filter q (filter p xs))) g)
    ∙ sym (ap (λ b. filter q (cond b (x ∷ filter p xs) (filter p xs))) e))))
    (cases_Bool (q x)))
    (λ e. ⊎_elim
    (λ g. ap (λ b. filter p (cond b (x ∷ filter q xs) (filter q xs))) g
    ∙ (ap (λ b. cond b (x ∷ filter p (filter q xs)) (filter p (filter q xs))) e
    ∙ (filter-comm p q xs
    ∙ sym (ap (λ b. filter q (cond b (x ∷ filter p xs) (filter p xs))) e))))
    (λ g. ap (λ b. filter p (cond b (x ∷ filter q xs) (filter q xs))) g
    ∙ (filter-comm p q xs
    ∙ sym (ap (λ b. filter q (cond b (x ∷ filter p xs) (filter p xs))) e)))
    (cases_Bool (q x)))
    (cases_Bool (p x))

many-cond : {X : Type 0} (b : Bool) (x : X) (xs ys : List X) → length xs ≤ length ys → length (cond b (x ∷ xs) xs) ≤ length (cond b (x ∷ ys) ys)
many-cond true x xs ys h = omega (arith, h)
many-cond false x xs ys h = h

many-longer : {X : Type 0} (b : Bool) (x : X) (xs : List X) → length xs ≤ length (cond b (x ∷ xs) xs)
many-longer true x xs = omega arith
many-longer false x xs = omega arith

many-filter : {X : Type 0} (p q : X → Bool) (xs : List X) → length (filter p (filter q xs)) ≤ length (filter p xs)
many-filter p q [] = omega arith
many-filter p q (x ∷ xs) =
    ⊎_elim
    (λ e. subst (λ b. length (filter p (cond b (x ∷ filter q xs) (filter q xs))) ≤ length (filter p (x ∷ xs))) (sym e) (many-cond (p x) x (filter p (filter q xs)) (filter p xs) (many-filter p q xs)))
    (λ e. subst (λ b. length (filter p (cond b (x ∷ filter q xs) (filter q xs))) ≤ length (filter p (x ∷ xs))) (sym e) (omega (arith, many-filter p q xs, many-longer (p x) x (filter p xs))))
    (cases_Bool (q x))

-- what is left out where it gives nothing
flat_map-filter : {X A : Type 0} (keep : X → Bool) (f g : X → List A) → ((x : X) → keep x ≡ false → f x ≡ []) → ((x : X) → keep x ≡ true → f x ≡ g x) → (xs : List X) → flat_map f xs ≡ flat_map g (filter keep xs)
flat_map-filter keep f g none same [] = refl
flat_map-filter keep f g none same (x ∷ xs) =
    ⊎_elim
    (λ e. (λ i. same x e i ++ flat_map-filter keep f g none same xs i) ∙ sym (ap (λ b. flat_map g (cond b (x ∷ filter keep xs) (filter keep xs))) e))
    (λ e. (λ i. none x e i ++ flat_map-filter keep f g none same xs i) ∙ sym (ap (λ b. flat_map g (cond b (x ∷ filter keep xs) (filter keep xs))) e))
    (cases_Bool (keep x))

none_pass : {X : Type 0} (p : X → Bool) (xs : List X) → list_any p xs ≡ false → filter p xs ≡ []
none_pass p [] h = refl
none_pass p (x ∷ xs) h =
    ⊎_elim
    (λ e. absurd (true≢false (sym (ap (λ b. b || list_any p xs) e) ∙ h)))
    (λ e. ap (λ b. cond b (x ∷ filter p xs) (filter p xs)) e ∙ none_pass p xs (sym (ap (λ b. b || list_any p xs) e) ∙ h))
    (cases_Bool (p x))

-- ---- each name once

abbrev Once : List ℕ → Type 0
Once xs = (x : ℕ) → length (filter (λ y. eqb x y) xs) ≤ 1

none_in_range : (x a n : ℕ) → x < a → length (filter (λ y. eqb x y) (range_with_len a n)) ≡ 0
none_in_range x a zero h = refl
none_in_range x a (suc n) h =
    ap (λ b. length (cond b (a ∷ filter (λ y. eqb x y) (range_with_len (a + 1) n)) (filter (λ y. eqb x y) (range_with_len (a + 1) n)))) (ne_eqb x a (λ e. absurd (omega arith)))
    ∙ none_in_range x (a + 1) n (omega arith)

once_in_range : (x a n : ℕ) → length (filter (λ y. eqb x y) (range_with_len a n)) ≤ 1
once_in_range x a zero = omega arith
once_in_range x a (suc n) =
    ⊎_elim
    (λ e. subst (λ b. length (cond b (a ∷ filter (λ y. eqb x y) (range_with_len (a + 1) n)) (filter (λ y. eqb x y) (range_with_len (a + 1) n))) ≤ 1) (sym e)
    (let same : x ≡ a = eqb-true x a e in omega (arith, none_in_range x (a + 1) n (omega arith))))
    (λ e. subst (λ b. length (cond b (a ∷ filter (λ y. eqb x y) (range_with_len (a + 1) n)) (filter (λ y. eqb x y) (range_with_len (a + 1) n))) ≤ 1) (sym e) (once_in_range x (a + 1) n))
    (cases_Bool (eqb x a))

once_kept : (texts : List (List ℕ)) (keep : ℕ → Bool) → Once (filter keep (ordered texts))
once_kept texts keep x =
    omega (arith, many-filter (λ y. eqb x y) keep (ordered texts), many-by_text texts (λ y. eqb x y) (range_with_len 0 (length texts)), once_in_range x 0 (length texts))

-- ---- which names share a label

abbrev same : List ℕ → ℕ → ℕ → Bool
same labels m n = eqb (get_or labels m 0) (get_or labels n 0)

labels_are : (labels : List ℕ) → map (λ n. get_or labels n 0) (range_with_len 0 (length labels)) ≡ labels
labels_are labels =
    let f = λ (n : ℕ). get_or labels n 0 in
    let long : length (map f (range_with_len 0 (length labels))) ≡ length labels = length-map-range_with_len f 0 (length labels) in
    ext_get_or 0 (map f (range_with_len 0 (length labels))) labels long
    (λ i h. get_or-map-range_with_len f 0 (length labels) i i 0 (omega arith) (omega arith))

many_same : (labels : List ℕ) (n : ℕ) → length (filter (same labels n) (range_with_len 0 (length labels))) ≡ count_by (λ l. eqb (get_or labels n 0) l) labels
many_same labels n =
    let f = λ (m : ℕ). get_or labels m 0 in
    let q = λ (l : ℕ). eqb (get_or labels n 0) l in
    sym (length-map (filter (same labels n) (range_with_len 0 (length labels))) f)
    ∙ (sym (ap length (filter-map q f (range_with_len 0 (length labels))))
    ∙ (ap (λ l. length (filter q l)) (labels_are labels)
    ∙ length-filter q labels))

short_line : (texts : List (List ℕ)) (n : ℕ) (ms : List ℕ) → length ms ≤ 1 → class_line texts n ms ≡ []
short_line texts n [] h = refl
short_line texts n (m ∷ []) h = refl
short_line texts n (m ∷ k ∷ ms) h = absurd (omega arith)

-- names of labels that are not shared print nothing
report_kept : (texts : List (List ℕ)) (labels : List ℕ) (often : ℕ → Bool) → length labels ≡ length texts → ((l : ℕ) → often l ≡ false → count_by (λ x. eqb l x) labels ≤ 1) → (kept : List ℕ) → kept ≡ filter (λ n. often (get_or labels n 0)) (ordered texts) → report_text texts (same labels) ≡ flat_map (λ n. class_line texts n (filter (same labels n) kept)) kept
report_kept texts labels often long single kept is =
    let keep = λ (n : ℕ). often (get_or labels n 0) in
    flat_map-filter keep (λ n. class_line texts n (filter (same labels n) (ordered texts))) (λ n. class_line texts n (filter (same labels n) (filter keep (ordered texts))))
    (λ n e.
    let many : length (filter (same labels n) (ordered texts)) ≡ count_by (λ l. eqb (get_or labels n 0) l) labels =
    many-by_text texts (same labels n) (range_with_len 0 (length texts)) ∙ (ap (λ k. length (filter (same labels n) (range_with_len 0 k))) (sym long) ∙ many_same labels n) in
    short_line texts n (filter (same labels n) (ordered texts)) (omega (arith, many, single (get_or labels n 0) e)))
    (λ n e. ap (class_line texts n) (sym (filter-weaker (same labels n) keep (λ m g. ap often (sym (eqb-true (get_or labels n 0) (get_or labels m 0) g)) ∙ e) (ordered texts))))
    (ordered texts)
    ∙ ap (λ ms. flat_map (λ n. class_line texts n (filter (same labels n) ms)) ms) (sym is)

-- ---- the lines

joined : (texts : List (List ℕ)) (labels : List ℕ) (m : ℕ) (ms : List ℕ) → (32 ∷ join_with_byte 32 (map (text_at texts) (m ∷ ms))) ++ 10 ∷ [] ≡ rest_text (map (member_at texts labels) (m ∷ ms))
joined texts labels m [] = refl
joined texts labels m (k ∷ ms) =
    ap (λ (l : List ℕ). 32 ∷ l)
    (append_assoc (text_at texts m) (32 ∷ join_with_byte 32 (map (text_at texts) (k ∷ ms))) (10 ∷ [])
    ∙ ap (λ l. text_at texts m ++ l) (joined texts labels k ms))

line_is : (texts : List (List ℕ)) (labels : List ℕ) (n : ℕ) (ms : List ℕ) → class_line texts n (n ∷ ms) ≡ class_text (map (member_at texts labels) (n ∷ ms))
line_is texts labels n [] = refl
line_is texts labels n (m ∷ ms) =
    ap (λ b. cond b (line texts (n ∷ m ∷ ms)) []) (eq-eqb n n refl)
    ∙ (append_assoc (text_at texts n) (32 ∷ join_with_byte 32 (map (text_at texts) (m ∷ ms))) (10 ∷ [])
    ∙ ap (λ l. text_at texts n ++ l) (joined texts labels m ms))

other_line : (texts : List (List ℕ)) (n m : ℕ) (ms : List ℕ) → eqb m n ≡ false → class_line texts n (m ∷ ms) ≡ []
other_line texts n m [] e = refl
other_line texts n m (k ∷ ms) e = ap (λ b. cond b (line texts (m ∷ k ∷ ms)) []) e

-- a class whose first name stands before n prints nothing at n
other_first : (texts : List (List ℕ)) (labels : List ℕ) (n : ℕ) (rest before : List ℕ) → length (filter (λ y. eqb n y) before) ≡ 0 → list_any (same labels n) before ≡ true → class_line texts n (filter (same labels n) before ++ n ∷ rest) ≡ []
other_first texts labels n rest [] none some = absurd (true≢false (sym some))
other_first texts labels n rest (b ∷ bs) none some =
    let apart : eqb n b ≡ false = ⊎_elim (λ e. absurd (let many = sym (ap (λ v. length (cond v (b ∷ filter (λ y. eqb n y) bs) (filter (λ y. eqb n y) bs))) e) ∙ none in omega (arith, many))) (λ e. e) (cases_Bool (eqb n b)) in
    let later : length (filter (λ y. eqb n y) bs) ≡ 0 = sym (ap (λ v. length (cond v (b ∷ filter (λ y. eqb n y) bs) (filter (λ y. eqb n y) bs))) apart) ∙ none in
    ⊎_elim
    (λ e. ap (λ v. class_line texts n (cond v (b ∷ filter (same labels n) bs) (filter (same labels n) bs) ++ n ∷ rest)) e
    ∙ other_line texts n b (filter (same labels n) bs ++ n ∷ rest) (ne_eqb b n (λ g. eqb-false n b apart (sym g))))
    (λ e. ap (λ v. class_line texts n (cond v (b ∷ filter (same labels n) bs) (filter (same labels n) bs) ++ n ∷ rest)) e
    ∙ other_first texts labels n rest bs later (sym (ap (λ v. v || list_any (same labels n) bs) e) ∙ some))
    (cases_Bool (same labels n b))

head_is : (texts : List (List ℕ)) (labels whole before : List ℕ) (n : ℕ) (rest : List ℕ) → whole ≡ before ++ n ∷ rest → Once whole → class_line texts n (filter (same labels n) whole) ≡ cond (list_any (has_label (get_or labels n 0)) (map (member_at texts labels) before)) [] (class_text (member_at texts labels n ∷ filter (has_label (get_or labels n 0)) (map (member_at texts labels) rest)))
head_is texts labels whole before n rest e once =
    let parts : filter (same labels n) whole ≡ filter (same labels n) before ++ n ∷ filter (same labels n) rest =
    ap (filter (same labels n)) e
    ∙ (filter-append (same labels n) before (n ∷ rest)
    ∙ ap (λ b. filter (same labels n) before ++ cond b (n ∷ filter (same labels n) rest) (filter (same labels n) rest)) (eq-eqb (get_or labels n 0) (get_or labels n 0) refl)) in
    let here : length (filter (λ y. eqb n y) whole) ≡ length (filter (λ y. eqb n y) before) + suc (length (filter (λ y. eqb n y) rest)) =
    ap (λ l. length (filter (λ y. eqb n y) l)) e
    ∙ (ap length (filter-append (λ y. eqb n y) before (n ∷ rest))
    ∙ (length-append (filter (λ y. eqb n y) before) (filter (λ y. eqb n y) (n ∷ rest))
    ∙ ap (λ b. length (filter (λ y. eqb n y) before) + length (cond b (n ∷ filter (λ y. eqb n y) rest) (filter (λ y. eqb n y) rest))) (eq-eqb n n refl))) in
    let none : length (filter (λ y. eqb n y) before) ≡ 0 = omega (arith, here, once n) in
    let any : list_any (has_label (get_or labels n 0)) (map (member_at texts labels) before) ≡ list_any (same labels n) before = list_any-map (has_label (get_or labels n 0)) (member_at texts labels) before in
    let text = class_text (member_at texts labels n ∷ filter (has_label (get_or labels n 0)) (map (member_at texts labels) rest)) in
    ⊎_elim
    (λ some. ap (class_line texts n) parts ∙ (other_first texts labels n (filter (same labels n) rest) before none some ∙ sym (ap (λ b. cond b [] text) (any ∙ some))))
    (λ nowhere.
    ap (class_line texts n) parts
    ∙ (ap (λ l. class_line texts n (l ++ n ∷ filter (same labels n) rest)) (none_pass (same labels n) before nowhere)
    ∙ (line_is texts labels n (filter (same labels n) rest)
    ∙ (ap (λ l. class_text (member_at texts labels n ∷ l)) (sym (filter-map (has_label (get_or labels n 0)) (member_at texts labels) rest))
    ∙ sym (ap (λ b. cond b [] text) (any ∙ nowhere))))))
    (cases_Bool (list_any (same labels n) before))

lines_are : (texts : List (List ℕ)) (labels whole before rest : List ℕ) → whole ≡ before ++ rest → Once whole → flat_map (λ n. class_line texts n (filter (same labels n) whole)) rest ≡ lines_after (map (member_at texts labels) before) (map (member_at texts labels) rest)
lines_are texts labels whole before [] e once = refl
lines_are texts labels whole before (n ∷ rest) e once =
    let head = head_is texts labels whole before n rest e once in
    let tail : flat_map (λ m. class_line texts m (filter (same labels m) whole)) rest ≡ lines_after (map (member_at texts labels) before ++ member_at texts labels n ∷ []) (map (member_at texts labels) rest) =
    lines_are texts labels whole (before ++ n ∷ []) rest (e ∙ sym (append_assoc before (n ∷ []) rest)) once
    ∙ ap (λ l. lines_after l (map (member_at texts labels) rest)) (map-append (member_at texts labels) before (n ∷ [])) in
    λ i. head i ++ tail i

-- ---- the sorted members

sorted_are : (texts : List (List ℕ)) (labels : List ℕ) (often : ℕ → Bool) → length labels ≡ length texts → (members : List Member) → IsSortedBy is_before members → IsStableBy is_before (members_for texts labels often) members → members ≡ map (member_at texts labels) (filter (λ n. often (get_or labels n 0)) (ordered texts))
sorted_are texts labels often long members up stable =
    let keep = λ (n : ℕ). often (get_or labels n 0) in
    let at = member_at texts labels in
    one_sort is_before before_is_order members (map at (filter keep (ordered texts)))
    (ascends_sorted is_before before_is_order members up)
    (ascends-map is_before at (filter keep (ordered texts)) (ascends-filter (below texts) keep (ordered texts) (ascends-by_text texts (range_with_len 0 (length texts)))))
    (λ x.
    let p = λ (n : ℕ). ties is_before x (member_at texts labels n) in
    stable x
    ∙ (filter-map (ties is_before x) at (filter keep (range_with_len 0 (length labels)))
    ∙ (ap (map at)
    (filter-comm p keep (range_with_len 0 (length labels))
    ∙ (ap (λ k. filter keep (filter p (range_with_len 0 k))) long
    ∙ (ap (filter keep) (sym (filter-by_text texts p (λ m n a b. tied_below is_before before_is_order x (member_at texts labels m) (member_at texts labels n) a b) (range_with_len 0 (length texts))))
    ∙ filter-comm keep p (ordered texts))))
    ∙ sym (filter-map (ties is_before x) at (filter keep (ordered texts))))))

-- the lines of the sorted members are the report
pub report_is : (texts : List (List ℕ)) (labels : List ℕ) (counts : LabelCounts) → length labels ≡ length texts → CountsLabels counts labels → (members : List Member) → members ≡ members_for texts labels (is_shared_in counts) → (bytes : List ℕ) → Prints members bytes → bytes ≡ report_text texts (same labels)
report_is texts labels counts long counted members is bytes printed =
    let often = is_shared_in counts in
    let single : (l : ℕ) → often l ≡ false → count_by (λ x. eqb l x) labels ≤ 1 = λ l e. omega (arith, ltb-false 1 (label_count counts l) e, counted.count l) in
    let kept = filter (λ (n : ℕ). often (get_or labels n 0)) (ordered texts) in
    printed.lines
    ∙ (ap (lines_after []) (sorted_are texts labels often long printed.sorted printed.ascends (subst (λ old. IsStableBy is_before old printed.sorted) is printed.stable))
    ∙ (sym (lines_are texts labels kept [] kept refl (once_kept texts (λ n. often (get_or labels n 0))))
    ∙ sym (report_kept texts labels often long single kept refl)))
