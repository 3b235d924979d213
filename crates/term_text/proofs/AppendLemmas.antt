-- One piece after another.
use Rattle.std.proofs.Common.{◌≡◌, ℕ, zero, suc, ◌+◌, ◌-◌, ◌<◌, ◌≤◌, false, cond, ◌||◌, eqb, List, [], ◌∷◌, ◌++◌, length, get_or, take, drop, slice_range, sym, ap, ◌∙◌, subst, arith, append_assoc, append-nil}
use Rattle.nt_lex.specs.Scans.{AllPassBetween, IsRunAt}
use Rattle.std.proofs.lemmas.Bool.{or_parts, not-true}
use Rattle.std.proofs.lemmas.List.{take_more, drop-take, drop-append-le, drop_all, length-take-le}
use Rattle.std.proofs.lemmas.List.Concat.{flat_map-append}
use Rattle.std.specs.List.{flat_map}
use Rattle.term_text.specs.CanonicalText.{unicode_escape}
use Rattle.term_text.specs.Appending.{BeginsWith}
use Rattle.term_text.specs.Escaping.{written_byte, is_escaped, is_raw}
use Rattle.term_text.specs.declared.escapes.Inside.{Inside}
use Rattle.term_text.specs.declared.escapes.Inside.TheVariants.{Brackets, Quotes}

pub begins_then : {a b c : List ℕ} → BeginsWith a b → BeginsWith b c → BeginsWith a c
begins_then {a = a} {b = b} {c = c} h g = record { more = h.more ++ g.more; is = g.is ∙ (ap (λ l. l ++ g.more) h.is ∙ append_assoc a h.more g.more) }

-- three pieces with a byte after each of the first two, and an end
pub pieces_joined : (old s p o end a b c d e f : List ℕ) → a ≡ old ++ s → b ≡ a ++ 32 ∷ [] → c ≡ b ++ p → d ≡ c ++ 32 ∷ [] → e ≡ d ++ o → f ≡ e ++ end → f ≡ old ++ (s ++ 32 ∷ (p ++ 32 ∷ (o ++ end)))
pieces_joined old s p o end a b c d e f ha hb hc hd he hf =
    let b_is : b ≡ old ++ (s ++ 32 ∷ []) = hb ∙ (ap (λ l. l ++ 32 ∷ []) ha ∙ append_assoc old s (32 ∷ [])) in
    let d_is : d ≡ b ++ (p ++ 32 ∷ []) = hd ∙ (ap (λ l. l ++ 32 ∷ []) hc ∙ append_assoc b p (32 ∷ [])) in
    let f_is : f ≡ d ++ (o ++ end) = hf ∙ (ap (λ l. l ++ end) he ∙ append_assoc d o end) in
    f_is ∙ (ap (λ l. l ++ (o ++ end)) d_is ∙ (append_assoc b (p ++ 32 ∷ []) (o ++ end)
    ∙ (ap (λ l. b ++ l) (append_assoc p (32 ∷ []) (o ++ end))
    ∙ (ap (λ l. l ++ (p ++ 32 ∷ (o ++ end))) b_is ∙ (append_assoc old (s ++ 32 ∷ []) (p ++ 32 ∷ (o ++ end))
    ∙ ap (λ l. old ++ l) (append_assoc s (32 ∷ []) (p ++ 32 ∷ (o ++ end))))))))

-- a byte that need not be escaped is written as it is
pub raw_byte : (inside : Inside) (c : ℕ) → is_escaped inside c ≡ false → written_byte inside c ≡ c ∷ []
raw_byte Brackets c e = ap (λ b. cond b (unicode_escape c) (c ∷ [])) e
raw_byte Quotes c e =
    let three = or_parts ((eqb c 0x22 || eqb c 0x5C) || eqb c 0x0A) (eqb c 0x0D) e in
    let two = or_parts (eqb c 0x22 || eqb c 0x5C) (eqb c 0x0A) three.0 in
    let one = or_parts (eqb c 0x22) (eqb c 0x5C) two.0 in
    ap (λ b. cond b (0x5C ∷ 0x22 ∷ []) (cond (eqb c 0x5C) (0x5C ∷ 0x5C ∷ []) (cond (eqb c 0x0A) (0x5C ∷ 0x6E ∷ []) (cond (eqb c 0x0D) (0x5C ∷ 0x72 ∷ []) (c ∷ []))))) one.0
    ∙ (ap (λ b. cond b (0x5C ∷ 0x5C ∷ []) (cond (eqb c 0x0A) (0x5C ∷ 0x6E ∷ []) (cond (eqb c 0x0D) (0x5C ∷ 0x72 ∷ []) (c ∷ [])))) one.1
    ∙ (ap (λ b. cond b (0x5C ∷ 0x6E ∷ []) (cond (eqb c 0x0D) (0x5C ∷ 0x72 ∷ []) (c ∷ []))) two.1
    ∙ ap (λ b. cond b (0x5C ∷ 0x72 ∷ []) (c ∷ [])) three.1))

-- a byte that is written as it is
byte_passed : (f : ℕ → List ℕ) (old buf text : List ℕ) (copied place : ℕ) → copied ≤ place → place < length text → f (get_or text place 0) ≡ get_or text place 0 ∷ [] → buf ++ drop copied (take place text) ≡ old ++ flat_map f (take place text) → buf ++ drop copied (take (place + 1) text) ≡ old ++ flat_map f (take (place + 1) text)
byte_passed f old buf text copied place behind inside raw all =
    let byte = get_or text place 0 in
    let longer : take (place + 1) text ≡ take place text ++ byte ∷ [] = take_more text place 0 inside in
    let long : length (take place text) ≡ place = length-take-le place text (omega arith) in
    let run : drop copied (take (place + 1) text) ≡ drop copied (take place text) ++ byte ∷ [] =
    ap (drop copied) longer ∙ drop-append-le copied (take place text) (byte ∷ []) (omega (arith, long)) in
    let written : flat_map f (take (place + 1) text) ≡ flat_map f (take place text) ++ byte ∷ [] =
    ap (flat_map f) longer ∙ (flat_map-append f (take place text) (byte ∷ []) ∙ ap (λ l. flat_map f (take place text) ++ l) (append-nil (f byte) ∙ raw)) in
    ap (λ l. buf ++ l) run
    ∙ (sym (append_assoc buf (drop copied (take place text)) (byte ∷ []))
    ∙ (ap (λ l. l ++ byte ∷ []) all
    ∙ (append_assoc old (flat_map f (take place text)) (byte ∷ [])
    ∙ ap (λ l. old ++ l) (sym written))))

-- bytes that may stand raw are written as they are
run_to : (inside : Inside) (old buf text : List ℕ) (from k : ℕ) → from + k ≤ length text → AllPassBetween (is_raw inside) text from (from + k) → buf ++ drop from (take from text) ≡ old ++ flat_map (written_byte inside) (take from text) → buf ++ drop from (take (from + k) text) ≡ old ++ flat_map (written_byte inside) (take (from + k) text)
run_to inside old buf text from zero within pass begun =
    let same : from ≡ from + 0 = omega arith in
    subst (λ n. buf ++ drop from (take n text) ≡ old ++ flat_map (written_byte inside) (take n text)) same begun
run_to inside old buf text from (suc k) within pass begun =
    let place = from + k in
    let next : place + 1 ≡ from + suc k = omega arith in
    let before = run_to inside old buf text from k (omega (arith, within)) (λ i low high. pass i low (omega (arith, high))) begun in
    let raw : is_escaped inside (get_or text place 0) ≡ false = not-true (is_escaped inside (get_or text place 0)) (pass place (omega arith) (omega arith)) in
    subst (λ n. buf ++ drop from (take n text) ≡ old ++ flat_map (written_byte inside) (take n text)) next
    (byte_passed (written_byte inside) old buf text from place (omega arith) (omega (arith, within)) (raw_byte inside (get_or text place 0) raw) before)

-- a run of bytes that may stand raw
pub run_passed : (inside : Inside) (old buf ended text : List ℕ) (from end : ℕ) → IsRunAt (is_raw inside) text from end → buf ≡ old ++ flat_map (written_byte inside) (take from text) → ended ≡ buf ++ slice_range text from end → ended ≡ old ++ flat_map (written_byte inside) (take end text)
run_passed inside old buf ended text from end run begun copy =
    let whole : from + (end - from) ≡ end = omega (arith, run.ordered) in
    let long : length (take from text) ≡ from = length-take-le from text (omega (arith, run.ordered, run.in_range)) in
    let empty : buf ++ drop from (take from text) ≡ buf = ap (λ l. buf ++ l) (drop_all from (take from text) (omega (arith, long))) ∙ append-nil buf in
    let all : buf ++ drop from (take (from + (end - from)) text) ≡ old ++ flat_map (written_byte inside) (take (from + (end - from)) text) =
    run_to inside old buf text from (end - from) (omega (arith, whole, run.in_range)) (λ i low high. run.pass i low (omega (arith, high, whole))) (empty ∙ begun) in
    let part : take (end - from) (drop from text) ≡ drop from (take end text) = sym (drop-take from (end - from) text) ∙ ap (λ n. drop from (take n text)) whole in
    copy ∙ (ap (λ l. buf ++ l) part ∙ subst (λ n. buf ++ drop from (take n text) ≡ old ++ flat_map (written_byte inside) (take n text)) whole all)

-- a byte that is escaped
pub byte_escaped : (f : ℕ → List ℕ) (old buf ended text : List ℕ) (place : ℕ) → place < length text → buf ≡ old ++ flat_map f (take place text) → ended ≡ buf ++ f (get_or text place 0) → ended ≡ old ++ flat_map f (take (place + 1) text)
byte_escaped f old buf ended text place inside all escape =
    let byte = get_or text place 0 in
    let longer : take (place + 1) text ≡ take place text ++ byte ∷ [] = take_more text place 0 inside in
    let written : flat_map f (take (place + 1) text) ≡ flat_map f (take place text) ++ f byte =
    ap (flat_map f) longer ∙ (flat_map-append f (take place text) (byte ∷ []) ∙ ap (λ l. flat_map f (take place text) ++ l) (append-nil (f byte))) in
    escape
    ∙ (ap (λ l. l ++ f byte) all
    ∙ (append_assoc old (flat_map f (take place text)) (f byte)
    ∙ ap (λ l. old ++ l) (sym written)))
