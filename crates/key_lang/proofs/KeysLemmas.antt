-- The answer for a whole file.
use Rattle.std.proofs.Common.{◌≡◌, ℕ, ◌+◌, ◌-◌, ◌<◌, ◌≤◌, Bool, ◌&&◌, cond, eqb, List, [], ◌∷◌, ◌++◌, length, get_or, take, drop, Result, Ok, Err, refl, sym, ap, ap₂, ◌∙◌, subst, inl, inr, arith, length-append}
use Rattle.std.proofs.lemmas.Bool.{cases_lt, cond-true, cond-false, le-leb, lt-leb, lt-ltb, le-ltb}
use Rattle.std.proofs.lemmas.List.{take_all, length-drop}
use Rattle.nt_reader.specs.Lines.{cut_of, last_of, lines}
use Rattle.nt_reader.specs.File.{judged, line_of_next}
use Rattle.key_file.specs.KeyShape.{KeyShape}
use Rattle.gk_base.specs.Answers.{IsSo}
use Rattle.key_lang.specs.declared.fault.KeyFault.TheVariants.{FileTooLong}
use Rattle.key_lang.specs.declared.fault.KeyRefusal.{KeyRefusal}
use Rattle.key_lang.specs.Answers.{KeyStop, Is, stops, goes_on}
use Rattle.gk_base.specs.declared.stop.Stop.TheVariants.{NoMemory, Fault}
use Rattle.key_lang.specs.declared.file.Seen.{Seen}
use Rattle.key_lang.specs.Statements.{KeyLineSays}
use Rattle.key_lang.specs.KeyText.{LinesSay, start, ended, after_lines, KeysSay}
use Rattle.key_lang.specs.Seen.{NumberedSays, HasSeen, SeesLines, HasSeenAll, SeesAll, next_line}
use Rattle.key_lang.proofs.LinesLemmas.{lines_push, lines_stop, refused_more}

within_judged : (most : ℕ) (bytes : List ℕ) → length bytes ≤ most → judged most bytes ≡ lines bytes
within_judged most bytes le = cond-true _ _ _ (le-leb _ _ le)

beyond_judged : (most : ℕ) (bytes : List ℕ) → most < length bytes → judged most bytes ≡ (cut_of (take most bytes)).ended
beyond_judged most bytes lt = cond-false _ _ _ (lt-leb (length bytes) most lt)

last_one : (rest : List ℕ) → 0 < length rest → last_of rest ≡ rest ∷ []
last_one [] some = absurd (omega arith)
last_one (b ∷ bs) some = refl

-- where the last line does not end
pub lines_last : (bytes : List ℕ) (seen : Seen) → HasSeen bytes seen → seen.from < length bytes → lines bytes ≡ (cut_of bytes).ended ++ drop seen.from bytes ∷ []
lines_last bytes seen s some =
    ap (λ (l : List (List ℕ)). (cut_of bytes).ended ++ l) (ap last_of s.rest ∙ last_one (drop seen.from bytes) (omega (arith, length-drop seen.from bytes)))

pub rest_good : (bytes : List ℕ) (seen after : Seen) → HasSeen bytes seen → seen.from < length bytes → KeyLineSays seen.state (drop seen.from bytes) (Ok after.state) → after.number ≡ seen.number + 1
    → HasSeenAll bytes after
rest_good bytes seen after s some says number =
    let all = (cut_of bytes).ended in
    let whole = lines_last bytes seen s some in
    record {
      says = subst (λ (l : List (List ℕ)). LinesSay start 1 l (Ok after.state)) (sym whole) (lines_push all (drop seen.from bytes) start seen.state after.state 1 seen.number (omega (arith, s.number)) s.says says);
      number = omega (arith, number, s.number, ap length whole, length-append all (drop seen.from bytes ∷ []));
    }

pub rest_stop : (bytes : List ℕ) (seen : Seen) (stop : KeyStop) → HasSeen bytes seen → seen.from < length bytes → IsSo (NumberedSays seen.state (drop seen.from bytes) seen.number) (Err stop)
    → IsSo (SeesAll bytes) (Err stop)
rest_stop bytes seen NoMemory s some j = tt
rest_stop bytes seen (Fault r) s some j =
    subst (λ (l : List (List ℕ)). LinesSay start 1 l (Err r)) (sym (lines_last bytes seen s some))
    (lines_stop (cut_of bytes).ended [] (drop seen.from bytes) start seen.state 1 r (omega (arith, j.0, s.number)) s.says j.1)

-- a line that ended within the limit was refused
refused : (limit : ℕ) (bytes : List ℕ) (r : KeyRefusal) → LinesSay start 1 (cut_of (take limit bytes)).ended (Err r) → KeysSay limit bytes (Err r)
refused limit bytes r says = stops (elim (cases_lt limit (length bytes)) [
  | inl longer ↦ subst (λ (l : List (List ℕ)). LinesSay start 1 l (Err r)) (sym (beyond_judged limit bytes longer)) says
  | inr within ↦
      let whole : (cut_of (take limit bytes)).ended ≡ (cut_of bytes).ended = ap (λ (l : List ℕ). (cut_of l).ended) (take_all limit bytes within) in
      subst (λ (l : List (List ℕ)). LinesSay start 1 l (Err r)) (sym (within_judged limit bytes within))
      (refused_more (cut_of bytes).ended (last_of (cut_of bytes).rest) start 1 r (subst (λ (l : List (List ℕ)). LinesSay start 1 l (Err r)) whole says))
])

pub front_stop : (limit : ℕ) (bytes front : List ℕ) (stop : KeyStop) → front ≡ take limit bytes → IsSo (SeesLines front) (Err stop) → IsSo (KeysSay limit bytes) (Err stop)
front_stop limit bytes front NoMemory e s = tt
front_stop limit bytes front (Fault r) e s = refused limit bytes r (subst (λ (l : List ℕ). SeesLines l (Err r)) e s)

-- the byte after the limit
pub keys_long : (limit : ℕ) (bytes front : List ℕ) (seen : Seen) (line : ℕ) → front ≡ take limit bytes → HasSeen front seen → limit < length bytes → line ≡ next_line seen (get_or bytes limit 0)
    → KeysSay limit bytes (Err (record { line = line; fault = FileTooLong }))
keys_long limit bytes front seen line e s longer is =
    let told = subst (λ (l : List ℕ). HasSeen l seen) e s in
    let byte = get_or bytes limit 0 in
    let cut = cut_of (take limit bytes) in
    let same : line ≡ line_of_next (take limit bytes) byte =
    is ∙ ap₂ (λ (r : Bool) n. cond (r && eqb byte 0x0A) (n - 1) n) (sym told.returned) told.number
    ∙ ap (λ n. cond (cut.returned && eqb byte 0x0A) n (length cut.ended + 1)) (omega arith)
    in
    goes_on {x = seen.state} (subst (λ (l : List (List ℕ)). LinesSay start 1 l (Ok seen.state)) (sym (beyond_judged limit bytes longer)) told.says)
    (ap (λ n. let r : KeyRefusal = record { line = n; fault = FileTooLong } in Err r) same ∙ sym (cond-true _ _ _ (lt-ltb limit (length bytes) longer)))

-- a whole file within the limit
pub rest_stop_told : (limit : ℕ) (bytes : List ℕ) (stop : KeyStop) → length bytes ≤ limit → IsSo (SeesAll bytes) (Err stop) → IsSo (KeysSay limit bytes) (Err stop)
rest_stop_told limit bytes NoMemory within s = tt
rest_stop_told limit bytes (Fault r) within s = stops (subst (λ (l : List (List ℕ)). LinesSay start 1 l (Err r)) (sym (within_judged limit bytes within)) s)

pub keys_whole : (limit : ℕ) (bytes : List ℕ) (seen : Seen) (r : Result (List KeyShape) KeyStop) → length bytes ≤ limit → HasSeenAll bytes seen
    → IsSo (Is (ended seen.state.keys seen.state.current (seen.number - 1))) r → IsSo (KeysSay limit bytes) r
keys_whole limit bytes seen r within s told = by_answer r told
  where
    judges : LinesSay start 1 (judged limit bytes) (Ok seen.state)
    judges = subst (λ (l : List (List ℕ)). LinesSay start 1 l (Ok seen.state)) (sym (within_judged limit bytes within)) s.says

    ends : ended seen.state.keys seen.state.current (seen.number - 1) ≡ after_lines limit bytes seen.state
    ends = ap (ended seen.state.keys seen.state.current) (omega (arith, s.number)) ∙ sym (cond-false _ _ _ (le-ltb limit (length bytes) within))

    by_answer : (r : Result (List KeyShape) KeyStop) → IsSo (Is (ended seen.state.keys seen.state.current (seen.number - 1))) r → IsSo (KeysSay limit bytes) r
    by_answer (Ok keys) e = goes_on {x = seen.state} judges (e ∙ ends)
    by_answer (Err NoMemory) e = tt
    by_answer (Err (Fault refusal)) e = goes_on {x = seen.state} judges (e ∙ ends)
