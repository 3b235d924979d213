-- What has been seen of a file, as its lines are judged.
use Rattle.std.proofs.Common.{◌≡◌, ℕ, ◌+◌, ◌-◌, ◌<◌, ◌≤◌, Bool, true, false, ◌&&◌, eqb, List, [], ◌∷◌, ◌++◌, length, get_or, take, drop, slice_range, Ok, Err, refl, sym, ap, ◌∙◌, subst, arith, length-append}
use Rattle.std.proofs.lemmas.List.{take-append-drop, take_more, take_all, drop_all, length-drop}
use Rattle.nt_lex.specs.Scans.{IsRunAt}
use Rattle.nt_reader.specs.Lines.{Cut, cut_of, is_line_byte}
use Rattle.nt_reader.proofs.CallerLemmas.{cut_append, some_plain, whole_line, swallowed, ended_grows, take_part, length-range, range_passes, take_line}
use Rattle.key_lang.specs.declared.fault.KeyRefusal.{KeyRefusal}
use Rattle.key_lang.specs.declared.file.Seen.{Seen}
use Rattle.key_lang.specs.OpenKey.{KeyState}
use Rattle.key_lang.specs.Statements.{KeyLineSays}
use Rattle.key_lang.specs.KeyText.{LinesSay, none, start}
use Rattle.key_lang.specs.Fair.{IsFairState}
use Rattle.key_lang.specs.Seen.{HasSeen}
use Rattle.key_lang.proofs.FairSteps.{line_keeps}
use Rattle.key_lang.proofs.LinesLemmas.{lines_push, lines_stop, refused_more}

-- the lines before this place were judged good, and a line begins there, but for a line feed that belongs to the one before
pub record IsAt (front : List ℕ) (from number : ℕ) (returned : Bool) (state : KeyState) : Type 0 where
  pub inside : from ≤ length front
  pub rest : (cut_of (take from front)).rest ≡ []
  pub returned_is : (cut_of (take from front)).returned ≡ returned
  pub says : LinesSay start 1 (cut_of (take from front)).ended (Ok state)
  pub number_is : number ≡ length (cut_of (take from front)).ended + 1
  pub small : number ≤ from + 1
  pub fair : IsFairState state

pub at_start : (front : List ℕ) → IsAt front 0 1 false start
unfolding cut_of
at_start front = record {
  inside = omega arith;
  rest = refl;
  returned_is = refl;
  says = none;
  number_is = refl;
  small = omega arith;
  fair = tt;
}

module _ (front : List ℕ) (from number : ℕ) (returned : Bool) (state : KeyState) (a : IsAt front from number returned state) where
  -- from the cut at one place to the state there
  after : (to more : ℕ) (r : Bool) (next : KeyState) (cut : Cut) → cut_of (take to front) ≡ cut → to ≤ length front → cut.rest ≡ [] → cut.returned ≡ r
      → LinesSay start 1 cut.ended (Ok next) → more ≡ length cut.ended + 1 → more ≤ to + 1 → IsFairState next → IsAt front to more r next
  after to more r next cut is inside rest ret says number small fair = record {
    inside = inside;
    rest = ap (λ (c : Cut). c.rest) is ∙ rest;
    returned_is = ap (λ (c : Cut). c.returned) is ∙ ret;
    says = subst (λ (c : Cut). LinesSay start 1 c.ended (Ok next)) (sym is) says;
    number_is = number ∙ ap (λ (c : Cut). length c.ended + 1) (sym is);
    small = small;
    fair = fair;
  }

  -- the line feed of a CR LF
  pub at_feed : returned ≡ true → from < length front → get_or front from 0 ≡ 0x0A → IsAt front (from + 1) number false state
  at_feed r inside b =
      let seen = take from front in
      let cut : cut_of (take (from + 1) front) ≡ record { ended = (cut_of seen).ended; rest = (cut_of seen).rest; returned = false } =
      ap cut_of (take_more front from 0 inside ∙ ap (λ v. seen ++ v ∷ []) b) ∙ cut_append seen (0x0A ∷ []) ∙ swallowed (cut_of seen) (a.returned_is ∙ r)
      in
      after (from + 1) number false state _ cut (omega arith) a.rest refl a.says a.number_is (omega (arith, a.small)) a.fair

  module _ (end : ℕ) (run : IsRunAt is_line_byte front from end) (inside : end < length front)
      (own : length (slice_range front from end) ≡ 0 → (eqb (get_or front end 0) 0x0A && returned) ≡ false) where
    seg : List ℕ
    seg = slice_range front from end

    cut_here : cut_of (take (end + 1) front)
        ≡ record { ended = (cut_of (take from front)).ended ++ slice_range front from end ∷ []; rest = []; returned = eqb (get_or front end 0) 0x0D }
    cut_here =
        let seen = take from front in
        let b = get_or front end 0 in
        let line = slice_range front from end in
        ap cut_of (take_line front from end run.ordered inside) ∙ cut_append seen (line ++ b ∷ [])
        ∙ whole_line (cut_of seen) line b (range_passes is_line_byte front from end run.in_range run.pass) (run.stops inside) (λ z. ap (λ r. eqb b 0x0A && r) a.returned_is ∙ own z)
        ∙ ap (λ (r : List ℕ). let c : Cut = record { ended = (cut_of seen).ended ++ (r ++ line) ∷ []; rest = []; returned = eqb b 0x0D } in c) a.rest

    -- a good line
    pub at_line : (next : KeyState) → KeyLineSays state (slice_range front from end) (Ok next) → IsAt front (end + 1) (number + 1) (eqb (get_or front end 0) 0x0D) next
    at_line next says =
        let ended = (cut_of (take from front)).ended in
        after (end + 1) (number + 1) (eqb (get_or front end 0) 0x0D) next _ cut_here (omega arith) refl refl
        (lines_push ended (slice_range front from end) start state next 1 number (omega (arith, a.number_is)) a.says says)
        (omega (arith, a.number_is, length-append ended (slice_range front from end ∷ []))) (omega (arith, a.small, run.ordered)) (line_keeps state a.fair (slice_range front from end) (Ok next) says)

    -- a faulty one
    pub at_fault : (refusal : KeyRefusal) → refusal.line ≡ number → KeyLineSays state (slice_range front from end) (Err refusal.fault) → LinesSay start 1 (cut_of front).ended (Err refusal)
    at_fault refusal line says =
        let ended = (cut_of (take from front)).ended in
        let grown = ended_grows (cut_of (take (end + 1) front)) (drop (end + 1) front) in
        let whole : (cut_of front).ended ≡ (ended ++ slice_range front from end ∷ []) ++ grown.0 =
        ap (λ (l : List ℕ). (cut_of l).ended) (sym (take-append-drop (end + 1) front)) ∙ ap (λ (c : Cut). c.ended) (cut_append (take (end + 1) front) (drop (end + 1) front)) ∙ grown.1
        ∙ ap (λ (c : Cut). c.ended ++ grown.0) cut_here
        in
        subst (λ (l : List (List ℕ)). LinesSay start 1 l (Err refusal)) (sym whole)
        (refused_more (ended ++ slice_range front from end ∷ []) grown.0 start 1 refusal
        (lines_stop ended [] (slice_range front from end) start state 1 refusal (omega (arith, line, a.number_is)) a.says says))

  -- from the cut of the whole to what was seen of it
  ended : (seen : Seen) (cut : Cut) → cut_of front ≡ cut → seen.from ≤ length front → cut.rest ≡ drop seen.from front → cut.returned ≡ seen.after_return
      → LinesSay start 1 cut.ended (Ok seen.state) → seen.number ≡ length cut.ended + 1 → seen.number ≤ seen.from + 1 → IsFairState seen.state → HasSeen front seen
  ended seen cut is within rest ret says number small fair = record {
    within = within;
    rest = ap (λ (c : Cut). c.rest) is ∙ rest;
    returned = ap (λ (c : Cut). c.returned) is ∙ ret;
    says = subst (λ (c : Cut). LinesSay start 1 c.ended (Ok seen.state)) (sym is) says;
    number = number ∙ ap (λ (c : Cut). length c.ended + 1) (sym is);
    small = small;
    fair = fair;
  }

  -- no line is left
  pub at_end : (seen : Seen) → seen ≡ record { state = state; number = number; from = from; after_return = returned } → length front ≤ from → HasSeen front seen
  at_end seen e past = subst (HasSeen front) (sym e)
      (ended (record { state = state; number = number; from = from; after_return = returned }) (cut_of (take from front)) (ap cut_of (sym (take_all from front past))) a.inside
      (a.rest ∙ sym (drop_all from front past)) a.returned_is a.says a.number_is a.small a.fair)

  -- a line is left that does not end
  pub at_rest : (seen : Seen) → seen ≡ record { state = state; number = number; from = from; after_return = false } → from < length front → IsRunAt is_line_byte front from (length front)
      → HasSeen front seen
  at_rest seen e some run =
      let before = take from front in
      let line = slice_range front from (length front) in
      let line_is : line ≡ drop from front = take_all (length front - from) (drop from front) (omega (arith, length-drop from front)) in
      let split : front ≡ before ++ line = sym (take_all (length front) front (omega arith)) ∙ take_part front from (length front) run.ordered in
      let cut : cut_of front ≡ record { ended = (cut_of before).ended; rest = (cut_of before).rest ++ line; returned = false } =
      ap cut_of split ∙ cut_append before line ∙ some_plain (cut_of before) line (range_passes is_line_byte front from (length front) run.in_range run.pass)
      (omega (arith, some, length-range front from (length front) run.in_range))
      in
      subst (HasSeen front) (sym e)
      (ended (record { state = state; number = number; from = from; after_return = false }) _ cut a.inside (ap (λ (r : List ℕ). r ++ line) a.rest ∙ line_is) refl a.says a.number_is a.small a.fair)
