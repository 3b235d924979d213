-- Each step keeps the rule of the lock.
use Rattle.std.proofs.Common.{◌≡◌, ◌≢◌, ℕ, zero, suc, ◌+◌, ◌-◌, ◌%◌, ◌^◌, ◌<◌, ◌≤◌, List, [], ◌∷◌, length, set, get_or, replicate, Option, Some, None, inl, inr, ⊎_elim, sym, refl, ap, ◌∙◌, subst, arith, le_refl, append-nil}
use mathlib.Core.Option.{some, none, some-injective, some-ne-none}
use mathlib.Core.Option as maybe
use mathlib.Core.Logic.{dite}
use native.Mathlib.Decide.{ℕ_discrete}
use lib.ListN.{get_elem?}
use lib.Seq.{set-get_or}
use Rattle.atomic_table.specs.Table.{State, Me, step, keeps, takes, gives, stepped, Allows, Splits, Joins, Final, Seen, opening, rest, put_back}
use Rattle.atomic_table.proofs.Lists.{at_set, set_here, set_else, set_again, at_snoc, at_longer}
use Rattle.turn_lock.specs.declared.view.View.{View}
use Rattle.turn_lock.specs.declared.view.Stage.{Stage}
use Rattle.turn_lock.specs.declared.view.Stage.TheVariants.{Idle, Waiting, Inside}
use Rattle.turn_lock.specs.declared.view.Known.{Known}
use Rattle.turn_lock.specs.Lists.{total, occurrences, places, below, StartsWith}
use Rattle.turn_lock.specs.Serving.{Shows, serving_word}
use Rattle.turn_lock.specs.Turns.{HasTicket, tickets, AtStage, IsRight, AreRight, Knows, out, claims, Slot, Ruled, Ends, at_stage, turned_to, counted_to, raised_to, first_of, second_of, joined_of, spent, fresh, drew, looked, counted, released, glanced}
use Rattle.turn_lock.proofs.Sums.{total_set, total_snoc, total_append, total_le, total_alone, others_none, times_append, below_more, begins_all, begins_longer, begins_length}
use Rattle.turn_lock.proofs.Knowing.{right_longer, all_right_longer, all_right_append}
use Rattle.turn_lock.proofs.Calling.{shows_drawn, shows_counted, shows_called, is_called, shows_first}

-- a view of a seat that is set is the new one, or that of another seat
module _ {V : Type 0} (P : ℕ → V → Type 0) where
  all_set : (vs : List V) (id : ℕ) (w : V) → P id w → ((j : ℕ) (u : V) → j ≢ id → get_elem? vs j ≡ some u → P j u) → (j : ℕ) (u : V) → get_elem? (set vs id w) j ≡ some u → P j u
  all_set vs id w here others j u e = ⊎_elim (λ (t : (j ≡ id) × (w ≡ u)). subst (λ (z : ℕ × V). P z.0 z.1) (λ i. (sym t.0 i, t.1 i)) here) (λ (t : (j ≢ id) × (get_elem? vs j ≡ some u)). others j u t.0 t.1) (at_set vs id j w u e)

has_inside : (st : Stage) (t : ℕ) → st ≡ Inside t → HasTicket t st
has_inside st t e = subst (HasTicket t) (sym e) refl

has_waiting : (st : Stage) (t : ℕ) → st ≡ Waiting t → HasTicket t st
has_waiting st t e = subst (HasTicket t) (sym e) refl

not_idle : (st : Stage) (t : ℕ) → st ≡ Idle → HasTicket t st → ⊥
not_idle st t e h = subst (HasTicket t) e h

module _ {T B I : Type 0} (base : T → B) (entries : T → List I) (opened : T) (seats : ℕ) where
  abbrev V : Type 0
  V = View B I

  abbrev St : Type 0
  St = State (Option T) V

  abbrev M : Type 0
  M = Me (Option T) V

  abbrev Rule : St → Type 0
  Rule = Ruled base entries opened seats

  -- the views after a step of one seat
  change : (s : St) (r : Rule s) (id : ℕ) (v w : V) → get_elem? s.views id ≡ some v → (drawn served : ℕ) (log : List I) (words : List ℕ) (homes : List (maybe.Option (Option T)))
      → Shows drawn served (length log) words → length log < 2 ^ 64 → StartsWith log r.log → w.parts ≡ v.parts → out w + served + r.drawn ≡ out v + r.served + drawn
      → ((t j : ℕ) (u : V) → j ≢ id → get_elem? s.views j ≡ some u → HasTicket t w.stage → HasTicket t u.stage → ⊥)
      → Knows (base opened) served drawn log w
      → ((j : ℕ) (u : V) → j ≢ id → get_elem? s.views j ≡ some u → Knows (base opened) served drawn log u)
      → Slot base entries opened served log homes (set s.views id w)
      → ((x : ℕ) → claims x w + below (length r.log) x ≡ claims x v + below (length log) x)
      → Rule record { words = words; homes = homes; views = set s.views id w }
  change s r id v w at drawn served log words homes words_are small more parts queue apart mine others slot claimed = record {
    drawn = drawn;
    served = served;
    log = log;
    words = words_are;
    few = r.few;
    small = small;
    grown = begins_longer log r.log (entries opened) more r.grown;
    parts = let now = total_set (λ (u : V). u.parts) s.views id v w at in let was = r.parts in omega arith;
    queue = let now = total_set out s.views id v w at in let was = r.queue in omega arith;
    apart = λ i j t a b e f h k. ⊎_elim
        (λ (p : (i ≡ id) × (w ≡ a)). ⊎_elim (λ (q : (j ≡ id) × (w ≡ b)). p.0 ∙ sym q.0)
        (λ (q : (j ≢ id) × (get_elem? s.views j ≡ some b)). absurd (apart t j b q.0 q.1 (subst (λ (z : V). HasTicket t z.stage) (sym p.1) h) k)) (at_set s.views id j w b f))
        (λ (p : (i ≢ id) × (get_elem? s.views i ≡ some a)). ⊎_elim (λ (q : (j ≡ id) × (w ≡ b)). absurd (apart t i a p.0 p.1 (subst (λ (z : V). HasTicket t z.stage) (sym q.1) k) h))
        (λ (q : (j ≢ id) × (get_elem? s.views j ≡ some b)). r.apart i j t a b p.1 q.1 h k) (at_set s.views id j w b f))
        (at_set s.views id i w a e);
    each = all_set (λ _ u. Knows (base opened) served drawn log u) s.views id w mine others;
    slot = slot;
    claimed = λ x. let now = total_set (claims x) s.views id v w at in let was = r.claimed x in let c = claimed x in omega arith;
  }

  at_below : (vs : List V) (id : ℕ) (v : V) → get_elem? vs id ≡ some v → id < length vs
  at_below [] id v e = absurd (some-ne-none v (sym e))
  at_below (x ∷ xs) zero v e = omega arith
  at_below (x ∷ xs) (suc id) v e = let more = at_below xs id v e in omega arith

  seated : (vs : List V) (id : ℕ) (v w : V) → get_elem? vs id ≡ some v → get_elem? (set vs id w) id ≡ some w
  seated vs id v w at = set_here vs id w (at_below vs id v at)

  one_view : (vs : List V) (i j : ℕ) (v u : V) → get_elem? vs i ≡ some v → get_elem? vs j ≡ some u → j ≡ i → u ≡ v
  one_view vs i j v u a b e = some-injective u v (sym b ∙ (ap (get_elem? vs) e ∙ a))

  -- the slot, where the seat has the turn after the step just if it had it before
  slot_stays : (served : ℕ) (log : List I) (homes : List (maybe.Option (Option T))) (vs : List V) (id : ℕ) (v w : V) → get_elem? vs id ≡ some v
      → (v.stage ≡ Inside served → w.stage ≡ Inside served) → ((t : ℕ) → w.stage ≡ Inside t → v.stage ≡ Inside t)
      → Slot base entries opened served log homes vs → Slot base entries opened served log homes (set vs id w)
  slot_stays served log homes vs id v w at still only = ⊎_elim
      (λ (h : (homes ≡ none ∷ []) × ((j : ℕ) × (u : V) × (get_elem? vs j ≡ some u) × (u.stage ≡ Inside served))). inl (
        h.0,
        dite (ℕ_discrete h.1.0 id)
            (λ (e : h.1.0 ≡ id). (id, w, seated vs id v w at, still (ap (λ (z : V). z.stage) (sym (one_view vs id h.1.0 v h.1.1 at h.1.2 e)) ∙ h.1.3)))
            (λ (n : h.1.0 ≢ id). (h.1.0, h.1.1, set_else vs id h.1.0 w n ∙ h.1.2, h.1.3)),
      ))
      (λ (h : (x : T) × (homes ≡ some (Some x) ∷ []) × (base x ≡ base opened) × (entries x ≡ log) × ((j t : ℕ) (u : V) → get_elem? vs j ≡ some u → u.stage ≢ Inside t)).
      inr (h.0, h.1, h.2, h.3, λ j t u e is. ⊎_elim (λ (p : (j ≡ id) × (w ≡ u)). h.4 id t v at (only t (ap (λ (z : V). z.stage) p.1 ∙ is))) (λ (p : (j ≢ id) × (get_elem? vs j ≡ some u)). h.4 j t u p.1 is) (at_set vs id j w u e)))

  known_more : (b : B) (served drawn served' drawn' : ℕ) (log log' : List I) (u : V) → StartsWith log' log → Knows b served drawn log u → AtStage served' drawn' log' u.own.seen u.stage → Knows b served' drawn' log' u
  known_more b served drawn served' drawn' log log' u more k at = record {
    right = λ l. right_longer b log log' u.own more (k.right l);
    joined = all_right_longer b log log' u.joined more k.joined;
    gone = k.gone;
    at = at;
  }

  at_drawn : (served drawn : ℕ) (log seen : List I) (st : Stage) → AtStage served drawn log seen st → AtStage served (drawn + 1) log seen st
  at_drawn served drawn log seen Idle k = tt
  at_drawn served drawn log seen (Waiting t) k = (k.0, (let a = k.1 in omega arith))
  at_drawn served drawn log seen (Inside t) k = (k.0, (let a = k.1 in omega arith), k.2)

  -- a seat that does not have the present ticket
  at_counted : (served drawn : ℕ) (log log' seen : List I) (st : Stage) → (HasTicket served st → ⊥) → AtStage served drawn log seen st → AtStage served drawn log' seen st
  at_counted served drawn log log' seen Idle n k = tt
  at_counted served drawn log log' seen (Waiting t) n k = k
  at_counted served drawn log log' seen (Inside t) n k = absurd (n k.0)

  at_released : (served drawn : ℕ) (log seen : List I) (st : Stage) → (HasTicket served st → ⊥) → AtStage served drawn log seen st → AtStage (served + 1) drawn log seen st
  at_released served drawn log seen Idle n k = tt
  at_released served drawn log seen (Waiting t) n k = let a = k.0 in let m : t ≢ served = n in (omega arith, k.1)
  at_released served drawn log seen (Inside t) n k = absurd (n k.0)

  ticket_below : (served drawn t : ℕ) (log seen : List I) (st : Stage) → AtStage served drawn log seen st → HasTicket t st → t < drawn
  ticket_below served drawn t log seen Idle k h = absurd h
  ticket_below served drawn t log seen (Waiting u) k h = let a = k.1 in omega arith
  ticket_below served drawn t log seen (Inside u) k h = let a = k.1 in omega arith

  one_ticket : (st : Stage) → tickets st ≤ 1
  one_ticket Idle = omega arith
  one_ticket (Waiting t) = le_refl 1
  one_ticket (Inside t) = le_refl 1

  out_within : (b : B) (served drawn : ℕ) (log : List I) (u : V) → Knows b served drawn log u → out u ≤ u.parts
  out_within b served drawn log u k = let most = one_ticket u.stage in dite (ℕ_discrete u.parts 0) (λ (e : u.parts ≡ 0). let none_out : out u ≡ 0 = ap tickets (k.gone e).0 in omega arith) (λ (n : u.parts ≢ 0). omega arith)

  few_out : (s : St) (r : Rule s) → r.drawn < r.served + 2 ^ 32
  few_out s r = let within : total out s.views ≤ total (λ (u : V). u.parts) s.views = total_le out (λ (u : V). u.parts) s.views (λ j u e. out_within (base opened) r.served r.drawn r.log u (r.each j u e)) in
      let all = r.parts in let queue = r.queue in let few = r.few in omega arith

  -- a word that is set to what it was
  unchanged : (s : St) (r : Rule s) (i : ℕ) → Shows r.drawn r.served (length r.log) (set s.words i (get_or s.words i 0))
  unchanged s r i = subst (Shows r.drawn r.served (length r.log)) (sym (set-get_or s.words i 0)) r.words

  pub draws : (slots id : ℕ) (me : M) → me.0.stage ≡ Idle → 0 < me.0.parts → Allows Rule slots id me 0 (λ n. (n + 1) % 2 ^ 64) (drew (step slots 0 1 0 none) me)
  draws slots id me idle some_part s r _ at _ = let w : V = at_stage me.0 (Waiting r.drawn) in let k = r.each id me.0 at in
      let none_out : out me.0 ≡ 0 = ap tickets idle in let served_all : r.served ≤ r.drawn = (let q = r.queue in omega arith) in (
        w,
        keeps,
        tt,
        change s r id me.0 w at (r.drawn + 1) r.served r.log (set s.words 0 ((get_or s.words 0 0 + 1) % 2 ^ 64)) s.homes
            (shows_drawn r.drawn r.served (length r.log) s.words r.words)
            r.small
            (begins_all r.log)
            refl
            (omega arith)
            (λ t j u n e h l. let small = ticket_below r.served r.drawn t r.log u.own.seen u.stage (r.each j u e).at l in let same : r.drawn ≡ t = h in absurd (omega arith))
            record { right = k.right; joined = k.joined; gone = λ e. absurd (omega arith); at = (served_all, omega arith) }
            (λ j u n e. let o = r.each j u e in known_more (base opened) r.served r.drawn r.served (r.drawn + 1) r.log r.log u (begins_all r.log) o (at_drawn r.served r.drawn r.log u.own.seen u.stage o.at))
            (slot_stays r.served r.log s.homes s.views id me.0 w at (λ e. absurd (not_idle me.0.stage r.served idle (has_inside me.0.stage r.served e))) (λ t e. absurd (cc)) r.slot)
            (λ x. refl),
        (r.drawn, r.words.ticket, refl, refl),
      )

  pub glances : (slots id : ℕ) (me : M) → 0 < me.0.parts → Allows Rule slots id me 8 (λ n. n) (glanced (step slots 8 0 0 none) me)
  glances slots id me some_part s r _ at _ = let k = r.each id me.0 at in let n : ℕ = get_or s.words 8 0 in let is : n ≡ length r.log = r.words.count_is in let known = k.right some_part in let w : V = raised_to me.0 n in (
    w,
    keeps,
    tt,
    change s r id me.0 w at r.drawn r.served r.log (set s.words 8 n) s.homes
        (unchanged s r 8)
        r.small
        (begins_all r.log)
        refl
        refl
        (λ t j u n e h l. n (r.apart j id t u me.0 e at l h))
        record { right = λ _. record { based = known.based; begun = known.begun; risen = subst (λ (z : ℕ). z ≤ length r.log) (sym is) (le_refl (length r.log)) }; joined = k.joined; gone = λ e. absurd (omega arith); at = k.at }
        (λ j u n e. r.each j u e)
        (slot_stays r.served r.log s.homes s.views id me.0 w at (λ e. e) (λ t e. e) r.slot)
        (λ x. refl),
    (refl, refl, (let a = known.risen in omega arith), (let a = begins_length r.log me.0.own.seen known.begun in omega arith)),
  )

  -- nothing changes
  unmoved : (s : St) → Rule s → (i id : ℕ) (v : V) (c : List (ℕ × Option T)) → get_elem? s.views id ≡ some v → Rule (stepped s i (get_or s.words i 0) id c v keeps)
  unmoved s r i id v c at = subst (λ (z : List ℕ × List V). Rule record { words = z.0; homes = s.homes; views = z.1 }) (λ k. (sym (set-get_or s.words i 0) k, sym (set_again s.views id v at) k)) r

  abbrev waited : Stage → ℕ
  waited (Waiting t) = t
  waited _ = 0

  -- the seat with the ticket that is served takes the value
  comes : (s : St) (r : Rule s) (slots id t i : ℕ) (me : M) → get_elem? s.views id ≡ some me.0 → me.0.stage ≡ Waiting t → 0 < me.0.parts → r.served ≡ t
      → (x : T) → s.homes ≡ some (Some x) ∷ [] → base x ≡ base opened → entries x ≡ r.log → ((j t : ℕ) (u : V) → get_elem? s.views j ≡ some u → u.stage ≢ Inside t)
      → Rule (stepped s i (get_or s.words i 0) id me.1 (turned_to me.0 t (entries x)) (takes 0 (Some x)))
  comes s r slots id t i me at wait some_part same x home based journal nobody = let w : V = turned_to me.0 t (entries x) in let k = r.each id me.0 at in let right = k.right some_part in
      let known : (r.served ≤ t) × (t < r.drawn) = subst (AtStage r.served r.drawn r.log me.0.own.seen) wait k.at in let one_out : out me.0 ≡ 1 = ap tickets wait in
      change s r id me.0 w at r.drawn r.served r.log (set s.words i (get_or s.words i 0)) (set s.homes 0 none)
      (unchanged s r i)
      r.small
      (begins_all r.log)
      refl
      (omega arith)
      (λ u j v n e h l. n (r.apart j id u v me.0 e at l (subst (HasTicket u) (sym wait) h)))
      record { right = λ _. record { based = right.based; begun = ([], sym journal ∙ sym (append-nil (entries x))); risen = right.risen }; joined = k.joined; gone = λ e. absurd (omega arith); at = (sym same, known.1, journal) }
      (λ j u n e. r.each j u e)
      (inl (ap (λ h. set h 0 none) home, (id, w, seated s.views id me.0 w at, ap Inside (sym same))))
      (λ x. refl)

  -- what a seat knew is right for the value that it finds
  finds : (s : St) (r : Rule s) (v : Known B I) (x : T) → IsRight (base opened) r.log v → base x ≡ base opened → entries x ≡ r.log → IsRight (base x) (entries x) v
  finds s r v x right based journal = subst (λ (z : B × List I). IsRight z.0 z.1 v) (λ i. (sym based i, sym journal i)) right

  pub looks : (slots id t i : ℕ) (me : M) → me.0.stage ≡ Waiting t → 0 < me.0.parts → i ≡ serving_word t → Allows Rule slots id me i (λ n. n) (looked base entries (step slots i 0 0 none) me)
  looks slots id t i me wait some_part here s r _ at _ = let k = r.each id me.0 at in let found : ℕ = get_or s.words i 0 in
      let known : (r.served ≤ t) × (t < r.drawn) = subst (AtStage r.served r.drawn r.log me.0.own.seen) wait k.at in let near = few_out s r in
      dite (ℕ_discrete found (t % 2 ^ 64))
      (λ (hit : found ≡ t % 2 ^ 64). let same : r.served ≡ t = is_called r.drawn r.served (length r.log) t s.words r.words known.0 (omega arith) (ap (λ (z : ℕ). get_or s.words z 0) (sym here) ∙ hit) in ⊎_elim
      (λ (h : (s.homes ≡ none ∷ []) × ((j : ℕ) × (u : V) × (get_elem? s.views j ≡ some u) × (u.stage ≡ Inside r.served))).
      let me_too : HasTicket r.served me.0.stage = subst (HasTicket r.served) (sym wait) (sym same) in
      let it_is : h.1.0 ≡ id = r.apart h.1.0 id r.served h.1.1 me.0 h.1.2 at (has_inside h.1.1.stage r.served h.1.3) me_too in
      let inside : me.0.stage ≡ Inside r.served = ap (λ (z : V). z.stage) (sym (one_view s.views id h.1.0 me.0 h.1.1 at h.1.2 it_is)) ∙ h.1.3 in absurd (cc))
      (λ (h : (x : T) × (s.homes ≡ some (Some x) ∷ []) × (base x ≡ base opened) × (entries x ≡ r.log) × ((j t : ℕ) (u : V) → get_elem? s.views j ≡ some u → u.stage ≢ Inside t)).
      let x : T = h.0 in (
        turned_to me.0 t (entries x),
        takes 0 (Some x),
        ap (λ hs. get_elem? hs 0) h.1,
        comes s r slots id t i me at wait some_part same x h.1 h.2 h.3 h.4,
        λ t' is'. let one : t ≡ t' = ap waited (sym wait ∙ is') in (
          λ _. (
            x,
            refl,
            ap (λ (z : ℕ). turned_to me.0 z (entries x)) one,
            finds s r me.0.own x (k.right some_part) h.2 h.3,
            (let len : length (entries x) ≡ length r.log = ap length h.3 in let a = r.small in omega arith),
          ),
          λ miss. absurd (miss (hit ∙ ap (λ (z : ℕ). z % 2 ^ 64) one)),
        ),
      ))
      r.slot)
      (λ (miss : found ≢ t % 2 ^ 64). (
        me.0,
        keeps,
        tt,
        unmoved s r i id me.0 me.1 at,
        λ t' is'. let one : t ≡ t' = ap waited (sym wait ∙ is') in (
          (λ hit. absurd (miss (hit ∙ ap (λ (z : ℕ). z % 2 ^ 64) (sym one)))),
          λ _. refl,
        ),
      ))

  abbrev held : T → List (ℕ × Option T) → T
  held d [] = d
  held d ((k, Some y) ∷ c) = y
  held d ((k, None) ∷ c) = d

  some_of : {x y : T} {a b : List (ℕ × Option T)} → (0, Some x) ∷ a ≡ (0, Some y) ∷ b → x ≡ y
  some_of {x} e = ap (held x) e

  some_is_value : {x y : T} → Some x ≡ Some y → x ≡ y
  some_is_value e = cc

  some_is : {x y : B} → Some x ≡ Some y → x ≡ y
  some_is e = cc

  -- the one slot, after the seat gave x back
  given : (s : St) (r : Rule s) (c : List (ℕ × Option T)) (x : T) → c ≡ (0, Some x) ∷ rest c → put_back s.homes c ≡ some (Some x) ∷ []
  given s r c x has = ap (put_back s.homes) has ∙ ⊎_elim
      (λ (h : (s.homes ≡ none ∷ []) × ((j : ℕ) × (u : V) × (get_elem? s.views j ≡ some u) × (u.stage ≡ Inside r.served))). ap (λ hs. set hs 0 (some (Some x))) h.0)
      (λ (h : (y : T) × (s.homes ≡ some (Some y) ∷ []) × (base y ≡ base opened) × (entries y ≡ r.log) × ((j t : ℕ) (u : V) → get_elem? s.views j ≡ some u → u.stage ≢ Inside t)). ap (λ hs. set hs 0 (some (Some x))) h.1)
      r.slot

  -- a seat that has put x into the slot that it holds
  pub holding : (m m' : M) (x : T) → m'.1 ≡ (0, Some x) ∷ rest m.1 → m'.1 ≡ (0, Some x) ∷ rest m'.1
  holding m m' x e = e ∙ ap (λ l. (0, Some x) ∷ l) (sym (ap rest e))

  pub counts : (slots id n : ℕ) (t : ℕ) (me : M) (x : T) → me.0.stage ≡ Inside t → 0 < me.0.parts → me.1 ≡ (0, Some x) ∷ rest me.1 → StartsWith (entries x) me.0.own.seen → n ≡ length (entries x) → n < 2 ^ 64
      → Allows Rule slots id me 8 (λ _. n) (λ _. counted entries (step slots 8 n 0 none) me n)
  counts slots id n t me x turn some_part has more long small s r _ at _ = let es : List I = entries x in let w : V = counted_to me.0 es in let k = r.each id me.0 at in
      let known : (t ≡ r.served) × (t < r.drawn) × (me.0.own.seen ≡ r.log) = subst (AtStage r.served r.drawn r.log me.0.own.seen) turn k.at in
      let mine : HasTicket r.served me.0.stage = subst (HasTicket r.served) (sym turn) known.0 in
      let grown : StartsWith es r.log = subst (StartsWith es) known.2 more in
      let len : length me.0.own.seen ≡ length r.log = ap length known.2 in let at_least = begins_length es me.0.own.seen more in (
        w,
        keeps,
        tt,
        change s r id me.0 w at r.drawn r.served es (set s.words 8 n) s.homes
            (subst (λ (z : ℕ). Shows r.drawn r.served z (set s.words 8 n)) long (shows_counted r.drawn r.served (length r.log) n s.words r.words))
            (omega arith)
            grown
            refl
            refl
            (λ u j v a e h l. a (r.apart j id u v me.0 e at l h))
            record {
              right = λ l. let right = k.right l in record { based = right.based; begun = begins_all es; risen = (let a = right.risen in omega arith) };
              joined = all_right_longer (base opened) r.log es me.0.joined grown k.joined;
              gone = λ e. absurd (omega arith);
              at = subst (AtStage r.served r.drawn es es) (sym turn) (known.0, known.1, refl);
            }
            (λ j u a e. let o = r.each j u e in known_more (base opened) r.served r.drawn r.served r.drawn r.log es u grown o
            (at_counted r.served r.drawn r.log es u.own.seen u.stage (λ h. a (r.apart j id r.served u me.0 e at h mine)) o.at))
            (⊎_elim (λ (h : (s.homes ≡ none ∷ []) × ((j : ℕ) × (u : V) × (get_elem? s.views j ≡ some u) × (u.stage ≡ Inside r.served))). inl (h.0, (id, w, seated s.views id me.0 w at, turn ∙ ap Inside known.0)))
            (λ (h : (y : T) × (s.homes ≡ some (Some y) ∷ []) × (base y ≡ base opened) × (entries y ≡ r.log) × ((j t : ℕ) (u : V) → get_elem? s.views j ≡ some u → u.stage ≢ Inside t)). absurd (h.4 id t me.0 at turn))
            r.slot)
            (λ z. let add = times_append z me.0.own.mine (places (length me.0.own.seen) (length es - length me.0.own.seen)) in let b = below_more (length me.0.own.seen) (length es - length me.0.own.seen) z in
            let same : below (length me.0.own.seen + (length es - length me.0.own.seen)) z ≡ below (length es) z = ap (λ (m : ℕ). below m z) (let e : length me.0.own.seen + (length es - length me.0.own.seen) ≡ length es = omega arith in e) in
            let same' : below (length me.0.own.seen) z ≡ below (length r.log) z = ap (λ (m : ℕ). below m z) len in omega arith),
        λ y has'. let one : x ≡ y = some_of (sym has ∙ has') in (ap (λ (z : T). counted_to me.0 (entries z)) one, refl),
      )

  pub releases : (slots id t n i : ℕ) (me : M) (x : T) → n ≡ (t + 1) % 2 ^ 64 → i ≡ serving_word (t + 1) → me.0.stage ≡ Inside t → 0 < me.0.parts → me.1 ≡ (0, Some x) ∷ rest me.1 → Some (base x) ≡ me.0.own.base → entries x ≡ me.0.own.seen
      → Allows Rule slots id me i (λ _. n) (λ _. released (step slots i n 0 none) me n)
  releases slots id t n i me x is_next there_is turn some_part has based journal s r _ at _ = let w : V = at_stage me.0 Idle in let k = r.each id me.0 at in
      let known : (t ≡ r.served) × (t < r.drawn) × (me.0.own.seen ≡ r.log) = subst (AtStage r.served r.drawn r.log me.0.own.seen) turn k.at in
      let mine : HasTicket r.served me.0.stage = subst (HasTicket r.served) (sym turn) known.0 in let one_out : out me.0 ≡ 1 = ap tickets turn in
      let others : (j : ℕ) (u : V) → j ≢ id → get_elem? s.views j ≡ some u → HasTicket r.served u.stage → ⊥ = λ j u a e h. a (r.apart j id r.served u me.0 e at h mine) in
      let nobody : (j : ℕ) (u : V) → get_elem? (set s.views id w) j ≡ some u → (t : ℕ) → u.stage ≢ Inside t = all_set (λ _ (u : V). (t : ℕ) → u.stage ≢ Inside t) s.views id w (λ t' e. absurd (cc))
      (λ j u a e t' is. let there : (t' ≡ r.served) × (t' < r.drawn) × (u.own.seen ≡ r.log) = subst (AtStage r.served r.drawn r.log u.own.seen) is ((r.each j u e).at) in others j u a e (subst (HasTicket r.served) (sym is) there.0)) in (
        w,
        gives,
        tt,
        change s r id me.0 w at r.drawn (r.served + 1) r.log (set s.words i n) (put_back s.homes me.1)
            (shows_called r.drawn r.served (length r.log) n i s.words (is_next ∙ ap (λ (z : ℕ). (z + 1) % 2 ^ 64) known.0) (there_is ∙ ap (λ (z : ℕ). serving_word (z + 1)) known.0) r.words)
            r.small
            (begins_all r.log)
            refl
            (omega arith)
            (λ u j v a e h l. absurd h)
            record { right = k.right; joined = k.joined; gone = λ e. absurd (omega arith); at = tt }
            (λ j u a e. let o = r.each j u e in known_more (base opened) r.served r.drawn (r.served + 1) r.drawn r.log r.log u (begins_all r.log) o (at_released r.served r.drawn r.log u.own.seen u.stage (others j u a e) o.at))
            (inr (x, given s r me.1 x has, some_is (based ∙ (k.right some_part).based), journal ∙ known.2, λ j t' u e. nobody j u e t'))
            (λ z. refl),
        (refl, refl),
      )

  pub splits : (id : ℕ) (v : V) → v.stage ≡ Idle → 0 < v.parts → Splits Rule id v (first_of v) (second_of v)
  splits id v idle some_part s r at = let w : V = first_of v in let u : V = second_of v in let k = r.each id v at in let P : ℕ → V → Type 0 = λ _ z. Knows (base opened) r.served r.drawn r.log z in
      let old : (j : ℕ) (z : V) → get_elem? (set s.views id w) j ≡ some z → (y : V) × (get_elem? s.views j ≡ some y) × (z.stage ≡ y.stage) =
      all_set (λ (j : ℕ) (z : V). (y : V) × (get_elem? s.views j ≡ some y) × (z.stage ≡ y.stage)) s.views id w (v, at, refl) (λ j z n e. (z, e, refl)) in record {
        drawn = r.drawn;
        served = r.served;
        log = r.log;
        words = r.words;
        few = r.few;
        small = r.small;
        grown = r.grown;
        parts = let now = total_set (λ (z : V). z.parts) s.views id v w at in let more = total_snoc (λ (z : V). z.parts) (set s.views id w) u in let was = r.parts in omega arith;
        queue = let now = total_set out s.views id v w at in let more = total_snoc out (set s.views id w) u in let was = r.queue in omega arith;
        apart = λ i j t a b e f h l. ⊎_elim
            (λ (p : get_elem? (set s.views id w) i ≡ some a). ⊎_elim
            (λ (q : get_elem? (set s.views id w) j ≡ some b). let x = old i a p in let y = old j b q in r.apart i j t x.0 y.0 x.1 y.1 (subst (HasTicket t) x.2 h) (subst (HasTicket t) y.2 l))
            (λ (q : u ≡ b). absurd (not_idle b.stage t (ap (λ (z : V). z.stage) (sym q)) l)) (at_snoc (set s.views id w) u b j f))
            (λ (p : u ≡ a). absurd (not_idle a.stage t (ap (λ (z : V). z.stage) (sym p)) h)) (at_snoc (set s.views id w) u a i e);
        each = λ j z e. ⊎_elim
            (all_set P s.views id w record { right = λ _. k.right some_part; joined = k.joined; gone = λ e. absurd (omega arith); at = k.at } (λ j y n. r.each j y) j z)
            (λ (p : u ≡ z). subst (λ (y : V). P j y) p record { right = λ _. let known = k.right some_part in record { based = known.based; begun = known.begun; risen = known.risen }; joined = tt; gone = λ _. (refl, refl, refl); at = tt })
            (at_snoc (set s.views id w) u z j e);
        slot = ⊎_elim
            (λ (h : (s.homes ≡ none ∷ []) × ((j : ℕ) × (y : V) × (get_elem? (set s.views id w) j ≡ some y) × (y.stage ≡ Inside r.served))). inl (h.0, (h.1.0, h.1.1, at_longer (set s.views id w) (u ∷ []) h.1.0 h.1.1 h.1.2, h.1.3)))
            (λ (h : (x : T) × (s.homes ≡ some (Some x) ∷ []) × (base x ≡ base opened) × (entries x ≡ r.log) × ((j t : ℕ) (y : V) → get_elem? (set s.views id w) j ≡ some y → y.stage ≢ Inside t)).
            inr (h.0, h.1, h.2, h.3, λ j t z e is. ⊎_elim (λ (p : get_elem? (set s.views id w) j ≡ some z). h.4 j t z p is) (λ (p : u ≡ z). not_idle z.stage t (ap (λ (y : V). y.stage) (sym p)) (has_inside z.stage t is)) (at_snoc (set s.views id w) u z j e)))
            (slot_stays r.served r.log s.homes s.views id v w at (λ e. e) (λ t e. e) r.slot);
        claimed = λ x. let now = total_set (claims x) s.views id v w at in let more = total_snoc (claims x) (set s.views id w) u in let was = r.claimed x in omega arith;
      }

  pub joins : (id : ℕ) (v : V) (other : ℕ) (w : V) → 0 < v.parts → 0 < w.parts → w.stage ≡ Idle → Joins Rule id v other w (joined_of v w) spent
  joins id v other w some_part its_part idle s r at apart there = let b : V = joined_of v w in let vs : List V = set s.views id b in let k = r.each id v at in let P : ℕ → V → Type 0 = λ _ z. Knows (base opened) r.served r.drawn r.log z in
      let there' : get_elem? s.views other ≡ some w = sym (set_else s.views id other b apart) ∙ there in let l = r.each other w there' in let none_out : out w ≡ 0 = ap tickets idle in
      let old : (j : ℕ) (z : V) → get_elem? (set vs other spent) j ≡ some z → (t : ℕ) → HasTicket t z.stage → (y : V) × (get_elem? s.views j ≡ some y) × HasTicket t y.stage =
      all_set (λ (j : ℕ) (z : V). (t : ℕ) → HasTicket t z.stage → (y : V) × (get_elem? s.views j ≡ some y) × HasTicket t y.stage) vs other spent (λ t h. absurd h)
      (λ j z n. all_set (λ (j : ℕ) (z : V). (t : ℕ) → HasTicket t z.stage → (y : V) × (get_elem? s.views j ≡ some y) × HasTicket t y.stage) s.views id b (λ t h. (v, at, h)) (λ j z n e t h. (z, e, h)) j z) in record {
        drawn = r.drawn;
        served = r.served;
        log = r.log;
        words = r.words;
        few = r.few;
        small = r.small;
        grown = r.grown;
        parts = let now = total_set (λ (z : V). z.parts) s.views id v b at in let more = total_set (λ (z : V). z.parts) vs other w spent there in let was = r.parts in omega arith;
        queue = let now = total_set out s.views id v b at in let more = total_set out vs other w spent there in let was = r.queue in omega arith;
        apart = λ i j t x y e f h m. let p = old i x e t h in let q = old j y f t m in r.apart i j t p.0 q.0 p.1 q.1 p.2 q.2;
        each = all_set P vs other spent record { right = λ e. absurd (omega arith); joined = tt; gone = λ _. (refl, refl, refl); at = tt }
            (λ j z n. all_set P s.views id b record { right = λ _. k.right some_part; joined = (l.right its_part, all_right_append (base opened) r.log v.joined w.joined k.joined l.joined); gone = λ e. absurd (omega arith); at = k.at } (λ j y n. r.each j y) j z);
        slot = slot_stays r.served r.log s.homes vs other w spent there (λ e. absurd (not_idle w.stage r.served idle (has_inside w.stage r.served e))) (λ t e. absurd (cc)) (slot_stays r.served r.log s.homes s.views id v b at (λ e. e) (λ t e. e) r.slot);
        claimed = λ x. let now = total_set (claims x) s.views id v b at in let more = total_set (claims x) vs other w spent there in let was = r.claimed x in
            let one = total_append (λ (k : Known B I). occurrences x k.mine) v.joined w.joined in omega arith;
      }

  one_of : (v : V) (j : ℕ) (u : V) → get_elem? (v ∷ []) j ≡ some u → v ≡ u
  one_of v zero u e = some-injective v u e
  one_of v (suc j) u e = absurd (some-ne-none u (sym e))

  pub opens : (n : ℕ) → seats < 2 ^ 32 → n ≡ length (entries opened) → n < 2 ^ 64 → Rule (opening (set (replicate 528 0) 8 n) (Some opened ∷ []) (fresh seats (base opened) (entries opened)))
  opens n few is small = let v : V = fresh seats (base opened) (entries opened) in let alone : (j : ℕ) (u : V) → get_elem? (v ∷ []) j ≡ some u → v ≡ u = one_of v in record {
    drawn = 0;
    served = 0;
    log = entries opened;
    words = subst (λ (z : ℕ). Shows 0 0 z (set (replicate 528 0) 8 n)) is (shows_first n);
    few = few;
    small = omega arith;
    grown = begins_all (entries opened);
    parts = omega arith;
    queue = refl;
    apart = λ i j t a b e f h k. absurd (not_idle a.stage t (ap (λ (z : V). z.stage) (sym (alone i a e))) h);
    each = λ j u e. subst (λ (z : V). Knows (base opened) 0 0 (entries opened) z) (alone j u e) record { right = λ _. record { based = refl; begun = begins_all (entries opened); risen = le_refl (length (entries opened)) }; joined = tt; gone = λ _. (refl, refl, refl); at = tt };
    slot = inr (opened, refl, refl, refl, λ j t u e is. not_idle u.stage t (ap (λ (z : V). z.stage) (sym (alone j u e))) (has_inside u.stage t is));
    claimed = λ x. omega arith;
  }

  -- the seat that has every part, at the end
  pub closes_with : (v : V) (left : Option T) (x : T) → left ≡ Some x → ((y : T) × (left ≡ Some y) × Ends base entries opened v y) → Ends base entries opened v x
  closes_with v left x is t = subst (Ends base entries opened v) (some_is_value (sym t.1 ∙ is)) t.2

  pub closes : (id : ℕ) (v : V) (ws : List ℕ) (xs : List (Option T)) (left : Option T) → 0 < seats → v.parts ≡ seats → v.stage ≡ Idle → Final (Seen Rule id v) ws xs → get_elem? xs 0 ≡ some left
      → (x : T) × (left ≡ Some x) × Ends base entries opened v x
  closes id v ws xs left some_seat all idle final there = let s : St = final.0 in let r : Rule s = final.1.0 in let at : get_elem? s.views id ≡ some v = final.1.1 in let k = r.each id v at in ⊎_elim
      (λ (h : (s.homes ≡ none ∷ []) × ((j : ℕ) × (u : V) × (get_elem? s.views j ≡ some u) × (u.stage ≡ Inside r.served))). dite (ℕ_discrete h.1.0 id)
      (λ (e : h.1.0 ≡ id). absurd (not_idle h.1.1.stage r.served (ap (λ (z : V). z.stage) (one_view s.views id h.1.0 v h.1.1 at h.1.2 e) ∙ idle) (has_inside h.1.1.stage r.served h.1.3)))
      (λ (n : h.1.0 ≢ id). let no_part : h.1.1.parts ≡ 0 = others_none (λ (z : V). z.parts) s.views id h.1.0 v h.1.1 at h.1.2 n (r.parts ∙ sym all) in
      absurd (not_idle h.1.1.stage r.served ((r.each h.1.0 h.1.1 h.1.2).gone no_part).0 (has_inside h.1.1.stage r.served h.1.3))))
      (λ (h : (x : T) × (s.homes ≡ some (Some x) ∷ []) × (base x ≡ base opened) × (entries x ≡ r.log) × ((j t : ℕ) (u : V) → get_elem? s.views j ≡ some u → u.stage ≢ Inside t)). (
        h.0,
        some-injective left (Some h.0) (sym there ∙ final.4 0 (Some h.0) (ap (λ hs. get_elem? hs 0) h.1)),
        record {
          based = h.2;
          grown = subst (λ l. StartsWith l (entries opened)) (sym h.3) r.grown;
          right = finds s r v.own h.0 (k.right (omega arith)) h.2 h.3;
          joined = subst (λ (z : B × List I). AreRight z.0 z.1 v.joined) (λ i. (sym h.2 i, sym h.3 i)) k.joined;
          claimed =
              λ y. let mine : total (claims y) s.views ≡ claims y v = total_alone (claims y) (λ (z : V). z.parts) s.views id v at (r.parts ∙ sym all) (λ j u e none. let g = (r.each j u e).gone none in ap (λ (z : List ℕ × List (Known B I)). occurrences y z.0 + total (λ k. occurrences y k.mine) z.1) (λ i. (g.1 i, g.2 i))) in
              let was = r.claimed y in let same : below (length (entries h.0)) y ≡ below (length r.log) y = ap (λ l. below (length l) y) h.3 in omega arith;
        },
      ))
      r.slot
