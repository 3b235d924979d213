-- The rule of the turn lock's table, and what each kind of step tells.
-- The slot has the value, or else the seat whose turn it is has it.
use Rattle.std.specs.Prelude.{◌≡◌, ◌≢◌, ℕ, ◌+◌, ◌-◌, ◌%◌, ◌^◌, ◌<◌, ◌≤◌, ◌⊎◌, List, [], ◌∷◌, ◌++◌, length, Option, Some, None}
use mathlib.Core.Option.{some, none}
use mathlib.Core.Option as maybe
use lib.ListN.{get_elem?}
use Rattle.atomic_table.specs.Table.{State, Me, Step, rest}
use Rattle.turn_lock.specs.declared.view.Known.{Known}
use Rattle.turn_lock.specs.declared.view.View.{View}
use Rattle.turn_lock.specs.declared.view.Stage.{Stage}
use Rattle.turn_lock.specs.declared.view.Stage.TheVariants.{Idle, Waiting, Inside}
use Rattle.turn_lock.specs.Lists.{total, occurrences, places, below, StartsWith}
use Rattle.turn_lock.specs.Serving.{Shows}

-- the ticket with which a seat waits, or has the turn
abbrev pub HasTicket : ℕ → Stage → Type 0
HasTicket t Idle = ⊥
HasTicket t (Waiting u) = u ≡ t
HasTicket t (Inside u) = u ≡ t

-- how many tickets a seat at this stage has
abbrev pub tickets : Stage → ℕ
tickets Idle = 0
tickets (Waiting t) = 1
tickets (Inside t) = 1

module _ {I : Type 0} where
  -- a ticket that waits was drawn and is not served yet, and who has the turn has seen all entries
  abbrev pub AtStage : ℕ → ℕ → List I → List I → Stage → Type 0
  AtStage served drawn log seen Idle = Unit {0}
  AtStage served drawn log seen (Waiting t) = (served ≤ t) × (t < drawn)
  AtStage served drawn log seen (Inside t) = (t ≡ served) × (t < drawn) × (seen ≡ log)

module _ {B I : Type 0} where
  -- what is known is right for a value with this base and these entries
  pub record IsRight (b : B) (log : List I) (k : Known B I) : Type 0 where
    pub based : k.base ≡ Some b
    pub begun : StartsWith log k.seen
    pub risen : k.floor ≤ length log

  -- the same of each of several seats
  abbrev pub AreRight : B → List I → List (Known B I) → Type 0
  AreRight b log [] = Unit {0}
  AreRight b log (k ∷ ks) = IsRight b log k × AreRight b log ks

  -- how many tickets a seat has
  abbrev pub out : View B I → ℕ
  out v = tickets v.stage

  -- how often x is among the seat's own places and those of the seats joined into it
  abbrev pub claims : ℕ → View B I → ℕ
  claims x v = occurrences x v.own.mine + total (λ k. occurrences x k.mine) v.joined

  -- what a seat knows is right, and so is what those joined into it knew; a seat without a part has and knows nothing
  pub record Knows (b : B) (served drawn : ℕ) (log : List I) (v : View B I) : Type 0 where
    pub right : 0 < v.parts → IsRight b log v.own
    pub joined : AreRight b log v.joined
    pub gone : v.parts ≡ 0 → (v.stage ≡ Idle) × (v.own.mine ≡ []) × (v.joined ≡ [])
    pub at : AtStage served drawn log v.own.seen v.stage

module _ {T B I : Type 0} (base : T → B) (entries : T → List I) (opened : T) where
  -- the seat whose turn it is has the value, or the value is at home and no seat has the turn
  abbrev pub Slot : ℕ → List I → List (maybe.Option (Option T)) → List (View B I) → Type 0
  Slot served log homes views =
      ((homes ≡ none ∷ []) × ((j : ℕ) × (v : View B I) × (get_elem? views j ≡ some v) × (v.stage ≡ Inside served)))
      ⊎ ((x : T) × (homes ≡ some (Some x) ∷ []) × (base x ≡ base opened) × (entries x ≡ log) × ((j t : ℕ) (v : View B I) → get_elem? views j ≡ some v → v.stage ≢ Inside t))

module _ {T B I : Type 0} (base : T → B) (entries : T → List I) (opened : T) (seats : ℕ) where
  -- the rule: the words show how many tickets were drawn, which is served and how many entries there are; each ticket
  -- from there on is one seat's; each seat knows what is right; and the slot has the value, or the seat whose turn it is.
  -- `claimed`: each place from the opening on and below the number of entries stands in the places of exactly one seat, once, and no other place stands in any
  pub record Ruled (s : State (Option T) (View B I)) : Type 0 where
    pub drawn : ℕ
    pub served : ℕ
    pub log : List I
    pub words : Shows drawn served (length log) s.words
    pub few : seats < 2 ^ 32
    pub small : length log < 2 ^ 64
    pub grown : StartsWith log (entries opened)
    pub parts : total (λ v. v.parts) s.views ≡ seats
    pub queue : total out s.views + served ≡ drawn
    pub apart : (i j t : ℕ) (v w : View B I) → get_elem? s.views i ≡ some v → get_elem? s.views j ≡ some w → HasTicket t v.stage → HasTicket t w.stage → i ≡ j
    pub each : (j : ℕ) (v : View B I) → get_elem? s.views j ≡ some v → Knows (base opened) served drawn log v
    pub slot : Slot base entries opened served log s.homes s.views
    pub claimed : (x : ℕ) → total (claims x) s.views + below (length (entries opened)) x ≡ below (length log) x

-- what the seat with the view v, which has every part, knows of the value at the end
pub record Ends {T B I : Type 0} (base : T → B) (entries : T → List I) (opened : T) (v : View B I) (x : T) : Type 0 where
  pub based : base x ≡ base opened
  pub grown : StartsWith (entries x) (entries opened)
  pub right : IsRight (base x) (entries x) v.own
  pub joined : AreRight (base x) (entries x) v.joined
  pub claimed : (y : ℕ) → claims y v + below (length (entries opened)) y ≡ below (length (entries x)) y

module _ {B I : Type 0} where
  -- what a seat knows that has done nothing
  abbrev pub begins : B → List I → Known B I
  begins b log = record { base = Some b; seen = log; mine = []; floor = length log }

  -- what is known where a seat has no part
  abbrev pub knows_nothing : Known B I
  knows_nothing = record { base = None; seen = []; mine = []; floor = 0 }

  -- a seat with these parts that has done nothing
  abbrev pub fresh : ℕ → B → List I → View B I
  fresh parts b log = record { parts = parts; stage = Idle; own = begins b log; joined = [] }

  -- what is left of a seat that was joined into another
  abbrev pub spent : View B I
  spent = record { parts = 0; stage = Idle; own = knows_nothing; joined = [] }

  -- a seat is split: it keeps one part, and the new seat has the others and none of its places
  abbrev pub first_of : View B I → View B I
  first_of v = record v { parts = 1 }

  abbrev pub second_of : View B I → View B I
  second_of v = record { parts = v.parts - 1; stage = Idle; own = record v.own { mine = [] }; joined = [] }

  -- the first seat has the parts of both, and keeps what each knew
  abbrev pub joined_of : View B I → View B I → View B I
  joined_of v w = record v { parts = v.parts + w.parts; joined = w.own ∷ (v.joined ++ w.joined) }

  -- the same seat at another stage
  abbrev pub at_stage : View B I → Stage → View B I
  at_stage v st = record v { stage = st }

  -- the turn comes, and the entries are es
  abbrev pub turned_to : View B I → ℕ → List I → View B I
  turned_to v t es = record v { stage = Inside t; own = record v.own { seen = es } }

  -- the entries are es, and those that were not seen are the seat's own
  abbrev pub counted_to : View B I → List I → View B I
  counted_to v es = record v { own = record v.own { seen = es; mine = v.own.mine ++ places (length v.own.seen) (length es - length v.own.seen) } }

  -- the seat has seen that there are n entries
  abbrev pub raised_to : View B I → ℕ → View B I
  raised_to v n = record v { own = record v.own { floor = n } }

-- a seat at the table: its view, and what it has of the slots
abbrev SeatState : Type 0 → Type 0 → Type 0 → Type 0
SeatState T B I = Me (Option T) (View B I)

module _ {T B I : Type 0} where
  -- a ticket was drawn: r is its number, as a word holds it
  abbrev pub drew : Step (Option T) → SeatState T B I → ℕ → SeatState T B I → Type 0
  drew st m r m' = (t : ℕ) × (r ≡ t % 2 ^ 64) × (m'.0 ≡ at_stage m.0 (Waiting t)) × (m'.1 ≡ m.1)

  -- the turn of ticket t has come, with the value in hand, for which all that the seat knew is right
  abbrev pub Came : (T → B) → (T → List I) → ℕ → SeatState T B I → SeatState T B I → Type 0
  Came base entries t m m' = (x : T) × (m'.1 ≡ (0, Some x) ∷ m.1) × (m'.0 ≡ turned_to m.0 t (entries x)) × IsRight (base x) (entries x) m.0.own × (length (entries x) < 2 ^ 64)

  -- the word of the ticket that is served was loaded: the turn has come, or nothing has changed
  abbrev pub looked : (T → B) → (T → List I) → Step (Option T) → SeatState T B I → ℕ → SeatState T B I → Type 0
  looked base entries st m r m' = (t : ℕ) → m.0.stage ≡ Waiting t → (r ≡ t % 2 ^ 64 → Came base entries t m m') × (r ≢ t % 2 ^ 64 → m' ≡ m)

  -- the number of entries was stored, the value being in hand
  abbrev pub counted : (T → List I) → Step (Option T) → SeatState T B I → ℕ → SeatState T B I → Type 0
  counted entries st m r m' = (x : T) → m.1 ≡ (0, Some x) ∷ rest m.1 → (m'.0 ≡ counted_to m.0 (entries x)) × (m'.1 ≡ m.1)

  -- the value is at home, and the seat has no ticket
  abbrev pub released : Step (Option T) → SeatState T B I → ℕ → SeatState T B I → Type 0
  released st m r m' = (m'.0 ≡ at_stage m.0 Idle) × (m'.1 ≡ rest m.1)

  -- the number of entries was loaded: it is no less than what the seat knew
  abbrev pub glanced : Step (Option T) → SeatState T B I → ℕ → SeatState T B I → Type 0
  glanced st m r m' = (m'.0 ≡ raised_to m.0 r) × (m'.1 ≡ m.1) × (m.0.own.floor ≤ r) × (length m.0.own.seen ≤ r)
