-- What clauses say of a lock and of its passes.
use Rattle.std.specs.List.{All}
use Rattle.std.specs.Prelude.{◌≡◌, ℕ, ◌+◌, ◌%◌, ◌<◌, ◌≤◌, ◌^◌, ◌⊎◌, slice_get, List, [], ◌∷◌, length, Option, Some, None}
use Rattle.turn_lock.specs.declared.handles.TurnLock.{TurnLock}
use Rattle.turn_lock.specs.declared.handles.Pass.{Pass}
use Rattle.turn_lock.specs.declared.view.Known.{Known}
use Rattle.turn_lock.specs.declared.view.View.{View}
use Rattle.turn_lock.specs.declared.view.Stage.TheVariants.{Idle, Inside}
use Rattle.turn_lock.specs.Lists.{total, occurrences, Placed, StartsWith}
use Rattle.turn_lock.specs.Turns.{claims, IsRight, AreRight}

module _ {T B I : Type 0} where
  -- all that a pass knows of the value: its base, the entries seen, the places of its own entries, and the floor
  abbrev pub known : Pass T B I → Known B I
  known p = p.seat.me.0.own

  -- the base of the value; every pass of a lock has one
  abbrev pub base_of : Pass T B I → Option B
  base_of p = (known p).base

  -- the entries as the pass found or left them last
  abbrev pub seen : Pass T B I → List I
  seen p = (known p).seen

  -- the places of the pass's own entries
  abbrev pub mine : Pass T B I → List ℕ
  mine p = (known p).mine

  -- a number of entries that the value is sure to have, as far as glances told
  abbrev pub floor : Pass T B I → ℕ
  floor p = (known p).floor

  abbrev pub number : Pass T B I → ℕ
  number p = p.number

  -- it is a pass of this lock. Its own places ascend, and are below the number of entries seen
  pub record IsPassOf (lock : TurnLock T B I) (p : Pass T B I) : Type 0 where
    pub table : p.seat.table_id ≡ lock.table.shared.table_id
    pub part : p.seat.me.0.parts ≡ 1
    pub alone : p.seat.me.0.joined ≡ []
    pub placed : Placed 0 (mine p) (length (seen p))

  -- the number and the base are as before
  abbrev pub IsSamePass : Pass T B I → Pass T B I → Type 0
  IsSamePass p q = (number q ≡ number p) × (base_of q ≡ base_of p)

  -- it has no turn
  pub record IsOut (p : Pass T B I) : Type 0 where
    pub idle : p.seat.me.0.stage ≡ Idle
    pub holds : p.seat.me.1 ≡ []

  -- it has the turn
  pub record IsIn (p : Pass T B I) : Type 0 where
    pub turn : (t : ℕ) × (p.seat.me.0.stage ≡ Inside t) × (p.ticket ≡ t % 2 ^ 64)
    pub holds : p.seat.me.1 ≡ (0, None) ∷ []

  -- these are passes of the lock, and none has a turn
  abbrev pub AllOut : TurnLock T B I → List (Pass T B I) → Type 0
  AllOut lock ps = All (λ p. IsPassOf lock p × IsOut p) ps

  abbrev pub seats_of : TurnLock T B I → ℕ
  seats_of lock = lock.seats

  -- the value that the lock was made with
  abbrev pub opened : TurnLock T B I → T
  opened lock = lock.table.shared.key.value.value

  -- the number of its entries then
  abbrev pub entries_at_opening : (T → List I) → TurnLock T B I → ℕ
  entries_at_opening entries lock = length (entries (opened lock))

  -- pass k of a lock that was made with x, before it has done anything
  pub record IsNew (base : T → B) (entries : T → List I) (x : T) (k : ℕ) (p : Pass T B I) : Type 0 where
    pub numbered : number p ≡ k
    pub based : base_of p ≡ Some (base x)
    pub has_seen : seen p ≡ entries x
    pub none_mine : mine p ≡ []
    pub floor_is : floor p ≡ length (entries x)

  -- the pass is right for the value: the value has its base, begins with all that it has seen, and has at least `floor` entries
  abbrev pub IsRightFor : (T → B) → (T → List I) → Pass T B I → T → Type 0
  IsRightFor base entries p x = IsRight (base x) (entries x) (known p)

  -- the pass's own entries stand at their places
  abbrev pub HoldsOwn : (T → List I) → Pass T B I → T → Type 0
  HoldsOwn entries p x = (place : ℕ) → 0 < occurrences place (mine p) → (entry : I) × (slice_get (seen p) place ≡ Some entry) × (slice_get (entries x) place ≡ Some entry)

  -- what may be given back: the same base, and entries that begin with those found
  abbrev pub MayFollow : (T → B) → (T → List I) → Pass T B I → T → Type 0
  MayFollow base entries p x = (Some (base x) ≡ base_of p) × StartsWith (entries x) (seen p) × (length (entries x) < 2 ^ 64)

  -- each place from `first` on and below `end` stands in the places of exactly one of the passes, and there once; no other place stands in any
  pub record AreSharedOut (first end : ℕ) (ps : List (Pass T B I)) : Type 0 where
    pub early : (place : ℕ) → place < first → total (λ p. occurrences place (mine p)) ps ≡ 0
    pub once : (place : ℕ) → first ≤ place → place < end → total (λ p. occurrences place (mine p)) ps ≡ 1
    pub late : (place : ℕ) → end ≤ place → total (λ p. occurrences place (mine p)) ps ≡ 0

-- of all passes the rest is left, and the seat with the view v has taken in the others
pub record Gathers {T B I : Type 0} (all rest : List (Pass T B I)) (v : View B I) : Type 0 where
  pub claimed : (x : ℕ) → total (λ p. occurrences x (mine p)) rest + claims x v ≡ total (λ p. occurrences x (mine p)) all
  pub right : (b : B) (log : List I) → IsRight b log v.own → AreRight b log v.joined → (k : ℕ) (p : Pass T B I) → slice_get all k ≡ Some p → (slice_get rest k ≡ Some p) ⊎ IsRight b log (known p)
