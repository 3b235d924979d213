-- The core of the chase: its states, and the events that lead from one to the next, whoever makes them and in whatever
-- order (this project's own; the steps are those of "Keys for Graphs", section 2.2).
use Rattle.std.specs.Prelude.{List, [], ◌∷◌, ◌++◌, ℕ, Option, Some, None, IsSome, IfSome, All, Contains, length, map, replicate, slice_get, slice_set, slice_index, ◌≡◌, ◌≢◌, ◌⊎◌, ◌↔◌, ◌<◌}
use Rattle.std.specs.List.{range_with_len}
use Rattle.chase_laws.specs.declared.entry.Entry.{Entry}
use Rattle.chase_laws.specs.declared.pair_state.PairState.{PairState}
use Rattle.chase_laws.specs.declared.pair_state.PairState.TheVariants as state
use Rattle.chase_laws.specs.Shape.{Shape, IsPattern}
use Rattle.chase_laws.specs.Graph.{NumberedGraph, IsGraph}
use Rattle.chase_laws.specs.Valuation.{Matches}
use Rattle.chase_laws.specs.Joined.{joined_by, Joined, LabelsJoin}
use Rattle.chase_laws.specs.Chase.{IsStep, IsDerivation, IsLean, IsAble}
use Rattle.chase_laws.specs.Near.{IsNear}
use Rattle.chase_laws.specs.View.{label_in, same_by}

-- what a chase works on: a graph, keys, and the pairs of names that it searches, which have numbers by their places
pub record Task : Type 0 where
  pub graph : NumberedGraph
  pub patterns : List Shape
  pub pairs : List (ℕ × ℕ)

-- how many names there are
abbrev pub name_count : Task → ℕ
name_count T = length T.graph.literal

-- a task that a chase can finish: its pairs are of a name and a greater one, and every able pair is among them
pub record IsTask (T : Task) : Type 0 where
  pub graph : IsGraph T.graph
  pub patterns : All IsPattern T.patterns
  pub named : All (λ p. (p.0 < p.1) × (p.1 < name_count T)) T.pairs
  pub able : (a b : ℕ) → IsAble T.graph T.patterns a b → Contains T.pairs (a, b)

-- the identifications in order, a label for each name, and where each pair stands
pub record State : Type 0 where
  pub journal : List Entry
  pub labels : List ℕ
  pub pairs : List PairState

-- at first nothing is identified, each name has its own number as label, and each pair is to be searched
abbrev pub opening : Task → State
opening T = record { journal = []; labels = range_with_len 0 (name_count T); pairs = replicate (length T.pairs) state.Ready }

-- near to one of two ends
abbrev pub IsNearEither : Task → ℕ → ℕ → ℕ → Type 0
IsNearEither T a b n = IsNear T.graph T.patterns a n ⊎ IsNear T.graph T.patterns b n

-- a view has exactly the names that are near to one of two ends
abbrev pub ListsNear : Task → ℕ → ℕ → List (ℕ × ℕ) → Type 0
ListsNear T a b view = (n : ℕ) → IsSome (label_in view n) ↔ IsNearEither T a b n

-- each label of a view is the present one
abbrev pub IsPresent : State → List (ℕ × ℕ) → Type 0
IsPresent S view = (n l : ℕ) → label_in view n ≡ Some l → l ≡ slice_index S.labels n

-- some label of a view is not the present one
abbrev pub IsOvertaken : State → List (ℕ × ℕ) → Type 0
IsOvertaken S view = (n l : ℕ) × (label_in view n ≡ Some l) × (l ≢ slice_index S.labels n)

-- two ends are brought together: a name near to the one and a name near to the other had two labels, and have one now
abbrev pub AreBroughtTogether : Task → State → State → ℕ → ℕ → Type 0
AreBroughtTogether T old new a b =
    (m n : ℕ) × IsNear T.graph T.patterns a m × IsNear T.graph T.patterns b n
    × (slice_index old.labels m ≢ slice_index old.labels n) × (slice_index new.labels m ≡ slice_index new.labels n)

-- the ends of pair number p
abbrev pub PairAt : Task → ℕ → ℕ → ℕ → Type 0
PairAt T p a b = slice_get T.pairs p ≡ Some (a, b)

-- where pair number p stands
abbrev pub Stands : State → ℕ → PairState → Type 0
Stands S p s = slice_get S.pairs p ≡ Some s

-- the ends of pair number p are joined
abbrev pub EndsJoined : Task → State → ℕ → Type 0
EndsJoined T S p = (a b : ℕ) × PairAt T p a b × Joined S.journal a b

-- the ends of pair number p are not joined
abbrev pub EndsApart : Task → State → ℕ → Type 0
EndsApart T S p = (a b : ℕ) × PairAt T p a b × ¬ (Joined S.journal a b)

-- names that entries do not join to c keep their labels
abbrev pub Keeps : List ℕ → List ℕ → List Entry → ℕ → Type 0
Keeps labels labels' H c = (n : ℕ) → n < length labels → ¬ (Joined H n c) → slice_index labels' n ≡ slice_index labels n

-- What may come. A take passes over Ready pairs whose ends are joined already, and may hand out a pair. The other
-- events but the last settle a pair: by an entry, or as already joined, or as missed or overtaken with the view that
-- it was searched with.
pub data Event : Type 0 where
  Take : List ℕ → Option ℕ → Event
  Enter : ℕ → Entry → Event
  Already : ℕ → Event
  Miss : ℕ → List (ℕ × ℕ) → Event
  Reopen : ℕ → List (ℕ × ℕ) → Event
  Recall : Event

-- the list with y at each of the places
abbrev pub set_each : {X : Type 0} → List X → List ℕ → X → List X
set_each xs [] y = xs
set_each xs (i ∷ is) y = set_each (slice_set xs i y) is y

-- the list with y at the place, if there is one
abbrev pub set_some : {X : Type 0} → List X → Option ℕ → X → List X
set_some xs None y = xs
set_some xs (Some i) y = slice_set xs i y

-- a Flying pair is Ready again
abbrev pub recalled : PairState → PairState
recalled state.Flying = state.Ready
recalled state.Ready = state.Ready
recalled state.Missed = state.Missed
recalled state.Joined = state.Joined

-- The entry is last in the journal. Labels are equal exactly where it joins, and all names outside one of the two
-- classes that it joins keep theirs.
pub record Enters (old new : State) (e : Entry) : Type 0 where
  pub journal : new.journal ≡ old.journal ++ e ∷ []
  pub count : length new.labels ≡ length old.labels
  pub labels : LabelsJoin new.labels new.journal
  pub kept : Keeps old.labels new.labels old.journal e.a ⊎ Keeps old.labels new.labels old.journal e.b

-- The pair is Joined. A Missed pair is Ready where its ends are brought together, and stays Missed elsewhere, even where a
-- name near to one of them has another label. No other pair changes.
pub record Wakes (T : Task) (old new : State) (p : ℕ) : Type 0 where
  pub count : length new.pairs ≡ length old.pairs
  pub entered : Stands new p state.Joined
  pub woken : (q a b : ℕ) → q ≢ p → PairAt T q a b → Stands old q state.Missed → AreBroughtTogether T old new a b → Stands new q state.Ready
  pub quiet : (q a b : ℕ) → q ≢ p → PairAt T q a b → Stands old q state.Missed → ¬ (AreBroughtTogether T old new a b) → Stands new q state.Missed
  pub others : (q : ℕ) → q ≢ p → ¬ (Stands old q state.Missed) → slice_get new.pairs q ≡ slice_get old.pairs q

-- what may come in a state, and how it leaves it
abbrev pub Happens : Task → State → Event → State → Type 0
Happens T old (Take passed taken) new =
    All (λ p. Stands old p state.Ready × EndsJoined T old p) passed
    × IfSome taken (λ p. Stands old p state.Ready × EndsApart T old p)
    × (new ≡ record old { pairs = set_some (set_each old.pairs passed state.Joined) taken state.Flying })
Happens T old (Enter p e) new =
    PairAt T p e.a e.b × ¬ (Joined old.journal e.a e.b) × IsStep T.graph T.patterns old.journal e
    × Enters old new e × Wakes T old new p
Happens T old (Already p) new = EndsJoined T old p × (new ≡ record old { pairs = slice_set old.pairs p state.Joined })
Happens T old (Miss p view) new =
    (a b : ℕ) × PairAt T p a b × ¬ (Joined old.journal a b)
    × ListsNear T a b view × IsPresent old view
    × ¬ (Matches T.graph T.patterns (same_by view) a b)
    × (new ≡ record old { pairs = slice_set old.pairs p state.Missed })
Happens T old (Reopen p view) new =
    EndsApart T old p × IsOvertaken old view × (new ≡ record old { pairs = slice_set old.pairs p state.Ready })
Happens T old Recall new = new ≡ record old { pairs = map recalled old.pairs }

-- one event after another leads from a state to another
abbrev pub Run : Task → State → List Event → State → Type 0
Run T old [] new = new ≡ old
Run T old (event ∷ events) new = (mid : State) × Happens T old event mid × Run T mid events new

-- no pair is to be searched or handed out
abbrev pub IsFinished : State → Type 0
IsFinished S = All (λ s. (s ≡ state.Missed) ⊎ (s ≡ state.Joined)) S.pairs

-- What holds in each state that a run reaches: the journal is a lean derivation between ends of pairs, labels are equal
-- exactly where it joins, no key identifies the ends of a Missed pair by what it joins, and those of a Joined pair are
-- joined.
pub record IsSound (T : Task) (S : State) : Type 0 where
  pub one_label_each : length S.labels ≡ name_count T
  pub one_state_each : length S.pairs ≡ length T.pairs
  pub derivation : IsDerivation T.graph T.patterns S.journal
  pub lean : IsLean S.journal
  pub ends : All (λ e. Contains T.pairs (e.a, e.b)) S.journal
  pub labels : LabelsJoin S.labels S.journal
  pub missed : (p a b : ℕ) → PairAt T p a b → Stands S p state.Missed → ¬ (Matches T.graph T.patterns (joined_by S.journal) a b)
  pub joined : (p a b : ℕ) → PairAt T p a b → Stands S p state.Joined → Joined S.journal a b
