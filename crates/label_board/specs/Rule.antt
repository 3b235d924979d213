-- The rule of the board's table (this project's own): each name and the label in its word are joined under the entries
-- that were posted, and what a seat has read since nothing was posted is what the words hold.
use Rattle.std.specs.Prelude.{◌≡◌, ℕ, ◌+◌, ◌-◌, ◌<◌, ◌≤◌, ◌^◌, true, false, List, [], ◌∷◌, ◌++◌, length, slice_index, slice_set}
use mathlib.Core.Option.{some}
use lib.ListN.{get_elem?}
use Rattle.atomic_table.specs.Table.{State, Me, Step}
use Rattle.atomic_table.specs.Seated.{TableId}
use Rattle.chase_laws.specs.declared.entry.Entry.{Entry}
use Rattle.chase_laws.specs.Joined.{Joined}
use Rattle.label_board.specs.declared.knowledge.Knowledge.{Knowledge}
use Rattle.label_board.specs.Seen.{AllJoined, AllShown}

-- a seat is one of a table, which has a word for the count and one for each name
abbrev pub IsSeatAt : TableId → TableId → ℕ → Type 0
IsSeatAt seat table names = (seat ≡ table) × (table.words ≡ names + 1)

-- what the scribe knows before it posts anything
abbrev pub scribe_of : List Entry → List ℕ → Knowledge
scribe_of posted shown = record { writes = true; posted = posted; shown = shown; since = posted; read = []; noted_since = []; notes = [] }

-- what a watcher knows
abbrev pub watcher_of : List Entry → List (ℕ × ℕ) → Knowledge
watcher_of since read = record { writes = false; posted = []; shown = []; since = since; read = read; noted_since = []; notes = [] }

abbrev pub with_posted : Knowledge → List Entry → Knowledge
with_posted v posted = record { writes = v.writes; posted = posted; shown = v.shown; since = v.since; read = v.read; noted_since = v.noted_since; notes = v.notes }

abbrev pub with_shown : Knowledge → List ℕ → Knowledge
with_shown v shown = record { writes = v.writes; posted = v.posted; shown = shown; since = v.since; read = v.read; noted_since = v.noted_since; notes = v.notes }

abbrev pub with_read : Knowledge → List (ℕ × ℕ) → Knowledge
with_read v read = record { writes = v.writes; posted = v.posted; shown = v.shown; since = v.since; read = read; noted_since = v.noted_since; notes = v.notes }

-- a seat takes in what another has read, as its notes
abbrev pub noting : Knowledge → Knowledge → Knowledge
noting v other = record { writes = v.writes; posted = v.posted; shown = v.shown; since = v.since; read = v.read; noted_since = other.since; notes = other.read }

-- what a scribe knows between two posts: it stands even with all that it posted, and has read and noted nothing
abbrev pub between_posts : Knowledge → Knowledge
between_posts v = record { writes = v.writes; posted = v.posted; shown = v.shown; since = v.posted; read = []; noted_since = []; notes = [] }

-- labels that the words may hold: one for each name, joined with it
pub record MayShow (names : ℕ) (entries : List Entry) (labels : List ℕ) : Type 0 where
  pub wide : length labels ≡ names
  pub small : (n : ℕ) → n < names → slice_index labels n < 2 ^ 32
  pub joined : (n : ℕ) → n < names → Joined entries n (slice_index labels n)

-- the words of the table: how many entries were posted, and behind it the label of each name
abbrev pub words_of : List Entry → List ℕ → List ℕ
words_of entries labels = length entries ∷ labels

-- What a seat knows is so. One seat alone writes, and it knows all entries and labels; what was read is joined, and where
-- nothing was posted since, it is what the words hold. `finished` is how many entries have their labels in the words: no
-- seat has stood even with one that is being posted.
pub record KnowsBoard (writer finished : ℕ) (entries : List Entry) (labels : List ℕ) (seat : ℕ) (v : Knowledge) : Type 0 where
  pub scribe : v.writes ≡ true → (seat ≡ writer) × (v.posted ≡ entries) × (v.shown ≡ labels) × (length v.since ≡ finished)
  pub read : AllJoined entries v.read
  pub notes : AllJoined entries v.notes
  pub early : length v.since ≤ finished
  pub noted_early : length v.noted_since ≤ finished
  pub fresh : v.since ≡ entries → AllShown labels v.read
  pub noted_fresh : v.noted_since ≡ entries → AllShown labels v.notes

-- what holds of the table between any two steps
pub record FollowsPosts (names : ℕ) (s : State Entry Knowledge) : Type 0 where
  pub writer : ℕ
  pub finished : ℕ
  pub entries : List Entry
  pub labels : List ℕ
  pub words : s.words ≡ words_of entries labels
  pub shows : MayShow names entries labels
  pub posted : finished ≤ length entries
  pub each : (j : ℕ) (v : Knowledge) → get_elem? s.views j ≡ some v → KnowsBoard writer finished entries labels j v

-- what a seat knows, with its slots: it never has any
abbrev pub Seated : Type 0
Seated = Me Entry Knowledge

-- The steps on words. Count up: the entry that the step announces is the last one posted.
abbrev pub CountsUp : Step Entry → Seated → ℕ → Seated → Type 0
CountsUp st m r m' = (e : Entry) → st.said ≡ some e → (r ≡ length m.0.posted) × (m'.0 ≡ with_posted m.0 (m.0.posted ++ e ∷ [])) × (m'.1 ≡ m.1)

-- write label
abbrev pub WritesLabel : Step Entry → Seated → ℕ → Seated → Type 0
WritesLabel st m r m' = (st.word - 1 < length m.0.shown) × (m'.0 ≡ with_shown m.0 (slice_set m.0.shown (st.word - 1) st.first)) × (m'.1 ≡ m.1)

-- load label
abbrev pub LoadsLabel : Step Entry → Seated → ℕ → Seated → Type 0
LoadsLabel st m r m' = (r < 2 ^ 32) × (m'.0 ≡ with_read m.0 (m.0.read ++ (st.word - 1, r) ∷ [])) × (m'.1 ≡ m.1)

-- glance: what was read is forgotten
abbrev pub Glances : Step Entry → Seated → ℕ → Seated → Type 0
Glances st m r m' = (m'.0 ≡ with_read m.0 []) × (m'.1 ≡ m.1)

-- the load in meet, and at the end of a post: the notes are joined under what was posted, and are what is shown where
-- nothing was posted since; the scribe is between posts
abbrev pub Meets : Step Entry → Seated → ℕ → Seated → Type 0
Meets st m r m' = (m'.0 ≡ between_posts m.0) × (m'.1 ≡ m.1) × AllJoined m.0.posted m.0.notes × (m.0.noted_since ≡ m.0.posted → AllShown m.0.shown m.0.notes)
