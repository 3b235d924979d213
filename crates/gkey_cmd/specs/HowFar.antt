-- How far the files of a run are read: this project's own words.
use Rattle.std.specs.Prelude.{List, ℕ, ◌≡◌, ◌≤◌, ◌+◌, ◌++◌, length, Option, Some, None, Ok, IfSome, IsSomeAnd}
use Rattle.gk_base.specs.declared.limits.Limits.{Limits}
use Rattle.gk_base.specs.declared.term.Triple.{Triple}
use Rattle.gk_io.specs.Files.{bytes_of}
use Rattle.gk_io.specs.declared.shelf.Shelf
use Rattle.graph_rows.specs.GraphFile.{GraphStops}
use Rattle.gkey_cmd.specs.Commands.{Wanted, Matching, Proving, Checking, Converting, Demonstrating, Merging, Explaining, Growing, Helping, TellingVersion}
use Rattle.gkey_cmd.specs.Reading.{GraphSays, left_by}
use Rattle.gkey_cmd.specs.declared.ending.Refusal.{Refusal}
use Rattle.gkey_cmd.specs.declared.ending.Refusal.TheVariants.{InGraph, InMore, InKeys, InProof, NoSuchEntity, MorePairsThan}

-- of a file of these bytes this rest is unread, and no more is gone than the limit and one byte
pub record IsReadWithin (limit : ℕ) (bytes rest : List ℕ) : Type 0 where
  pub gone : List ℕ
  pub whole : bytes ≡ gone ++ rest
  pub within : length gone ≤ limit + 1

-- the file of this name was asked for last, and where the shelf tells its bytes, it was read no further than one byte beyond
-- this limit
abbrev pub FileLeft : {K : Type 0} (shelf : Shelf.Ghosts K) (shelf_before shelf_after : K) (limit : ℕ) (name : List ℕ) → Type 0
FileLeft shelf shelf_before shelf_after limit name = (shelf.asked shelf_after ≡ Some name)
    × IfSome (shelf.held shelf_before) (λ files. IsSomeAnd (shelf.rest shelf_after) (λ rest. IsReadWithin limit (bytes_of files name) rest))

-- so the key file was left
abbrev pub KeysLeft : {K : Type 0} (shelf : Shelf.Ghosts K) (shelf_before shelf_after : K) → Limits → (name : List ℕ) → Type 0
KeysLeft shelf shelf_before shelf_after limits name = FileLeft shelf shelf_before shelf_after limits.key_bytes name

-- so the proof file was left
abbrev pub ProofLeft : {K : Type 0} (shelf : Shelf.Ghosts K) (shelf_before shelf_after : K) → Limits → (name : List ℕ) → Type 0
ProofLeft shelf shelf_before shelf_after limits name = FileLeft shelf shelf_before shelf_after limits.bytes name

-- how far the files of a command are read whose files are all read; one that asks for none leaves the shelf as it was
abbrev pub LeavesFiles : {K : Type 0} (shelf : Shelf.Ghosts K) (shelf_before shelf_after : K) → Wanted → Limits → Type 0
LeavesFiles shelf shelf_before shelf_after (Matching graph keys) limits = KeysLeft shelf shelf_before shelf_after limits keys
LeavesFiles shelf shelf_before shelf_after (Proving graph keys) limits = KeysLeft shelf shelf_before shelf_after limits keys
LeavesFiles shelf shelf_before shelf_after (Checking graph keys proof) limits = ProofLeft shelf shelf_before shelf_after limits proof
LeavesFiles shelf shelf_before shelf_after (Converting proof) limits = ProofLeft shelf shelf_before shelf_after limits proof
LeavesFiles shelf shelf_before shelf_after (Demonstrating n) limits = shelf_after ≡ shelf_before
LeavesFiles shelf shelf_before shelf_after (Merging graph keys) limits = KeysLeft shelf shelf_before shelf_after limits keys
LeavesFiles shelf shelf_before shelf_after (Explaining graph keys first second) limits = KeysLeft shelf shelf_before shelf_after limits keys
LeavesFiles shelf shelf_before shelf_after (Growing graph more keys) limits = KeysLeft shelf shelf_before shelf_after limits keys
LeavesFiles shelf shelf_before shelf_after Helping limits = shelf_after ≡ shelf_before
LeavesFiles shelf shelf_before shelf_after TellingVersion limits = shelf_after ≡ shelf_before

-- how far the files of a chase are read that is refused: a refused graph is left soon, and the key file is left where it, or
-- what comes after it, is refused
abbrev pub ChaseStops : {K : Type 0} (shelf : Shelf.Ghosts K) (shelf_before shelf_after : K) (graph keys : List ℕ) → Limits → Refusal → Type 0
ChaseStops shelf shelf_before shelf_after graph keys limits (InGraph refusal) = GraphStops shelf shelf_before shelf_after limits graph
ChaseStops shelf shelf_before shelf_after graph keys limits (InMore refusal) = ⊥
ChaseStops shelf shelf_before shelf_after graph keys limits (InKeys refusal) = KeysLeft shelf shelf_before shelf_after limits keys
ChaseStops shelf shelf_before shelf_after graph keys limits (InProof refusal) = ⊥
ChaseStops shelf shelf_before shelf_after graph keys limits (NoSuchEntity asked) = KeysLeft shelf shelf_before shelf_after limits keys
ChaseStops shelf shelf_before shelf_after graph keys limits (MorePairsThan limit) = KeysLeft shelf shelf_before shelf_after limits keys

-- a graph that is added to an accepted one, and is refused under what that leaves of the limits, is left soon
abbrev pub MoreStops : {K : Type 0} (shelf : Shelf.Ghosts K) (shelf_before shelf_after : K) (graph more : List ℕ) → Limits → Type 0
MoreStops shelf shelf_before shelf_after graph more limits = (triples : List Triple)
    × IfSome (shelf.held shelf_before) (λ files. GraphSays limits (bytes_of files graph) (Ok triples))
    × GraphStops shelf shelf_before shelf_after (left_by limits triples) more

-- how far the files of a run are read that is refused: a refused graph is left soon, and a key file or a proof file is left
-- where it, or what comes after it, is refused; a demo leaves the shelf as it was, and help and version are never refused
abbrev pub StopsReading : {K : Type 0} (shelf : Shelf.Ghosts K) (shelf_before shelf_after : K) → Option Wanted → Limits → Refusal → Type 0
StopsReading shelf shelf_before shelf_after None limits refusal = ⊥
StopsReading shelf shelf_before shelf_after (Some (Matching graph keys)) limits refusal = ChaseStops shelf shelf_before shelf_after graph keys limits refusal
StopsReading shelf shelf_before shelf_after (Some (Proving graph keys)) limits refusal = ChaseStops shelf shelf_before shelf_after graph keys limits refusal
StopsReading shelf shelf_before shelf_after (Some (Checking graph keys proof)) limits (InGraph refusal) = GraphStops shelf shelf_before shelf_after limits graph
StopsReading shelf shelf_before shelf_after (Some (Checking graph keys proof)) limits (InMore refusal) = ⊥
StopsReading shelf shelf_before shelf_after (Some (Checking graph keys proof)) limits (InKeys refusal) = KeysLeft shelf shelf_before shelf_after limits keys
StopsReading shelf shelf_before shelf_after (Some (Checking graph keys proof)) limits (InProof refusal) = ProofLeft shelf shelf_before shelf_after limits proof
StopsReading shelf shelf_before shelf_after (Some (Checking graph keys proof)) limits (NoSuchEntity asked) = ⊥
StopsReading shelf shelf_before shelf_after (Some (Checking graph keys proof)) limits (MorePairsThan limit) = ⊥
StopsReading shelf shelf_before shelf_after (Some (Converting proof)) limits (InGraph refusal) = ⊥
StopsReading shelf shelf_before shelf_after (Some (Converting proof)) limits (InMore refusal) = ⊥
StopsReading shelf shelf_before shelf_after (Some (Converting proof)) limits (InKeys refusal) = ⊥
StopsReading shelf shelf_before shelf_after (Some (Converting proof)) limits (InProof refusal) = ProofLeft shelf shelf_before shelf_after limits proof
StopsReading shelf shelf_before shelf_after (Some (Converting proof)) limits (NoSuchEntity asked) = ⊥
StopsReading shelf shelf_before shelf_after (Some (Converting proof)) limits (MorePairsThan limit) = ⊥
StopsReading shelf shelf_before shelf_after (Some (Demonstrating n)) limits refusal = shelf_after ≡ shelf_before
StopsReading shelf shelf_before shelf_after (Some (Merging graph keys)) limits refusal = ChaseStops shelf shelf_before shelf_after graph keys limits refusal
StopsReading shelf shelf_before shelf_after (Some (Explaining graph keys first second)) limits refusal = ChaseStops shelf shelf_before shelf_after graph keys limits refusal
StopsReading shelf shelf_before shelf_after (Some (Growing graph more keys)) limits (InGraph refusal) = GraphStops shelf shelf_before shelf_after limits graph
StopsReading shelf shelf_before shelf_after (Some (Growing graph more keys)) limits (InMore refusal) = MoreStops shelf shelf_before shelf_after graph more limits
StopsReading shelf shelf_before shelf_after (Some (Growing graph more keys)) limits (InKeys refusal) = KeysLeft shelf shelf_before shelf_after limits keys
StopsReading shelf shelf_before shelf_after (Some (Growing graph more keys)) limits (InProof refusal) = ⊥
StopsReading shelf shelf_before shelf_after (Some (Growing graph more keys)) limits (NoSuchEntity asked) = ⊥
StopsReading shelf shelf_before shelf_after (Some (Growing graph more keys)) limits (MorePairsThan limit) = KeysLeft shelf shelf_before shelf_after limits keys
StopsReading shelf shelf_before shelf_after (Some Helping) limits refusal = ⊥
StopsReading shelf shelf_before shelf_after (Some TellingVersion) limits refusal = ⊥
