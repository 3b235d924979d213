-- What reading a graph gives, and how far its file is read: this project's own words.
use Rattle.std.specs.Prelude.{List, ℕ, ◌≡◌, ◌≤◌, ◌+◌, ◌++◌, length, take, Result, Ok, Err, Some, IfSome, IsSomeAnd}
use Rattle.gk_base.specs.declared.limits.Limits.{Limits}
use Rattle.gk_base.specs.declared.read_fault.ReadRefusal.{ReadRefusal}
use Rattle.gk_base.specs.declared.stop.Stop.{Stop}
use Rattle.gk_base.specs.declared.stop.Stop.TheVariants.{NoMemory, Fault}
use Rattle.gk_base.specs.declared.term.Triple.{Triple}
use Rattle.gk_io.specs.Files.{bytes_of}
use Rattle.gk_io.specs.FailedAt.{FailedAt}
use Rattle.gk_io.specs.declared.file_fault.FileFault.{FileFault}
use Rattle.gk_io.specs.declared.file_fault.FileFault.TheVariants.{Failed, Refused}
use Rattle.gk_io.specs.declared.shelf.Shelf
use Rattle.nt_reader.specs.File.{FileSays, Refuses}
use Rattle.graph_rows.specs.Rows.{StandFor, GoOn}
use Rattle.graph_rows.specs.declared.rows.Rows.{Rows}
use Rattle.graph_rows.specs.declared.pieces.MoreRows.{MoreRows}

-- The rows stand for these triples, which are no more than the limit, and where the shelf tells its files, they are what the
-- file of this name says.
pub record AreRowsOf {K : Type 0} (shelf : Shelf.Ghosts K) (before : K) (limits : Limits) (name : List ℕ) (rows : Rows) (triples : List Triple) : Type 0 where
  pub stand : StandFor rows triples
  pub few : length triples ≤ limits.triples
  pub says : IfSome (shelf.held before) (λ files. FileSays limits (bytes_of files name) (Ok triples))

-- Of a file of these bytes this rest is unread, and fewer than 65,536 bytes are gone beyond the one at which it is refused.
-- That byte is the last of the shortest front that is refused whatever follows: so a front of what is gone that leaves
-- 65,536 bytes of it or more is not refused yet.
pub record StopsSoon (limits : Limits) (bytes rest : List ℕ) : Type 0 where
  pub gone : List ℕ
  pub whole : bytes ≡ gone ++ rest
  pub soon : (n : ℕ) (refusal : ReadRefusal) → n + 65536 ≤ length gone → ¬ (Refuses limits (take n gone) refusal)

-- the graph of this name was asked for last, and where the shelf tells its bytes, its reading stopped soon
abbrev pub GraphStops : {K : Type 0} (shelf : Shelf.Ghosts K) (before after : K) → Limits → (name : List ℕ) → Type 0
GraphStops shelf before after limits name = (shelf.asked after ≡ Some name)
    × IfSome (shelf.held before) (λ files. IsSomeAnd (shelf.rest after) (λ rest. StopsSoon limits (bytes_of files name) rest))

-- Why the graph of this name is not to be had: want of memory, which may come at any time; or that the shelf failed at it; or
-- that it is refused, and then it is what the file says, and it was read no further than it had to be. The shelf fails in no
-- other case.
abbrev pub StopsAtGraph : {K : Type 0} (shelf : Shelf.Ghosts K) (before after : K) (limits : Limits) (name : List ℕ) → Stop (FileFault ReadRefusal) → Type 0
StopsAtGraph shelf before after limits name NoMemory = shelf.faults after ≡ shelf.faults before
StopsAtGraph shelf before after limits name (Fault Failed) = FailedAt shelf before after name
StopsAtGraph shelf before after limits name (Fault (Refused refusal)) = (shelf.faults after ≡ shelf.faults before)
    × IfSome (shelf.held before) (λ files. FileSays limits (bytes_of files name) (Err refusal)) × GraphStops shelf before after limits name

-- What reading the graph of this name gives: its rows and names, and the shelf did not fail; or what stopped it.
abbrev pub GivesRows : {K : Type 0} (shelf : Shelf.Ghosts K) (before after : K) (limits : Limits) (name : List ℕ) → Result Rows (Stop (FileFault ReadRefusal)) → Type 0
GivesRows shelf before after limits name (Ok rows) = (shelf.faults after ≡ shelf.faults before) × ((triples : List Triple) × AreRowsOf shelf before limits name rows triples)
GivesRows shelf before after limits name (Err stop) = StopsAtGraph shelf before after limits name stop

-- The rows go on with these triples, which are no more than the limit, and where the shelf tells its files, they are what the
-- file of this name says. How many triples were there before is told.
pub record AreMoreRowsOf {K : Type 0} (shelf : Shelf.Ghosts K) (before : K) (limits : Limits) (name : List ℕ) (old : Rows) (m : MoreRows) (more : List Triple) : Type 0 where
  pub stand : GoOn old m.rows more
  pub first : (triples : List Triple) → StandFor old triples → m.first ≡ length triples
  pub few : length more ≤ limits.triples
  pub says : IfSome (shelf.held before) (λ files. FileSays limits (bytes_of files name) (Ok more))

-- What reading the graph of this name behind rows that are there gives: the rows and names of both, and the shelf did not
-- fail; or what stopped it.
abbrev pub GivesMoreRows : {K : Type 0} (shelf : Shelf.Ghosts K) (before after : K) (limits : Limits) (name : List ℕ) (old : Rows) → Result MoreRows (Stop (FileFault ReadRefusal)) → Type 0
GivesMoreRows shelf before after limits name old (Ok m) = (shelf.faults after ≡ shelf.faults before) × ((more : List Triple) × AreMoreRowsOf shelf before limits name old m more)
GivesMoreRows shelf before after limits name old (Err stop) = StopsAtGraph shelf before after limits name stop
