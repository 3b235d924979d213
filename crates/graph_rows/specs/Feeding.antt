-- What the private functions answer that read a file piece by piece: this project's own words.
use Rattle.std.specs.Prelude.{List, [], ℕ, ◌≡◌, ◌≤◌, ◌+◌, ◌++◌, length, take, Result, Ok, Err, IsOk, IfSome, IsSomeAnd, IsTrue, Bool, MatchBool, ◌<◌}
use Rattle.gk_base.specs.declared.limits.Limits.{Limits}
use Rattle.gk_base.specs.declared.read_fault.ReadRefusal.{ReadRefusal}
use Rattle.gk_base.specs.declared.stop.Stop.{Stop}
use Rattle.gk_base.specs.declared.stop.Stop.TheVariants.{NoMemory, Fault}
use Rattle.gk_base.specs.declared.term.Triple.{Triple}
use Rattle.gk_io.specs.Cause.{Rose}
use Rattle.gk_io.specs.Files.{bytes_of}
use Rattle.gk_io.specs.declared.failed.Failed as device
use Rattle.gk_io.specs.declared.file_fault.FileFault.{FileFault}
use Rattle.gk_io.specs.declared.file_fault.FileFault.TheVariants.{Failed, Refused}
use Rattle.gk_io.specs.declared.shelf.Shelf
use Rattle.nt_reader.specs.File.{FileSays, IsOpen, Refuses}
use Rattle.nt_reader.specs.Reading.{Reading}
use Rattle.nt_reader.specs.Kept.{HasRead}
use Rattle.graph_rows.specs.Rows.{GoOn}
use Rattle.graph_rows.specs.GraphFile.{StopsAtGraph}
use Rattle.graph_rows.specs.declared.rows.Rows.{Rows}

-- the shelf failed, whichever file was asked for last
abbrev pub ShelfFails : {K : Type 0} (shelf : Shelf.Ghosts K) (before after : K) → Type 0
ShelfFails shelf before after = Rose (shelf.faults before) (shelf.faults after) × IsTrue (shelf.bad after)

-- a read stopped for want of memory, while the shelf did not fail, or because it failed
abbrev pub ReadStops : {K : Type 0} (shelf : Shelf.Ghosts K) (before after : K) → Stop device.Failed → Type 0
ReadStops shelf before after NoMemory = shelf.faults after ≡ shelf.faults before
ReadStops shelf before after (Fault failed) = ShelfFails shelf before after

-- these bytes were read, where the shelf tells its bytes
abbrev pub WereRead : {K : Type 0} (shelf : Shelf.Ghosts K) (before after : K) → List ℕ → Type 0
WereRead shelf before after gone = IfSome (shelf.rest before) (λ all. IsSomeAnd (shelf.rest after) (λ rest. all ≡ gone ++ rest))

-- there were no others
abbrev pub AreAll : {K : Type 0} (shelf : Shelf.Ghosts K) (before : K) → List ℕ → Type 0
AreAll shelf before gone = IfSome (shelf.rest before) (λ all. all ≡ gone)

-- this piece was read, through a buffer with this room, and fed to a reader
pub record Feeds {K : Type 0} (shelf : Shelf.Ghosts K) (before after : K) (room : ℕ) (reader fed_reader : Reading) (piece : List ℕ) : Type 0 where
  pub count : shelf.faults after ≡ shelf.faults before
  pub read : WereRead shelf before after piece
  pub within : length piece ≤ room
  pub fed : (taken : List Triple) (seen : List ℕ) → HasRead reader taken seen → HasRead fed_reader taken (seen ++ piece)

-- a piece of so many bytes was read and fed, or why not
abbrev pub FeedsNext : {K : Type 0} (shelf : Shelf.Ghosts K) (before after : K) (room : ℕ) (reader fed_reader : Reading) → Result ℕ (Stop (FileFault ReadRefusal)) → Type 0
FeedsNext shelf before after room reader fed_reader (Ok n) = (piece : List ℕ) × Feeds shelf before after room reader fed_reader piece
    × (n ≡ length piece) × ((taken : List Triple) (seen : List ℕ) → HasRead reader taken seen → IsOpen reader.limits (seen ++ piece))
    × IsOk fed_reader.so_far × (n ≡ 0 → AreAll shelf before [])
FeedsNext shelf before after room reader fed_reader (Err NoMemory) = shelf.faults after ≡ shelf.faults before
FeedsNext shelf before after room reader fed_reader (Err (Fault Failed)) = ShelfFails shelf before after
FeedsNext shelf before after room reader fed_reader (Err (Fault (Refused refusal))) = (piece : List ℕ) × Feeds shelf before after room reader fed_reader piece
    × ((taken : List Triple) (bytes : List ℕ) → HasRead fed_reader taken bytes → Refuses fed_reader.limits bytes refusal)

-- these bytes were read and fed to a reader
pub record FeedsOn {K : Type 0} (shelf : Shelf.Ghosts K) (before after : K) (reader fed_reader : Reading) (gone : List ℕ) : Type 0 where
  pub count : shelf.faults after ≡ shelf.faults before
  pub read : WereRead shelf before after gone
  pub fed : (taken : List Triple) (seen : List ℕ) → HasRead reader taken seen → HasRead fed_reader taken (seen ++ gone)

-- what was not refused is not yet with these bytes behind it
abbrev pub StaysOpen : Reading → List ℕ → Type 0
StaysOpen reader gone = (taken : List Triple) (seen : List ℕ) → HasRead reader taken seen → IsOpen reader.limits seen → IsOpen reader.limits (seen ++ gone)

-- Some pieces were read and fed, of which none is refused, and whether they were all that was left; or why not. Where a piece
-- is refused, it is the last, and none before it is.
abbrev pub FeedsBatch : {K : Type 0} (shelf : Shelf.Ghosts K) (before after : K) (reader fed_reader : Reading) → Result Bool (Stop (FileFault ReadRefusal)) → Type 0
FeedsBatch shelf before after reader fed_reader (Ok at_end) = (gone : List ℕ) × FeedsOn shelf before after reader fed_reader gone
    × StaysOpen reader gone × IsOk fed_reader.so_far × MatchBool at_end (AreAll shelf before gone) (0 < length gone)
FeedsBatch shelf before after reader fed_reader (Err NoMemory) = shelf.faults after ≡ shelf.faults before
FeedsBatch shelf before after reader fed_reader (Err (Fault Failed)) = ShelfFails shelf before after
FeedsBatch shelf before after reader fed_reader (Err (Fault (Refused refusal))) = (gone : List ℕ) × FeedsOn shelf before after reader fed_reader gone
    × ((taken : List Triple) (seen : List ℕ) → HasRead reader taken seen → IsOpen reader.limits seen →
    Refuses reader.limits (seen ++ gone) refusal × ((n : ℕ) → n + 65536 ≤ length (seen ++ gone) → IsOpen reader.limits (take n (seen ++ gone))))

-- all that was left was read and fed, and what is said of the triples that were taken holds; or why not
abbrev pub FeedsAll : {K A : Type 0} (shelf : Shelf.Ghosts K) (before after : K) (limits : Limits) (fed_reader : Reading) (Kept : List Triple → Type 0) → Result A (Stop (FileFault ReadRefusal)) → Type 0
FeedsAll shelf before after limits fed_reader Kept (Ok x) = (shelf.faults after ≡ shelf.faults before)
    × ((taken : List Triple) × (gone : List ℕ) × WereRead shelf before after gone × AreAll shelf before gone × IsOpen limits gone
    × HasRead fed_reader taken gone × Kept taken)
FeedsAll shelf before after limits fed_reader Kept (Err NoMemory) = shelf.faults after ≡ shelf.faults before
FeedsAll shelf before after limits fed_reader Kept (Err (Fault Failed)) = ShelfFails shelf before after
FeedsAll shelf before after limits fed_reader Kept (Err (Fault (Refused refusal))) = (shelf.faults after ≡ shelf.faults before)
    × ((gone : List ℕ) × WereRead shelf before after gone × Refuses limits gone refusal
    × ((n : ℕ) → n + 65536 ≤ length gone → IsOpen limits (take n gone)))

-- the graph of this name was read, and the rows go on with its triples; or why not
abbrev pub ReadsBehind : {K A : Type 0} (shelf : Shelf.Ghosts K) (before after : K) (limits : Limits) (name : List ℕ) (old new : Rows) → Result A (Stop (FileFault ReadRefusal)) → Type 0
ReadsBehind shelf before after limits name old new (Ok x) = (shelf.faults after ≡ shelf.faults before)
    × ((more : List Triple) × GoOn old new more × (length more ≤ limits.triples) × IfSome (shelf.held before) (λ files. FileSays limits (bytes_of files name) (Ok more)))
ReadsBehind shelf before after limits name old new (Err stop) = StopsAtGraph shelf before after limits name stop
