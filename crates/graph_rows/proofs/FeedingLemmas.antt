-- What was read so far of a graph, and what its reader then has.
use Rattle.std.proofs.Common.{List, [], ◌++◌, ℕ, ◌+◌, ◌-◌, ◌*◌, ◌^◌, ◌<◌, ◌≤◌, Option, Some, None, IfSome, IsSomeAnd, Bool, true, false, IsTrue, MatchBool, Result, Ok, Err, IsOk, is_ok, IsErrAnd, MatchResult, length, take, ◌≡◌, ◌∙◌, refl, sym, ap, ap₂, subst, arith, append-nil, append_assoc, length-append}
use Rattle.std.proofs.lemmas.List.{take-append-drop, take-append-le, nil_from_length}
use Rattle.gk_base.specs.declared.limits.Limits.{Limits}
use Rattle.gk_base.specs.declared.read_fault.ReadRefusal.{ReadRefusal}
use Rattle.gk_base.specs.Answers.{ReadStop, IsSo}
use Rattle.gk_base.specs.declared.stop.Stop.{Stop}
use Rattle.gk_base.specs.declared.stop.Stop.TheVariants.{NoMemory, Fault}
use Rattle.gk_base.specs.declared.term.Triple.{Triple}
use Rattle.gk_io.specs.Cause.{Rose}
use Rattle.gk_io.specs.Files.{bytes_of, TakesNext}
use Rattle.gk_io.specs.FileStop.{file_stop}
use Rattle.gk_io.specs.declared.file_fault.FileFault.{FileFault}
use Rattle.gk_io.specs.declared.file_fault.FileFault.TheVariants.{Failed, Refused}
use Rattle.gk_io.specs.declared.shelf.Shelf
use Rattle.nt_reader.specs.File.{FileSays, Refuses, IsOpen}
use Rattle.nt_reader.specs.Reading.{Front, Reading}
use Rattle.nt_reader.specs.Kept.{IsStopped, HasCome, HasRead, FinishSays}
use Rattle.nt_reader.proofs.CallerLemmas.{open_front, nothing_open}
use Rattle.graph_rows.specs.Rows.{StandFor, GoOn, LeaveRoom}
use Rattle.graph_rows.specs.GraphFile.{StopsSoon, GraphStops, StopsAtGraph, GivesRows}
use Rattle.graph_rows.specs.Feeding.{WereRead, AreAll, Feeds, FeedsNext, FeedsOn, StaysOpen, FeedsBatch, FeedsAll, ReadsBehind}
use Rattle.graph_rows.specs.declared.rows.Rows.{Rows}
use Rattle.graph_rows.proofs.RowsInNumbers.{names_few}
use Rattle.graph_rows.proofs.Told.{told_more}

-- ---- what is not yet refused

-- what is refused with its last piece is not refused without it
pub open_before : (limits : Limits) (seen piece : List ℕ) → IsOpen limits seen → length piece ≤ 65536 →
    (n : ℕ) → n + 65536 ≤ length (seen ++ piece) → IsOpen limits (take n (seen ++ piece))
open_before limits seen piece h few n long =
    let le : n ≤ length seen = omega (arith, length-append seen piece) in
    subst (IsOpen limits) (sym (take-append-le n seen piece le)) (open_front limits seen h n)

-- ---- a call whose stop is made that of a file, by `map_err`

-- it stopped, and so the call itself did
pub mapped_stop : {A : Type 0} (answer : Result A ReadStop) (e : Stop (FileFault ReadRefusal)) →
    MatchResult answer (λ x. Err e ≡ Ok x) (λ stop. e ≡ file_stop stop) → (stop : ReadStop) × (answer ≡ Err stop) × (e ≡ file_stop stop)
mapped_stop (Ok x) e h = absurd (cc)
mapped_stop (Err stop) e h = (stop, refl, h)

-- it answered, and so the call itself did
pub ok_from_variant : {A : Type 0} (answer : Result A ReadStop) → true ≡ is_ok answer → (x : A) × IsOk answer × (answer ≡ Ok x)
ok_from_variant (Ok x) e = (x, refl, refl)
ok_from_variant (Err stop) e = absurd (cc)

-- and its value is that of the call
pub ok_from_cases : {A : Type 0} (answer : Result A ReadStop) (mapped : Result A (Stop (FileFault ReadRefusal))) (y : A) →
    MatchResult answer (λ x. mapped ≡ Ok x) (λ stop. IsErrAnd mapped (λ e. e ≡ file_stop stop)) → mapped ≡ Ok y → answer ≡ Ok y
ok_from_cases (Ok x) mapped y h e = let same : x ≡ y = cc in ap Ok same
ok_from_cases (Err stop) mapped y h e = absurd (subst (λ m. IsErrAnd m (λ f. f ≡ file_stop stop)) e h)

-- ---- readers

-- a reader that was stopped so stopped at what it has read
stopped_by : (reading : Reading) (stop : ReadStop) → reading.so_far ≡ Err stop → (taken : List Triple) (bytes : List ℕ) → HasRead reading taken bytes → IsStopped reading.limits bytes stop
stopped_by reading stop e taken bytes h = subst (λ (r : Result Front ReadStop). IsSo (HasCome reading.limits taken bytes) r) e h

-- of the triples that may come, a running reader has given no more
came_few : (limits : Limits) (come : Result Front ReadStop) (taken : List Triple) (seen : List ℕ) → IsOk come → IsSo (HasCome limits taken seen) come → length taken ≤ limits.triples
came_few limits (Ok front) taken seen k h = omega (arith, h.room)
came_few limits (Err stop) taken seen k h = absurd (cc)

-- ---- what a shelf tells of its bytes

read_nothing : (rest : Option (List ℕ)) → IfSome rest (λ all. IsSomeAnd rest (λ r. all ≡ [] ++ r))
read_nothing None = tt
read_nothing (Some rest) = refl

read_both : (a b c : Option (List ℕ)) (xs ys : List ℕ) → IfSome a (λ all. IsSomeAnd b (λ r. all ≡ xs ++ r)) → IfSome b (λ all. IsSomeAnd c (λ r. all ≡ ys ++ r)) →
    IfSome a (λ all. IsSomeAnd c (λ r. all ≡ (xs ++ ys) ++ r))
read_both None b c xs ys h k = tt
read_both (Some all) None c xs ys h k = absurd h
read_both (Some all) (Some mid) None xs ys h k = absurd k
read_both (Some all) (Some mid) (Some rest) xs ys h k = h ∙ ap (λ r. xs ++ r) k ∙ sym (append_assoc xs ys rest)

-- where nothing was left to read, what was read is all
pub all_fed : (before after : Option (List ℕ)) (seen piece : List ℕ) → IfSome before (λ all. IsSomeAnd after (λ r. all ≡ seen ++ r)) → IfSome after (λ r. r ≡ []) →
    length piece ≡ 0 → IfSome before (λ all. all ≡ seen ++ piece)
all_fed None after seen piece h k z = tt
all_fed (Some all) None seen piece h k z = absurd h
all_fed (Some all) (Some rest) seen piece h k z = h ∙ ap (λ r. seen ++ r) (k ∙ sym (nil_from_length piece z))

module _ {K : Type 0} (shelf : Shelf.Ghosts K) where
  pub were_read_none : (now : K) → WereRead shelf now now []
  were_read_none now = read_nothing (shelf.rest now)

  pub were_read_more : (old mid new : K) (xs ys : List ℕ) → WereRead shelf old mid xs → WereRead shelf mid new ys → WereRead shelf old new (xs ++ ys)
  were_read_more old mid new xs ys h k = read_both (shelf.rest old) (shelf.rest mid) (shelf.rest new) xs ys h k

-- ---- one piece

-- what a read took is a piece of the file
pub piece_read : (before after : Option (List ℕ)) (room n : ℕ) (buf : List ℕ) → IfSome before (λ old. IsSomeAnd after (λ new. TakesNext room n old new buf)) →
    IfSome before (λ all. IsSomeAnd after (λ rest. all ≡ take n buf ++ rest))
piece_read None after room n buf h = tt
piece_read (Some old) None room n buf h = h
piece_read (Some old) (Some new) room n buf h = sym (take-append-drop n old) ∙ ap₂ (λ (a b : List ℕ). a ++ b) (sym h.bytes) (sym h.rest)

-- a read that took nothing was at the end
pub nothing_read : (before after : Option (List ℕ)) (room n : ℕ) (buf : List ℕ) → 0 < room → IfSome before (λ old. IsSomeAnd after (λ new. TakesNext room n old new buf)) →
    n ≡ 0 → IfSome before (λ all. all ≡ [])
nothing_read None after room n buf some h e = tt
nothing_read (Some old) None room n buf some h e = absurd h
nothing_read (Some old) (Some new) room n buf some h e = (h.nothing_at_end some).0 e

-- a piece was fed to a reader that stopped
pub feeds_no_more : {K : Type 0} (shelf : Shelf.Ghosts K) (before after : K) (room : ℕ) (reader fed_reader : Reading) (piece : List ℕ) (stop : ReadStop) →
    Feeds shelf before after room reader fed_reader piece → fed_reader.so_far ≡ Err stop → FeedsNext shelf before after room reader fed_reader (Err (file_stop stop))
feeds_no_more shelf before after room reader fed_reader piece NoMemory h e = h.count
feeds_no_more shelf before after room reader fed_reader piece (Fault refusal) h e = (piece, h, stopped_by fed_reader (Fault refusal) e)

-- ---- the loop

-- what was read and fed so far, and what is kept of the triples that were taken
pub record HasFed {K : Type 0} (shelf : Shelf.Ghosts K) (old now : K) (limits : Limits) (reader : Reading) (Kept : List Triple → Type 0) (taken : List Triple) (seen : List ℕ) : Type 0 where
  pub read : WereRead shelf old now seen
  pub has : HasRead reader taken seen
  pub stand : Kept taken
  pub same : reader.limits ≡ limits
  pub not_refused : IsOpen limits seen

-- how many bytes a reader may still take
abbrev pub left_of : ℕ → Result Front ReadStop → ℕ
left_of most (Ok front) = most - front.bytes
left_of most (Err stop) = 0

fewer : (limits later : Limits) (before after : Result Front ReadStop) (taken more : List Triple) (seen piece : List ℕ) → later ≡ limits → IsOk before → IsOk after →
    IsSo (HasCome limits taken seen) before → IsSo (HasCome later more (seen ++ piece)) after → 0 < length piece → left_of later.bytes after < left_of limits.bytes before
fewer limits later (Ok b) (Ok a) taken more seen piece same ok still h k some =
    omega (arith, ap (λ (l : Limits). l.bytes) same, h.count, k.count, k.within, length-append seen piece)
fewer limits later (Err stop) after taken more seen piece same ok still h k some = absurd (cc)
fewer limits later (Ok b) (Err stop) taken more seen piece same ok still h k some = absurd (cc)

-- after a piece they are fewer
pub fewer_left : (before after : Reading) (taken more : List Triple) (seen piece : List ℕ) → after.limits ≡ before.limits → IsOk before.so_far → IsOk after.so_far →
    HasRead before taken seen → HasRead after more (seen ++ piece) → 0 < length piece → left_of after.limits.bytes after.so_far < left_of before.limits.bytes before.so_far
fewer_left before after taken more seen piece same ok still h k some = fewer before.limits after.limits before.so_far after.so_far taken more seen piece same ok still h k some

-- the triples that were taken are numbered
pub fed_taken : {K : Type 0} (shelf : Shelf.Ghosts K) (old now : K) (limits : Limits) (before after : Reading) (Kept Later : List Triple → Type 0) (taken triples : List Triple) (seen : List ℕ) →
    HasFed shelf old now limits before Kept taken seen → after.limits ≡ before.limits →
    ((done : List Triple) (bytes : List ℕ) → HasRead before done bytes → HasRead after (done ++ triples) bytes) →
    ((done : List Triple) → Kept done → Later (done ++ triples)) → HasFed shelf old now limits after Later (taken ++ triples) seen
fed_taken shelf old now limits before after Kept Later taken triples seen h same takes adds = record {
  read = h.read;
  has = takes taken seen h.has;
  stand = adds taken h.stand;
  same = same ∙ h.same;
  not_refused = h.not_refused;
}

-- rows that go on with nothing, and rows that go on twice
pub go_on_none : (rows : Rows) → GoOn rows rows []
go_on_none rows = λ before stand. subst (StandFor rows) (sym (append-nil before)) stand

pub go_on_twice : (old mid new : Rows) (taken more : List Triple) → GoOn old mid taken → GoOn mid new more → GoOn old new (taken ++ more)
go_on_twice old mid new taken more go on = λ before stand. subst (StandFor new) (append_assoc before taken more) (on (before ++ taken) (go before stand))

-- the names with those of the triples that were taken are few
pub taken_few : (reader : Reading) (old rows : Rows) (taken triples : List Triple) (seen : List ℕ) → IsOk reader.so_far → LeaveRoom old reader.limits.triples →
    GoOn old rows taken → HasRead reader (taken ++ triples) seen → length rows.names + 3 * length triples < 2 ^ 32
taken_few reader old rows taken triples seen running room go h =
    let a = came_few reader.limits reader.so_far (taken ++ triples) seen running h in
    let b = length-append taken triples in
    let c = length-append room.0 taken in
    let d = room.2 in
    let n = names_few rows (room.0 ++ taken) (go room.0 room.1) in
    omega arith

-- before the first batch
pub fed_none : {K : Type 0} (shelf : Shelf.Ghosts K) (now : K) (reader : Reading) (rows : Rows) → HasRead reader [] [] → HasFed shelf now now reader.limits reader (GoOn rows rows) [] []
fed_none shelf now reader rows fresh = record {
  read = were_read_none shelf now;
  has = fresh;
  stand = go_on_none rows;
  same = refl;
  not_refused = nothing_open reader.limits;
}

-- ---- a batch

pub feeds_none : {K : Type 0} (shelf : Shelf.Ghosts K) (now : K) (reader : Reading) → FeedsOn shelf now now reader reader []
feeds_none shelf now reader = record {
  count = refl;
  read = were_read_none shelf now;
  fed = λ taken seen h. subst (HasRead reader taken) (sym (append-nil seen)) h;
}

pub open_none : (reader : Reading) → StaysOpen reader []
open_none reader = λ taken seen h unrefused. subst (IsOpen reader.limits) (sym (append-nil seen)) unrefused

module _ {K : Type 0} (shelf : Shelf.Ghosts K) (old mid new : K) (room : ℕ) (first before after : Reading) (gone : List ℕ)
    (so_far : FeedsOn shelf old mid first before gone) (same : before.limits ≡ first.limits) where
  -- one piece more
  pub feeds_more : (piece : List ℕ) → Feeds shelf mid new room before after piece → FeedsOn shelf old new first after (gone ++ piece)
  feeds_more piece next = record {
    count = next.count ∙ so_far.count;
    read = were_read_more shelf old mid new gone piece so_far.read next.read;
    fed = λ taken seen h. subst (HasRead after taken) (append_assoc seen gone piece) (next.fed taken (seen ++ gone) (so_far.fed taken seen h));
  }

  pub open_more : (piece : List ℕ) → ((taken : List Triple) (seen : List ℕ) → HasRead before taken seen → IsOpen before.limits (seen ++ piece)) → StaysOpen first (gone ++ piece)
  open_more piece next = λ taken seen h unrefused. subst (λ l. IsOpen l (seen ++ (gone ++ piece))) same (subst (IsOpen before.limits) (append_assoc seen gone piece) (next taken (seen ++ gone) (so_far.fed taken seen h)))

  -- and none more
  pub batch_stops : (stop : Stop (FileFault ReadRefusal)) → room ≤ 65536 → after.limits ≡ before.limits → StaysOpen first gone → FeedsNext shelf mid new room before after (Err stop) → FeedsBatch shelf old new first after (Err stop)
  batch_stops NoMemory few e stays next = next ∙ so_far.count
  batch_stops (Fault Failed) few e stays next = (subst (λ n. Rose n (shelf.faults new)) so_far.count next.0, next.1)
  batch_stops (Fault (Refused refusal)) few e stays next =
      let piece = next.0 in
      let more = feeds_more piece next.1 in
      let inside = next.1.within in (
        gone ++ piece,
        more,
        λ taken seen h o. (
          subst (λ l. Refuses l (seen ++ (gone ++ piece)) refusal) (e ∙ same) (next.2 taken (seen ++ (gone ++ piece)) (more.fed taken seen h)),
          subst (λ (bytes : List ℕ). (n : ℕ) → n + 65536 ≤ length bytes → IsOpen first.limits (take n bytes)) (append_assoc seen gone piece)
              (open_before first.limits (seen ++ gone) piece (stays taken seen h o) (omega arith)),
        ),
      )

  -- the pieces were all that was left
  pub batch_ends : (n : ℕ) (next : FeedsNext shelf mid new room before after (Ok n)) → n ≡ 0 → FeedsBatch shelf old new first after (Ok true)
  batch_ends n next z = (
    gone ++ next.0,
    feeds_more next.0 next.1,
    open_more next.0 next.3,
    next.4,
    all_fed (shelf.rest old) (shelf.rest mid) gone next.0 so_far.read (next.5 z) (sym next.2 ∙ z),
  )

-- what was left is all that was read
all_read : (before after : Option (List ℕ)) (seen gone : List ℕ) → IfSome before (λ all. IsSomeAnd after (λ r. all ≡ seen ++ r)) → IfSome after (λ r. r ≡ gone) →
    IfSome before (λ all. all ≡ seen ++ gone)
all_read None after seen gone h k = tt
all_read (Some all) None seen gone h k = absurd h
all_read (Some all) (Some rest) seen gone h k = h ∙ ap (λ r. seen ++ r) k

-- how many bytes a reader may still take, and 1 more before the end of the file
abbrev pub left_before : Reading → Bool → ℕ
left_before reader true = left_of reader.limits.bytes reader.so_far
left_before reader false = left_of reader.limits.bytes reader.so_far + 1

no_more : (limits later : Limits) (before after : Result Front ReadStop) (taken more : List Triple) (seen piece : List ℕ) → later ≡ limits → IsOk before → IsOk after →
    IsSo (HasCome limits taken seen) before → IsSo (HasCome later more (seen ++ piece)) after → left_of later.bytes after ≤ left_of limits.bytes before
no_more limits later (Ok b) (Ok a) taken more seen piece same ok still h k =
    omega (arith, ap (λ (l : Limits). l.bytes) same, h.count, k.count, k.within, length-append seen piece)
no_more limits later (Err stop) after taken more seen piece same ok still h k = absurd (cc)
no_more limits later (Ok b) (Err stop) taken more seen piece same ok still h k = absurd (cc)

module _ {K : Type 0} (shelf : Shelf.Ghosts K) (old mid new : K) (limits : Limits) (before after : Reading) (Kept : List Triple → Type 0) (taken : List Triple) (seen : List ℕ)
    (so_far : HasFed shelf old mid limits before Kept taken seen) (same : after.limits ≡ before.limits) where
  open_here : IsOpen before.limits seen
  open_here = subst (λ l. IsOpen l seen) (sym so_far.same) so_far.not_refused

  -- one batch more
  pub batch_more : (at_end : Bool) (next : FeedsBatch shelf mid new before after (Ok at_end)) → HasFed shelf old new limits after Kept taken (seen ++ next.0)
  batch_more at_end next = record {
    read = were_read_more shelf old mid new seen next.0 so_far.read next.1.read;
    has = next.1.fed taken seen so_far.has;
    stand = so_far.stand;
    same = same ∙ so_far.same;
    not_refused = subst (λ l. IsOpen l (seen ++ next.0)) so_far.same (next.2 taken seen so_far.has open_here);
  }

  pub batch_all : (at_end : Bool) (next : FeedsBatch shelf mid new before after (Ok at_end)) → IsTrue at_end → AreAll shelf old (seen ++ next.0)
  batch_all true next ended = all_read (shelf.rest old) (shelf.rest mid) seen next.0 so_far.read next.4
  batch_all false next ended = absurd (cc)

  -- the file is not read on
  pub batch_no_more : shelf.faults mid ≡ shelf.faults old → (stop : Stop (FileFault ReadRefusal)) (Left : List Triple → Type 0) → FeedsBatch shelf mid new before after (Err stop) →
      FeedsAll {A = Unit {0}} shelf old new limits after Left (Err stop)
  batch_no_more count NoMemory Left next = next ∙ count
  batch_no_more count (Fault Failed) Left next = (subst (λ n. Rose n (shelf.faults new)) count next.0, next.1)
  batch_no_more count (Fault (Refused refusal)) Left next =
      let r = next.2 taken seen so_far.has open_here in (
        next.1.count ∙ count,
        (
          seen ++ next.0,
          were_read_more shelf old mid new seen next.0 so_far.read next.1.read,
          subst (λ l. Refuses l (seen ++ next.0) refusal) so_far.same r.0,
          λ n long. subst (λ l. IsOpen l (take n (seen ++ next.0))) so_far.same (r.1 n long),
        ),
      )

-- after a batch a reader may take fewer bytes, or the file is at its end
pub batch_smaller : (before after : Reading) (taken more : List Triple) (seen gone : List ℕ) (End : Type 0) (at_end : Bool) → after.limits ≡ before.limits → IsOk before.so_far → IsOk after.so_far →
    HasRead before taken seen → HasRead after more (seen ++ gone) → MatchBool at_end End (0 < length gone) → left_before after at_end < left_before before false
batch_smaller before after taken more seen gone End true same ok still h k ended =
    let a = no_more before.limits after.limits before.so_far after.so_far taken more seen gone same ok still h k in
    omega arith
batch_smaller before after taken more seen gone End false same ok still h k ended =
    let a = fewer_left before after taken more seen gone same ok still h k ended in
    omega arith

-- ---- the whole file

-- what is said of all bytes of a found file is said of its bytes
told_file : (held : Option (List (List ℕ × List ℕ))) (rest : Option (List ℕ)) (name : List ℕ) (P : List ℕ → Type 0) →
    IfSome held (λ files. rest ≡ Some (bytes_of files name)) → IfSome rest P → IfSome held (λ files. P (bytes_of files name))
told_file None rest name P e h = tt
told_file (Some files) rest name P e h = subst (λ o. IfSome o P) e h

refused_says : (limits : Limits) (bytes gone : List ℕ) (rest : Option (List ℕ)) (refusal : ReadRefusal) → Refuses limits gone refusal →
    IsSomeAnd rest (λ r. bytes ≡ gone ++ r) → FileSays limits bytes (Err refusal)
refused_says limits bytes gone None refusal h k = absurd k
refused_says limits bytes gone (Some rest) refusal h k = subst (λ b. FileSays limits b (Err refusal)) (sym k) (h.always rest)

stops_soon : (limits : Limits) (bytes gone : List ℕ) (rest : Option (List ℕ)) → ((n : ℕ) → n + 65536 ≤ length gone → IsOpen limits (take n gone)) →
    IsSomeAnd rest (λ r. bytes ≡ gone ++ r) → IsSomeAnd rest (λ r. StopsSoon limits bytes r)
stops_soon limits bytes gone None h k = k
stops_soon limits bytes gone (Some rest) h k = record { gone = gone; whole = k; soon = λ n refusal le. h n le refusal }

-- at its end the file has the triples that were taken and the last ones
pub finish_says : (reader : Reading) (last : List Triple) (limits : Limits) (taken : List Triple) (bytes : List ℕ) → reader.limits ≡ limits → HasRead reader taken bytes →
    ((done : List Triple) (seen : List ℕ) → HasRead reader done seen → IsSo (FinishSays reader.limits done seen) (Ok last)) → FileSays limits bytes (Ok (taken ++ last))
finish_says reader last limits taken bytes e h says = subst (λ l. FileSays l bytes (Ok (taken ++ last))) e (says taken bytes h)

module _ {K : Type 0} (shelf : Shelf.Ghosts K) (old mid new : K) (limits : Limits) (name : List ℕ) (count : shelf.faults mid ≡ shelf.faults old)
    (asked : shelf.asked new ≡ Some name) (found : IfSome (shelf.held old) (λ files. shelf.rest mid ≡ Some (bytes_of files name))) where
  -- the graph was read so far, and no more than had to be
  graph_stops : (gone : List ℕ) → WereRead shelf mid new gone → ((n : ℕ) → n + 65536 ≤ length gone → IsOpen limits (take n gone)) → GraphStops shelf old new limits name
  graph_stops gone read soon = (
    asked,
    told_more (shelf.held old) _ _ (λ files k. stops_soon limits (bytes_of files name) gone (shelf.rest new) soon k)
        (told_file (shelf.held old) (shelf.rest mid) name (λ all. IsSomeAnd (shelf.rest new) (λ r. all ≡ gone ++ r)) found read),
  )

  -- it was not read to its end
  pub gives_no_more : (stop : Stop (FileFault ReadRefusal)) (seen : Limits) (after : Reading) (Kept : List Triple → Type 0) → seen ≡ limits → FeedsAll {A = Unit {0}} shelf mid new seen after Kept (Err stop) →
      StopsAtGraph shelf old new limits name stop
  gives_no_more NoMemory seen after Kept e h = h ∙ count
  gives_no_more (Fault Failed) seen after Kept e h = record {
    rose = subst (λ n. Rose n (shelf.faults new)) count h.0;
    asked_for = asked;
    is_bad = h.1;
  }
  gives_no_more (Fault (Refused refusal)) seen after Kept e h =
      let k = subst (λ l. FeedsAll {A = Unit {0}} shelf mid new l after Kept (Err (Fault (Refused refusal)))) e h in (
        k.0 ∙ count,
        told_more (shelf.held old) _ _ (λ files r. refused_says limits (bytes_of files name) k.1.0 (shelf.rest new) refusal k.1.2 r)
            (told_file (shelf.held old) (shelf.rest mid) name (λ all. IsSomeAnd (shelf.rest new) (λ r. all ≡ k.1.0 ++ r)) found k.1.1),
        graph_stops k.1.0 k.1.1 k.1.3,
      )

  -- it was read to its end, and then refused
  pub gives_nothing : (stop : ReadStop) (seen : Limits) (after : Reading) (Kept : List Triple → Type 0) → seen ≡ limits → after.limits ≡ seen → FeedsAll {A = Unit {0}} shelf mid new seen after Kept (Ok tt) →
      ((taken : List Triple) (bytes : List ℕ) → HasRead after taken bytes → IsSo (FinishSays after.limits taken bytes) (Err stop)) → StopsAtGraph shelf old new limits name (file_stop stop)
  gives_nothing NoMemory seen after Kept e same h says = h.0 ∙ count
  gives_nothing (Fault refusal) seen after Kept e same h says =
      let gone = h.1.1 in
      let said : FileSays limits gone (Err refusal) = subst (λ l. FileSays l gone (Err refusal)) (same ∙ e) (says h.1.0 gone h.1.5) in (
        h.0 ∙ count,
        told_more (shelf.held old) _ _ (λ files k. subst (λ b. FileSays limits b (Err refusal)) (sym k) said)
            (told_file (shelf.held old) (shelf.rest mid) name (λ all. all ≡ gone) found h.1.3),
        graph_stops gone h.1.2 (λ n le. open_front limits gone (subst (λ l. IsOpen l gone) e h.1.4) n),
      )

  module _ (triples : List Triple) (seen : Limits) (after : Reading) (before rows : Rows) (e : seen ≡ limits) (same : after.limits ≡ seen) (h : FeedsAll {A = Unit {0}} shelf mid new seen after (GoOn before rows) (Ok tt))
      (says : FileSays limits h.1.1 (Ok (h.1.0 ++ triples))) where
    -- the last triples are few
    pub last_few : LeaveRoom before limits.triples → length rows.names + 3 * length triples < 2 ^ 32
    last_few room =
        let a = names_few rows (room.0 ++ h.1.0) (h.1.6 room.0 room.1) in
        let b = length-append h.1.0 triples in
        let c = says.2 in
        let d = length-append room.0 h.1.0 in
        let f = room.2 in
        omega arith

    -- it was read to its end
    pub reads_behind : (more : Rows) → GoOn rows more triples → ReadsBehind {A = Unit {0}} shelf old new limits name before more (Ok tt)
    reads_behind more adds = (
      h.0 ∙ count,
      (
        h.1.0 ++ triples,
        go_on_twice before rows more h.1.0 triples h.1.6 adds,
        says.2,
        told_more (shelf.held old) _ _ (λ files k. subst (λ b. FileSays limits b (Ok (h.1.0 ++ triples))) (sym k) says)
            (told_file (shelf.held old) (shelf.rest mid) name (λ all. all ≡ h.1.1) found h.1.3),
      ),
    )

-- what was read behind no rows is what the file gives
pub gives_rows : {K : Type 0} (shelf : Shelf.Ghosts K) (before after : K) (limits : Limits) (name : List ℕ) (old new : Rows) → StandFor old [] →
    ReadsBehind {A = Unit {0}} shelf before after limits name old new (Ok tt) → GivesRows shelf before after limits name (Ok new)
gives_rows shelf before after limits name old new empty h = (h.0, (h.1.0, record { stand = h.1.1 [] empty; few = h.1.2; says = h.1.3 }))
