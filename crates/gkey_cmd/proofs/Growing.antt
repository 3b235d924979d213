-- How `grow` ends, from what was read.
use Rattle.std.proofs.Common.{List, [], ◌∷◌, ◌++◌, ℕ, Some, Result, Ok, Err, IfSome, MatchResult, Vec, Global, vec_items, ◌≡◌, inr, refl, sym, subst}
use Rattle.gk_base.specs.declared.limits.Limits.{Limits}
use Rattle.gk_base.specs.declared.read_fault.ReadRefusal.{ReadRefusal}
use Rattle.gk_base.specs.declared.stop.Stop.{Stop}
use Rattle.gk_base.specs.declared.stop.Stop.TheVariants as stop
use Rattle.gk_base.specs.declared.term.Triple.{Triple}
use Rattle.gk_io.specs.Files.{bytes_of}
use Rattle.gk_io.specs.declared.file_fault.FileFault.{FileFault}
use Rattle.gk_io.specs.declared.file_fault.FileFault.TheVariants as fault
use Rattle.gk_io.specs.declared.shelf.Shelf
use Rattle.key_file.specs.KeyShape.{KeyShape}
use Rattle.key_lang.proofs.CallerLemmas.{keys_once}
use Rattle.graph_rows.specs.GraphFile.{StopsAtGraph}
use Rattle.graph_rows.proofs.CallerLemmas.{told_more, told_both}
use Rattle.gkey_cmd.specs.Commands.{Growing}
use Rattle.gkey_cmd.specs.Reading.{NamedFiles, GraphSays, KeyFileSays, left_by, IsAcceptedLeaving, AllAccepted}
use Rattle.gkey_cmd.specs.HowFar.{KeysLeft, StopsReading}
use Rattle.gkey_cmd.specs.Match.{IsReport, HasTooManyPairs}
use Rattle.gkey_cmd.specs.Written.{GrowthHasMorePairs, IsAnswered, IsRefused}
use Rattle.gkey_cmd.specs.ChaseEnds.{ChaseEnds}
use Rattle.gkey_cmd.specs.Endings.{more_ending, Stopped, StopsAt, EndsAt, ReadSoFar}
use Rattle.gkey_cmd.specs.declared.file.File.TheVariants.{Graph, More, Keys}
use Rattle.gkey_cmd.specs.declared.ending.Answer.TheVariants.{Given}
use Rattle.gkey_cmd.specs.declared.ending.Refusal.{Refusal}
use Rattle.gkey_cmd.specs.declared.ending.Refusal.TheVariants.{InGraph, InMore, InKeys, InProof, NoSuchEntity, MorePairsThan}
use Rattle.gkey_cmd.specs.declared.ending.Ending.{Ending}
use Rattle.gkey_cmd.specs.declared.ending.Ending.TheVariants.{NoCommand, Failed, Refused, NoMemory, Done}
use Rattle.gkey_cmd.proofs.RefusedOnce.{same_triples}
use Rattle.gkey_cmd.proofs.Deciding.{read_next}

-- an added graph is not to be had, and the run ends at it
pub more_ends : {K : Type 0} (shelf : Shelf.Ghosts K) (before after : K) (limits : Limits) (name : List ℕ) (stop : Stop (FileFault ReadRefusal)) →
    StopsAtGraph shelf before after limits name stop → EndsAt shelf before after limits More name (more_ending stop)
more_ends shelf before after limits name stop.NoMemory h = h
more_ends shelf before after limits name (stop.Fault fault.Failed) h = (refl, h)
more_ends shelf before after limits name (stop.Fault (fault.Refused refusal)) h = (h.0, h.1, h.2)

-- ---- how far a refused growth read

module _ {K : Type 0} (shelf : Shelf.Ghosts K) (old new : K) (limits : Limits) (graph more keys : List ℕ) where
  pub grow_stops_at_graph : (refusal : Refusal) → StopsAt shelf old new limits Graph graph refusal → StopsReading shelf old new (Some (Growing graph more keys)) limits refusal
  grow_stops_at_graph (InGraph refusal) h = h
  grow_stops_at_graph (InMore refusal) h = absurd h
  grow_stops_at_graph (InKeys refusal) h = absurd h
  grow_stops_at_graph (InProof refusal) h = absurd h
  grow_stops_at_graph (NoSuchEntity asked) h = absurd h
  grow_stops_at_graph (MorePairsThan limit) h = absurd h

  pub grow_stops_at_more : (triples : List Triple) → IfSome (shelf.held old) (λ files. GraphSays limits (bytes_of files graph) (Ok triples)) →
      (refusal : Refusal) → StopsAt shelf old new (left_by limits triples) More more refusal → StopsReading shelf old new (Some (Growing graph more keys)) limits refusal
  grow_stops_at_more triples says (InGraph refusal) h = absurd h
  grow_stops_at_more triples says (InMore refusal) h = (triples, says, h)
  grow_stops_at_more triples says (InKeys refusal) h = absurd h
  grow_stops_at_more triples says (InProof refusal) h = absurd h
  grow_stops_at_more triples says (NoSuchEntity asked) h = absurd h
  grow_stops_at_more triples says (MorePairsThan limit) h = absurd h

  pub grow_stops_at_keys : (refusal : Refusal) → StopsAt shelf old new limits Keys keys refusal → StopsReading shelf old new (Some (Growing graph more keys)) limits refusal
  grow_stops_at_keys (InGraph refusal) h = absurd h
  grow_stops_at_keys (InMore refusal) h = absurd h
  grow_stops_at_keys (InKeys refusal) h = h
  grow_stops_at_keys (InProof refusal) h = absurd h
  grow_stops_at_keys (NoSuchEntity asked) h = absurd h
  grow_stops_at_keys (MorePairsThan limit) h = absurd h

-- the graph and the one that is added to it were read, and are accepted
pub more_read : {K : Type 0} (shelf : Shelf.Ghosts K) (old mid new : K) (limits : Limits) (graph more : List ℕ) (triples added : List Triple) →
    ReadSoFar shelf old mid limits ((Graph, graph) ∷ []) (left_by limits triples) →
    IfSome (shelf.held mid) (λ files. GraphSays (left_by limits triples) (bytes_of files more) (Ok added)) → shelf.faults new ≡ shelf.faults mid → shelf.held new ≡ shelf.held mid →
    ReadSoFar shelf old new limits ((Graph, graph) ∷ (More, more) ∷ []) (left_by (left_by limits triples) added)
more_read shelf old mid new limits graph more triples added one says count same =
    let left = left_by limits triples in
    read_next shelf old mid new limits left ((Graph, graph) ∷ []) More more one (left_by left added)
    (told_more (shelf.held mid) (λ files. GraphSays left (bytes_of files more) (Ok added)) (λ files. IsAcceptedLeaving left files More more (left_by left added))
    (λ files h. (added, h, refl)) says) count same

-- ---- a growth whose files are read

module _ (limits : Limits) (files : NamedFiles) (graph more keys : List ℕ) (triples added : List Triple) (key_list : List KeyShape) (in_graph : GraphSays limits (bytes_of files graph) (Ok triples))
    (in_more : GraphSays (left_by limits triples) (bytes_of files more) (Ok added)) (in_keys : KeyFileSays limits (bytes_of files keys) (Ok key_list)) where
  three_accepted : AllAccepted limits files ((Graph, graph) ∷ (More, more) ∷ (Keys, keys) ∷ [])
  three_accepted =
      let left = left_by limits triples in
      let last = left_by left added in
      (left, (triples, in_graph, refl), (last, (added, in_more, refl), (last, (key_list, in_keys, refl), tt)))

  more_pairs_only_here : GrowthHasMorePairs limits files graph more keys → HasTooManyPairs (triples ++ added) key_list limits.pairs
  more_pairs_only_here h =
      let one : h.0 ≡ triples = same_triples limits (bytes_of files graph) h.0 triples h.3 in_graph in
      let in_more_there = subst (λ ts. GraphSays (left_by limits ts) (bytes_of files more) (Ok h.1)) one h.4 in
      let two : h.1 ≡ added = same_triples (left_by limits triples) (bytes_of files more) h.1 added in_more_there in_more in
      let three : Ok h.2 ≡ Ok key_list = keys_once limits.key_bytes (bytes_of files keys) (Ok h.2) (Ok key_list) h.5 in_keys in
      let same_keys : h.2 ≡ key_list = cc in
      subst (λ ts. HasTooManyPairs (ts ++ added) key_list limits.pairs) one
      (subst (λ us. HasTooManyPairs (h.0 ++ us) key_list limits.pairs) two (subst (λ q. HasTooManyPairs (h.0 ++ h.1) q limits.pairs) same_keys h.6))

  grow_answered : (text : List ℕ) → IsReport (triples ++ added) key_list text → ¬ (HasTooManyPairs (triples ++ added) key_list limits.pairs) → IsAnswered (Some (Growing graph more keys)) files limits Given text
  grow_answered text report none_more = ((three_accepted, tt, (λ h. none_more (more_pairs_only_here h))), (triples, added, key_list, in_graph, in_more, in_keys, report))

  grow_refused : HasTooManyPairs (triples ++ added) key_list limits.pairs → IsRefused (Some (Growing graph more keys)) files limits (MorePairsThan limits.pairs)
  grow_refused h = inr (three_accepted, (tt, (triples, added, key_list, in_graph, in_more, in_keys, h), refl))

module _ {K : Type 0} (shelf : Shelf.Ghosts K) (old new : K) (limits : Limits) (graph more keys : List ℕ) (triples added : List Triple) (key_list : List KeyShape) (count : shelf.faults new ≡ shelf.faults old)
    (in_graph : IfSome (shelf.held old) (λ files. GraphSays limits (bytes_of files graph) (Ok triples))) (in_more : IfSome (shelf.held old) (λ files. GraphSays (left_by limits triples) (bytes_of files more) (Ok added)))
    (in_keys : IfSome (shelf.held old) (λ files. KeyFileSays limits (bytes_of files keys) (Ok key_list))) (left : KeysLeft shelf old new limits keys) where
  -- what the three files are together
  of_three : (P : NamedFiles → Type 0) →
      ((files : NamedFiles) → GraphSays limits (bytes_of files graph) (Ok triples) → GraphSays (left_by limits triples) (bytes_of files more) (Ok added) → KeyFileSays limits (bytes_of files keys) (Ok key_list) → P files) →
      IfSome (shelf.held old) P
  of_three P f = told_both (shelf.held old) (λ files. GraphSays limits (bytes_of files graph) (Ok triples))
      (λ files. GraphSays (left_by limits triples) (bytes_of files more) (Ok added) × KeyFileSays limits (bytes_of files keys) (Ok key_list)) P
      (λ files g mk. f files g mk.0 mk.1) in_graph
      (told_both (shelf.held old) (λ files. GraphSays (left_by limits triples) (bytes_of files more) (Ok added)) (λ files. KeyFileSays limits (bytes_of files keys) (Ok key_list)) _
      (λ files m k. (m, k)) in_more in_keys)

  pub grow_ended : (result : Result (Vec ℕ Global) Ending) → ChaseEnds IsReport (triples ++ added) key_list limits.pairs result →
      MatchResult result (λ text. Stopped shelf old new (Growing graph more keys) limits (Done Given text)) (Stopped shelf old new (Growing graph more keys) limits)
  grow_ended (Ok text) h = (
    count,
    of_three (λ files. IsAnswered (Some (Growing graph more keys)) files limits Given (vec_items text))
        (λ files g m k. grow_answered limits files graph more keys triples added key_list g m k (vec_items text) h.0 h.1),
    left,
  )
  grow_ended (Err (Refused refusal)) h = (
    count,
    subst (λ r. IfSome (shelf.held old) (λ files. IsRefused (Some (Growing graph more keys)) files limits r)) (sym h.0)
        (of_three (λ files. IsRefused (Some (Growing graph more keys)) files limits (MorePairsThan limits.pairs))
        (λ files g m k. grow_refused limits files graph more keys triples added key_list g m k h.1)),
    subst (λ r. StopsReading shelf old new (Some (Growing graph more keys)) limits r) (sym h.0) left,
  )
  grow_ended (Err NoMemory) h = count
  grow_ended (Err NoCommand) h = absurd h
  grow_ended (Err (Failed file)) h = absurd h
  grow_ended (Err (Done answer text)) h = absurd h
