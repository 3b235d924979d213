-- A file is accepted, or refused in one way, and so is a command.
use Rattle.std.proofs.Common.{List, [], ◌∷◌, ℕ, Some, Ok, Err, ◌≡◌, ◌∙◌, inl, inr, refl, sym, ap, subst}
use Rattle.gk_base.specs.declared.limits.Limits.{Limits}
use Rattle.gk_base.specs.declared.term.Triple.{Triple}
use Rattle.gk_io.specs.Files.{bytes_of}
use Rattle.nt_reader.proofs.CallerLemmas.{file_once}
use Rattle.key_lang.proofs.CallerLemmas.{keys_once}
use Rattle.proof_file.proofs.CallerLemmas.{proof_once}
use Rattle.gkey_cmd.specs.Commands.{Wanted, Matching, Proving, Checking, Converting, Demonstrating, Merging, Explaining, Growing, Helping, TellingVersion, files_of}
use Rattle.gkey_cmd.specs.Reading.{NamedFiles, GraphSays, left_by, IsAcceptedLeaving, IsRefusedSo, AllAccepted, FirstRefused}
use Rattle.gkey_cmd.specs.Entities.{NamesOne}
use Rattle.gkey_cmd.specs.Written.{HasMorePairs, LacksEntity, HasEntities, IsRefusedAfter, IsRefused, AreAccepted}
use Rattle.gkey_cmd.specs.declared.file.File.{File}
use Rattle.gkey_cmd.specs.declared.file.File.TheVariants.{Graph, More, Keys, Proof}
use Rattle.gkey_cmd.specs.declared.ending.Asked.{Asked}
use Rattle.gkey_cmd.specs.declared.ending.Asked.TheVariants.{First, Second}
use Rattle.gkey_cmd.specs.declared.ending.Refusal.{Refusal}
use Rattle.gkey_cmd.specs.declared.ending.Refusal.TheVariants.{InGraph, InMore, InKeys, InProof, NoSuchEntity, MorePairsThan}

-- ---- a file is accepted, or refused in one way

refused_once : (limits : Limits) (files : NamedFiles) (file : File) (name : List ℕ) (r s : Refusal) → IsRefusedSo limits files file name r → IsRefusedSo limits files file name s → r ≡ s
refused_once limits files Graph name (InGraph r) (InGraph s) h k =
    let one : Err r ≡ Err s = file_once limits (bytes_of files name) (Err r) (Err s) h k in
    let same : r ≡ s = cc in ap InGraph same
refused_once limits files Graph name (InGraph r) (InMore s) h k = absurd k
refused_once limits files Graph name (InGraph r) (InKeys s) h k = absurd k
refused_once limits files Graph name (InGraph r) (InProof s) h k = absurd k
refused_once limits files Graph name (InGraph r) (NoSuchEntity s) h k = absurd k
refused_once limits files Graph name (InGraph r) (MorePairsThan s) h k = absurd k
refused_once limits files Graph name (InMore r) s h k = absurd h
refused_once limits files Graph name (InKeys r) s h k = absurd h
refused_once limits files Graph name (InProof r) s h k = absurd h
refused_once limits files Graph name (NoSuchEntity r) s h k = absurd h
refused_once limits files Graph name (MorePairsThan r) s h k = absurd h
refused_once limits files More name (InMore r) (InMore s) h k =
    let one : Err r ≡ Err s = file_once limits (bytes_of files name) (Err r) (Err s) h k in
    let same : r ≡ s = cc in ap InMore same
refused_once limits files More name (InMore r) (InGraph s) h k = absurd k
refused_once limits files More name (InMore r) (InKeys s) h k = absurd k
refused_once limits files More name (InMore r) (InProof s) h k = absurd k
refused_once limits files More name (InMore r) (NoSuchEntity s) h k = absurd k
refused_once limits files More name (InMore r) (MorePairsThan s) h k = absurd k
refused_once limits files More name (InGraph r) s h k = absurd h
refused_once limits files More name (InKeys r) s h k = absurd h
refused_once limits files More name (InProof r) s h k = absurd h
refused_once limits files More name (NoSuchEntity r) s h k = absurd h
refused_once limits files More name (MorePairsThan r) s h k = absurd h
refused_once limits files Keys name (InKeys r) (InKeys s) h k =
    let one : Err r ≡ Err s = keys_once limits.key_bytes (bytes_of files name) (Err r) (Err s) h k in
    let same : r ≡ s = cc in ap InKeys same
refused_once limits files Keys name (InKeys r) (InGraph s) h k = absurd k
refused_once limits files Keys name (InKeys r) (InMore s) h k = absurd k
refused_once limits files Keys name (InKeys r) (InProof s) h k = absurd k
refused_once limits files Keys name (InKeys r) (NoSuchEntity s) h k = absurd k
refused_once limits files Keys name (InKeys r) (MorePairsThan s) h k = absurd k
refused_once limits files Keys name (InGraph r) s h k = absurd h
refused_once limits files Keys name (InMore r) s h k = absurd h
refused_once limits files Keys name (InProof r) s h k = absurd h
refused_once limits files Keys name (NoSuchEntity r) s h k = absurd h
refused_once limits files Keys name (MorePairsThan r) s h k = absurd h
refused_once limits files Proof name (InProof r) (InProof s) h k =
    let one : Err r ≡ Err s = proof_once limits.bytes (bytes_of files name) (Err r) (Err s) h k in
    let same : r ≡ s = cc in ap InProof same
refused_once limits files Proof name (InProof r) (InGraph s) h k = absurd k
refused_once limits files Proof name (InProof r) (InMore s) h k = absurd k
refused_once limits files Proof name (InProof r) (InKeys s) h k = absurd k
refused_once limits files Proof name (InProof r) (NoSuchEntity s) h k = absurd k
refused_once limits files Proof name (InProof r) (MorePairsThan s) h k = absurd k
refused_once limits files Proof name (InGraph r) s h k = absurd h
refused_once limits files Proof name (InMore r) s h k = absurd h
refused_once limits files Proof name (InKeys r) s h k = absurd h
refused_once limits files Proof name (NoSuchEntity r) s h k = absurd h
refused_once limits files Proof name (MorePairsThan r) s h k = absurd h

not_both : (limits : Limits) (files : NamedFiles) (file : File) (name : List ℕ) (left : Limits) (r : Refusal) → IsRefusedSo limits files file name r → IsAcceptedLeaving limits files file name left → ⊥
not_both limits files Graph name left (InGraph r) h k =
    let one : Err r ≡ Ok k.0 = file_once limits (bytes_of files name) (Err r) (Ok k.0) h k.1 in cc
not_both limits files Graph name left (InMore r) h k = h
not_both limits files Graph name left (InKeys r) h k = h
not_both limits files Graph name left (InProof r) h k = h
not_both limits files Graph name left (NoSuchEntity r) h k = h
not_both limits files Graph name left (MorePairsThan r) h k = h
not_both limits files More name left (InMore r) h k =
    let one : Err r ≡ Ok k.0 = file_once limits (bytes_of files name) (Err r) (Ok k.0) h k.1 in cc
not_both limits files More name left (InGraph r) h k = h
not_both limits files More name left (InKeys r) h k = h
not_both limits files More name left (InProof r) h k = h
not_both limits files More name left (NoSuchEntity r) h k = h
not_both limits files More name left (MorePairsThan r) h k = h
not_both limits files Keys name left (InKeys r) h k =
    let one : Err r ≡ Ok k.0 = keys_once limits.key_bytes (bytes_of files name) (Err r) (Ok k.0) h k.1 in cc
not_both limits files Keys name left (InGraph r) h k = h
not_both limits files Keys name left (InMore r) h k = h
not_both limits files Keys name left (InProof r) h k = h
not_both limits files Keys name left (NoSuchEntity r) h k = h
not_both limits files Keys name left (MorePairsThan r) h k = h
not_both limits files Proof name left (InProof r) h k =
    let one : Err r ≡ Ok k.0 = proof_once limits.bytes (bytes_of files name) (Err r) (Ok k.0) h k.1 in cc
not_both limits files Proof name left (InGraph r) h k = h
not_both limits files Proof name left (InMore r) h k = h
not_both limits files Proof name left (InKeys r) h k = h
not_both limits files Proof name left (NoSuchEntity r) h k = h
not_both limits files Proof name left (MorePairsThan r) h k = h

-- a graph says one list of triples
pub same_triples : (limits : Limits) (bytes : List ℕ) (triples others : List Triple) → GraphSays limits bytes (Ok triples) → GraphSays limits bytes (Ok others) → triples ≡ others
same_triples limits bytes triples others h k = let one : Ok triples ≡ Ok others = file_once limits bytes (Ok triples) (Ok others) h k in cc

-- an accepted file leaves one thing of the limits
left_once : (limits : Limits) (files : NamedFiles) (file : File) (name : List ℕ) (a b : Limits) → IsAcceptedLeaving limits files file name a → IsAcceptedLeaving limits files file name b → a ≡ b
left_once limits files Graph name a b h k = h.2 ∙ ap (left_by limits) (same_triples limits (bytes_of files name) h.0 k.0 h.1 k.1) ∙ sym k.2
left_once limits files More name a b h k = h.2 ∙ ap (left_by limits) (same_triples limits (bytes_of files name) h.0 k.0 h.1 k.1) ∙ sym k.2
left_once limits files Keys name a b h k = h.2 ∙ sym k.2
left_once limits files Proof name a b h k = h.2 ∙ sym k.2

first_once : (limits : Limits) (files : NamedFiles) (list : List (File × List ℕ)) (r s : Refusal) → FirstRefused limits files list r → FirstRefused limits files list s → r ≡ s
first_once limits files [] r s h k = absurd h
first_once limits files (file ∷ others) r s (inl h) (inl k) = refused_once limits files file.0 file.1 r s h k
first_once limits files (file ∷ others) r s (inl h) (inr k) = absurd (not_both limits files file.0 file.1 k.0 r h k.1)
first_once limits files (file ∷ others) r s (inr h) (inl k) = absurd (not_both limits files file.0 file.1 h.0 s k h.1)
first_once limits files (file ∷ others) r s (inr h) (inr k) =
    first_once h.0 files others r s h.2 (subst (λ left. FirstRefused left files others s) (left_once limits files file.0 file.1 k.0 h.0 k.1 h.1) k.2)

not_accepted : (limits : Limits) (files : NamedFiles) (list : List (File × List ℕ)) (r : Refusal) → FirstRefused limits files list r → AllAccepted limits files list → ⊥
not_accepted limits files [] r h k = h
not_accepted limits files (file ∷ others) r (inl h) k = not_both limits files file.0 file.1 k.0 r h k.1
not_accepted limits files (file ∷ others) r (inr h) k =
    not_accepted h.0 files others r h.2 (subst (λ left. AllAccepted left files others) (left_once limits files file.0 file.1 k.0 h.0 k.1 h.1) k.2)

-- ---- words for entities

-- one of the words names no entity, or each names one
lacks_or_has : (limits : Limits) (files : NamedFiles) (command : Wanted) (asked : Asked) → LacksEntity limits files command asked → HasEntities limits files command → ⊥
lacks_or_has limits files (Matching graph keys) asked h k = h
lacks_or_has limits files (Proving graph keys) asked h k = h
lacks_or_has limits files (Checking graph keys proof) asked h k = h
lacks_or_has limits files (Converting proof) asked h k = h
lacks_or_has limits files (Demonstrating n) asked h k = h
lacks_or_has limits files (Merging graph keys) asked h k = h
lacks_or_has limits files (Explaining graph keys first second) First h k =
    h.2 (subst (λ ts. NamesOne ts first) (same_triples limits (bytes_of files graph) k.0 h.0 k.1 h.1) k.2)
lacks_or_has limits files (Explaining graph keys first second) Second h k =
    h.3 (subst (λ ts. NamesOne ts second) (same_triples limits (bytes_of files graph) k.0 h.0 k.1 h.1) k.3)
lacks_or_has limits files (Growing graph more keys) asked h k = h
lacks_or_has limits files Helping asked h k = h
lacks_or_has limits files TellingVersion asked h k = h

-- one word is the first that names none
asked_once : (limits : Limits) (files : NamedFiles) (command : Wanted) (one other : Asked) → LacksEntity limits files command one → LacksEntity limits files command other → one ≡ other
asked_once limits files (Matching graph keys) one other h k = absurd h
asked_once limits files (Proving graph keys) one other h k = absurd h
asked_once limits files (Checking graph keys proof) one other h k = absurd h
asked_once limits files (Converting proof) one other h k = absurd h
asked_once limits files (Demonstrating n) one other h k = absurd h
asked_once limits files (Merging graph keys) one other h k = absurd h
asked_once limits files (Explaining graph keys first second) First First h k = refl
asked_once limits files (Explaining graph keys first second) First Second h k =
    absurd (h.2 (subst (λ ts. NamesOne ts first) (same_triples limits (bytes_of files graph) k.0 h.0 k.1 h.1) k.2))
asked_once limits files (Explaining graph keys first second) Second First h k =
    absurd (k.2 (subst (λ ts. NamesOne ts first) (same_triples limits (bytes_of files graph) h.0 k.0 h.1 k.1) h.2))
asked_once limits files (Explaining graph keys first second) Second Second h k = refl
asked_once limits files (Growing graph more keys) one other h k = absurd h
asked_once limits files Helping one other h k = absurd h
asked_once limits files TellingVersion one other h k = absurd h

-- ---- a command is refused in one way

-- what comes after accepted files refuses in one way
after_once : (limits : Limits) (files : NamedFiles) (command : Wanted) (r s : Refusal) → IsRefusedAfter limits files command r → IsRefusedAfter limits files command s → r ≡ s
after_once limits files command (InGraph r) s h k = absurd h
after_once limits files command (InMore r) s h k = absurd h
after_once limits files command (InKeys r) s h k = absurd h
after_once limits files command (InProof r) s h k = absurd h
after_once limits files command (NoSuchEntity r) (InGraph s) h k = absurd k
after_once limits files command (NoSuchEntity r) (InMore s) h k = absurd k
after_once limits files command (NoSuchEntity r) (InKeys s) h k = absurd k
after_once limits files command (NoSuchEntity r) (InProof s) h k = absurd k
after_once limits files command (NoSuchEntity r) (NoSuchEntity s) h k = ap NoSuchEntity (asked_once limits files command r s h k)
after_once limits files command (NoSuchEntity r) (MorePairsThan n) h k = absurd (lacks_or_has limits files command r h k.0)
after_once limits files command (MorePairsThan n) (InGraph s) h k = absurd k
after_once limits files command (MorePairsThan n) (InMore s) h k = absurd k
after_once limits files command (MorePairsThan n) (InKeys s) h k = absurd k
after_once limits files command (MorePairsThan n) (InProof s) h k = absurd k
after_once limits files command (MorePairsThan n) (NoSuchEntity s) h k = absurd (lacks_or_has limits files command s k h.0)
after_once limits files command (MorePairsThan n) (MorePairsThan m) h k = ap MorePairsThan (h.2 ∙ sym k.2)

pub refusal_once : (limits : Limits) (files : NamedFiles) (command : Wanted) (r s : Refusal) → IsRefused (Some command) files limits r → IsRefused (Some command) files limits s → r ≡ s
refusal_once limits files command r s (inl h) (inl k) = first_once limits files (files_of command) r s h k
refusal_once limits files command r s (inl h) (inr k) = absurd (not_accepted limits files (files_of command) r h k.0)
refusal_once limits files command r s (inr h) (inl k) = absurd (not_accepted limits files (files_of command) s k h.0)
refusal_once limits files command r s (inr h) (inr k) = after_once limits files command r s h.1 k.1

-- nothing refuses it after accepted files where its words name entities and there are no more pairs than the limit
not_after : (limits : Limits) (files : NamedFiles) (command : Wanted) (r : Refusal) → IsRefusedAfter limits files command r → HasEntities limits files command → ¬ (HasMorePairs limits files command) → ⊥
not_after limits files command (InGraph r) h entities few = h
not_after limits files command (InMore r) h entities few = h
not_after limits files command (InKeys r) h entities few = h
not_after limits files command (InProof r) h entities few = h
not_after limits files command (NoSuchEntity r) h entities few = lacks_or_has limits files command r h entities
not_after limits files command (MorePairsThan n) h entities few = few h.1

-- it is not refused where it is accepted
pub not_refused : (limits : Limits) (files : NamedFiles) (command : Wanted) (r : Refusal) → IsRefused (Some command) files limits r → AreAccepted (Some command) files limits → ⊥
not_refused limits files command r (inl h) k = not_accepted limits files (files_of command) r h k.0
not_refused limits files command r (inr h) k = not_after limits files command r h.1 k.1 k.2
