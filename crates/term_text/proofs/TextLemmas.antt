-- Texts one behind another: a text stays what it is when more follow.
use Rattle.std.proofs.Common.{◌≡◌, ℕ, ◌+◌, ◌-◌, ◌<◌, ◌≤◌, List, [], ◌∷◌, ◌++◌, take, drop, length, get_or, refl, sym, ap, ◌∙◌, arith, append-nil, append_assoc}
use Rattle.std.specs.List.{slice_range}
use Rattle.std.proofs.lemmas.List.{take-append-le, drop-append-le, length-drop, take_all, take_more, map-append, length-append}
use Rattle.std.proofs.lemmas.List.Concat.{flat_map-append}
use Rattle.std.proofs.lemmas.List.Elements.{All-head, All-tail}
use Rattle.std.proofs.Math.Seq.{drop-append_seam}
use Rattle.term_text.specs.declared.member.Member.{Member}
use Rattle.term_text.specs.declared.member_texts.TextPlace.{TextPlace}
use Rattle.term_text.specs.MemberTexts.{member_of, members_of, AreWithin, joined_members}

-- a piece that ends within the bytes
piece_kept : (bytes more : List ℕ) (from to : ℕ) → from ≤ to → to ≤ length bytes → slice_range (bytes ++ more) from to ≡ slice_range bytes from to
piece_kept bytes more from to ordered within =
    let inside : to - from ≤ length (drop from bytes) = omega (arith, length-drop from bytes) in
    ap (take (to - from)) (drop-append-le from bytes more (omega arith)) ∙ take-append-le (to - from) (drop from bytes) more inside

-- the piece behind the bytes
pub piece_behind : (bytes more : List ℕ) (to : ℕ) → to ≡ length bytes + length more → slice_range (bytes ++ more) (length bytes) to ≡ more
piece_behind bytes more to ends =
    ap (take (to - length bytes)) (drop-append_seam bytes more) ∙ take_all (to - length bytes) more (omega (arith, ends))

pub members_kept : (bytes more : List ℕ) (places : List TextPlace) → AreWithin bytes places → members_of (bytes ++ more) places ≡ members_of bytes places
members_kept bytes more [] within = refl
members_kept bytes more (place ∷ places) within =
    let here = All-head (λ p. (p.from ≤ p.to) × (p.to ≤ length bytes)) place places within in
    ap (λ (t : List ℕ). let m : Member = record { text = t; label = place.label } in m ∷ members_of (bytes ++ more) places) (piece_kept bytes more place.from place.to here.0 here.1)
    ∙ ap (λ ms. member_of bytes place ∷ ms) (members_kept bytes more places (All-tail (λ p. (p.from ≤ p.to) × (p.to ≤ length bytes)) place places within))

-- one member more, whose text is put behind the others
pub member_pushed : (bytes text longer : List ℕ) (places more : List TextPlace) (place : TextPlace) → AreWithin bytes places → longer ≡ bytes ++ text → place.from ≡ length bytes → place.to ≡ length longer → more ≡ places ++ place ∷ [] → members_of longer more ≡ members_of bytes places ++ (record { text = text; label = place.label }) ∷ []
member_pushed bytes text longer places more place within grown begins ends listed =
    let end : place.to ≡ length bytes + length text = omega (arith, ends, ap length grown, length-append bytes text) in
    let piece : slice_range longer place.from place.to ≡ text = ap (λ l. slice_range l place.from place.to) grown ∙ (ap (λ n. slice_range (bytes ++ text) n place.to) begins ∙ piece_behind bytes text place.to end) in
    ap (members_of longer) listed
    ∙ (map-append (member_of longer) places (place ∷ [])
    ∙ (ap (λ (t : List ℕ). let m : Member = record { text = t; label = place.label } in members_of longer places ++ m ∷ []) piece
    ∙ ap (λ ms. let m : Member = record { text = text; label = place.label } in ms ++ m ∷ []) (ap (λ l. members_of l places) grown ∙ members_kept bytes text places within)))

-- one member more of those that are lent
pub member_lent : (bytes : List ℕ) (places : List TextPlace) (k : ℕ) (place : TextPlace) (old members longer : List Member) (text : List ℕ) → k < length places → place ≡ get_or places k place → text ≡ slice_range bytes place.from place.to → longer ≡ members ++ (record { text = text; label = place.label }) ∷ [] → members ≡ old ++ members_of bytes (take k places) → longer ≡ old ++ members_of bytes (take (k + 1) places)
member_lent bytes places k place old members longer text inside read piece pushed all =
    let more : take (k + 1) places ≡ take k places ++ place ∷ [] = take_more places k place inside ∙ ap (λ p. take k places ++ p ∷ []) (sym read) in
    pushed
    ∙ (ap (λ (t : List ℕ). let m : Member = record { text = t; label = place.label } in members ++ m ∷ []) piece
    ∙ (ap (λ ms. ms ++ member_of bytes place ∷ []) all
    ∙ (append_assoc old (members_of bytes (take k places)) (member_of bytes place ∷ [])
    ∙ ap (λ ms. old ++ ms) (sym (ap (members_of bytes) more ∙ map-append (member_of bytes) (take k places) (place ∷ []))))))

-- the members of two lists of parts
parts_joined : (low high both : List (List Member)) → both ≡ low ++ high → joined_members both ≡ joined_members low ++ joined_members high
parts_joined low high both e = ap joined_members e ∙ flat_map-append (λ part. part) low high

pub parts_of_both : (low high both : List (List Member)) (lower upper all : List Member) → both ≡ low ++ high → joined_members low ≡ lower → joined_members high ≡ upper → lower ++ upper ≡ all → joined_members both ≡ all
parts_of_both low high both lower upper all e below above joined =
    parts_joined low high both e ∙ (ap (λ ms. ms ++ joined_members high) below ∙ (ap (λ ms. lower ++ ms) above ∙ joined))

-- the members of one part more
pub part_lent : (parts : List (List Member)) (k : ℕ) (part members longer : List Member) → k < length parts → part ≡ get_or parts k part → longer ≡ members ++ part → members ≡ joined_members (take k parts) → longer ≡ joined_members (take (k + 1) parts)
part_lent parts k part members longer inside read pushed all =
    let more : take (k + 1) parts ≡ take k parts ++ part ∷ [] = take_more parts k part inside ∙ ap (λ p. take k parts ++ p ∷ []) (sym read) in
    pushed ∙ (ap (λ ms. ms ++ part) all ∙ sym (parts_joined (take k parts) (part ∷ []) (take (k + 1) parts) more ∙ ap (λ ms. joined_members (take k parts) ++ ms) (append-nil part)))
