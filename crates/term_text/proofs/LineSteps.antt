-- The steps of printing the classes.
use Rattle.std.proofs.Common.{◌≡◌, ℕ, ◌+◌, ◌<◌, true, false, cond, eqb, List, [], ◌∷◌, ◌++◌, length, get_or, take, drop, Option, None, Some, refl, sym, ap, ◌∙◌, arith, ⊎_elim, append_assoc, append-nil, true≢false}
use Rattle.std.proofs.lemmas.Bool.{cases_Bool, eqb-true, eq-eqb}
use Rattle.std.proofs.lemmas.List.{drop_more, take_more, get_or_read, get_or_default}
use Rattle.std.proofs.Math.Seq.{drop-length}
use Rattle.std.specs.List.{filter, list_any}
use Rattle.term_text.specs.Labels.{place_at}
use Rattle.std.specs.Option.{option_eq}
use Rattle.term_text.specs.declared.member.Member.{Member}
use Rattle.term_text.specs.declared.links.Links.{Links}
use Rattle.term_text.specs.Lines.{has_label, member_in, class_from, rest_text, class_text, lines_after, lines_from, IsLinked}
use Rattle.term_text.proofs.Places.{place_splits, place_none, nothing_before, first_found}

abbrev pub nobody : Member
nobody = record { text = []; label = 0 }

-- what follows a member that links to another
pub record Follows (members : List Member) (k f : ℕ) : Type 0 where
  pub later : k < f
  pub in_range : f < length members
  pub same : (member_in members f).label ≡ (member_in members k).label
  pub class_is : class_from members k ≡ member_in members k ∷ class_from members f

pub class_next : (links : Links) (members : List Member) (k f : ℕ) → IsLinked links members → k < length members → get_or links.next.items k None ≡ Some f → Follows members k f
class_next links members k f linked l e =
    let label : ℕ = (member_in members k).label in
    let found = place_splits (has_label label) nobody members (k + 1) f (omega arith) (sym (linked.next k l) ∙ e) in
    let same : label ≡ (member_in members f).label = eqb-true label (member_in members f).label found.passes in
    record {
      later = omega (arith, found.from);
      in_range = found.in_range;
      same = sym same;
      class_is = ap (λ ms. member_in members k ∷ ms) found.rest ∙ ap (λ (v : ℕ). member_in members k ∷ (member_in members f ∷ filter (has_label v) (drop (f + 1) members))) same;
    }

pub class_last : (links : Links) (members : List Member) (k : ℕ) → IsLinked links members → k < length members → get_or links.next.items k None ≡ None → class_from members k ≡ member_in members k ∷ []
class_last links members k linked l e =
    ap (λ ms. member_in members k ∷ ms) (place_none (has_label (member_in members k).label) (k + 1) (drop (k + 1) members) (sym (linked.next k l) ∙ e))

-- what is written of a class, one text after another
pub text_begun : (members : List Member) (k f : ℕ) (out new : List ℕ) → Follows members k f → new ≡ out ++ (member_in members k).text → new ++ rest_text (class_from members f) ≡ out ++ class_text (class_from members k)
text_begun members k f out new follows e =
    ap (λ v. v ++ rest_text (class_from members f)) e
    ∙ (append_assoc out (member_in members k).text (rest_text (class_from members f))
    ∙ ap (λ v. out ++ v) (sym (ap class_text follows.class_is)))

pub text_more : (members : List Member) (k f : ℕ) (out spaced new whole : List ℕ) → Follows members k f → spaced ≡ out ++ 32 ∷ [] → new ≡ spaced ++ (member_in members k).text → out ++ rest_text (class_from members k) ≡ whole → new ++ rest_text (class_from members f) ≡ whole
text_more members k f out spaced new whole follows s e all =
    ap (λ v. v ++ rest_text (class_from members f)) (e ∙ ap (λ v. v ++ (member_in members k).text) s)
    ∙ (append_assoc (out ++ 32 ∷ []) (member_in members k).text (rest_text (class_from members f))
    ∙ (append_assoc out (32 ∷ []) ((member_in members k).text ++ rest_text (class_from members f))
    ∙ (ap (λ v. out ++ v) (sym (ap rest_text follows.class_is)) ∙ all)))

pub text_ended : (members : List Member) (k : ℕ) (out spaced new ended whole : List ℕ) → class_from members k ≡ member_in members k ∷ [] → spaced ≡ out ++ 32 ∷ [] → new ≡ spaced ++ (member_in members k).text → ended ≡ new ++ 10 ∷ [] → out ++ rest_text (class_from members k) ≡ whole → ended ≡ whole
text_ended members k out spaced new ended whole alone s e t all =
    t ∙ (ap (λ v. v ++ 10 ∷ []) (e ∙ ap (λ v. v ++ (member_in members k).text) s)
    ∙ (append_assoc (out ++ 32 ∷ []) (member_in members k).text (10 ∷ [])
    ∙ (append_assoc out (32 ∷ []) ((member_in members k).text ++ 10 ∷ [])
    ∙ (ap (λ v. out ++ v) (sym (ap rest_text alone)) ∙ all))))

-- the lines from one place on, by the member there
pub lines_step : (members : List Member) (p : ℕ) → p < length members → lines_after (take p members) (drop p members) ≡ cond (list_any (has_label (member_in members p).label) (take p members)) [] (class_text (class_from members p)) ++ lines_after (take (p + 1) members) (drop (p + 1) members)
lines_step members p l =
    ap (lines_after (take p members)) (drop_more members p nobody l)
    ∙ ap (λ before. cond (list_any (has_label (member_in members p).label) (take p members)) [] (class_text (class_from members p)) ++ lines_after before (drop (p + 1) members)) (sym (take_more members p nobody l))

found_first : (links : Links) (members : List Member) (p : ℕ) → IsLinked links members → p < length members → place_at links.firsts (member_in members p).label ≡ Some p → list_any (has_label (member_in members p).label) (take p members) ≡ false
found_first links members p linked l e = nothing_before (has_label (member_in members p).label) 0 p p members (omega arith) (sym (linked.first (member_in members p).label) ∙ e)

not_first : (links : Links) (members : List Member) (p : ℕ) → IsLinked links members → p < length members → (place_at links.firsts (member_in members p).label ≡ Some p → ⊥) → list_any (has_label (member_in members p).label) (take p members) ≡ true
not_first links members p linked l other =
    ⊎_elim
    (λ e. e)
    (λ e. absurd (other (linked.first (member_in members p).label ∙ first_found (has_label (member_in members p).label) nobody 0 p p members (omega arith) l (eq-eqb (member_in members p).label (member_in members p).label refl) e)))
    (cases_Bool (list_any (has_label (member_in members p).label) (take p members)))

pub lines_printed : (links : Links) (members : List Member) (p : ℕ) (out new whole : List ℕ) → IsLinked links members → p < length members → place_at links.firsts (member_in members p).label ≡ Some p → new ≡ out ++ class_text (class_from members p) → out ++ lines_after (take p members) (drop p members) ≡ whole → new ++ lines_after (take (p + 1) members) (drop (p + 1) members) ≡ whole
lines_printed links members p out new whole linked l e grown all =
    ap (λ v. v ++ lines_after (take (p + 1) members) (drop (p + 1) members)) grown
    ∙ (append_assoc out (class_text (class_from members p)) (lines_after (take (p + 1) members) (drop (p + 1) members))
    ∙ (ap (λ v. out ++ v) (sym (lines_step members p l ∙ ap (λ b. cond b [] (class_text (class_from members p)) ++ lines_after (take (p + 1) members) (drop (p + 1) members)) (found_first links members p linked l e))) ∙ all))

pub lines_passed : (links : Links) (members : List Member) (p : ℕ) (out whole : List ℕ) → IsLinked links members → p < length members → (place_at links.firsts (member_in members p).label ≡ Some p → ⊥) → out ++ lines_after (take p members) (drop p members) ≡ whole → out ++ lines_after (take (p + 1) members) (drop (p + 1) members) ≡ whole
lines_passed links members p out whole linked l other all =
    ap (λ v. out ++ v) (sym (lines_step members p l ∙ ap (λ b. cond b [] (class_text (class_from members p)) ++ lines_after (take (p + 1) members) (drop (p + 1) members)) (not_first links members p linked l other))) ∙ all

-- the lines of two halves, joined
pub lines_joined : (members : List Member) (from middle to : ℕ) (low high both : List ℕ) → low ++ lines_from members middle ≡ lines_from members from → high ++ lines_from members to ≡ lines_from members middle → both ≡ low ++ high → both ++ lines_from members to ≡ lines_from members from
lines_joined members from middle to low high both below above joined =
    ap (λ v. v ++ lines_from members to) joined
    ∙ (append_assoc low high (lines_from members to)
    ∙ (ap (λ v. low ++ v) above ∙ below))

-- the lines from the first place up to the last are all
pub lines_of_all : (members : List Member) (lines : List ℕ) → lines ++ lines_from members (length members) ≡ lines_from members 0 → lines ≡ lines_after [] members
lines_of_all members lines all =
    sym (append-nil lines)
    ∙ (ap (λ rest. lines ++ lines_after (take (length members) members) rest) (sym (drop-length members)) ∙ all)

-- what the code read, as the links and members say it
pub link_read : (links : Links) (members : List Member) (k : ℕ) (o p : Option ℕ) → IsLinked links members → k < length members → o ≡ get_or links.next.items k o → o ≡ p → get_or links.next.items k None ≡ p
link_read links members k o p linked l e is = sym (get_or_read links.next.items k o (omega (arith, linked.count)) e None) ∙ is

pub text_read : (members : List Member) (k : ℕ) (m : Member) (text : List ℕ) → k < length members → text ≡ (get_or members k m).text → text ≡ (member_in members k).text
text_read members k m text l e = e ∙ ap (λ (v : Member). v.text) (get_or_default members k m nobody l)

pub some_found : (o : Option ℕ) (p : ℕ) → option_eq eqb o (Some p) ≡ true → o ≡ Some p
some_found None p e = absurd (true≢false (sym e))
some_found (Some q) p e = ap Some (eqb-true q p e)

pub none_found : (o : Option ℕ) (p : ℕ) → option_eq eqb o (Some p) ≡ false → o ≡ Some p → ⊥
none_found o p e same = true≢false (sym (ap (λ v. option_eq eqb v (Some p)) same ∙ eq-eqb p p refl) ∙ e)
