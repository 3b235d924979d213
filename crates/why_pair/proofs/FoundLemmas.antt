-- What is answered for two names.
use Rattle.std.proofs.Common.{List, [], ◌++◌, ℕ, ◌<◌, ◌≤◌, Bool, true, Some, All, length, map, slice_get, get_or, ◌≡◌, sym, ap, ap₂, subst, ◌∙◌, arith}
use Rattle.std.proofs.lemmas.Option.{slice_get-get_or}
use Rattle.gk_base.specs.declared.term.Term.{Term}
use Rattle.chase_laws.specs.declared.entry.Entry.{Entry}
use Rattle.chase_laws.specs.Shape.{Shape, PatternFacts}
use Rattle.chase_laws.specs.Joined.{joined_by, links}
use Rattle.term_table.specs.Numbering.{AreDistinct}
use Rattle.proof_graph.specs.Way.{way}
use Rattle.proof_file.specs.Steps.{StepShape, NoneTwice, NoneTwiceInSupports, term_at}
use Rattle.proof_file.specs.Tells.{AreSupported, TellsAll}
use Rattle.why_pair.specs.Kept.{kept_by}
use Rattle.why_pair.specs.Marking.{MarksFrom}
use Rattle.why_pair.specs.Relinked.{places_from, step_number, HasPlaces, IsLinked, relinked_step, with_each}
use Rattle.why_pair.specs.Why.{StepsLead, AllReached, TellsPart}
use Rattle.why_pair.proofs.LeadLemmas.{length-places_from, places_small}
use Rattle.why_pair.proofs.WhyLemmas.{linked_all, anew, part_anew, once_anew, goal_numbers, goal_once, goal_there, all_reached}

pub way_is : (ways H : List Entry) (a b : ℕ) (old new places : List ℕ) → ways ≡ H → old ≡ [] → new ≡ old ++ way (links ways) (length ways) a b → places ≡ new → places ≡ way (links H) (length H) a b
way_is ways H a b old new places same none put are = are ∙ put ∙ ap₂ (λ l J. l ++ way (links J) (length J) a b) none same

pub has_places : (marks : List Bool) (places : List ℕ) (count : ℕ) → places ≡ places_from 0 marks → length marks ≡ count → count ≤ 4294967295 → HasPlaces count places
has_places marks places count are one_each few = record {
  one_each = ap length are ∙ length-places_from 0 marks ∙ one_each;
  small = subst (All (λ n. n < 4294967295)) (sym are) (λ k d l. let s = places_small 0 marks k (get_or (places_from 0 marks) k d) (slice_get-get_or (places_from 0 marks) k d l) in omega arith);
}

-- what holds of the answer
pub record IsAnswer (names : List Term) (K : List Shape) (key_names : List (List ℕ)) (H : List Entry) (a b : ℕ) (steps : List StepShape) (goal : List ℕ) : Type 0 where
  pub leads : StepsLead steps goal (term_at names a) (term_at names b)
  pub once : NoneTwice goal
  pub supports_once : NoneTwiceInSupports steps
  pub reached : AllReached steps goal
  pub tells : TellsPart names K key_names H steps

module _ (names : List Term) (distinct : AreDistinct names) (K : List Shape) (key_names : List (List ℕ)) (facts : (key : ℕ) (Q : Shape) → slice_get K key ≡ Some Q → PatternFacts Q)
    (H : List Entry) (sup : AreSupported (length names) K H) (places : List ℕ) where
  pub linked_given : (marks : List Bool) → MarksFrom K H places 0 marks → (ways told entries : List Entry) (steps : List StepShape) → ways ≡ H → told ≡ kept_by marks H → entries ≡ kept_by marks H → TellsAll names K key_names told steps →
      (k : ℕ) (e : Entry) (step : StepShape) → slice_get entries k ≡ Some e → slice_get steps k ≡ Some step → All (IsLinked ways e) step.supports
  linked_given marks m ways told entries steps same told_is entries_are tells k e step at is =
      subst (λ J. All (IsLinked J e) step.supports) (sym same)
      (linked_all names distinct K key_names facts H sup marks places m steps (subst (λ E. TellsAll names K key_names E steps) told_is tells) k e step (ap (λ E. slice_get E k) (sym entries_are) ∙ at) is)

  pub answer_is : (a b : ℕ) → a < length names → b < length names → joined_by H a b ≡ true → places ≡ way (links H) (length H) a b → (marks : List Bool) → MarksFrom K H places 0 marks →
      (ways told entries : List Entry) (kept goal_kept goal_places goal : List ℕ) (steps made : List StepShape) → ways ≡ H → told ≡ kept_by marks H → entries ≡ kept_by marks H → kept ≡ places_from 0 marks →
      goal_kept ≡ places_from 0 marks → goal_places ≡ places → TellsAll names K key_names told steps → made ≡ with_each (relinked_step ways kept) entries steps → goal ≡ map (step_number goal_kept) goal_places →
      IsAnswer names K key_names H a b made goal
  answer_is a b ha hb joins are marks m ways told entries kept goal_kept goal_places goal steps made same told_is entries_are kept_is goal_kept_is goal_places_are tells made_is goal_is =
      let t = subst (λ E. TellsAll names K key_names E steps) told_is tells in
      let steps_are : anew names distinct K key_names facts H sup marks places m steps t ≡ made =
      sym (made_is ∙ ap (λ J. with_each (relinked_step J kept) entries steps) same ∙ ap₂ (λ P E. with_each (relinked_step H P) E steps) kept_is entries_are) in
      let numbers_are : goal_numbers names distinct K key_names facts H sup marks places m steps t ≡ goal = sym (goal_is ∙ ap₂ (λ P ps. map (step_number P) ps) goal_kept_is goal_places_are) in
      subst (λ s. IsAnswer names K key_names H a b s goal) steps_are
      (subst (λ g. IsAnswer names K key_names H a b (anew names distinct K key_names facts H sup marks places m steps t) g) numbers_are (record {
        leads = goal_there names distinct K key_names facts H sup marks places m steps t a b ha hb joins are;
        once = goal_once names distinct K key_names facts H sup marks places m steps t a b joins are;
        supports_once = once_anew names distinct K key_names facts H sup marks places m steps t;
        reached = all_reached names distinct K key_names facts H sup marks places m steps t;
        tells = part_anew names distinct K key_names facts H sup marks places m steps t;
      }))
