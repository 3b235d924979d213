-- Each step keeps the rule of the board.
use Rattle.std.proofs.Common.{◌≡◌, ◌≢◌, ℕ, zero, suc, ◌+◌, ◌-◌, ◌<◌, ◌≤◌, ◌^◌, true, Some, slice_get, eqb, eq-eqb, List, [], ◌∷◌, ◌++◌, length, set, get_or, length-set, get_or-set_other, get_or-set_same, length-append, add-one, ⊎_elim, sym, refl, ap, ◌∙◌, subst, arith}
use Rattle.std.proofs.lemmas.List.{map-append}
use Rattle.std.proofs.lemmas.Option.{slice_get-get_or}
use Rattle.std.proofs.lemmas.List.Elements.{All-push, All-weaker, All-nil}
use mathlib.Core.Option.{some, none, some-injective, some-ne-none}
use mathlib.Core.Logic.{dite}
use native.Mathlib.Decide.{ℕ_discrete}
use lib.ListN.{get_elem?}
use lib.Seq.{set-get_or}
use prog.Atomic.{either}
use Rattle.atomic_table.specs.Table.{State, step, keeps, stepped, opening, Allows, Splits, Joins}
use Rattle.atomic_table.proofs.Lists.{at_set, set_else, set_again, at_snoc}
use Rattle.chase_laws.specs.declared.entry.Entry.{Entry}
use Rattle.chase_laws.specs.Joined.{Joined, links}
use Rattle.chase_laws.proofs.CallerLemmas.{Within, Within-append}
use Rattle.label_board.specs.declared.knowledge.Knowledge.{Knowledge}
use Rattle.label_board.specs.Seen.{AllJoined, AllShown}
use Rattle.label_board.specs.Rule.{Seated, scribe_of, watcher_of, with_posted, with_shown, with_read, noting, between_posts, MayShow, words_of, KnowsBoard, FollowsPosts, CountsUp, WritesLabel, LoadsLabel, Glances, Meets}

-- ---- what is joined stays joined

pub stays_joined : (entries : List Entry) (e : Entry) (a b : ℕ) → Joined entries a b → Joined (entries ++ e ∷ []) a b
stays_joined entries e a b = subst (Within (links entries)) (sym (map-append (λ (x : Entry). (x.a, x.b)) entries (e ∷ []))) (Within-append (links entries) ((e.a, e.b) ∷ [])) a b

all_stay : (entries : List Entry) (e : Entry) (pairs : List (ℕ × ℕ)) → AllJoined entries pairs → AllJoined (entries ++ e ∷ []) pairs
all_stay entries e pairs h = All-weaker (λ p. Joined entries p.0 p.1) (λ p. Joined (entries ++ e ∷ []) p.0 p.1) (λ p j. stays_joined entries e p.0 p.1 j) pairs h

none_joined : (entries : List Entry) → AllJoined entries []
none_joined entries = All-nil (λ p. Joined entries p.0 p.1)

none_shown : (labels : List ℕ) → AllShown labels []
none_shown labels = All-nil (λ (p : ℕ × ℕ). slice_get labels p.0 ≡ Some p.1)

-- who stood even with fewer entries does not stand even with all
behind : (finished : ℕ) (since entries : List Entry) → length since ≤ finished → finished < length entries → since ≢ entries
behind finished since entries early under_way same = let long = ap length same in omega arith

-- ---- the words

label_word : (entries : List Entry) (labels : List ℕ) (n : ℕ) → get_or (words_of entries labels) (n + 1) 0 ≡ get_or labels n 0
label_word entries labels n = ap (λ k. get_or (words_of entries labels) k 0) (add-one n)

set_label : (entries : List Entry) (labels : List ℕ) (n label : ℕ) → set (words_of entries labels) (n + 1) label ≡ words_of entries (set labels n label)
set_label entries labels n label = ap (λ k. set (words_of entries labels) k label) (add-one n)

back : (n : ℕ) → n ≡ (n + 1) - 1
back n = omega arith

-- labels with another in one place
relabelled : (names : ℕ) (entries : List Entry) (labels : List ℕ) (name label : ℕ) → name < names → label < 2 ^ 32 → Joined entries name label → MayShow names entries labels → MayShow names entries (set labels name label)
relabelled names entries labels name label inside small joined shows = let wide = shows.wide in record {
  wide = length-set labels name label ∙ wide;
  small = λ n h. at (λ _ (z : ℕ). z < 2 ^ 32) n (λ _. small) (shows.small n h);
  joined = λ n h. at (λ (k z : ℕ). Joined entries k z) n (λ (e : n ≡ name). subst (λ (k : ℕ). Joined entries k label) (sym e) joined) (shows.joined n h);
}
  where
    at : (P : ℕ → ℕ → Type 0) (n : ℕ) → (n ≡ name → P n label) → P n (get_or labels n 0) → P n (get_or (set labels name label) n 0)
    at P n new old = let wide = shows.wide in dite (ℕ_discrete n name)
        (λ (e : n ≡ name). subst (λ (z : ℕ). P n z) (sym (ap (λ (z : ℕ). get_or (set labels name label) z 0) e ∙ get_or-set_same labels name label 0 (omega arith))) (new e))
        (λ (other : n ≢ name). subst (λ (z : ℕ). P n z) (sym (get_or-set_other labels name n label 0 other)) old)

posted_more : (names : ℕ) (entries : List Entry) (e : Entry) (labels : List ℕ) → MayShow names entries labels → MayShow names (entries ++ e ∷ []) labels
posted_more names entries e labels shows = record { wide = shows.wide; small = shows.small; joined = λ n h. stays_joined entries e n (get_or labels n 0) (shows.joined n h) }

-- ---- the views of the seats

all_set : {V : Type 0} (P : ℕ → V → Type 0) (vs : List V) (id : ℕ) (w : V) → P id w → ((j : ℕ) (u : V) → j ≢ id → get_elem? vs j ≡ some u → P j u) → (j : ℕ) (u : V) → get_elem? (set vs id w) j ≡ some u → P j u
all_set {V} P vs id w here others j u e = ⊎_elim (λ (t : (j ≡ id) × (w ≡ u)). subst (λ (z : ℕ × V). P z.0 z.1) (λ i. (sym t.0 i, t.1 i)) here) (λ (t : (j ≢ id) × (get_elem? vs j ≡ some u)). others j u t.0 t.1) (at_set vs id j w u e)

-- a seat that is no scribe's, and has no notes
watching : (writer finished : ℕ) (entries : List Entry) (labels : List ℕ) (seat : ℕ) (since : List Entry) (read : List (ℕ × ℕ)) → AllJoined entries read → length since ≤ finished → (since ≡ entries → AllShown labels read)
    → KnowsBoard writer finished entries labels seat (watcher_of since read)
watching writer finished entries labels seat since read joined early fresh = record {
  scribe = λ h. absurd (cc);
  read = joined;
  notes = none_joined entries;
  early = early;
  noted_early = omega arith;
  fresh = fresh;
  noted_fresh = λ _. none_shown labels;
}

-- ---- the steps

module _ (names : ℕ) where
  abbrev Board : Type 0
  Board = State Entry Knowledge

  abbrev Rule : Board → Type 0
  Rule = FollowsPosts names

  -- a load, after which the seat knows w, and so many posts are finished
  loaded : (s : Board) (r : Rule s) (i id : ℕ) (w : Knowledge) (c : List (ℕ × Entry)) (finished : ℕ) → finished ≤ length r.entries → KnowsBoard r.writer finished r.entries r.labels id w
      → ((j : ℕ) (u : Knowledge) → j ≢ id → get_elem? s.views j ≡ some u → KnowsBoard r.writer finished r.entries r.labels j u) → Rule (stepped s i (get_or s.words i 0) id c w keeps)
  loaded s r i id w c finished posted mine others = subst (λ ws. Rule record { words = ws; homes = s.homes; views = set s.views id w }) (sym (set-get_or s.words i 0)) record {
    writer = r.writer;
    finished = finished;
    entries = r.entries;
    labels = r.labels;
    words = r.words;
    shows = r.shows;
    posted = posted;
    each = all_set (KnowsBoard r.writer finished r.entries r.labels) s.views id w mine others;
  }

  -- what a seat knows once another has counted an entry up
  counted : (s : Board) (r : Rule s) (e : Entry) (j : ℕ) (u : Knowledge) → KnowsBoard r.writer r.finished r.entries r.labels j u → ¬ (u.writes ≡ true) → KnowsBoard r.writer r.finished (r.entries ++ e ∷ []) r.labels j u
  counted s r e j u o apart = let posted = r.posted in let under_way : r.finished < length (r.entries ++ e ∷ []) = omega (arith, length-append r.entries (e ∷ [])) in record {
    scribe = λ h. absurd (apart h);
    read = all_stay r.entries e u.read o.read;
    notes = all_stay r.entries e u.notes o.notes;
    early = o.early;
    noted_early = o.noted_early;
    fresh = λ same. absurd (behind r.finished u.since (r.entries ++ e ∷ []) o.early under_way same);
    noted_fresh = λ same. absurd (behind r.finished u.noted_since (r.entries ++ e ∷ []) o.noted_early under_way same);
  }

  pub counts : (slots id old new : ℕ) (me : Seated) (e : Entry) → me.0.writes ≡ true → old ≡ length me.0.posted → new ≡ old + 1
      → Allows Rule slots id me 0 (λ n. either (eqb n old) new n) (CountsUp (step slots 0 old new (some e)) me)
  counts slots id old new me e writes long up s r _ at _ = let found : ℕ = get_or s.words 0 0 in let k = r.each id me.0 at in let is = k.scribe writes in let posted = r.posted in
      let same : length me.0.posted ≡ length r.entries = ap length is.1 in let counted_up : found ≡ length r.entries = ap (λ (ws : List ℕ). get_or ws 0 0) r.words in let hit : found ≡ old = omega arith in
      let entries : List Entry = r.entries ++ e ∷ [] in let w : Knowledge = with_posted me.0 (me.0.posted ++ e ∷ []) in let long' : new ≡ length entries = omega (arith, length-append r.entries (e ∷ [])) in
      let under_way : r.finished < length entries = omega (arith, length-append r.entries (e ∷ [])) in (
        w,
        keeps,
        tt,
        subst (λ b. Rule (stepped s 0 (either b new found) id me.1 w keeps)) (sym (eq-eqb found old hit)) record {
          writer = r.writer;
          finished = r.finished;
          entries = entries;
          labels = r.labels;
          words = ap (λ (ws : List ℕ). set ws 0 new) r.words ∙ ap (λ (n : ℕ). n ∷ r.labels) long';
          shows = posted_more names r.entries e r.labels r.shows;
          posted = omega arith;
          each = all_set (KnowsBoard r.writer r.finished entries r.labels) s.views id w
              record {
                scribe = λ _. (is.0, ap (λ (l : List Entry). l ++ e ∷ []) is.1, is.2, is.3);
                read = all_stay r.entries e me.0.read k.read;
                notes = all_stay r.entries e me.0.notes k.notes;
                early = k.early;
                noted_early = k.noted_early;
                fresh = λ h. absurd (behind r.finished me.0.since entries k.early under_way h);
                noted_fresh = λ h. absurd (behind r.finished me.0.noted_since entries k.noted_early under_way h);
              }
              (λ j u other a. let o = r.each j u a in counted s r e j u o (λ h. other ((o.scribe h).0 ∙ sym is.0)));
        },
        λ e' said. let one : e ≡ e' = some-injective e e' said in (hit ∙ long, ap (λ (z : Entry). with_posted me.0 (me.0.posted ++ z ∷ [])) one, refl),
      )

  -- what a seat knows once another has written a label, while an entry is being posted
  written : (s : Board) (r : Rule s) (labels : List ℕ) (j : ℕ) (u : Knowledge) → r.finished < length r.entries → KnowsBoard r.writer r.finished r.entries r.labels j u → ¬ (u.writes ≡ true) → KnowsBoard r.writer r.finished r.entries labels j u
  written s r labels j u under_way o apart = record {
    scribe = λ h. absurd (apart h);
    read = o.read;
    notes = o.notes;
    early = o.early;
    noted_early = o.noted_early;
    fresh = λ same. absurd (behind r.finished u.since r.entries o.early under_way same);
    noted_fresh = λ same. absurd (behind r.finished u.noted_since r.entries o.noted_early under_way same);
  }

  pub writes : (slots id name label : ℕ) (me : Seated) → me.0.writes ≡ true → name < names → label < 2 ^ 32 → Joined me.0.posted name label → length me.0.since < length me.0.posted
      → Allows Rule slots id me (name + 1) (λ _. label) (λ _. WritesLabel (step slots (name + 1) label 0 none) me label)
  writes slots id name label me may inside small joined posting s r _ at _ = let k = r.each id me.0 at in let is = k.scribe may in let wide = r.shows.wide in
      let labels : List ℕ = set r.labels name label in let w : Knowledge = with_shown me.0 (set me.0.shown ((name + 1) - 1) label) in
      let shown : w.shown ≡ labels = ap (λ (n : ℕ). set me.0.shown n label) (sym (back name)) ∙ ap (λ (l : List ℕ). set l name label) is.2 in
      let same : length me.0.shown ≡ length r.labels = ap length is.2 in
      let all_posted : length me.0.posted ≡ length r.entries = ap length is.1 in
      let all_finished : length me.0.since ≡ r.finished = is.3 in
      let under_way : r.finished < length r.entries = omega arith in (
        w,
        keeps,
        tt,
        record {
          writer = r.writer;
          finished = r.finished;
          entries = r.entries;
          labels = labels;
          words = ap (λ (ws : List ℕ). set ws (name + 1) label) r.words ∙ set_label r.entries r.labels name label;
          shows = relabelled names r.entries r.labels name label inside small (subst (λ (l : List Entry). Joined l name label) is.1 joined) r.shows;
          posted = r.posted;
          each = all_set (KnowsBoard r.writer r.finished r.entries labels) s.views id w
              record {
                scribe = λ _. (is.0, is.1, shown, is.3);
                read = k.read;
                notes = k.notes;
                early = k.early;
                noted_early = k.noted_early;
                fresh = λ h. absurd (behind r.finished me.0.since r.entries k.early under_way h);
                noted_fresh = λ h. absurd (behind r.finished me.0.noted_since r.entries k.noted_early under_way h);
              }
              (λ j u other a. let o = r.each j u a in written s r labels j u under_way o (λ h. other ((o.scribe h).0 ∙ sym is.0)));
        },
        (omega arith, refl, refl),
      )

  pub loads : (slots id name : ℕ) (me : Seated) → name < names → Allows Rule slots id me (name + 1) (λ n. n) (LoadsLabel (step slots (name + 1) 0 0 none) me)
  loads slots id name me inside s r _ at _ = let k = r.each id me.0 at in let found : ℕ = get_or s.words (name + 1) 0 in let wide = r.shows.wide in
      let label : found ≡ get_or r.labels name 0 = ap (λ (ws : List ℕ). get_or ws (name + 1) 0) r.words ∙ label_word r.entries r.labels name in
      let joined : Joined r.entries name found = subst (λ (l : ℕ). Joined r.entries name l) (sym label) (r.shows.joined name inside) in
      let shown : slice_get r.labels name ≡ Some found = slice_get-get_or r.labels name 0 (omega arith) ∙ ap Some (sym label) in
      let w : Knowledge = with_read me.0 (me.0.read ++ ((name + 1) - 1, found) ∷ []) in (
        w,
        keeps,
        tt,
        loaded s r (name + 1) id w me.1 r.finished r.posted record {
          scribe = k.scribe;
          read = subst (λ (n : ℕ). AllJoined r.entries (me.0.read ++ (n, found) ∷ [])) (back name) (All-push (λ p. Joined r.entries p.0 p.1) me.0.read (name, found) k.read joined);
          notes = k.notes;
          early = k.early;
          noted_early = k.noted_early;
          fresh = λ same. subst (λ (n : ℕ). AllShown r.labels (me.0.read ++ (n, found) ∷ [])) (back name) (All-push (λ (p : ℕ × ℕ). slice_get r.labels p.0 ≡ Some p.1) me.0.read (name, found) (k.fresh same) shown);
          noted_fresh = k.noted_fresh;
        } (λ j u _. r.each j u),
        (subst (λ (l : ℕ). l < 2 ^ 32) (sym label) (r.shows.small name inside), refl, refl),
      )

  pub glances : (slots id : ℕ) (me : Seated) → Allows Rule slots id me 0 (λ n. n) (Glances (step slots 0 0 0 none) me)
  glances slots id me s r _ at _ = let k = r.each id me.0 at in let w : Knowledge = with_read me.0 [] in (
    w,
    keeps,
    tt,
    loaded s r 0 id w me.1 r.finished r.posted
        record { scribe = k.scribe; read = none_joined r.entries; notes = k.notes; early = k.early; noted_early = k.noted_early; fresh = λ _. none_shown r.labels; noted_fresh = k.noted_fresh }
        (λ j u _. r.each j u),
    (refl, refl),
  )

  pub meets : (slots id : ℕ) (me : Seated) → me.0.writes ≡ true → Allows Rule slots id me 0 (λ n. n) (Meets (step slots 0 0 0 none) me)
  meets slots id me may s r _ at _ = let k = r.each id me.0 at in let is = k.scribe may in let posted = r.posted in
      let all_posted : length me.0.posted ≡ length r.entries = ap length is.1 in let w : Knowledge = between_posts me.0 in (
        w,
        keeps,
        tt,
        loaded s r 0 id w me.1 (length r.entries) (omega arith)
            record {
              scribe = λ _. (is.0, is.1, is.2, all_posted);
              read = none_joined r.entries;
              notes = none_joined r.entries;
              early = omega arith;
              noted_early = omega arith;
              fresh = λ _. none_shown r.labels;
              noted_fresh = λ _. none_shown r.labels;
            }
            (λ j u other a. let o = r.each j u a in let early = o.early in let noted_early = o.noted_early in record {
              scribe = λ h. absurd (other ((o.scribe h).0 ∙ sym is.0));
              read = o.read;
              notes = o.notes;
              early = omega arith;
              noted_early = omega arith;
              fresh = o.fresh;
              noted_fresh = o.noted_fresh;
            }),
        (
          refl,
          refl,
          subst (λ (l : List Entry). AllJoined l me.0.notes) (sym is.1) k.notes,
          (λ same. subst (λ (l : List ℕ). AllShown l me.0.notes) (sym is.2) (k.noted_fresh (same ∙ is.1))),
        ),
      )

  pub splits : (id : ℕ) (v : Knowledge) → Splits Rule id v v (watcher_of v.since v.read)
  splits id v s r at = let k = r.each id v at in let u : Knowledge = watcher_of v.since v.read in let same = set_again s.views id v at in record {
    writer = r.writer;
    finished = r.finished;
    entries = r.entries;
    labels = r.labels;
    words = r.words;
    shows = r.shows;
    posted = r.posted;
    each = λ j z e. ⊎_elim
        (λ (p : get_elem? (set s.views id v) j ≡ some z). r.each j z (subst (λ l. get_elem? l j ≡ some z) same p))
        (λ (p : u ≡ z). subst (λ (y : Knowledge). KnowsBoard r.writer r.finished r.entries r.labels j y) p (watching r.writer r.finished r.entries r.labels j v.since v.read k.read k.early k.fresh))
        (at_snoc (set s.views id v) u z j e);
  }

  pub joins : (id : ℕ) (v : Knowledge) (other : ℕ) (w : Knowledge) → Joins Rule id v other w (noting v w) (watcher_of [] [])
  joins id v other w s r at apart there = let k = r.each id v at in let b : Knowledge = noting v w in let l = r.each other w (sym (set_else s.views id other b apart) ∙ there) in record {
    writer = r.writer;
    finished = r.finished;
    entries = r.entries;
    labels = r.labels;
    words = r.words;
    shows = r.shows;
    posted = r.posted;
    each = all_set (KnowsBoard r.writer r.finished r.entries r.labels) (set s.views id b) other (watcher_of [] [])
        (watching r.writer r.finished r.entries r.labels other [] [] (none_joined r.entries) (omega arith) (λ _. none_shown r.labels))
        (λ j z _. all_set (KnowsBoard r.writer r.finished r.entries r.labels) s.views id b
        record { scribe = k.scribe; read = k.read; notes = l.read; early = k.early; noted_early = l.early; fresh = k.fresh; noted_fresh = l.fresh }
        (λ i y _. r.each i y) j z);
  }

  first_seat : (entries : List Entry) (labels : List ℕ) (j : ℕ) (z : Knowledge) → get_elem? (scribe_of entries labels ∷ []) j ≡ some z → KnowsBoard 0 (length entries) entries labels j z
  first_seat entries labels zero z e = subst (KnowsBoard 0 (length entries) entries labels 0) (some-injective (scribe_of entries labels) z e) record {
    scribe = λ _. (refl, refl, refl, refl);
    read = none_joined entries;
    notes = none_joined entries;
    early = omega arith;
    noted_early = omega arith;
    fresh = λ _. none_shown labels;
    noted_fresh = λ _. none_shown labels;
  }
  first_seat entries labels (suc j) z e = absurd (some-ne-none z (sym e))

  -- the table at the start
  pub opens : (entries : List Entry) (labels words : List ℕ) → words ≡ words_of entries labels → MayShow names entries labels → Rule (opening words [] (scribe_of entries labels))
  opens entries labels words are shows = record {
    writer = 0;
    finished = length entries;
    entries = entries;
    labels = labels;
    words = are;
    shows = shows;
    posted = omega arith;
    each = first_seat entries labels;
  }
