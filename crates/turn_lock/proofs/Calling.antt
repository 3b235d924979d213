-- The words of the table, as tickets are drawn, called and compared.
use Rattle.std.proofs.Common.{◌≡◌, ◌≢◌, ℕ, ◌+◌, ◌*◌, ◌%◌, ◌^◌, ◌<◌, ◌≤◌, List, length, set, get_or, replicate, inl, inr, ⊎_elim, sym, ap, ◌∙◌, subst, arith}
use Rattle.std.proofs.Math.Nat.{mod-add-mod}
use Rattle.std.proofs.lemmas.List.{get_or-set_same, get_or-set_other, get_or-replicate, length-replicate, length-set}
use mathlib.Core.Logic.{dite}
use native.Mathlib.Decide.{ℕ_discrete}
use Rattle.turn_lock.specs.Serving.{Shows, HasLast, serving_word}

-- no serving word is the one of the tickets or that of the entries
word_of : (words : List ℕ) (j i n : ℕ) → i < 16 → get_or (set words i n) (16 + 8 * j) 0 ≡ get_or words (16 + 8 * j) 0
word_of words j i n l = get_or-set_other words i (16 + 8 * j) n 0 (λ e. absurd (let b : i < 16 = l in let d : 16 + 8 * j ≡ i = e in omega arith))

pub shows_drawn : (drawn served count : ℕ) (words : List ℕ) → Shows drawn served count words → Shows (drawn + 1) served count (set words 0 ((get_or words 0 0 + 1) % 2 ^ 64))
shows_drawn drawn served count words h = let n : ℕ = (get_or words 0 0 + 1) % 2 ^ 64 in record {
  size = length-set words 0 n ∙ h.size;
  ticket = get_or-set_same words 0 n 0 (let s = h.size in omega arith) ∙ ap (λ (z : ℕ). (z + 1) % 2 ^ 64) h.ticket ∙ mod-add-mod drawn (2 ^ 64) 1;
  count_is = get_or-set_other words 0 8 n 0 (λ e. absurd (cc)) ∙ h.count_is;
  serving = λ j l. subst (HasLast served j) (sym (word_of words j 0 n (omega arith))) (h.serving j l);
}

pub shows_counted : (drawn served count n : ℕ) (words : List ℕ) → Shows drawn served count words → Shows drawn served n (set words 8 n)
shows_counted drawn served count n words h = record {
  size = length-set words 8 n ∙ h.size;
  ticket = get_or-set_other words 8 0 n 0 (λ e. absurd (cc)) ∙ h.ticket;
  count_is = get_or-set_same words 8 n 0 (let s = h.size in omega arith);
  serving = λ j l. subst (HasLast served j) (sym (word_of words j 8 n (omega arith))) (h.serving j l);
}

-- at the words where the next ticket is not called, what was called last still is
last_stays : (served j word : ℕ) → j < 64 → j ≢ (served + 1) % 64 → HasLast served j word → HasLast (served + 1) j word
last_stays served j word within apart h = ⊎_elim
    (λ (a : (t : ℕ) × (word ≡ t % 2 ^ 64) × (t % 64 ≡ j) × (t ≤ served) × (served < t + 64)). inl (a.0, a.1, a.2, (let b = a.3 in omega arith), (let b = a.2 in let c = a.4 in let d : ¬ (j ≡ (served + 1) % 64) = apart in omega arith)))
    (λ (a : (word ≡ 0) × (served < j)). inr (a.0, (let b = a.1 in let d : ¬ (j ≡ (served + 1) % 64) = apart in omega arith)))
    h

pub shows_called : (drawn served count n i : ℕ) (words : List ℕ) → n ≡ (served + 1) % 2 ^ 64 → i ≡ 16 + 8 * ((served + 1) % 64) → Shows drawn served count words → Shows drawn (served + 1) count (set words i n)
shows_called drawn served count n i words is at h = let here : i < length words = (let s = h.size in omega arith) in record {
  size = length-set words i n ∙ h.size;
  ticket = get_or-set_other words i 0 n 0 (λ e. absurd (let d : 0 ≡ i = e in omega arith)) ∙ h.ticket;
  count_is = get_or-set_other words i 8 n 0 (λ e. absurd (let d : 8 ≡ i = e in omega arith)) ∙ h.count_is;
  serving = λ j l. dite (ℕ_discrete j ((served + 1) % 64))
      (λ (e : j ≡ (served + 1) % 64). inl (served + 1, (ap (λ (z : ℕ). get_or (set words i n) z 0) (let d : 16 + 8 * j ≡ i = omega arith in d) ∙ get_or-set_same words i n 0 here ∙ is), sym e, omega arith, omega arith))
      (λ (e : j ≢ (served + 1) % 64). subst (HasLast (served + 1) j) (sym (get_or-set_other words i (16 + 8 * j) n 0 (λ d. e (let d' : 16 + 8 * j ≡ i = d in omega arith)))) (last_stays served j (get_or words (16 + 8 * j) 0) l e (h.serving j l)));
}

-- who finds its ticket at its word is served
pub is_called : (drawn served count t : ℕ) (words : List ℕ) → Shows drawn served count words → served ≤ t → t < served + 2 ^ 32 → get_or words (serving_word t) 0 ≡ t % 2 ^ 64 → served ≡ t
is_called drawn served count t words h low high found = ⊎_elim
    (λ (a : (u : ℕ) × (get_or words (serving_word t) 0 ≡ u % 2 ^ 64) × (u % 64 ≡ t % 64) × (u ≤ served) × (served < u + 64)).
    let same : a.0 % 2 ^ 64 ≡ t % 2 ^ 64 = sym a.1 ∙ found in let b = a.3 in let c = a.4 in omega arith)
    (λ (a : (get_or words (serving_word t) 0 ≡ 0) × (served < t % 64)). let zero_is : t % 2 ^ 64 ≡ 0 = sym found ∙ a.0 in let b = a.1 in absurd (omega arith))
    (h.serving (t % 64) (omega arith))

pub shows_first : (n : ℕ) → Shows 0 0 n (set (replicate 528 0) 8 n)
shows_first n = let none : List ℕ = replicate 528 0 in let len : length none ≡ 528 = length-replicate {A = ℕ} 528 0 in record {
  size = length-set none 8 n ∙ len;
  ticket = get_or-set_other none 8 0 n 0 (λ e. absurd (cc)) ∙ get_or-replicate {A = ℕ} 528 0 0 0 (omega arith);
  count_is = get_or-set_same none 8 n 0 (omega arith);
  serving = λ j l. let nothing : get_or (set none 8 n) (16 + 8 * j) 0 ≡ 0 = word_of none j 8 n (omega arith) ∙ get_or-replicate {A = ℕ} 528 (16 + 8 * j) 0 0 (omega arith) in
      dite (ℕ_discrete j 0) (λ (e : j ≡ 0). inl (0, nothing, sym e, omega arith, omega arith)) (λ (e : j ≢ 0). inr (nothing, (let d : ¬ (j ≡ 0) = e in omega arith)));
}

-- the word of a ticket, read from what a word keeps of it
pub word_again : (t n : ℕ) → n ≡ t % 2 ^ 64 → serving_word n ≡ serving_word t
word_again t n e = omega arith

pub next_ticket : (t n : ℕ) → n ≡ t % 2 ^ 64 → (n + 1) % 2 ^ 64 ≡ (t + 1) % 2 ^ 64
next_ticket t n e = omega arith
