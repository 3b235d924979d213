-- Chains of owners.
use Rattle.std.proofs.Common.{List, [], ◌∷◌, ◌++◌, ℕ, zero, suc, All, Contains, map, length, get_or, set, ◌≡◌, ◌≢◌, ◌<◌, ◌≤◌, ◌+◌, ◌-◌, ◌⊎◌, inl, inr, refl, sym, ◌∙◌, ap, subst, arith}
use Rattle.std.proofs.lemmas.Bool.{cases_lt, cases_eq}
use Rattle.std.proofs.lemmas.List.{get_or-map, get_or_past, get_or_append_left, get_or_push, get_or-set_same, get_or-set_other, length-map, length_push, length-set}
use Rattle.std.proofs.lemmas.List.Elements.{All-get_or, All-set, All-weaker}
use Rattle.list_pool.specs.Pool.{list_at}
use Rattle.signature_chase.specs.declared.owners.Owner.{Owner}
use Rattle.signature_chase.specs.Owning.{PutsInto}
use Rattle.signature_chase.specs.Owned.{owner_at, chain, chains, LeadsBack, AreOwners}

-- where there is none, none follows
pub chain_none : (os : List Owner) (n : ℕ) → chain os n 0 ≡ []
unfolding chain
chain_none os zero = refl
chain_none os (suc n) = refl

pub chain_some : (os : List Owner) (n place : ℕ) → chain os (suc n) (suc place) ≡ (owner_at os place).group ∷ chain os n (owner_at os place).next
unfolding chain
chain_some os n place = refl

-- a chain is no longer than the place where it begins
pub chain_enough : (os : List Owner) → LeadsBack os → (m n at : ℕ) → at ≤ m → at ≤ n → at ≤ length os → chain os m at ≡ chain os n at
chain_enough os back m n zero hm hn h = chain_none os m ∙ sym (chain_none os n)
chain_enough os back zero n (suc place) hm hn h = absurd (omega arith)
chain_enough os back (suc m) zero (suc place) hm hn h = absurd (omega arith)
chain_enough os back (suc m) (suc n) (suc place) hm hn h =
    let next = (owner_at os place).next in
    let less : next ≤ place = back place (omega arith) in
    chain_some os m place ∙ ap (λ gs. (owner_at os place).group ∷ gs) (chain_enough os back m n next (omega arith) (omega arith) (omega arith)) ∙ sym (chain_some os n place)

-- a chain is its first owner and the chain from what follows
pub chain_step : (os : List Owner) → LeadsBack os → (n at : ℕ) → 0 < at → at ≤ n → at ≤ length os →
    chain os n at ≡ (owner_at os (at - 1)).group ∷ chain os n (owner_at os (at - 1)).next
chain_step os back n zero some hn h = absurd (omega arith)
chain_step os back zero (suc place) some hn h = absurd (omega arith)
chain_step os back (suc n) (suc place) some hn h =
    let e : suc place - 1 ≡ place = omega arith in
    let less : (owner_at os place).next ≤ place = back place (omega arith) in
    rw e (chain_some os n place ∙ ap (λ gs. (owner_at os place).group ∷ gs) (chain_enough os back n (suc n) (owner_at os place).next (omega arith) (omega arith) (omega arith)))

owner_kept : (os : List Owner) (o : Owner) (place : ℕ) → place < length os → owner_at (os ++ o ∷ []) place ≡ owner_at os place
owner_kept os o place h = get_or_append_left os (o ∷ []) (record { group = 0; next = 0 }) place h

start_same : (xs ys : List Owner) (k : ℕ) → chain xs 0 k ≡ chain ys 0 k
unfolding chain
start_same xs ys k = refl

-- an owner more changes no chain
pub chain_push : (os : List Owner) (o : Owner) → LeadsBack os → (n at : ℕ) → at ≤ length os → chain (os ++ o ∷ []) n at ≡ chain os n at
chain_push os o back zero at h = start_same (os ++ o ∷ []) os at
chain_push os o back (suc n) zero h = chain_none (os ++ o ∷ []) (suc n) ∙ sym (chain_none os (suc n))
chain_push os o back (suc n) (suc place) h =
    let same = owner_kept os o place (omega arith) in
    let less : (owner_at os place).next ≤ place = back place (omega arith) in
    chain_some (os ++ o ∷ []) n place
    ∙ ap (λ (x : Owner). x.group ∷ chain (os ++ o ∷ []) n x.next) same
    ∙ ap (λ gs. (owner_at os place).group ∷ gs) (chain_push os o back n (owner_at os place).next (omega arith))
    ∙ sym (chain_some os n place)

-- the list of a name is the chain from its head
pub list_at-chains : (heads : List ℕ) (os : List Owner) (m : ℕ) → list_at (chains heads os) m ≡ chain os (length os) (get_or heads m 0)
list_at-chains heads os m = elim (cases_lt m (length heads)) [
  | inl h ↦ get_or-map (λ head. chain os (length os) head) heads m 0 [] h
  | inr h ↦ get_or_past (chains heads os) m [] (omega (arith, length-map heads (λ head. chain os (length os) head)))
      ∙ sym (ap (λ k. chain os (length os) k) (get_or_past heads m 0 h) ∙ chain_none os (length os))
]

pub head_in : (heads : List ℕ) (os : List Owner) → AreOwners heads os → (m : ℕ) → get_or heads m 0 ≤ length os
head_in heads os h m = elim (cases_lt m (length heads)) [
  | inl k ↦ All-get_or (λ head. head ≤ length os) heads m 0 k h.begin
  | inr k ↦ (let e = get_or_past heads m 0 k in omega arith)
]

-- the lists with one group more in the list of one name
module _ (heads : List ℕ) (os : List Owner) (name group : ℕ) (are : AreOwners heads os) (named : name < length heads) where
  added : Owner
  added = record { group = group; next = get_or heads name 0 }

  heads' : List ℕ
  heads' = set heads name (length os + 1)

  os' : List Owner
  os' = os ++ added ∷ []

  long : length os' ≡ length os + 1
  unfolding os'
  long = length_push os added

  last : owner_at os' (length os) ≡ added
  unfolding os'
  last = get_or_push os added (record { group = 0; next = 0 }) (length os) refl

  pub are_owners : AreOwners (set heads name (length os + 1)) (os ++ record { group = group; next = get_or heads name 0 } ∷ [])
  unfolding added heads' os'
  are_owners = record {
    begin = All-set (λ head. head ≤ length os') heads name (length os + 1) (omega (arith, long))
        (All-weaker (λ head. head ≤ length os) (λ head. head ≤ length os') (λ head h. omega (arith, long)) heads are.begin);
    back = λ place h. elim (cases_lt place (length os)) [
      | inl k ↦ rw (owner_kept os added place k) (are.back place k)
      | inr k ↦ (let e : length os ≡ place = omega (arith, long) in
          subst (λ p. (owner_at os' p).next ≤ p) e (rw last (head_in heads os are name)))
    ];
  }

  pub list_here : list_at (chains (set heads name (length os + 1)) (os ++ record { group = group; next = get_or heads name 0 } ∷ [])) name ≡ group ∷ list_at (chains heads os) name
  unfolding added heads' os'
  list_here =
      list_at-chains heads' os' name
      ∙ ap (λ k. chain os' (length os') k) (get_or-set_same heads name (length os + 1) 0 named)
      ∙ ap (λ n. chain os' n (length os + 1)) long
      ∙ (let one : length os + 1 ≡ suc (length os) = omega arith in rw one (chain_some os' (length os) (length os)))
      ∙ ap (λ (x : Owner). x.group ∷ chain os' (length os) x.next) last
      ∙ ap (λ gs. group ∷ gs) (chain_push os added are.back (length os) (get_or heads name 0) (head_in heads os are name) ∙ sym (list_at-chains heads os name))

  pub list_other : (m : ℕ) → m ≢ name → list_at (chains (set heads name (length os + 1)) (os ++ record { group = group; next = get_or heads name 0 } ∷ [])) m ≡ list_at (chains heads os) m
  unfolding added heads' os'
  list_other m other =
      let in_m = head_in heads os are m in
      list_at-chains heads' os' m
      ∙ ap (λ k. chain os' (length os') k) (get_or-set_other heads name m (length os + 1) 0 other)
      ∙ chain_push os added are.back (length os') (get_or heads m 0) in_m
      ∙ chain_enough os are.back (length os') (length os) (get_or heads m 0) (omega (arith, long)) in_m in_m
      ∙ sym (list_at-chains heads os m)

-- what stands in a list with one group in front
pub cons_cases : (y : ℕ) (xs : List ℕ) (x : ℕ) → Contains (y ∷ xs) x → (x ≡ y) ⊎ Contains xs x
cons_cases y xs x h = go h.0 h.1 h.2
  where
    go : (k : ℕ) → k < length (y ∷ xs) → get_or (y ∷ xs) k x ≡ x → (x ≡ y) ⊎ Contains xs x
    go zero lt e = inl (sym e)
    go (suc k) lt e = inr (k, omega arith, e)

pub cons_here : (x : ℕ) (xs : List ℕ) → Contains (x ∷ xs) x
cons_here x xs = (0, omega arith, refl)

pub cons_later : (y : ℕ) (xs : List ℕ) (x : ℕ) → Contains xs x → Contains (y ∷ xs) x
cons_later y xs x h = (suc h.0, omega (arith, h.1), h.2)

-- a chain begins with its first owner
begin_chain : (os : List Owner) (n at : ℕ) → 0 < at → at ≤ n → Contains (chain os n at) (owner_at os (at - 1)).group
begin_chain os n zero some h = absurd (omega arith)
begin_chain os zero (suc place) some h = absurd (omega arith)
begin_chain os (suc n) (suc place) some h =
    let e : suc place - 1 ≡ place = omega arith in
    rw (e, chain_some os n place) (cons_here (owner_at os place).group (chain os n (owner_at os place).next))

-- the group that a name's list begins with
pub begins : (heads : List ℕ) (os : List Owner) (name head : ℕ) → AreOwners heads os → head ≡ get_or heads name 0 → 0 < head →
    Contains (list_at (chains heads os) name) (owner_at os (head - 1)).group
begins heads os name head are e some =
    let within = head_in heads os are name in
    rw (list_at-chains heads os name, ← e) (begin_chain os (length os) head some (omega arith))

nothing : (xs : List Owner) (k : ℕ) → chain xs 0 k ≡ []
unfolding chain
nothing xs k = refl

-- no lists where there are no owners
pub empty_chains : (heads : List ℕ) (os : List Owner) (m : ℕ) → os ≡ [] → list_at (chains heads os) m ≡ []
empty_chains heads os m e = list_at-chains heads os m ∙ ap (λ xs. chain xs (length xs) (get_or heads m 0)) e ∙ none (get_or heads m 0)
  where
    none : (k : ℕ) → chain [] 0 k ≡ []
    none k = nothing [] k

-- a group is put in front of the list of a name
pub put_owner : (heads : List ℕ) (os : List Owner) (name group : ℕ) (heads' : List ℕ) (os' : List Owner) → AreOwners heads os → name < length heads →
    heads' ≡ set heads name (length os + 1) → os' ≡ os ++ record { group = group; next = get_or heads name 0 } ∷ [] →
    PutsInto (chains heads os) (chains heads' os') group (λ m. m ≡ name)
put_owner heads os name group heads' os' are named eh eo =
    rw (eh, eo) (record {
      count = length-map (set heads name (length os + 1)) (λ head. chain os'' (length os'') head) ∙ length-set heads name (length os + 1) ∙ sym (length-map heads (λ head. chain os (length os) head));
      every = λ m h. rw h (rw here (cons_here group (list_at (chains heads os) name)));
      kept = λ m g h. elim (cases_eq m name) [
        | inl e ↦ subst (λ k. Contains (list_at after k) g) (sym e) (rw here (cons_later group (list_at (chains heads os) name) g (subst (λ k. Contains (list_at (chains heads os) k) g) e h)))
        | inr d ↦ rw (list_other heads os name group are named m d) h
      ];
      only = λ m g h. elim (cases_eq m name) [
        | inl e ↦ elim (cons_cases group (list_at (chains heads os) name) g (subst (λ xs. Contains xs g) here (subst (λ k. Contains (list_at after k) g) e h))) [
          | inl same ↦ inr same
          | inr k ↦ inl (subst (λ n. Contains (list_at (chains heads os) n) g) (sym e) k)
        ]
        | inr d ↦ inl (subst (λ xs. Contains xs g) (list_other heads os name group are named m d) h)
      ];
    })
  where
    os'' : List Owner
    os'' = os ++ record { group = group; next = get_or heads name 0 } ∷ []

    after : List (List ℕ)
    after = chains (set heads name (length os + 1)) os''

    here : list_at after name ≡ group ∷ list_at (chains heads os) name
    here = list_here heads os name group are named
