-- Pairs whose ends are joined already, passed over on the way to one to hand out (this project's own).
use Rattle.std.specs.Prelude.{List, [], ◌∷◌, ◌++◌, ℕ, Option, Some, None, IfSome, MatchOption, All, slice_get, ◌≡◌, ◌⊎◌}
use Rattle.chase_laws.specs.declared.pair_state.PairState.TheVariants as state
use Rattle.chase_laws.specs.Core.{Task, Stands, EndsJoined, EndsApart, set_each}
use Rattle.list_pool.specs.Pool.{without}
use Rattle.class_book.specs.Classes.{Classes}
use Rattle.chase_core.specs.Table.{Standings, IsReadyList}
use Rattle.chase_core.specs.Running.{state_of}

-- pairs at the front of the Ready list, which were Ready and whose ends are joined, are Joined now
pub record HavePassed (T : Task) (book : Classes) (old new : Standings) (passed : List ℕ) : Type 0 where
  pub front : old.ready ≡ passed ++ new.ready
  pub states : new.states ≡ set_each old.states passed state.Joined
  pub all : All (λ p. Stands (state_of book old) p state.Ready × EndsJoined T (state_of book old) p) passed

-- so many were passed over that the ends of the first pair that is left are not joined, or that no pair is left
pub record PassesOver (T : Task) (book : Classes) (old new : Standings) (next : Option ℕ) : Type 0 where
  pub passed : List ℕ
  pub have : HavePassed T book old new passed
  pub first : next ≡ slice_get new.ready 0
  pub listed : IsReadyList new.states new.ready
  pub apart : IfSome next (λ p. EndsApart T (state_of book old) p)

-- the hinted pair is answered where it is Ready and its ends are not joined; where they are joined, it was passed over
pub record PassesHint (T : Task) (book : Classes) (old new : Standings) (hint : ℕ) (next : Option ℕ) : Type 0 where
  pub cases : (Stands (state_of book old) hint state.Ready × EndsApart T (state_of book old) hint × (next ≡ Some hint) × (new ≡ old))
      ⊎ ((Stands (state_of book old) hint state.Ready × EndsJoined T (state_of book old) hint × (next ≡ None)
      × (new.states ≡ set_each old.states (hint ∷ []) state.Joined) × (new.ready ≡ without old.ready hint))
      ⊎ (¬ (Stands (state_of book old) hint state.Ready) × (next ≡ None) × (new ≡ old)))

-- a pair to hand out, by a hint or without
abbrev pub Passes : Task → Classes → Standings → Standings → Option ℕ → Option ℕ → Type 0
Passes T book old new hint next = MatchOption hint (PassesOver T book old new next) (λ p. PassesHint T book old new p next)
