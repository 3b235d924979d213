-- What proofs of the crates above cite. No other proof file of this crate is cited outside it.
pub use Rattle.chase_laws.proofs.Bound.{lean_bound}
pub use Rattle.chase_laws.proofs.CoreEnd.{at_most_pairs, found_step}
pub use Rattle.chase_laws.proofs.CoreEvents.{near_named}
pub use Rattle.chase_laws.proofs.Derivations.{none_derived, IsDerivation-push, IsLean-push}
pub use Rattle.chase_laws.proofs.JoinedLaws.{Within, Within-append}
pub use Rattle.chase_laws.proofs.Lists.{All-at, slice_get-from_Contains, slice_get-map_from, slice_get-within}
pub use Rattle.chase_laws.proofs.NearLaws.{near_entity, reached_later, reached_next}
pub use Rattle.chase_laws.proofs.Patterns.{get_or-map_range}
pub use Rattle.chase_laws.proofs.JoinedLaws.{Within-cons, Within-more, Within-nil, Within-trans, joined-push, joined_head, joined_last, joined_nil, joined_parts, joined_refl, joined_sym, joined_trans}
pub use Rattle.chase_laws.proofs.Lists.{Contains-from_slice_get}
