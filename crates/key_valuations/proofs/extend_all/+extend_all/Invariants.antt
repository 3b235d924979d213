use Rattle.std.proofs.Common.{◌≡◌, ◌-◌, length, take}
use Rattle.key_valuations.specs.Counts.{HasCounts}
use Rattle.key_valuations.specs.Listing.{AddsParts}
use Rattle.key_valuations.proofs.ListingLaws.{IsReachedBy}
use Rattle.key_valuations.proofs.extend_all.+extend_all.Given as goal

abbrev pub decreases-extend_all : goal.decreases-extend_all
decreases-extend_all l = length l.plan.now.shape.slots - length l.places.now

abbrev pub invariant-loop-m : goal.invariant-loop-m
invariant-loop-m l = record {
  places : l.places ≡ l.fn.places;
  added : AddsParts l.graph l.pattern (IsReachedBy l.graph l.plan l.marks l.fn.places (take l.m-index l.names)) l.fn.rows l.rows;
  counts : HasCounts l.pattern l.rows.value_count l.rows.image_count;
}
