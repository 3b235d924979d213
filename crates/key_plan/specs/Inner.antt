-- What holds of a plan's fields.
use Rattle.std.specs.Prelude.{ℕ, length, slice_index_or, ◌≡◌, ◌<◌, ◌≤◌}
use Rattle.key_plan.specs.Route.{Route, IsBlock}
use Rattle.key_plan.specs.declared.plan.Plan.TheInside.{Inside}

-- what a plan tells, from its fields
abbrev pub route_of : Inside → Route
route_of p = record {
  shape = record { slots = p.slots.items; edges = p.edges.items };
  order = p.order.items;
  place = p.place.items;
  radius = p.radius;
}

-- there are at most 16 places, and each has its edges
pub record IsInner (p : Inside) : Type 0 where
  pub few : length p.slots.items ≤ 16
  pub as_many : length p.blocks.items ≡ length p.slots.items
  pub each : (s : ℕ) → s < length p.slots.items → (d : _) → IsBlock (route_of p).shape s (slice_index_or p.blocks.items s d).items
