-- When there are no pairs.
use Rattle.std.specs.Prelude.{List, ℕ, ⊤, ◌≡◌, ◌+◌}
use Rattle.gk_base.specs.declared.stop.Stop.{Stop}
use Rattle.gk_base.specs.declared.stop.Stop.TheVariants.{NoMemory, Fault}
use Rattle.chase_laws.specs.Shape.{Shape}
use Rattle.chase_laws.specs.Graph.{NumberedGraph}
use Rattle.pair_seed.specs.Pairs.{HasMoreCandidates}
use Rattle.pair_seed.specs.declared.stop.TooManyPairs.{TooManyPairs}

-- 'Too many' is answered only where there are more candidates than the limit, and names one more than the limit.
-- Want of memory may be answered at any time (this project's own).
abbrev pub IsRightStop : NumberedGraph → List Shape → ℕ → Stop TooManyPairs → Type 0
IsRightStop G K limit NoMemory = ⊤
IsRightStop G K limit (Fault many) = (many.found ≡ limit + 1) × HasMoreCandidates G K limit
