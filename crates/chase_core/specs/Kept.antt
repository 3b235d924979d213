-- What a setup's fields are (this project's own).
use Rattle.chase_core.specs.Setup.{Preparation}
use Rattle.chase_core.specs.declared.setup.Setup.TheInside.{Inside}

-- the setup that the fields are
abbrev pub preparation_of : Inside → Preparation
preparation_of s = record { task = record { graph = s.graph; patterns = s.patterns.items; pairs = s.pairs.items }; plans = s.plans.items; near = s.near; widest = s.widest }
