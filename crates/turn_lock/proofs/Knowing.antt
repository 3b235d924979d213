-- What is right for a value is right for one with more entries.
use Rattle.std.proofs.Common.{List, [], ◌∷◌, ◌++◌, arith}
use Rattle.turn_lock.specs.declared.view.Known.{Known}
use Rattle.turn_lock.specs.Lists.{StartsWith}
use Rattle.turn_lock.specs.Turns.{IsRight, AreRight}
use Rattle.turn_lock.proofs.Sums.{begins_longer, begins_length}

module _ {B I : Type 0} where
  pub right_longer : (b : B) (log log' : List I) (k : Known B I) → StartsWith log' log → IsRight b log k → IsRight b log' k
  right_longer b log log' k more r = record {
    based = r.based;
    begun = begins_longer log' log k.seen more r.begun;
    risen = let a = r.risen in let c = begins_length log' log more in omega arith;
  }

  pub all_right_longer : (b : B) (log log' : List I) (ks : List (Known B I)) → StartsWith log' log → AreRight b log ks → AreRight b log' ks
  all_right_longer b log log' [] more r = tt
  all_right_longer b log log' (k ∷ ks) more r = (right_longer b log log' k more r.0, all_right_longer b log log' ks more r.1)

  pub all_right_append : (b : B) (log : List I) (ks hs : List (Known B I)) → AreRight b log ks → AreRight b log hs → AreRight b log (ks ++ hs)
  all_right_append b log [] hs r q = q
  all_right_append b log (k ∷ ks) hs r q = (r.0, all_right_append b log ks hs r.1 q)

  pub all_right_front : (b : B) (log : List I) (ks hs : List (Known B I)) → AreRight b log (ks ++ hs) → AreRight b log ks
  all_right_front b log [] hs r = tt
  all_right_front b log (k ∷ ks) hs r = (r.0, all_right_front b log ks hs r.1)
