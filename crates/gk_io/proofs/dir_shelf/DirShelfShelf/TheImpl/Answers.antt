-- It tells no bytes, so what the trait says of bytes says nothing here.
use Rattle.std.proofs.Common.{refl}
use Rattle.gk_io.proofs.ResultLemmas.{match_result_always}
use Rattle.gk_io.proofs.dir_shelf.DirShelfShelf.TheImpl.Goals as goal

pub find-tells : goal.find-tells
find-tells g c = record {
  cause = c.ensures.cause;
  asked = c.ensures.asked;
  bad = c.ensures.bad;
  held = refl;
  found = match_result_always c.result _ _ (λ _. tt) (λ _. tt);
  err = match_result_always c.result _ _ (λ _. tt) (λ _. refl);
}

pub read-tells : goal.read-tells
read-tells g c = record {
  cause = c.ensures.cause;
  asked = c.ensures.asked;
  bad = c.ensures.bad;
  held = refl;
  within = c.ensures.within;
  bytes = match_result_always c.result _ _ (λ _. tt) (λ _. tt);
  err = match_result_always c.result _ _ (λ _. tt) (λ _. refl);
}
