-- One more key of a new name.
use Rattle.std.proofs.Common.{List, false, length, ◌≡◌, ◌<◌, subst, sym}
use Rattle.key_file.specs.KeyShape.{KeyShape}
use Rattle.key_file.specs.Key.{IsKey}
use Rattle.key_file.specs.KeyFile.{has_name, IsKeyFile}
use Rattle.key_file.proofs.KeyLemmas.{file_push}
use Rattle.key_file.proofs.file.KeyFile.push.Goals as goal

pub invariant_of-self-2 : goal.invariant_of-self-2
invariant_of-self-2 c =
    subst IsKeyFile (sym c.in_ok-push.ensures.items)
    (file_push c.self.inside.keys.items c.args.key c.self.invariant
    (subst (λ (keys : List KeyShape). length keys < 64) (sym c.self.view_is) c.requires.few)
    (subst (λ (keys : List KeyShape). has_name keys c.args.key.name ≡ false) (sym c.self.view_is) c.requires.fresh)
    (subst IsKey c.key.view_is c.key.invariant))
