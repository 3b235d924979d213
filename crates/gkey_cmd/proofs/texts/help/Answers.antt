-- The two texts are one.
use Rattle.std.proofs.Common.{refl}
use Rattle.gkey_cmd.specs.Texts.{help_text}
use Rattle.gkey_cmd.proofs.texts.help.Goals as goal

pub returns : goal.returns
unfolding help_text
returns c = refl
