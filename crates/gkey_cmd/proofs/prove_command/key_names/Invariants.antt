use Rattle.std.proofs.Common.{◌≡◌, map, take}
use Rattle.key_file.specs.KeyShape.{KeyShape}
use Rattle.gkey_cmd.proofs.prove_command.key_names.Given as goal

abbrev pub invariant-loop-key : goal.invariant-loop-key
invariant-loop-key l = l.names.items ≡ map (λ (k : KeyShape). k.name) (take l.key-index l.keys)
