-- Few keys have few terms.
use Rattle.std.proofs.Common.{subst}
use Rattle.key_file.specs.KeyFile.{IsKeyFile}
use Rattle.key_file.proofs.CompileLemmas.{few_terms}
use Rattle.key_file.proofs.file.KeyFile.keys.Goals as goal

pub returns-clause-few_terms : goal.returns-clause-few_terms
returns-clause-few_terms c = few_terms c.args.self.now (subst IsKeyFile c.self.view_is c.self.invariant)
