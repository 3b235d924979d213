-- A demo ends by its own texts, help and version by none, and these leave the shelf as it is.
use Rattle.std.proofs.Common.{subst}
use Rattle.gkey_cmd.specs.Commands.{wanted}
use Rattle.gkey_cmd.specs.Endings.{DemoStops}
use Rattle.gkey_cmd.proofs.Caused.{given_ends, demo_caused, help_caused, version_caused}
use Rattle.gkey_cmd.proofs.top.decide.Goals as goal

pub returns-in-Some-Demo-clause-caused : goal.returns-in-Some-Demo-clause-caused
returns-in-Some-Demo-clause-caused g c =
    let n = c.in-Some-Demo.n in
    let limits = c.args.limits.now in
    let asked = rw c.in-Some-Demo.field-0-is at c.in-Some-Demo.ensures in
    let options = c.chase_options-options-in-Some-Demo in
    let ends = given_ends (DemoStops n options.result.limits.now) c.demo_command.result c.given-in-Some-Demo.result c.given-in-Some-Demo.ensures c.demo_command.ensures in
    demo_caused g.S.Shelf c.args.shelf.now limits (wanted c.args.words.now) n asked.0 c.given-in-Some-Demo.result
    (subst (λ l. DemoStops n l c.given-in-Some-Demo.result) options.ensures.limits ends)

-- Help and version go by no file.
pub returns-in-Some-Help-clause-caused : goal.returns-in-Some-Help-clause-caused
returns-in-Some-Help-clause-caused g c =
    let asked = rw c.in-Some-Help.field-0-is at c.in-Some-Help.ensures in
    help_caused g.S.Shelf c.args.shelf.now c.args.limits.now (wanted c.args.words.now) asked
    c.help_text.result c.help_text.ensures c.said.result c.said.ensures

pub returns-in-Some-Version-clause-caused : goal.returns-in-Some-Version-clause-caused
returns-in-Some-Version-clause-caused g c =
    let asked = rw c.in-Some-Version.field-0-is at c.in-Some-Version.ensures in
    version_caused g.S.Shelf c.args.shelf.now c.args.limits.now (wanted c.args.words.now) asked
    c.version_text.result c.version_text.ensures c.said-in-Some-Version.result c.said-in-Some-Version.ensures
