-- The file that is found is the first with its name.
use Rattle.std.proofs.Common.{◌∙◌, ap, bytes_eq}
use Rattle.gk_io.proofs.FileLemmas.{bytes_of-here, bytes_of-nowhere}
use Rattle.gk_io.proofs.held_files.place_of.Goals as goal

pub returns-then-eq-clause-bytes : goal.returns-then-eq-clause-bytes
returns-then-eq-clause-bytes c =
    bytes_of-here c.args.files.now c.args.name.now c.loop-place.place c.index-files-place.result c.loop-place-test.true c.index-files-place.is
    (c.if-eq.ensures ∙ ap (λ name. bytes_eq name c.args.name.now) c.bytes.ensures) c.loop-place.invariant.bytes

pub returns-clause-bytes : goal.returns-clause-bytes
returns-clause-bytes c = bytes_of-nowhere c.args.files.now c.args.name.now c.loop-place.place c.loop-place-test.false c.loop-place.invariant.bytes
