use Rattle.std.proofs.Common.{◌≡◌, drop}
use Rattle.gk_io.specs.Files.{bytes_of, contents_of, has_file}
use Rattle.gk_io.proofs.held_files.place_of.Given as goal

abbrev pub invariant-loop-place : goal.invariant-loop-place
invariant-loop-place l = record {
  bytes : bytes_of (contents_of l.files) l.name ≡ bytes_of (contents_of (drop l.place l.files)) l.name;
  found : has_file (contents_of l.files) l.name ≡ has_file (contents_of (drop l.place l.files)) l.name;
}
