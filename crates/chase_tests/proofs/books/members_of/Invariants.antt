use Rattle.std.proofs.Common.{◌<◌, length}
use Rattle.std.specs.Prelude.{IfSome}
use Rattle.chase_tests.proofs.books.members_of.Given as goal

-- the member that is reached is a node
abbrev pub invariant-loop : goal.invariant-loop
invariant-loop l = IfSome l.member (λ n. n < length l.book.labels)
