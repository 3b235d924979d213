use Rattle.std.proofs.Common.{rules}
use Rattle.std.proofs.lemmas.Fn.{always_returns_same}
use Rattle.term_text.specs.Members.{is_before}
use Rattle.term_text.proofs.MemberOrder.{before_is_order}
use Rattle.term_text.proofs.member.sort_in_threads.Goals as goal

pub returns-clause-sorted : goal.returns-clause-sorted
returns-clause-sorted g c = c.in_ok-par_sort_by.ensures.sorted is_before before_is_order (always_returns_same _ _ _ (λ a r f' k. search rules))

pub returns-clause-stable : goal.returns-clause-stable
returns-clause-stable g c = c.in_ok-par_sort_by.ensures.stable is_before before_is_order (always_returns_same _ _ _ (λ a r f' k. search rules))

pub returns-in_err-par_sort_by-clause-stable : goal.returns-in_err-par_sort_by-clause-stable
returns-in_err-par_sort_by-clause-stable g c = c.in_err-par_sort_by.ensures.stable is_before before_is_order (always_returns_same _ _ _ (λ a r f' k. search rules))
