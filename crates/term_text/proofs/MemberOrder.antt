-- The order of members by their texts.
use Rattle.std.specs.Cmp.{IsStrictWeakOrder}
use Rattle.std.proofs.lemmas.Cmp.{nat_list_cmp_total}
use Rattle.std.proofs.lemmas.List.Sorted.{ranks_by}
use Rattle.term_text.specs.declared.member.Member.{Member}
use Rattle.term_text.specs.Members.{is_before}

pub before_is_order : IsStrictWeakOrder is_before
before_is_order = ranks_by nat_list_cmp_total (λ (m : Member). m.text)
