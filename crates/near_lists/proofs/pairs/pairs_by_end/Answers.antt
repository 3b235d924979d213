use Rattle.std.proofs.Common.{List, ℕ, Contains, All, ◌≡◌, ◌<◌, ◌↔◌, ap, sym, ◌∙◌, subst, length, map, arith}
use Rattle.std.specs.List.{concat, sum}
use Rattle.std.specs.List.Sorted.{IsStrictlyIncreasing}
use Rattle.list_pool.specs.Pool.{list_at}
use Rattle.near_lists.specs.Turning.{HasEnd}
use Rattle.near_lists.specs.Owners.{ends_of, owners_of}
use Rattle.near_lists.proofs.Counted.{sum_tallies}
use Rattle.near_lists.proofs.Owners.{All-concat, length_all_owners, Contains_all_owners, owners_rise}
use Rattle.near_lists.proofs.Ended.{both_all, both_named, ends_exact, ends_rise, length-concat_ends}
use Rattle.near_lists.proofs.pairs.pairs_by_end.Goals as goal

pub new-requires : goal.new-requires
new-requires c =
    let pairs = c.args.pairs.now in
    let rows = map ends_of pairs in
    let tallies = c.in_ok-tallies.tallies.items in
    let e = c.in_ok-tallies.ensures in
    let named : All (λ m. m < length tallies) (concat rows) = rw e.one_each
    (All-concat (λ m. m < c.args.names) rows (both_all (λ m. m < c.args.names) pairs (both_named c.args.names pairs c.requires.named))) in
    let total : sum tallies ≡ length (concat rows) = sum_tallies (concat rows) tallies (λ n h. e.each n (omega (arith, e.one_each)) ∙ length_all_owners rows n) named in
    let few = length-concat_ends pairs in
    rw (c.deref.ensures.value, total) (omega (arith, c.requires.few))

-- what stands for a name when all is put
listed : (rows lists result : List (List ℕ)) (names e : ℕ) → result ≡ lists → ((n : ℕ) → n < names → list_at lists n ≡ owners_of rows n) → e < names → list_at result e ≡ owners_of rows e
listed rows lists result names e same put h = ap (λ ls. list_at ls e) same ∙ put e h

pub returns-clause-ascending : goal.returns-clause-ascending
returns-clause-ascending c = λ e h.
    let pairs = c.args.pairs.now in
    let rows = map ends_of pairs in
    let made = c.in_ok-filling.ensures in
    let names : length c.in_ok-filling.filling.lists ≡ c.args.names = made.as_many ∙ ap (λ (xs : List ℕ). length xs) c.deref.ensures.value ∙ c.in_ok-tallies.ensures.one_each in
    let is = listed rows c.put_pairs.new.filling.lists c.finish.result (length c.in_ok-filling.filling.lists) e c.finish.ensures c.put_pairs.ensures.lists (omega arith) in
    subst IsStrictlyIncreasing (sym is) (owners_rise rows e (length rows) (ends_rise c.args.names pairs c.requires.named) (omega arith))

pub returns-clause-exact : goal.returns-clause-exact
returns-clause-exact c = λ e p h.
    let pairs = c.args.pairs.now in
    let rows = map ends_of pairs in
    let made = c.in_ok-filling.ensures in
    let names : length c.in_ok-filling.filling.lists ≡ c.args.names = made.as_many ∙ ap (λ (xs : List ℕ). length xs) c.deref.ensures.value ∙ c.in_ok-tallies.ensures.one_each in
    let is = listed rows c.put_pairs.new.filling.lists c.finish.result (length c.in_ok-filling.filling.lists) e c.finish.ensures c.put_pairs.ensures.lists (omega arith) in
    let all = Contains_all_owners rows e p in
    let ends = ends_exact pairs p e in
    subst (λ xs. Contains xs p ↔ HasEnd pairs p e) (sym is) ((λ k. ends.0 (all.0 k)), (λ k. all.1 (ends.1 k)))
