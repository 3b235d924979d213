-- What was shown before the entry are the labels before it, and so it shows those after it.
use Rattle.std.proofs.Common.{◌++◌, ◌∷◌, [], List, ap, sym, ◌∙◌}
use Rattle.chase_laws.specs.declared.entry.Entry.{Entry}
use Rattle.class_book.specs.Classes.{Classes}
use Rattle.steal_pool.proofs.Entered.{shown_after}
use Rattle.steal_pool.proofs.shared.post_last.Goals as goal

pub post-requires-clause-more : goal.post-requires-clause-more
post-requires-clause-more c =
    let h = c.requires.entered in
    (h.2, ap (λ (b : Classes). b.journal) c.book.ensures.book ∙ h.3.3.journal ∙ ap (λ (js : List Entry). js ++ h.2 ∷ []) (sym h.4))

pub returns-clause-shown : goal.returns-clause-shown
returns-clause-shown c =
    let h = c.requires.entered in
    let e : Entry = h.2 in
    let book = c.book.result.now in
    shown_after h.0 _ e h.3.3 book c.args.scribe.now.shown c.post.new.scribe.shown (ap (λ (b : Classes). b.journal) c.book.ensures.book) (ap (λ (b : Classes). b.labels) c.book.ensures.book) h.5
    (c.post.ensures.shown e (ap (λ (b : Classes). b.journal) c.book.ensures.book ∙ h.3.3.journal ∙ ap (λ (js : List Entry). js ++ e ∷ []) (sym h.4)))
    ∙ ap (λ (b : Classes). b.labels) c.book.ensures.book
