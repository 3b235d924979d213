-- Where the labels of the book before the entry were shown, those after it are.
use Rattle.std.proofs.Common.{◌++◌, ◌∷◌, [], List, sym, ap, subst, ◌∙◌}
use Rattle.chase_laws.specs.declared.entry.Entry.{Entry}
use Rattle.label_board.specs.Seen.{SeenScribe, ShowsClass}
use Rattle.label_board.proofs.Entered.{shown_again}
use Rattle.label_board.proofs.handles.Board.post.Goals as goal

pub returns-clause-labels : goal.returns-clause-labels
returns-clause-labels c = λ before e labelled entered posted shown.
    let book = c.args.book.now in
    let after = c.post_last.new.scribe.me.0.shown in
    let more = entered.journal ∙ ap (λ (l : List Entry). l ++ e ∷ []) (sym (ap (λ (s : SeenScribe). s.posted) c.scribe.view_is ∙ posted)) in
    shown_again before e book labelled entered after
    (subst (λ l. ShowsClass l book e.a after) (ap (λ (s : SeenScribe). s.shown) c.scribe.view_is ∙ shown) (c.post_last.ensures.shown e more))
