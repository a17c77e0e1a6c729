use Rattle.std.proofs.Common.{if◌then◌else◌, sym, ◌∙◌, subst}
use Rattle.ep_editor.specs.Comes.{Comes, said}
use Rattle.ep_editor.specs.Inside.{hears_more, resumed}
use Rattle.ep_editor.proofs.entered.Entered.hear_back.Goals as goal

pub returns-then-is_connected-clause-replies : goal.returns-then-is_connected-clause-replies
returns-then-is_connected-clause-replies c =
    let a = c.args in
    subst (λ t. Comes said c.hear_more.result a.self.now c.hear_more.new.self (if t then hears_more a.back a.news a.self.now else resumed a.back a.news a.self.now))
    (sym (sym c.is_connected.ensures ∙ c.if-is_connected.true)) c.hear_more.ensures.replies

pub returns-clause-replies : goal.returns-clause-replies
returns-clause-replies c =
    let a = c.args in
    subst (λ t. Comes said c.resumed.result a.self.now c.resumed.new.self (if t then hears_more a.back a.news a.self.now else resumed a.back a.news a.self.now))
    (sym (sym c.is_connected.ensures ∙ c.if-is_connected.false)) c.resumed.ensures.replies
