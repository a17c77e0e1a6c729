use Rattle.std.proofs.Common.{if◌then◌else◌, sym, ◌∙◌, subst}
use Rattle.ep_editor.specs.Comes.{Comes, said}
use Rattle.ep_editor.specs.Inside.{renewed, resumed_with}
use Rattle.ep_editor.proofs.entered.Entered.resumed.Goals as goal

pub returns-then-is_due-clause-replies : goal.returns-then-is_due-clause-replies
returns-then-is_due-clause-replies c =
    let a = c.args in
    subst (λ t. Comes said c.reconnect.result a.self.now c.reconnect.new.self (if t then resumed_with a.back a.news a.self.now else renewed a.back a.self.now))
    (sym (sym c.is_due.ensures ∙ c.if-is_due.true)) c.reconnect.ensures.replies
