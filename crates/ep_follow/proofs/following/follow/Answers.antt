use Rattle.std.proofs.Common.{◌∙◌, sym, ap}
use Rattle.std.proofs.lemmas.Result.{IfOk-weaker}
use Rattle.ep_cs.specs.Change.{Change}
use Rattle.ep_cs.specs.Edit.{identity}
use Rattle.ep_cs.specs.Fits.{is_identity}
use Rattle.ep_follow.specs.Follows.{is_a}
use Rattle.ep_follow.proofs.Identities.{through_identity}
use Rattle.ep_follow.proofs.Shortcuts.{same_follows, same_fits, nothing_follows, nothing_fits, nothing_stays}
use Rattle.ep_follow.proofs.following.follow.Goals as goal

pub returns-then-is_identity-clause-exact : goal.returns-then-is_identity-clause-exact
returns-then-is_identity-clause-exact c =
    let nothing = sym c.is_identity.ensures ∙ c.if-is_identity.true in
    IfOk-weaker c.copy.result _ _ (λ x e. same_follows c.args.first c.args.a.now c.args.b.now x c.ops-second.ensures.normal nothing e) c.copy.ensures

pub returns-then-is_identity-clause-fits : goal.returns-then-is_identity-clause-fits
returns-then-is_identity-clause-fits c =
    let nothing = sym c.is_identity.ensures ∙ c.if-is_identity.true in
    IfOk-weaker c.copy.result _ _ (λ x e. same_fits c.args.a.now c.args.b.now x nothing e) c.copy.ensures

pub returns-then-is_identity-clause-through : goal.returns-then-is_identity-clause-through
returns-then-is_identity-clause-through c = IfOk-weaker c.copy.result _ _ (λ x e. λ _. e) c.copy.ensures

pub returns-then-is_identity-clause-nothing : goal.returns-then-is_identity-clause-nothing
returns-then-is_identity-clause-nothing c = IfOk-weaker c.copy.result _ _ (λ x e. λ h. ap (λ (y : Change). is_identity y.edit) e ∙ h) c.copy.ensures

pub returns-then-is_identity-2-clause-exact : goal.returns-then-is_identity-2-clause-exact
returns-then-is_identity-2-clause-exact c =
    let nothing = sym c.is_identity-2.ensures ∙ c.if-is_identity-2.true in
    nothing_follows c.args.first c.args.a.now c.args.b.now c.identity.result nothing (c.identity.ensures.edit ∙ ap identity c.new_len.ensures) c.identity.ensures.runs

pub returns-then-is_identity-2-clause-fits : goal.returns-then-is_identity-2-clause-fits
returns-then-is_identity-2-clause-fits c =
    let nothing = sym c.is_identity-2.ensures ∙ c.if-is_identity-2.true in
    nothing_fits c.args.first c.args.a.now c.args.b.now c.identity.result c.ops-first.ensures.normal
    (nothing_follows c.args.first c.args.a.now c.args.b.now c.identity.result nothing (c.identity.ensures.edit ∙ ap identity c.new_len.ensures) c.identity.ensures.runs)

pub returns-then-is_identity-2-clause-through : goal.returns-then-is_identity-2-clause-through
returns-then-is_identity-2-clause-through c = λ h.
    let nothing = sym c.is_identity-2.ensures ∙ c.if-is_identity-2.true in
    let r = c.requires in
    nothing_follows c.args.first c.args.a.now c.args.b.now c.identity.result nothing (c.identity.ensures.edit ∙ ap identity c.new_len.ensures) c.identity.ensures.runs r.0 r.1 r.2
    ∙ through_identity (is_a c.args.first) c.args.a.now c.args.b.now r.0 c.ops-second.ensures.normal r.1 r.2 h

pub returns-then-is_identity-2-clause-nothing : goal.returns-then-is_identity-2-clause-nothing
returns-then-is_identity-2-clause-nothing c = λ _. nothing_stays c.identity.result c.new_len.result c.identity.ensures.edit
