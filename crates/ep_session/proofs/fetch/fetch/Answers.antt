use Rattle.std.proofs.Common.{◌≡◌, ℕ, List, refl, sym, ap, ◌∙◌, subst, ◌++◌, [], ◌∷◌, length, arith}
use Rattle.std.specs.Prelude.{Ok, ◌==◌, if◌then◌else◌}
use Rattle.ep_pad.specs.declared.entries.PadEntry.TheVariants as entry
use Rattle.ep_pad.specs.declared.entries.PadReply.TheVariants as reply
use Rattle.ep_session.specs.Ends.{end_of}
use Rattle.ep_session.specs.Says.{OnLink, no_moment}
use Rattle.ep_session.specs.Session.{Called, Fetch, counted, fetched, news_due}
use Rattle.ep_session.proofs.Passes.{goes_of, legal_on}
use Rattle.ep_session.proofs.Running.{one_ends, err_is, called, done_as, done_ended, fetch_part, after}
use Rattle.ep_session.proofs.fetch.fetch.Goals as goal

pub returns-in_err-fetched-clause-done : goal.returns-in_err-fetched-clause-done
returns-in_err-fetched-clause-done g c =
    let at = c.args.place.now in
    let e = entry.Fetch at.me at.rev at.nops in
    let r = reply.Fetched c.fetch.result in
    called no_moment _ _ _ at at (Fetch ∷ []) e r c.from_residual.result _ (goes_of _ _ _ _ c.fetch.ensures.asks.makes) (tt {0})
    (one_ends at Fetch (Called e r) (end_of c.in_err-fetched.field-0.0) c.from_residual.result _ (err_is _ _ c.from_residual.ensures.1)
    (c.fetch.result, refl, sym (ap (fetched at) c.in_err-fetched.was)))

pub returns-in_err-tell_all-clause-done : goal.returns-in_err-tell_all-clause-done
returns-in_err-tell_all-clause-done g c =
    let at = c.args.place.now in
    let f = c.in_ok-fetched.fetched in
    let t = g.L.Link.traffic in
    let p = g.P.PadPort.known in
    let n = c.tell_all.new in
    done_ended no_moment (t c.args.link.now) (t n.link) (p c.args.pass.now) (p c.fetch.new.pass) at n.place (Fetch ∷ []) c.tell_all.result (λ _. [] ++ after at f) c.from_residual-in_err-tell_all.result _ c.in_err-tell_all.field-0.0
    c.in_err-tell_all.was (err_is _ _ c.from_residual-in_err-tell_all.ensures.1)
    (fetch_part (t c.args.link.now) (t n.link) (p c.args.pass.now) (p c.fetch.new.pass) at n.place f c.fetch.result c.tell_all.result c.in_ok-fetched.was (goes_of _ _ _ _ c.fetch.ensures.asks.makes)
    (subst (λ (nops : List ℕ). OnLink (t c.args.link.now) (t n.link) at n.place (news_due at.rev f.revs.items nops) c.tell_all.result (λ _. [])) c.deref.ensures.value c.tell_all.ensures.done))

pub returns-clause-done : goal.returns-clause-done
returns-clause-done g c =
    let at = c.args.place.now in
    let f = c.in_ok-fetched.fetched in
    let t = g.L.Link.traffic in
    let p = g.P.PadPort.known in
    let n = c.tell_all.new in
    let r = c.in_ok-tell_all.field-0 in
    let reached : c.counted.result ≡ counted at.rev (length f.revs.items) = omega (arith, c.counted.ensures, c.len.ensures) in
    done_as {X = Unit {0}} no_moment (t c.args.link.now) (t n.link) (p c.args.pass.now) (p c.fetch.new.pass) at n.place (Fetch ∷ []) r _ (λ _. [] ++ after at f) _
    (ap (λ n. if f.head == n then [] else (Fetch ∷ [])) (sym reached))
    (fetch_part (t c.args.link.now) (t n.link) (p c.args.pass.now) (p c.fetch.new.pass) at n.place f c.fetch.result (Ok r) c.in_ok-fetched.was (goes_of _ _ _ _ c.fetch.ensures.asks.makes)
    (subst (λ (nops : List ℕ). OnLink {X = Unit {0}} (t c.args.link.now) (t n.link) at n.place (news_due at.rev f.revs.items nops) (Ok r) (λ _. [])) c.deref.ensures.value c.in_ok-tell_all.ensures.done))

pub returns-in_err-fetched-clause-legal : goal.returns-in_err-fetched-clause-legal
returns-in_err-fetched-clause-legal g c = λ _. legal_on _ c.fetch.ensures.pad.2 c.fetch.ensures.asks.legal

pub returns-in_err-tell_all-clause-legal : goal.returns-in_err-tell_all-clause-legal
returns-in_err-tell_all-clause-legal g c = λ _. legal_on _ c.fetch.ensures.pad.2 c.fetch.ensures.asks.legal

pub returns-clause-legal : goal.returns-clause-legal
returns-clause-legal g c = λ _. legal_on _ c.fetch.ensures.pad.2 c.fetch.ensures.asks.legal
