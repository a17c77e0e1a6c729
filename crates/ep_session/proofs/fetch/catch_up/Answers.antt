use Rattle.std.proofs.Common.{refl, ◌∙◌, ap, ◌++◌, [], ◌∷◌, arith}
use Rattle.std.specs.Prelude.{Ok, if◌then◌else◌}
use Rattle.ep_session.specs.Says.{no_moment}
use Rattle.ep_session.specs.Session.{Fetch}
use Rattle.ep_session.proofs.Running.{fetch_on, nothing_yet, done_as, done_ended, err_is}
use Rattle.ep_session.proofs.fetch.catch_up.Goals as goal

pub returns-in_err-fetch-clause-done : goal.returns-in_err-fetch-clause-done
returns-in_err-fetch-clause-done g c =
    let t = g.L.Link.traffic in
    let p = g.P.PadPort.known in
    let l = c.fetches in
    let n = c.fetch.new in
    done_ended no_moment (t c.args.link.now) (t n.link) (p c.args.pass.now) (p n.pass) c.args.place.now n.place (Fetch ∷ []) c.fetch.result _ c.from_residual.result _ c.in_err-fetch.field-0.0
    c.in_err-fetch.was (err_is _ _ c.from_residual.ensures.1)
    (fetch_on (t c.args.link.now) (t l.link) (t n.link) (p c.args.pass.now) (p l.pass) (p n.pass) c.args.place.now l.place n.place c.fetch.result l.invariant.done c.fetch.ensures.done)

pub returns-then-branch-clause-done : goal.returns-then-branch-clause-done
returns-then-branch-clause-done g c =
    let t = g.L.Link.traffic in
    let p = g.P.PadPort.known in
    let l = c.fetches in
    let n = c.fetch.new in
    let full = c.in_ok-fetch.field-0 in
    done_as {Y = Unit {0}} no_moment (t c.args.link.now) (t n.link) (p c.args.pass.now) (p n.pass) c.args.place.now n.place (Fetch ∷ []) full (tt {0}) (λ full. (if full then [] else (Fetch ∷ [])) ++ []) (λ _. [])
    (ap (λ b. (if b then [] else (Fetch ∷ [])) ++ []) c.if-branch.true)
    (fetch_on (t c.args.link.now) (t l.link) (t n.link) (p c.args.pass.now) (p l.pass) (p n.pass) c.args.place.now l.place n.place (Ok full) l.invariant.done c.in_ok-fetch.ensures.done)

pub fetches-init : goal.fetches-init
fetches-init g c = record { next = tt; finite = tt; done = nothing_yet no_moment (g.L.Link.traffic c.args.link.now) (g.P.PadPort.known c.args.pass.now) c.args.place.now (Fetch ∷ []); of = c.requires.of; pad = (refl, refl, refl); legal = λ h. h; later = omega arith }

pub fetches-preserved : goal.fetches-preserved
fetches-preserved g c =
    let t = g.L.Link.traffic in
    let p = g.P.PadPort.known in
    let l = c.fetches in
    let n = c.fetch.new in
    let full = c.in_ok-fetch.field-0 in
    record {
      next = tt;
      finite = tt;
      done = done_as {Y = Unit {0}} no_moment (t c.args.link.now) (t n.link) (p c.args.pass.now) (p n.pass) c.args.place.now n.place (Fetch ∷ []) full (tt {0}) (λ full. (if full then [] else (Fetch ∷ [])) ++ []) (λ _. Fetch ∷ [])
          (ap (λ b. (if b then [] else (Fetch ∷ [])) ++ []) c.if-branch.false)
          (fetch_on (t c.args.link.now) (t l.link) (t n.link) (p c.args.pass.now) (p l.pass) (p n.pass) c.args.place.now l.place n.place (Ok full) l.invariant.done c.in_ok-fetch.ensures.done);
      of = c.fetch.ensures.of;
      pad = (c.fetch.ensures.pad.0 ∙ l.invariant.pad.0, c.fetch.ensures.pad.1 ∙ l.invariant.pad.1, c.fetch.ensures.pad.2 ∙ l.invariant.pad.2);
      legal = λ h. c.fetch.ensures.legal (l.invariant.legal h);
      later = omega (arith, l.invariant.later, c.fetch.ensures.later);
    }
