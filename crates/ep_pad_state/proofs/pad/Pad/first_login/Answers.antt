use Rattle.std.proofs.Common.{◌≡◌, suc, length, rules, refl, ap, ◌∙◌, arith, ◌∷◌, []}
use Rattle.ep_history.specs.History.{first_rev}
use Rattle.ep_history.specs.Pad.{with_session}
use Rattle.ep_history.specs.declared.record.Record.TheVariants as record_of
use Rattle.ep_pad_state.specs.Making.{with_birth}
use Rattle.ep_pad_state.proofs.Keeping.{roomier, same-seats}
use Rattle.ep_pad_state.proofs.Readying.{ready-first}
use Rattle.ep_pad_state.proofs.Telling.{welcome-made}
use Rattle.ep_pad_state.proofs.pad.Pad.first_login.Goals as goal

pub returns-clause-answer : goal.returns-clause-answer
returns-clause-answer c = λ p h f.
    let g = c.args.grant.now in
    let m = h.keeps.births in
    let s = c.in-Some.ensures.1 in
    let number : c.in-Some.number ≡ suc (length p.births) = omega arith in
    let revs : c.in-Ok.birth.revs.revs ≡ first_rev c.args.now [] ∷ [] = c.in-Ok.ensures.revs ∙ ap (λ t. first_rev c.args.now t ∷ []) c.new.ensures in
    let session = c.next_session.ensures p (roomier c.args.self.now.seats c.reserve.new.self p c.in_ok-reserve.ensures.kept h.keeps.seats) in (
      record { keeps = same-seats c.args.self.now p c.reserve.new.self h.keeps c.in_ok-reserve.ensures.kept; sound = h.sound },
      (
        (λ i. record_of.Create (number i) c.args.now (c.new-2.ensures i)),
        welcome-made p g c.args.now c.next_session.result c.in-Some.number c.in_ok-copy.field-0 c.in_ok-copy-2.field-0 c.in-Ok.birth.revs.revs session number
            (c.in_ok-copy.ensures ∙ c.doc.ensures.last) revs c.in_ok-copy-2.ensures,
        (λ i. with_session (with_birth p (revs i)) (c.in_ok-copy-3.ensures i) g.read_only),
      ),
    )

pub returns-clause-ready : goal.returns-clause-ready
returns-clause-ready c = ready-first _ _ c.args.now [] _ _ (search rules) (search rules) (search rules) refl (search rules) (search rules)
