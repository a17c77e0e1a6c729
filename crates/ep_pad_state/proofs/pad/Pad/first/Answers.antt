use Rattle.std.proofs.Common.{◌≡◌, ◌<◌, ◌+◌, ◌^◌, suc, true, length, sym, ap, ◌∙◌, arith}
use Rattle.ep_units.specs.Text.{is_well_formed}
use Rattle.ep_pad_state.specs.Making.{with_birth}
use Rattle.ep_pad_state.proofs.Readying.{ready-birth}
use Rattle.ep_pad_state.proofs.Telling.{is-absent, other-text, same-text}
use Rattle.ep_pad_state.proofs.pad.Pad.first.Goals as goal

pub returns-then-ne : goal.returns-then-ne
returns-then-ne c = λ p h n. other-text c.in_ok-cleaned.cleaned c.args.text.now c.ne.result c.ne.ensures c.if-ne.true (c.in_ok-cleaned.ensures.clean ∙ n.3)

pub returns : goal.returns
returns c =
    let formed : is_well_formed c.args.text.now ≡ true = sym c.well_formed-2.ensures ∙ c.if-not-well_formed.false in
    let count : c.args.self.now.births + 1 < 2 ^ 64 = omega arith in (
      ready-birth c.args.self.now c.in-Ok.first c.args.time c.args.text.now count c.in-Ok.ensures.nops c.in-Ok.ensures.revs formed,
      λ p h.
          let e = c.epoch.ensures p h in
          let x = c.present.ensures p h.keeps.last in
          let m = h.keeps.births in
          let next : c.args.birth ≡ suc (length p.births) = omega arith in (
            (
              is-absent p.epoch p.present (omega arith) (sym x ∙ c.if-present.false),
              next,
              formed,
              sym c.in_ok-cleaned.ensures.clean ∙ same-text c.in_ok-cleaned.cleaned c.args.text.now c.ne.result c.ne.ensures c.if-ne.false,
            ),
            ap (with_birth p) c.in-Ok.ensures.revs,
          ),
    )
