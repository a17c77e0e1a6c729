use Rattle.std.proofs.Common.{sym, ◌∙◌}
use Rattle.std.specs.String.{string_bytes}
use Rattle.ep_make.specs.Made.{IsOf}
use Rattle.ep_make.proofs.Seen.{five}
use Rattle.ep_make.proofs.lines.five_lines.Goals as goal

pub returns : goal.returns
returns g c = λ w at.
    let h = c.in_ok-shown.ensures at.alone at.journal w at.kepts at.stands in
    let there : IsOf g.D.Disk.told g.D.Device.failures g.D.Disk.stops_alone c.head.new.self w = record { kepts = at.kepts; alone = at.alone; journal = at.journal; run = at.run; stands = h.1 } in
    five at.journal w c.args.clients c.args.edits c.in-Head.rev c.in-Head.doc c.len.result c.in_ok-agreeing.agreeing (string_bytes c.in_ok-text.text) (sym c.in-Head.is ∙ h.0) c.len.ensures
    (c.in_ok-agreeing.ensures w there) c.in_ok-text.ensures
