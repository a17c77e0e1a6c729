use Rattle.ep_cell.specs.Passes.{known}
use Rattle.ep_house.proofs.Replying.{was_step, text_only}
use Rattle.ep_house.proofs.directory.Directory.text.Goals as goal

pub unreachable-requires : goal.unreachable-requires
unreachable-requires g c =
    let s = was_step g.K.Keeper.always_tells _ (known c.args.pass.now.pass) (known c.call-reply.new.pass) c.args.entry c.call-reply.result c.call-reply.ensures.makes c.call-reply.ensures.legal in
    text_only s.0 s.1.0 c.args.entry c.call-reply.result c.requires.kind s.1.1 c.in_default.not-Text
