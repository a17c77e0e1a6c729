use Rattle.ep_pad_state.proofs.Telling.{reads-all}
use Rattle.ep_pad_state.proofs.pad.Pad.fetch.Goals as goal

pub returns : goal.returns
returns c = reads-all c.args.self.now c.args.session c.args.from c.args.told c.fetch_first.result c.fetch_first.ensures
