use Rattle.std.proofs.Common.{◌∙◌, sym, zero-add}
use Rattle.ep_peer.specs.Output.{edits_sent}
use Rattle.ep_peer.specs.Writer.{Opening}
use Rattle.ep_peer.proofs.Walking.{ends_well}
use Rattle.ep_peer.proofs.laws.ends_when_committed.Goals as goal

pub returns : goal.returns
returns c pad token log w r = let h = ends_well (Opening pad token) log w r in (h.0, sym (zero-add (edits_sent log)) ∙ h.1, h.2)
