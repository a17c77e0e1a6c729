-- Every client is sound.
use Rattle.ep_cs.specs.Edit.{apply}
use Rattle.ep_cs.specs.NormalRuns.{IsNormal}
use Rattle.ep_cs.proofs.EditFits.{true_fits}
use Rattle.ep_history.specs.Kept.{IsKeptSound}
use Rattle.ep_history.proofs.Answered.{normal-edit}
use Rattle.ep_history.proofs.Sound.{fit-of}
use Rattle.ep_client.specs.declared.client.Client.TheInside as client
use Rattle.ep_client.specs.Held.{held, IsHeld}

pub held-sound : (c : client.Inside) → IsHeld c → IsNormal c.sent → IsNormal c.local → IsKeptSound (held c)
held-sound c h s l =
    let made = apply c.sent.edit c.doc in
    record {
      sent_fits = true_fits c.sent.edit c.doc (fit-of c.sent c.doc h.sent (normal-edit c.sent s));
      local_fits = true_fits c.local.edit made (fit-of c.local made h.local (normal-edit c.local l));
      view = h.view;
      nothing_sent = h.nothing_sent;
    }
