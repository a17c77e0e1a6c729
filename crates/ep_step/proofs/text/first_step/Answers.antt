use Rattle.std.proofs.Common.{◌≡◌, length, true, ap, ◌∙◌}
use Rattle.ep_cs.specs.Doc.{Doc, text_of}
use Rattle.ep_cs.specs.Fits.{keeps_pairs}
use Rattle.ep_cs.specs.Plain.{plain}
use Rattle.ep_cs.specs.Splice.{splice}
use Rattle.ep_step.proofs.Uncut.{first-pairs}
use Rattle.ep_step.proofs.text.first_step.Goals as goal

pub plain_splice-requires-clause-pairs : goal.plain_splice-requires-clause-pairs
plain_splice-requires-clause-pairs c =
    ap (λ (d : Doc). keeps_pairs (splice (length d) 0 0 (plain c.in_ok-text.text)).places (text_of d)) c.in_ok-newline.ensures ∙ first-pairs (plain c.in_ok-text.text)
