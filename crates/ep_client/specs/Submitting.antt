-- What a client submits.
use Rattle.std.specs.Prelude.{◌≡◌, Option, Some, None}
use Rattle.ep_history.specs.Kept.{KeptClient, kept_submitted, kept_submission}
use Rattle.ep_history.specs.declared.submission.Submission.{Submission}

-- it submits exactly where the definition does, and just that
abbrev pub Submits : KeptClient → Option Submission → KeptClient → Type 0
Submits k None k' = (kept_submitted k ≡ None) × (k' ≡ k)
Submits k (Some sent) k' = (kept_submitted k ≡ Some k') × (sent ≡ kept_submission k')
