-- Working words of private contracts: a change that is being written, and what it says of a text.
use Rattle.std.specs.Prelude.{◌≡◌, ◌≤◌, List, length}
use Rattle.ep_units.specs.Text.{Text}
use Rattle.ep_cs.specs.Draft.{Draft}
use Rattle.ep_cs.specs.Runs.{steps_of, marks_of, all_passed}
use Rattle.ep_cs.specs.NormalRuns.{AreTrue}
use Rattle.ep_cs.specs.Written.{AreWritten}
use Rattle.ep_cs.specs.declared.op.Op.{Op}

-- what was written is true of a text
pub record IsTrueDraft (d : Draft) (us : Text) : Type 0 where
  pub ops : List Op
  pub bank : Text
  pub steps : d.steps ≡ steps_of ops bank
  pub marks : d.marks ≡ marks_of ops
  pub written : AreWritten ops bank
  pub inside : all_passed ops ≤ length us
  pub trues : AreTrue ops us
