-- Working words of private contracts: a change that is written over a text that is known.
use Rattle.std.specs.Prelude.{◌≡◌, List, ◌++◌, drop}
use Rattle.ep_units.specs.Text.{Text}
use Rattle.ep_cs.specs.Edit.{Step}
use Rattle.ep_cs.specs.Steps.{passed}
use Rattle.ep_cs.specs.Draft.{Draft}
use Rattle.ep_cursor.specs.TrueDraft.{IsTrueDraft}

-- these steps are written besides, and what is written stays true where the text goes on so
pub record GoesOn (d d' : Draft) (more : List Step) (front : Text) : Type 0 where
  pub old : d'.old ≡ d.old
  pub steps : d'.steps ≡ d.steps ++ more
  pub trues : (us rest : Text) → drop (passed d.steps) us ≡ front ++ rest → IsTrueDraft d us → IsTrueDraft d' us
