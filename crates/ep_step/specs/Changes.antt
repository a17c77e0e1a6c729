-- The changes of revisions.
use Rattle.std.specs.Prelude.{List, map}
use Rattle.ep_cs.specs.Change.{Change}
use Rattle.ep_history.specs.declared.rev.Rev.{Rev}

-- the change of each
abbrev pub changes_of : List Rev → List Change
changes_of vs = map (λ v. v.change) vs
