-- An edit of an old revision, brought through the revisions after it.
use Rattle.std.specs.Prelude.{true, List, [], ◌∷◌}
use Rattle.ep_cs.specs.Edit.{Edit}
use Rattle.ep_cs.specs.Follow.{follow}

-- an edit after these edits, each of which goes first
abbrev pub rebase : List Edit → Edit → Edit
rebase [] e = e
rebase (b ∷ bs) e = rebase bs (follow true b e)
