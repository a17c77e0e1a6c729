-- Working words of private contracts: documents of revisions near the head.
use Rattle.std.specs.Prelude.{◌≡◌, ◌<◌, List, length}
use Rattle.ep_history.specs.declared.rev.Rev.{Rev}
use Rattle.ep_revs.specs.Revisions.{doc_of}
use Rattle.ep_revs.specs.declared.revs.Near.{Near}

-- it is the document of its revision, which is one of these
abbrev pub IsNear : List Rev → Near → Type 0
IsNear vs near = (near.rev < length vs) × (near.doc ≡ doc_of vs near.rev)
