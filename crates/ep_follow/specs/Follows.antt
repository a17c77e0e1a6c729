-- When a change follows another.
use Rattle.std.specs.Prelude.{◌≡◌, Bool, true, false}
use Rattle.ep_cs.specs.Doc.{Doc, text_of}
use Rattle.ep_cs.specs.Edit.{apply}
use Rattle.ep_cs.specs.Change.{Change, stamped}
use Rattle.ep_cs.specs.Fits.{Fits}
use Rattle.ep_cs.specs.Follow.{follow}
use Rattle.ep_cs.specs.declared.bad.First.{First}
use Rattle.ep_cs.specs.declared.bad.First.TheVariants as first

-- the first change is the side named
abbrev pub is_a : First → Bool
is_a first.A = true
is_a first.B = false

-- c is b over a's result, for every document that both fit
abbrev pub Follows : First → Change → Change → Change → Type 0
Follows side a b c = (doc : Doc) → Fits a doc → Fits b doc → c ≡ stamped (follow (is_a side) a.edit b.edit) (text_of (apply a.edit doc))
