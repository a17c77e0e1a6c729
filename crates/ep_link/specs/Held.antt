-- What a link in memory gives next.
use Rattle.std.specs.Prelude.{◌≡◌, List, [], ◌∷◌}
use Rattle.ep_link.specs.Traffic.{as_got}
use Rattle.ep_link.specs.declared.mem_link.MemLink.{MemLink}
use Rattle.ep_link.specs.declared.passed.Coming.{Coming}
use Rattle.ep_link.specs.declared.passed.Coming.TheVariants as coming
use Rattle.ep_link.specs.declared.passed.LinkGot.{LinkGot}
use Rattle.ep_link.specs.declared.passed.LinkGot.TheVariants as got

abbrev pub to_come : MemLink → List Coming
to_come link = link.coming.items

-- it is the first of those to come, and behind the last one that the other side is gone
abbrev pub Comes : List Coming → List Coming → Coming → Type 0
Comes [] now c = (c ≡ coming.Closed) × (now ≡ [])
Comes (next ∷ rest) now c = (c ≡ next) × (now ≡ rest)

-- a receive gives it, unless it fails or wants memory: then all are still to come
abbrev pub GivesNext : List Coming → List Coming → LinkGot → Type 0
GivesNext old new got.Failed = new ≡ old
GivesNext old new got.NoMemory = new ≡ old
GivesNext old new r = (c : Coming) × Comes old new c × (r ≡ as_got c)
