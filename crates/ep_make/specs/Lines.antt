-- What is written of the world that a schedule makes.
use Rattle.std.specs.Prelude.{ℕ, zero, suc, ◌+◌, Bool, false, if◌then◌else◌, List, ◌++◌, length, codes}
use Rattle.std.specs.Fmt.{decimal}
use Rattle.ep_cs.specs.Doc.{Doc}
use Rattle.ep_history.specs.History.{head, head_doc}
use Rattle.ep_history.specs.Pad.{newest}
use Rattle.ep_schedule.specs.World.{Name, WorldState}
use Rattle.ep_world.specs.Events.{of_client, view_of}
use Rattle.ep_make.specs.Draws.{name_of}
use Rattle.ep_make.specs.Same.{doc_eq}

-- a client sees this document
unfoldable pub sees : WorldState → Name → Doc → Bool
sees w n doc = of_client false (λ m. doc_eq (view_of w.pad m) doc) (w.actors n)

-- how many of the clients 1 to k see it
abbrev pub seen_by : WorldState → Doc → ℕ → ℕ
seen_by w doc zero = 0
seen_by w doc (suc k) = seen_by w doc k + (if sees w (name_of (suc k)) doc then 1 else 0)

-- how many of so many clients see the head's document
abbrev pub agreeing : WorldState → ℕ → ℕ
agreeing w clients = seen_by w (head_doc (newest w.pad)) clients

-- the revisions of the pad, that of the number 0 too
abbrev pub revisions : WorldState → ℕ
revisions w = head (newest w.pad) + 1

-- how many units the head's document has
abbrev pub units : WorldState → ℕ
units w = length (head_doc (newest w.pad))

-- a word and a number
abbrev pub line : List ℕ → ℕ → List ℕ
line word number = word ++ codes " " ++ decimal number ++ codes "\n"

-- the five lines of these numbers
abbrev pub lines_of : ℕ → ℕ → ℕ → ℕ → ℕ → List ℕ
lines_of clients edits revs count agree =
    line (codes "clients") clients
    ++ line (codes "edits") edits
    ++ line (codes "revisions") revs
    ++ line (codes "units") count
    ++ line (codes "agreeing") agree

-- what is written
abbrev pub five_lines : ℕ → ℕ → WorldState → List ℕ
five_lines clients edits w = lines_of clients edits (revisions w) (units w) (agreeing w clients)
