-- The lines that are written of a pad that is moved.
use Rattle.std.specs.Prelude.{ℕ, List, [], ◌∷◌, ◌++◌, codes}
use Rattle.std.specs.Fmt.{decimal}
use Rattle.ep_units.specs.Text.{Text}
use Rattle.ep_import.specs.Places.{path}
use Rattle.ep_move.specs.declared.lines.Reason.{Reason}
use Rattle.ep_move.specs.declared.lines.Reason.TheVariants as reason

-- why a pad or a text is refused, in words
abbrev pub reason_text : Text → Reason → List ℕ
reason_text id reason.Gone = codes "gone"
reason_text id reason.Exists = codes "exists"
reason_text id (reason.Time n) = codes "time " ++ decimal n
reason_text id (reason.TooBig n) = codes "toobig " ++ decimal n
reason_text id reason.NotJson = codes "notjson"
reason_text id (reason.Shape place) = codes "shape " ++ path id place
reason_text id (reason.Revision n) = codes "revision " ++ decimal n
reason_text id reason.Replay = codes "replay"
reason_text id (reason.TooLong n) = codes "toolong " ++ decimal n
reason_text id (reason.Full n) = codes "full " ++ decimal n
reason_text id reason.Foreign = codes "foreign"
reason_text id (reason.Record n) = codes "record " ++ decimal n

-- a text with a line's end
abbrev pub line : List ℕ → List ℕ
line text = text ++ 10 ∷ []

-- what is written of a refusal
abbrev pub refusal : Text → Reason → List ℕ
refusal id why = codes "refused " ++ (reason_text id why ++ 10 ∷ [])

-- what is written of a history that was put: the number of its last revision
abbrev pub imported : ℕ → List ℕ
imported head = codes "imported head " ++ (decimal head ++ 10 ∷ [])

-- how the program is used
abbrev pub usage : List ℕ
usage = codes "usage: padd play [NAME] | serve PADS API DIR KEY | write ADDR PAD TOKEN | verify DIR WORKERS | make NUMBER CLIENTS EDITS | export DIR PAD | import DIR PAD\n"
