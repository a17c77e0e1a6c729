-- The lines of a script, as a writer reads them.
use Rattle.std.specs.Prelude.{◌≡◌, ◌⊎◌, ℕ, ◌+◌, ◌++◌, List, [], ◌∷◌, if◌then◌else◌, Option, IfSome, Result, Ok, Err}
use Rattle.ep_outside.specs.Outside.{Gives}
use Rattle.ep_script.specs.Lines.{Row, rows_of, said}
use Rattle.ep_script.specs.Script.{IsNext, MayFollow, Unread, is_long, width}
use Rattle.ep_script.specs.declared.script.ScriptLine.{ScriptLine}
use Rattle.ep_script.specs.declared.script.ScriptLine.TheVariants as script
use Rattle.ep_peer.specs.declared.bad.PeerBad.{PeerBad}
use Rattle.ep_peer.specs.declared.bad.PeerBad.TheVariants as bad

-- a line, by what it says; or one that is too long, or reaches too far
pub data Cut : Type 0 where
  Line : List ℕ → Cut
  Long : Cut

-- the lines of a script whose first begins at this byte, up to the first that is too long
abbrev pub cuts_at : ℕ → List Row → List Cut
cuts_at place [] = []
cuts_at place (row ∷ rows) = if is_long place row then Long ∷ [] else Line (said row) ∷ cuts_at (place + width row) rows

-- of a whole script, by its bytes
abbrev pub cuts_of : List ℕ → List Cut
cuts_of text = cuts_at 0 (rows_of text)

-- a line that was cut off a script
abbrev pub cut_of : ScriptLine → Cut
cut_of (script.Text bytes) = Line bytes.items
cut_of script.Long = Long

-- the script goes on so, by a piece of the source; or there is no more of it; or it isn't read on
abbrev pub Nexts : Unread → Unread → Option (List ℕ) → Option (List ℕ) → Result (Option ScriptLine) PeerBad → Type 0
Nexts old new left0 left1 (Ok o) =
    (piece : List ℕ) × Gives left0 left1 piece × ((more : List ℕ) → MayFollow new left1 more → MayFollow old left0 (piece ++ more) × IsNext old piece new more (Ok o))
Nexts old new left0 left1 (Err e) = (e ≡ bad.NoMemory) ⊎ ((n : ℕ) × (e ≡ bad.SourceFault n))

-- of a source that had this, these lines were read, and what is unread begins with the next
abbrev pub AreCut : Option (List ℕ) → Unread → Option (List ℕ) → List Cut → Type 0
AreCut left0 unread left1 cuts =
    (more : List ℕ) → MayFollow unread left1 more
    → (text : List ℕ) × IfSome left0 (λ bytes. text ≡ bytes) × (cuts_of text ≡ cuts ++ cuts_at unread.place (rows_of (unread.held ++ more)))
