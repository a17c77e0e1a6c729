-- What a call's answer is of a reply.
use Rattle.std.specs.Prelude.{◌≡◌, ◌⊎◌, ℕ, List, Option, Some, None, IfSome, Result, Ok, Err}
use Rattle.ep_cs.specs.Change.{Change}
use Rattle.ep_cs.specs.Doc.{Doc}
use Rattle.ep_cs.specs.Fits.{Fits}
use Rattle.ep_wire_words.specs.Server.{ReadsServer}
use Rattle.ep_wire_words.specs.declared.bad.WireBad.{WireBad}
use Rattle.ep_wire_words.specs.declared.client.ClientMsg.{ClientMsg}
use Rattle.ep_wire_words.specs.declared.server.ServerMsg.{ServerMsg}
use Rattle.ep_editor.specs.Inside.{kept_of}
use Rattle.ep_editor.specs.Kept.{work_in}
use Rattle.ep_editor.specs.Replies.{Reply, Sends, Shows, Resumes, Paints, Changes, Closes, Renewed, Past, Keeps, Nothing, Refuses}
use Rattle.ep_editor.specs.Requests.{Hears, answer}
use Rattle.ep_editor.specs.declared.bad.EditorBad.{EditorBad}
use Rattle.ep_editor.specs.declared.bad.EditorBad.TheVariants as bad
use Rattle.ep_editor.specs.declared.editor.Editor.{Editor}
use Rattle.ep_editor.specs.declared.editor.Editor.TheVariants.{Inside}
use Rattle.ep_editor.specs.declared.editor.Said.{Said}
use Rattle.ep_editor.specs.declared.editor.Said.TheVariants as says
use Rattle.ep_editor.specs.declared.kept.Kept.{Kept}
use Rattle.ep_timeslider.specs.declared.slider.Slid.{Slid}
use Rattle.ep_timeslider.specs.declared.slider.Slid.TheVariants as slides

-- the call answered this reply, and left that; an error left what was there, and is the refusal, or want of memory
abbrev pub Comes : {X S : Type 0} → (X → Reply) → Result X EditorBad → S → S → Reply × S → Type 0
Comes to (Ok x) old new out = out ≡ (to x, new)
Comes to (Err why) old new out = (new ≡ old) × ((why ≡ bad.NoMemory) ⊎ (out ≡ (Refuses why, old)))

-- ---- which reply an answer is

abbrev pub nothing : Unit {0} → Reply
nothing u = Nothing

abbrev pub sends : ClientMsg → Reply
sends m = Sends m

abbrev pub sends_if : Option ClientMsg → Reply
sends_if None = Nothing
sends_if (Some m) = Sends m

abbrev pub changed : Change → Reply
changed c = Paints c.edit

abbrev pub resumes : ClientMsg → Reply
resumes m = Resumes m

abbrev pub makes_again : Option Change → Reply
makes_again None = Nothing
makes_again (Some c) = Paints c.edit

abbrev pub keeps_it : Kept → Reply
keeps_it k = Keeps (work_in k)

abbrev pub slid : Slid → Reply
slid (slides.Past doc) = Past doc
slid (slides.Asks m) = Sends m

abbrev pub said : Said → Reply
said says.Shown = Shows
said (says.Changed change by) = Changes change.edit by
said says.Nothing = Nothing
said (says.Closed word) = Closes word
said says.Renewed = Renewed
said (says.Slid x) = slid x

-- ---- what came

-- the most bytes of a message from a server
abbrev pub most_bytes : ℕ
most_bytes = 16777216

-- a text was read as what it is, and that was answered; or memory ran out
abbrev pub Answers : List ℕ → Result Said EditorBad → Editor → Editor → Type 0
Answers text r old new =
    ((read : Result ServerMsg WireBad) × ReadsServer text most_bytes read × Comes said r old new (answer (Hears read) old))
    ⊎ ((r ≡ Err bad.NoMemory) × (new ≡ old))

-- ---- changes that are told

-- a change that is told fits this document
abbrev pub FitsThat : Said → Doc → Type 0
FitsThat (says.Changed change by) doc = Fits change doc
FitsThat x doc = Unit {0}

-- it fits what was shown
abbrev pub FitsShown : Editor → Said → Type 0
FitsShown (Inside p) x = FitsThat x (kept_of p).view
FitsShown s x = Unit {0}

-- the same of a painting
abbrev pub PaintsShown : Editor → Change → Type 0
PaintsShown (Inside p) c = Fits c (kept_of p).view
PaintsShown s c = Unit {0}

-- the same of what was taken back, or made again
abbrev pub RemakesShown : Editor → Option Change → Type 0
RemakesShown (Inside p) o = IfSome o (λ c. Fits c (kept_of p).view)
RemakesShown s o = Unit {0}
