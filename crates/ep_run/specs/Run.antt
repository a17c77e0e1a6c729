-- What a run of the program promises.
use Rattle.std.specs.Prelude.{ℕ, ◌≡◌, ◌⊎◌, Bool, true, List, [], ◌∷◌, codes, Option, Some, None}
use Rattle.ep_units.specs.Text.{Text}
use Rattle.ep_outside.specs.Disk.{Contents}
use Rattle.ep_outside.specs.Outside.{Takes, TakesPart}
use Rattle.ep_words.specs.Lines.{Line, line_in}
use Rattle.ep_words.specs.Lines as line
use Rattle.ep_world.specs.Leading.{IsScheduled}
use Rattle.ep_world.specs.Standing.{IsRun, StandsFor}
use Rattle.ep_world.specs.declared.world.World.{World}
use Rattle.ep_run.specs.Play.{Scene, IsTranscript, TranscriptOf}

-- ---- the words

-- the words ask to play this pad
abbrev pub IsPlay : List (List ℕ) → Text → Type 0
IsPlay words id = line_in words ≡ Some (line.play id)

-- the words ask for a server
abbrev pub IsServe : List (List ℕ) → Type 0
IsServe words = (pads api dir key : List ℕ) × line_in words ≡ Some (line.serve pads api dir key)

-- the words ask to write to this pad, by this token
abbrev pub IsWrite : List (List ℕ) → List ℕ → List ℕ → Type 0
IsWrite words pad token = (addr : List ℕ) × line_in words ≡ Some (line.write addr pad token)

-- the words ask to judge the files of a folder
abbrev pub IsVerify : List (List ℕ) → Type 0
IsVerify words = (dir : List ℕ) × (workers : ℕ) × line_in words ≡ Some (line.verify dir workers)

-- the words ask for the schedule of a number
abbrev pub IsMake : List (List ℕ) → ℕ → ℕ → ℕ → Type 0
IsMake words number clients edits = line_in words ≡ Some (line.make number clients edits)

-- the command reads the lines of the source
abbrev pub ReadsLines : Option Line → Type 0
ReadsLines None = ⊥
ReadsLines (Some (line.play id)) = Unit {0}
ReadsLines (Some (line.serve pads api dir key)) = ⊥
ReadsLines (Some (line.write addr pad token)) = Unit {0}
ReadsLines (Some (line.verify dir workers)) = ⊥
ReadsLines (Some (line.make number clients edits)) = ⊥

-- the statuses that words may end with
abbrev pub statuses : Option Line → List ℕ
statuses None = 2 ∷ 5 ∷ 7 ∷ []
statuses (Some (line.play id)) = 0 ∷ 3 ∷ 4 ∷ 5 ∷ 7 ∷ []
statuses (Some (line.serve pads api dir key)) = 0 ∷ 5 ∷ 7 ∷ 8 ∷ 9 ∷ []
statuses (Some (line.write addr pad token)) = 0 ∷ 3 ∷ 4 ∷ 5 ∷ 7 ∷ 8 ∷ 10 ∷ 11 ∷ []
statuses (Some (line.verify dir workers)) = 0 ∷ 1 ∷ 5 ∷ 6 ∷ 7 ∷ []
statuses (Some (line.make number clients edits)) = 0 ∷ 5 ∷ 7 ∷ []

-- the words are no line of the program
abbrev pub IsUsage : List (List ℕ) → Type 0
IsUsage words = line_in words ≡ None

abbrev pub usage : List ℕ
usage = codes "usage: padd play [NAME] | serve PADS API DIR KEY | write ADDR PAD TOKEN | verify DIR WORKERS | make NUMBER CLIENTS EDITS\n"

-- ---- what is written

-- the statuses of a script that was played as far as it goes
abbrev pub IsEnd : ℕ → Type 0
IsEnd code = (code ≡ 0) ⊎ (code ≡ 3)

-- the statuses of a shelf whose files were judged
abbrev pub IsVerdict : ℕ → Type 0
IsVerdict code = (code ≡ 0) ⊎ (code ≡ 1)

-- a transcript of the script was written that has this status; of a source that doesn't tell, some script's
abbrev pub Writes : Text → Option (List ℕ) → Option (List ℕ) → Option (List ℕ) → ℕ → Type 0
Writes id (Some script) held now code = (out : List ℕ) × IsTranscript id script out code × Takes held now out
Writes id None held now code = (script : List ℕ) × (out : List ℕ) × IsTranscript id script out code × Takes held now out

-- what was written is a beginning of a transcript of the script
abbrev pub WritesPart : Text → Option (List ℕ) → Option (List ℕ) → Option (List ℕ) → Type 0
WritesPart id (Some script) held now = (out : List ℕ) × (code : ℕ) × IsTranscript id script out code × TakesPart held now out
WritesPart id None held now = (script : List ℕ) × (out : List ℕ) × (code : ℕ) × IsTranscript id script out code × TakesPart held now out

-- ---- the world that a script made

module _ {D : Type 0} (told : D → Option Contents) (failures : D → ℕ) (stops_alone : D → Bool) where
  -- it stands for the world of the rules in which a transcript of the script that was written ends, and of that world and
  -- its clients the schedule theorem speaks
  pub record IsMade (id : Text) (script : List ℕ) (held now : Option (List ℕ)) (world : World D) : Type 0 where
    pub out : List ℕ
    pub end : Scene
    pub transcript : TranscriptOf id script out 0 end
    pub written : Takes held now out
    pub run : IsRun end.world end.kepts
    pub stands : StandsFor told failures stops_alone true end.journal world end.world end.kepts
    pub scheduled : IsScheduled end.world end.kepts

  -- of a source that doesn't tell, some script's
  abbrev pub IsMadeOf : Text → Option (List ℕ) → Option (List ℕ) → Option (List ℕ) → World D → Type 0
  IsMadeOf id (Some script) held now world = IsMade id script held now world
  IsMadeOf id None held now world = (script : List ℕ) × IsMade id script held now world
