-- What was done, as the passes show it.
use Rattle.std.specs.Prelude.{ℕ, ◌≡◌, List, [], ◌∷◌, ◌++◌, Option, Some, None, Result, Ok, Err}
use Rattle.atomic_table.specs.Seated.{TableId}
use Rattle.ep_units.specs.Text.{Text}
use Rattle.ep_outside.specs.Drawn.{Draws}
use Rattle.ep_cell.specs.History.{pairs, calls_by}
use Rattle.ep_cell.specs.Passes.{Known}
use Rattle.ep_groups.specs.declared.entries.DirEntry.{DirEntry}
use Rattle.ep_groups.specs.declared.entries.DirReply.{DirReply}
use Rattle.ep_pad.specs.declared.entries.PadEntry.{PadEntry}
use Rattle.ep_pad.specs.declared.entries.PadReply.{PadReply}
use Rattle.ep_pad.specs.declared.pass_bad.PassBad.{PassBad}
use Rattle.ep_pad.specs.declared.pass_bad.PassBad.TheVariants as pass
use Rattle.ep_pad.specs.declared.wanted.Wanted.{Wanted}
use Rattle.ep_pad.specs.Halls.{Answer}
use Rattle.ep_ask.specs.declared.bad.ApiBad.{ApiBad}
use Rattle.ep_api.specs.Causes.{of_pass}
use Rattle.ep_api.specs.Tasks.{Did, Drew, Asked, Refused, Stayed, Task}

-- ---- of what was done

-- the numbers drawn
abbrev pub drawn : List Did → List ℕ
drawn [] = []
drawn (Drew ns ∷ log) = ns ++ drawn log
drawn (_ ∷ log) = drawn log

-- the calls of the directory
abbrev pub asked : List Did → List (DirEntry × DirReply)
asked [] = []
asked (Asked e r ∷ log) = (e, r) ∷ asked log
asked (_ ∷ log) = asked log

-- the passes that were asked for, each with its cell or why there is none
abbrev pub entered : List Did → List (Wanted × Answer)
entered [] = []
entered (Refused wanted why ∷ log) = (wanted, Err why) ∷ entered log
entered (Stayed wanted cell calls ∷ log) = (wanted, Ok cell) ∷ entered log
entered (_ ∷ log) = entered log

-- A pass of a pad, and its calls
pub record Stay : Type 0 where
  pub name : Text
  pub cell : TableId
  pub calls : List (PadEntry × PadReply)

-- the passes that were taken, in that order
abbrev pub stays : List Did → List Stay
stays [] = []
stays (Stayed wanted cell calls ∷ log) = record { name = wanted.name; cell = cell; calls = calls } ∷ stays log
stays (_ ∷ log) = stays log

-- ---- of passes

-- the calls of a pass
abbrev pub own : {E R : Type 0} → Known E R → List (E × R)
own v = pairs (calls_by v.number v.seen)

-- the calls of a pass, where there is one
abbrev pub own_of : {A E R : Type 0} → (A → Known E R) → Option A → List (E × R)
own_of known None = []
own_of known (Some pass) = own (known pass)

abbrev pub stay_of : {A : Type 0} → (A → Known PadEntry PadReply) → (A → Text) → (A → TableId) → A → Stay
stay_of known name cell pass = record { name = name pass; cell = cell pass; calls = own (known pass) }

-- numbers drawn one by one
abbrev pub DrawsAll : Option (List ℕ) → Option (List ℕ) → List ℕ → Type 0
DrawsAll old now [] = now ≡ old
DrawsAll old now (n ∷ ns) = (mid : Option (List ℕ)) × Draws old mid n × DrawsAll mid now ns

-- What is seen of passes and draws: the calls of the directory's pass, the pads that the hall was asked for, the passes that were taken, and the numbers to come
pub record Seen : Type 0 where
  pub desk : List (DirEntry × DirReply)
  pub hall : List (Wanted × Answer)
  pub pads : List Stay
  pub to_come : Option (List ℕ)

abbrev pub seen : List (DirEntry × DirReply) → List (Wanted × Answer) → List Stay → Option (List ℕ) → Seen
seen desk hall pads to_come = record { desk = desk; hall = hall; pads = pads; to_come = to_come }

-- what was done is what is seen more
pub record Adds (old : Seen) (log : List Did) (now : Seen) : Type 0 where
  pub desk : now.desk ≡ old.desk ++ asked log
  pub hall : now.hall ≡ old.hall ++ entered log
  pub pads : now.pads ≡ old.pads ++ stays log
  pub draws : DrawsAll old.to_come now.to_come (drawn log)

-- A task was carried out, and this came of it
pub record Does {A : Type 0} (old : Seen) (task : Task A) (r : Result A ApiBad) (now : Seen) : Type 0 where
  pub log : List Did
  pub adds : Adds old log now
  pub comes : task log r

-- ---- one kind of pass alone, whatever the others are

-- by draws
abbrev pub ByDraws : {A : Type 0} → Option (List ℕ) → Task A → Result A ApiBad → Option (List ℕ) → Type 0
ByDraws t task r u = (desk : List (DirEntry × DirReply)) (hall : List (Wanted × Answer)) (pads : List Stay) → Does (seen desk hall pads t) task r (seen desk hall pads u)

-- by calls of the directory, and draws
abbrev pub AtDesk : {A : Type 0} → Known DirEntry DirReply → Option (List ℕ) → Task A → Result A ApiBad → Known DirEntry DirReply → Option (List ℕ) → Type 0
AtDesk v t task r w u = (hall : List (Wanted × Answer)) (pads : List Stay) → Does (seen (own v) hall pads t) task r (seen (own w) hall pads u)

-- by passes of pads, where some had been taken
abbrev pub AtHall : {A : Type 0} → Known Wanted Answer → List Stay → Task A → Result A ApiBad → Known Wanted Answer → List Stay → Type 0
AtHall v ps task r w qs = (desk : List (DirEntry × DirReply)) (t : Option (List ℕ)) → Does (seen desk (own v) ps t) task r (seen desk (own w) qs t)

-- a pass was given, which has made no call
pub record Enters (v : Known Wanted Answer) (wanted : Wanted) (s : Stay) (w : Known Wanted Answer) : Type 0 where
  pub hall : own w ≡ own v ++ (wanted, Ok s.cell) ∷ []
  pub name : s.name ≡ wanted.name
  pub none : s.calls ≡ []

-- none was given, for this reason
pub data IsTurnedAway (v : Known Wanted Answer) (wanted : Wanted) (why : PassBad) (w : Known Wanted Answer) : Type 0 where
  Refuses : own w ≡ own v ++ (wanted, Err why) ∷ [] → IsTurnedAway v wanted why w
  -- no memory was found for it
  IsLacking : own w ≡ own v → why ≡ pass.NoMemory → IsTurnedAway v wanted why w

-- none was given, and this is told
abbrev pub IsToldAway : Known Wanted Answer → Wanted → ApiBad → Known Wanted Answer → Type 0
IsToldAway v wanted told w = (why : PassBad) × IsTurnedAway v wanted why w × (told ≡ of_pass why)
