-- A pad that is opened by its first call: its disk until then, and its machine from then on; and its histories.
use Rattle.std.specs.Prelude.{◌≡◌, ◌≤◌, ℕ, List, [], ◌∷◌, ◌++◌, Option, Some, None, Err}
use Rattle.ep_outside.specs.Disk.{Contents}
use Rattle.ep_outside.specs.declared.limits.Limits.{Limits}
use Rattle.ep_journal.specs.File.{mended}
use Rattle.ep_history.specs.Machine.{MachineState}
use Rattle.ep_history.specs.Records.{AreLegal}
use Rattle.ep_history.specs.declared.pad_bad.PadBad.{PadBad}
use Rattle.ep_history.specs.declared.record.Record.{Record}
use Rattle.ep_pad_file.specs.Standing.{MayHold}
use Rattle.ep_pad.specs.Held.{Held}
use Rattle.ep_pad.specs.Standing.{Stands}
use Rattle.ep_pad.specs.Opening.{IsLegalFile, IsRefused, IsWoken, found}
use Rattle.ep_pad.specs.Entries.{Suits, reply_of}
use Rattle.ep_pad.specs.Histories.{HasMade}
use Rattle.ep_pad.specs.declared.entries.PadEntry.{PadEntry}
use Rattle.ep_pad.specs.declared.entries.PadReply.{PadReply}

-- its limits, its disk while it isn't open, and its machine from then on
pub record Lazy (D : Type 0) : Type 0 where
  pub limits : Limits
  pub disk : Option D
  pub machine : Option (Held D)

-- it isn't open, and stands on this disk
abbrev pub IsShut : {D : Type 0} → Lazy D → D → Type 0
IsShut pad disk = (pad.disk ≡ Some disk) × (pad.machine ≡ None)

module _ {D : Type 0} (told_by : D → Option Contents) (failures : D → ℕ) (within : Limits) where
  -- a call was refused, as the opening of this disk was, which is left so
  pub record IsRefusedAt (disk : D) (e : PadEntry) (r : PadReply) (back : D) : Type 0 where
    pub why : PadBad
    pub refused : IsRefused told_by failures within disk back why
    pub suits : Suits e r
    pub reply : reply_of r ≡ Err why

  -- these calls were refused so, one after the other
  abbrev pub AreRefused : D → List (PadEntry × PadReply) → D → Type 0
  AreRefused disk [] back = back ≡ disk
  AreRefused disk (c ∷ cs) back = (mid : D) × IsRefusedAt disk c.0 c.1 mid × AreRefused mid cs back

  -- a machine was opened on this disk, and has made no call: where the disk told, its records were a legal list, and behind
  -- these, or these and what was being appended, stands the record of the opening
  pub record IsOpenedOn (disk : D) (m : Held D) : Type 0 where
    pub limits : m.limits ≡ within
    pub begun : HasMade told_by failures m m []
    pub legal : (c : Contents) → told_by disk ≡ Some c → IsLegalFile within (mended c.seen)
    pub woken : (rs pending : List Record) → MayHold (told_by disk) rs pending → AreLegal within (rs ++ pending)
        → (n : ℕ) × (failures disk ≤ n) × ((mid : MachineState) × IsWoken (found within rs pending n) mid × Stands told_by failures m mid)

  -- of these calls on this disk the first were refused, then this machine was opened on the disk as it was left, and these
  -- are the others
  pub record IsOpenedBehind (disk : D) (h : List (PadEntry × PadReply)) (opened : Held D) (others : List (PadEntry × PadReply)) : Type 0 where
    pub refused : List (PadEntry × PadReply)
    pub are : h ≡ refused ++ others
    pub back : D
    pub left : AreRefused disk refused back
    pub opens : IsOpenedOn back opened

  -- a pad that was shut on this disk has made these calls: all were refused, and the disk is left so; or a machine was opened
  -- behind the first of them, and has made the others
  abbrev pub HasCalled : D → Option D → Option (Held D) → List (PadEntry × PadReply) → Type 0
  HasCalled disk (Some back) None h = AreRefused disk h back
  HasCalled disk None (Some m) h = (opened : Held D) × (others : List (PadEntry × PadReply)) × IsOpenedBehind disk h opened others × HasMade told_by failures opened m others
  HasCalled disk _ _ h = ⊥

module _ {D : Type 0} (told_by : D → Option Contents) (failures : D → ℕ) where
  -- a pad that was shut as it began has made these calls since, and is held to the same limits
  abbrev pub HasCalledSince : Lazy D → Lazy D → List (PadEntry × PadReply) → Type 0
  HasCalledSince begun now h = (disk : D) × IsShut begun disk × (now.limits ≡ begun.limits) × HasCalled told_by failures begun.limits disk now.disk now.machine h

  -- of a pad that began so these calls are a legal history: some pad may have made them
  abbrev pub IsLegalFrom : Lazy D → List (PadEntry × PadReply) → Type 0
  IsLegalFrom begun h = (now : Lazy D) × HasCalledSince begun now h

-- ---- working words of private contracts

module _ {D : Type 0} (told_by : D → Option Contents) (failures : D → ℕ) where
  -- a pad that has this disk was opened on it; one that has none was open
  abbrev pub IsOpenThen : Option D → Lazy D → Lazy D → Type 0
  IsOpenThen None old new = new ≡ old
  IsOpenThen (Some disk) old new = (new.limits ≡ old.limits) × (new.disk ≡ None) × ((m : Held D) × (new.machine ≡ Some m) × IsOpenedOn told_by failures old.limits disk m)

  -- it was not, for this cause
  abbrev pub IsShutThen : Option D → Lazy D → PadBad → Lazy D → Type 0
  IsShutThen None old why new = ⊥
  IsShutThen (Some disk) old why new = (new.limits ≡ old.limits) × ((back : D) × (new.disk ≡ Some back) × (new.machine ≡ old.machine) × IsRefused told_by failures old.limits disk back why)
