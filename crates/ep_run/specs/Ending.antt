-- Working words of private contracts: how the lines of a script end.
use Rattle.std.specs.Prelude.{ℕ, Bool, true, false, List, Option, Some, None, Result, Ok, Err}
use Rattle.ep_outside.specs.Disk.{Contents}
use Rattle.ep_outside.specs.Outside.{Takes, TakesPart}
use Rattle.ep_script.specs.Seen.{Seen}
use Rattle.ep_world.specs.Standing.{IsRun, StandsFor}
use Rattle.ep_world.specs.declared.world.World.{World}
use Rattle.ep_run.specs.Play.{Scene, Transcript, reads_of}
use Rattle.ep_run.specs.declared.script.PlayBad.{PlayBad}
use Rattle.ep_run.specs.declared.script.PlayBad.TheVariants.{SourceFault, SinkFault, Failed}
use Rattle.ep_run.specs.declared.reason.Reason.{Reason}

-- a transcript of them was written, that has this status
abbrev pub WritesLines : Scene → List (Result Seen Reason) → Option (List ℕ) → Option (List ℕ) → ℕ → Scene → Type 0
WritesLines s reads held now status end = (out : List ℕ) × Transcript 1 s reads out status end × Takes held now out

module _ {D : Type 0} (told : D → Option Contents) (failures : D → ℕ) (stops_alone : D → Bool) where
  -- all were played, and the world is this one; or one of them can't be; or a beginning of a transcript was written
  abbrev pub EndsLines : Scene → List (Result Seen Reason) → Option (List ℕ) → Option (List ℕ) → Result (Option (World D)) PlayBad → Type 0
  EndsLines s reads held now (Ok (Some world)) =
      (end : Scene) × WritesLines s reads held now 0 end × IsRun end.world end.kepts × StandsFor told failures stops_alone true end.journal world end.world end.kepts
  EndsLines s reads held now (Ok None) = (end : Scene) × WritesLines s reads held now 3 end
  EndsLines s reads held now (Err bad) = (out : List ℕ) × (status : ℕ) × (end : Scene) × Transcript 1 s reads out status end × TakesPart held now out

  -- so of the script that a source has left; of one that doesn't tell, some script's
  abbrev pub EndsScript : Scene → Option (List ℕ) → Option (List ℕ) → Option (List ℕ) → Result (Option (World D)) PlayBad → Type 0
  EndsScript s (Some script) held now r = EndsLines s (reads_of script) held now r
  EndsScript s None held now r = (script : List ℕ) × EndsLines s (reads_of script) held now r

-- the answer of one that keeps the world: whether all were played
abbrev pub with_world : {W : Type 0} → W → Result Bool PlayBad → Result (Option W) PlayBad
with_world world (Ok true) = Ok (Some world)
with_world world (Ok false) = Ok None
with_world world (Err bad) = Err bad

-- the status then
abbrev pub code_of : {W : Type 0} → Result (Option W) PlayBad → ℕ
code_of (Ok (Some world)) = 0
code_of (Ok None) = 3
code_of (Err SourceFault) = 4
code_of (Err SinkFault) = 5
code_of (Err Failed) = 7

abbrev pub world_of : {W : Type 0} → Result (Option W) PlayBad → Option W
world_of (Ok o) = o
world_of (Err bad) = None
