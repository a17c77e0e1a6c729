-- Working words of private contracts: how one line is played.
use Rattle.std.specs.Prelude.{◌≡◌, ℕ, Bool, true, Some, None, Option, Result, Ok, Err, String}
use Rattle.std.specs.declared.alloc.Global.{Global}
use Rattle.std.specs.String.{string_bytes}
use Rattle.ep_attr.specs.AttrMap.{Pair}
use Rattle.ep_outside.specs.Disk.{Contents}
use Rattle.ep_pool.specs.Pool.{number_of}
use Rattle.ep_event.specs.declared.event.Event.{Event as Told}
use Rattle.ep_event.specs.declared.shown.Shown.{Shown}
use Rattle.ep_event.specs.declared.shown.Shown.TheVariants as shown
use Rattle.ep_script.specs.declared.line.Line.{Line}
use Rattle.ep_script.specs.Line.{line_of}
use Rattle.ep_script.specs.Seen.{Seen}
use Rattle.ep_script.specs.declared.script.ScriptLine.{ScriptLine}
use Rattle.ep_script.specs.declared.script.ScriptLine.TheVariants.{Text, Long}
use Rattle.ep_world.specs.Events.{is_known}
use Rattle.ep_world.specs.Standing.{IsRun, StandsFor}
use Rattle.ep_run.specs.Play.{Scene, Happens, Shows, ShowsRead, line_read, line_stops, stops, unless, with_pair, written}
use Rattle.ep_run.specs.declared.reason.Reason.{Reason}
use Rattle.ep_run.specs.declared.reason.Reason.TheVariants as reason
use Rattle.ep_run.specs.declared.stage.Stage.{Stage}
use Rattle.ep_run.specs.declared.stage.Stop.{Stop}
use Rattle.ep_run.specs.declared.stage.Stop.TheVariants.{At, Failed}

-- what a line is that was cut off a script
abbrev pub cut_read : ScriptLine → Result Seen Reason
cut_read (Text bytes) = line_read (line_of bytes.items)
cut_read Long = Err reason.Long

module _ {D : Type 0} (told : D → Option Contents) (failures : D → ℕ) (stops_alone : D → Bool) where
  -- the world and the pool in code stand for these, to which some events lead
  pub record IsStage (stage : Stage D) (s : Scene) : Type 0 where
    pub run : IsRun s.world s.kepts
    pub world : StandsFor told failures stops_alone true s.journal stage.world s.world s.kepts
    pub pool : stage.pool.pairs ≡ s.pool

  -- there is what may be shown of an event, and the stage stands for what is there then; or it can't happen
  abbrev pub Steps : ℕ → Scene → Told → Result Shown Stop → Stage D → Type 0
  Steps k s e (Ok x) new = (unless (is_known s.world e) ≡ None) × ((next : Scene) × Happens k s e (Some x) next × IsStage new next)
  Steps k s e (Err (At reason)) new = unless (is_known s.world e) ≡ Some reason
  Steps k s e (Err Failed) new = Unit {0}

  -- a pair is put into the pool, and its number shown
  abbrev pub Puts : Scene → Pair → Result Shown Stop → Stage D → Type 0
  Puts s pair (Ok x) new = (x ≡ shown.Attr (number_of s.pool pair)) × IsStage new (with_pair s pair)
  Puts s pair (Err (At reason)) new = ⊥
  Puts s pair (Err Failed) new = Unit {0}

  -- line k is played, or stops the script for its reason
  abbrev pub Plays : ℕ → Scene → Line → Result (Option Shown) Stop → Stage D → Type 0
  Plays k s l (Ok o) new = (line_stops s.world l ≡ None) × ((next : Scene) × Shows k s l o next × IsStage new next)
  Plays k s l (Err (At reason)) new = line_stops s.world l ≡ Some reason
  Plays k s l (Err Failed) new = Unit {0}

  -- and what it may show is written
  abbrev pub PlaysLine : ℕ → Scene → Result Seen Reason → Result (String Global) Stop → Stage D → Type 0
  PlaysLine k s r (Ok text) new =
      (stops s.world r ≡ None)
      × ((o : Option Shown) × (next : Scene) × ShowsRead k s r o next × (string_bytes text ≡ written o) × IsStage new next)
  PlaysLine k s r (Err (At reason)) new = stops s.world r ≡ Some reason
  PlaysLine k s r (Err Failed) new = Unit {0}
