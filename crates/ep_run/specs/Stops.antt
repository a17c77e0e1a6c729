-- Working words of private contracts: which refusals end a script, at a line or before its end.
use Rattle.ep_run.specs.declared.script.PlayBad.{PlayBad}
use Rattle.ep_run.specs.declared.script.PlayBad.TheVariants as play
use Rattle.ep_run.specs.declared.reason.Reason.TheVariants as reason
use Rattle.ep_run.specs.declared.stage.Stop.{Stop}
use Rattle.ep_run.specs.declared.stage.Stop.TheVariants.{At, Failed}
use Rattle.ep_script.specs.declared.line.LineBad.{LineBad}
use Rattle.ep_script.specs.declared.line.LineBad.TheVariants as line
use Rattle.ep_script.specs.declared.script.ScriptBad.{ScriptBad}
use Rattle.ep_script.specs.declared.script.ScriptBad.TheVariants as script
use Rattle.ep_world.specs.declared.bad.WorldBad.{WorldBad}
use Rattle.ep_world.specs.declared.bad.WorldBad.TheVariants as world

abbrev pub stop_of_world : WorldBad → Stop
stop_of_world world.Unknown = At reason.Unknown
stop_of_world world.NoText = Failed
stop_of_world (world.Full n) = Failed
stop_of_world (world.Store n) = Failed
stop_of_world world.NoMemory = Failed

abbrev pub stop_of_line : LineBad → Stop
stop_of_line line.Utf8 = At reason.Utf8
stop_of_line line.Syntax = At reason.Syntax
stop_of_line line.NoMemory = Failed

abbrev pub bad_of_script : ScriptBad → PlayBad
bad_of_script script.Fault = play.SourceFault
bad_of_script script.NoMemory = play.Failed
