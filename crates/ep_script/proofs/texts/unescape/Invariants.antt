use Rattle.ep_script.proofs.Escapes.{IsReadTo}
use Rattle.ep_script.proofs.texts.unescape.Given as goal

abbrev pub invariant-loop-unit : goal.invariant-loop-unit
invariant-loop-unit l = IsReadTo l.unit-items l.plain l.behind_backslash l.unit-index
