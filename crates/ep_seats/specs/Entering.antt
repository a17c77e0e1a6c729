-- Who may enter, over the sessions that are kept and the few facts that count beside them.
use Rattle.std.specs.Prelude.{◌≡◌, Bool, not, ◌&&◌, length, Option, Some, None, Result, Ok, Err}
use Rattle.ep_units.specs.PadId.{has_group}
use Rattle.ep_units.specs.declared.grant.Grant.{Grant}
use Rattle.ep_history.specs.History.{head}
use Rattle.ep_history.specs.Pad.{PadState, newest}
use Rattle.ep_history.specs.declared.pad_bad.PadBad.{PadBad}
use Rattle.ep_seats.specs.Kept.{KeptSeats, StandsFor}
use Rattle.ep_seats.specs.declared.admission.PadFacts.{PadFacts}

-- refused for this, where there is a reason
abbrev pub answered : Option PadBad → Result (Unit {0}) PadBad
answered None = Ok tt
answered (Some bad) = Err bad

-- what decides who may enter, beside the sessions
abbrev pub facts_of : PadState → PadFacts
facts_of pad = record {
  limits = pad.limits;
  present = pad.present;
  public = pad.public;
  births = length pad.births;
  head = head (newest pad);
}

-- the answer is what holds of every pad that has these facts and that the kept sessions stand for
abbrev pub TellsWith : {A : Type 0} → KeptSeats → PadFacts → (PadState → A) → A → Type 0
TellsWith k facts f answer = (pad : PadState) → StandsFor k pad → facts_of pad ≡ facts → answer ≡ f pad

-- a pad of a group that isn't public is for the group's members
abbrev pub is_closed_to : PadFacts → Grant → Bool
is_closed_to facts g = has_group g.pad && (not g.member && not facts.public)
