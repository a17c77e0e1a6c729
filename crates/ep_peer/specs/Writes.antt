-- What a writer was.
use Rattle.std.specs.Prelude.{ℕ, ◌≡◌, ◌++◌, List, [], Option, IfSome, Result, Ok, Err}
use Rattle.ep_link.specs.Traffic.{Adds}
use Rattle.ep_link.specs.declared.passed.Passed.{Passed}
use Rattle.ep_peer.specs.Cuts.{Cut, cuts_of}
use Rattle.ep_peer.specs.Parts.{EndsAs}
use Rattle.ep_peer.specs.Writer.{Did, IsOver, Outcome, Ends, Runs, lines_of, traffic_of}
use Rattle.ep_peer.specs.declared.bad.PeerBad.{PeerBad}
use Rattle.ep_peer.specs.declared.writer.Written.{Written}

-- what was read are the first lines of what the source had, and where it told its end all of them
pub record AreLines (left : Option (List ℕ)) (log : List Did) : Type 0 where
  pub text : List ℕ
  pub rest : List Cut
  pub told : IfSome left (λ bytes. text ≡ bytes)
  pub cut : cuts_of text ≡ lines_of log ++ rest
  pub over : IsOver log → rest ≡ []

-- it ended so, or memory ran out there
abbrev pub EndsSo : {X : Type 0} → Outcome → Result X PeerBad → (X → Written) → Type 0
EndsSo out (Ok x) to = out ≡ Ends (Ok (to x))
EndsSo out (Err e) to = EndsAs out e

-- a whole writer, or what is left of one: what it did, by the link's traffic and the source's bytes where they tell; memory may run out on the way
pub record Writes {X : Type 0} (sent0 sent1 : Option (List Passed)) (left : Option (List ℕ)) (from : Outcome) (r : Result X PeerBad) (to : X → Written) : Type 0 where
  pub log : List Did
  pub traffic : Adds sent0 sent1 (traffic_of log)
  pub lines : AreLines left log
  pub out : Outcome
  pub runs : Runs from log out
  pub ends : EndsSo out r to
