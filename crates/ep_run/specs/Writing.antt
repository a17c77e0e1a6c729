-- What a writer of a server's pad promises.
use Rattle.std.specs.Prelude.{ℕ, ◌≡◌, List, Option, Result}
use Rattle.ep_units.specs.Utf8.{units_of}
use Rattle.ep_outside.specs.Outside.{HasRisen}
use Rattle.ep_link.specs.declared.passed.Passed.{Passed}
use Rattle.ep_peer.specs.Writer.{Goes, Opening}
use Rattle.ep_peer.specs.Writes.{Writes}
use Rattle.ep_peer.specs.declared.bad.PeerBad.{PeerBad}
use Rattle.ep_peer.specs.declared.writer.Written.{Written}
use Rattle.ep_written.specs.Written.{Tells}
use Rattle.ep_written.specs.declared.wrote.Wrote.{Wrote}
use Rattle.ep_written.specs.declared.wrote.Wrote.TheVariants as wrote

-- the status of each end
abbrev pub code_of : Wrote → ℕ
code_of wrote.All = 0
code_of wrote.BadLine = 3
code_of wrote.SourceFault = 4
code_of wrote.SinkFault = 5
code_of wrote.NoMemory = 7
code_of wrote.LinkFault = 8
code_of wrote.Refused = 10
code_of wrote.LinkClosed = 11

module _ {L : Type 0} (traffic : L → Option (List Passed)) (failures : L → ℕ) where
  -- Over a link that was had a writer wrote, and the sink has the line of its end
  pub record WritesOver (pad token : List ℕ) (left held now : Option (List ℕ)) (code : ℕ) : Type 0 where
    -- the link as it was had, and at the end
    pub first : L
    pub last : L
    pub ended : Result Written PeerBad
    pub came : Wrote
    pub writes : Writes (traffic first) (traffic last) left (Goes (Opening (units_of pad) (units_of token))) ended (λ w. w)
    pub tells : Tells held now ended came
    pub status : code ≡ code_of came
    pub fault : came ≡ wrote.LinkFault → HasRisen (failures first) (failures last)

  -- So the lines of a source went to a pad; or no link was had, since the doors failed or memory ran out, and nothing was written
  pub data WritesPad (pad token : List ℕ) (left held now : Option (List ℕ)) (code : ℕ) (doors0 doors : ℕ) : Type 0 where
    Over : WritesOver pad token left held now code → WritesPad pad token left held now code doors0 doors
    NoLink : now ≡ held → code ≡ 8 → HasRisen doors0 doors → WritesPad pad token left held now code doors0 doors
    NoMemory : now ≡ held → code ≡ 7 → WritesPad pad token left held now code doors0 doors
