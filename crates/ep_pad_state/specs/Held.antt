-- For which pads a pad in memory stands.
use Rattle.std.specs.Prelude.{◌≡◌, true, false, ◌∷◌, length}
use Rattle.ep_history.specs.History.{Birth, head}
use Rattle.ep_history.specs.Pad.{PadState, newest}
use Rattle.ep_history.specs.Records.{IsSoundPad}
use Rattle.ep_seats.specs.Kept.{StandsFor}
use Rattle.ep_pad_state.specs.declared.birth.Birth.{Birth as Kept}
use Rattle.ep_pad_state.specs.declared.pad.Last.{Last}
use Rattle.ep_pad_state.specs.declared.pad.Last.TheVariants.{There, Gone}
use Rattle.ep_pad_state.specs.declared.pad.Pad.{Pad}
use Rattle.ep_pad_state.specs.Nops.{StandFor}

-- a birth's revisions, revision 0 first
abbrev pub HasRevs : Kept → Birth → Type 0
HasRevs k b = k.revs.revs ≡ b.first ∷ b.later

-- its revisions, and its edits that became nothing
pub record IsBirth (k : Kept) (b : Birth) : Type 0 where
  pub revs : HasRevs k b
  pub nops : StandFor k.nops b.nops

-- the last birth is there; or it is gone, and its head was this
abbrev pub IsLast : Last → PadState → Type 0
IsLast (There k) p = (p.present ≡ true) × IsBirth k (newest p)
IsLast (Gone h) p = (p.present ≡ false) × (head (newest p) ≡ h)

-- what is kept is the pad's
pub record Keeps (k : Pad) (p : PadState) : Type 0 where
  pub limits : p.limits ≡ k.limits
  pub seats : StandsFor k.seats p
  pub births : length p.births ≡ k.births
  pub public : p.public ≡ k.public
  pub last : IsLast k.last p

-- it stands for this pad, which is sound
pub record IsPad (k : Pad) (p : PadState) : Type 0 where
  pub keeps : Keeps k p
  pub sound : IsSoundPad p
