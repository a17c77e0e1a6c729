-- For which pads something reread stands.
use Rattle.std.specs.Prelude.{◌≡◌, ◌≤◌, Bool, true, false, ◌∷◌, length, Option, Some, None}
use Rattle.ep_history.specs.History.{head_doc}
use Rattle.ep_history.specs.Pad.{PadState, newest}
use Rattle.ep_history.specs.Records.{IsNext, next_pad}
use Rattle.ep_history.specs.declared.record.Record.{Record}
use Rattle.ep_move.specs.declared.last.Last.{Last}
use Rattle.ep_move.specs.declared.rereading.Reread.{Reread}

-- the pad is there, these are its last birth's revisions, and this is the document after them
pub record IsThere (l : Last) (p : PadState) : Type 0 where
  pub present : p.present ≡ true
  pub some : 1 ≤ length p.births
  pub revs : l.revs.items ≡ (newest p).first ∷ (newest p).later
  pub doc : l.doc ≡ head_doc (newest p)

abbrev pub IsLast : Option Last → PadState → Type 0
IsLast (Some l) p = IsThere l p
IsLast None p = p.present ≡ false

-- it stands for a pad, whatever limits and sessions that has
pub record IsReread (k : Reread) (p : PadState) : Type 0 where
  pub epoch : p.epoch ≡ k.epoch
  pub births : length p.births ≡ k.births
  pub public : p.public ≡ k.public
  pub last : IsLast k.last p

-- whether a record may come next; then what there is now stands for the pad after it
abbrev pub MayFollow : {K : Type 0} → (K → PadState → Type 0) → PadState → Record → K → Bool → Type 0
MayFollow Stands p r new true = IsNext p r × Stands new (next_pad p r)
MayFollow Stands p r new false = IsNext p r → ⊥
