-- What becomes of an edit that is taken, and what is known of the birth that takes it.
use Rattle.std.specs.Prelude.{◌≡◌, ℕ, ◌<◌, ◌≤◌, false, Option, Some, None, if◌then◌else◌, drop}
use Rattle.ep_units.specs.Text.{Text}
use Rattle.ep_cs.specs.Doc.{Doc, text_of}
use Rattle.ep_cs.specs.Edit.{Edit}
use Rattle.ep_cs.specs.Change.{Change, stamped}
use Rattle.ep_cs.specs.Fits.{is_identity}
use Rattle.ep_cs.specs.Made.{AreMade}
use Rattle.ep_history.specs.History.{Birth, head, doc_at, head_doc, made}
use Rattle.ep_history.specs.Pad.{PadState, newest}
use Rattle.ep_history.specs.declared.seat.Seat.{Seat}
use Rattle.ep_step.specs.declared.taking.Head.{Head}
use Rattle.ep_step.specs.declared.taking.Base.{Base}
use Rattle.ep_step.specs.declared.taking.Taken.{Taken}
use Rattle.ep_step.specs.declared.taking.Taken.TheVariants as taken
use Rattle.ep_step.specs.Changes.{changes_of}
use Rattle.ep_step.specs.Step.{step_of}

-- the revisions behind a base lead from its document to the head's, each fitting the document of those before it
pub record Leads (at : Base) (h : Head) : Type 0 where
  pub fit : AreMade at.doc.now (changes_of at.since.now)
  pub lead : made at.doc.now at.since.now ≡ h.doc.now

-- the head is that of a pad's last birth, and the limit the pad's
pub record IsHeadOf (h : Head) (pad : PadState) : Type 0 where
  pub rev : h.rev ≡ head (newest pad)
  pub doc : h.doc.now ≡ head_doc (newest pad)
  pub limit : h.limit ≡ pad.limits.units

-- a revision of a birth is this base: none is where the head is below it
abbrev pub IsBaseOf : Option Base → Birth → ℕ → Type 0
IsBaseOf None b r = head b < r
IsBaseOf (Some at) b r = (r ≤ head b) × (at.doc.now ≡ doc_at b r) × (at.since.now ≡ drop r b.later)

-- an edit that this author bases on a revision of a pad: the head, the base and the author are those, and the session
-- may write
pub record IsAsked (h : Head) (at : Option Base) (name : Text) (pad : PadState) (seat : Seat) (r : ℕ) : Type 0 where
  pub head : IsHeadOf h pad
  pub base : IsBaseOf at (newest pad) r
  pub author : name ≡ seat.author
  pub writes : seat.read_only ≡ false

-- an edit of the head is ready: nothing is left of it, or it makes a step
abbrev pub taken_of : Edit → Doc → Taken
taken_of e head = if is_identity e then taken.Nop (stamped e (text_of head)) else taken.Step (step_of e head)

-- its change of the head
abbrev pub change_of : Taken → Change
change_of (taken.Nop c) = c
change_of (taken.Step s) = s.edit.change
