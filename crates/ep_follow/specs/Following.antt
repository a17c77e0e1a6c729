-- Working words of private contracts: where a follower is: what is written, and what is left of the two changes.
use Rattle.std.specs.Prelude.{◌≡◌, ◌+◌, ◌<◌, ◌^◌, Bool, true, length, drop}
use Rattle.ep_units.specs.Text.{Text}
use Rattle.ep_cs.specs.Doc.{Doc, text_of}
use Rattle.ep_cs.specs.Edit.{apply}
use Rattle.ep_cs.specs.Steps.{passed}
use Rattle.ep_cs.specs.Change.{Change, stamped}
use Rattle.ep_cs.specs.Draft.{Draft, drafted, inserted_by, new_length}
use Rattle.ep_cs.specs.Fits.{Fits, AreDocuments, is_identity}
use Rattle.ep_cs.specs.Follow.{follow}
use Rattle.ep_cursor.specs.Left.{Left, steps_left}
use Rattle.ep_cursor.specs.Made.{text_made, given}
use Rattle.ep_cursor.specs.Said.{AreSaid}
use Rattle.ep_cursor.specs.TrueDraft.{IsTrueDraft}

-- the follower of what is left can be written over a text that the first change makes; `text` is what is left of the document's
pub record UnderWay (made : Text) (out : Draft) (a b : Left) : Type 0 where
  pub level : passed (steps_left a) ≡ passed (steps_left b)
  pub places : passed out.steps + given (steps_left a) ≡ out.old
  pub long : length made ≡ out.old
  pub short : out.old + (inserted_by out.steps + length b.bank) < 2 ^ 32
  pub written : IsTrueDraft out made
  pub text : Text
  pub all : length text ≡ passed (steps_left a)
  pub first : AreSaid a.ops a.bank text
  pub second : AreSaid b.ops b.bank text
  pub here : drop (passed out.steps) made ≡ text_made (steps_left a) text

-- what is written is the change that follows, over the result of a document
pub record IsFollower (side : Bool) (a b : Change) (doc : Doc) (out : Draft) : Type 0 where
  pub short : new_length out < 2 ^ 32
  pub pieces : AreDocuments (drafted out).edit.places (drafted out).edit.last
  pub is : drafted out ≡ stamped (follow side a.edit b.edit) (text_of (apply a.edit doc))
  pub fits : Fits (drafted out) (apply a.edit doc)
  pub through : is_identity a.edit ≡ true → drafted out ≡ b
  pub nothing : is_identity b.edit ≡ true → is_identity (drafted out).edit ≡ true
