-- Working words of private contracts: where a composition is: what is written, and what is left of the two changes.
use Rattle.std.specs.Prelude.{◌≡◌, [], ◌+◌, ◌<◌, ◌^◌, List, ◌++◌, length, take, drop}
use Rattle.ep_units.specs.Text.{Text}
use Rattle.ep_cs.specs.Doc.{Doc, text_of}
use Rattle.ep_cs.specs.Edit.{Step, Item, painted_item, apply, apply_items}
use Rattle.ep_cs.specs.Edit.Item.{New}
use Rattle.ep_cs.specs.Steps.{passed, run}
use Rattle.ep_cs.specs.Change.{Change}
use Rattle.ep_cs.specs.Fits.{Fits}
use Rattle.ep_cs.specs.Draft.{Draft}
use Rattle.ep_cursor.specs.Left.{Left, steps_left}
use Rattle.ep_cursor.specs.Said.{AreSaid}
use Rattle.ep_cursor.specs.Made.{text_made, given}
use Rattle.ep_cursor.specs.TrueDraft.{IsTrueDraft}

-- what is written, and then what the rest of b makes of what the rest of a makes
abbrev pub whole : List Step → List Step → List Step → List Item → List Item
whole out a b xs = run painted_item New out (take (passed out) xs) ++ run painted_item New b (run painted_item New a (drop (passed out) xs))

-- what was written and what is left are true of a text
pub record AreTrueOf (out : Draft) (a b : Left) (us : Text) : Type 0 where
  pub written : IsTrueDraft out us
  pub first : AreSaid a.ops a.bank (drop (passed out.steps) us)
  pub second : AreSaid b.ops b.bank (text_made (steps_left a) (drop (passed out.steps) us))

-- the composition of what is left can be written
pub record CanGo (out : Draft) (a b : Left) : Type 0 where
  pub places : passed out.steps + passed (steps_left a) ≡ out.old
  pub fits : given (steps_left a) ≡ passed (steps_left b)
  pub short : given out.steps + given (steps_left b) < 2 ^ 32
  pub text : Text
  pub long : length text ≡ out.old
  pub trues : AreTrueOf out a b text

-- the composition goes on, and means the same
pub record Advances (out : Draft) (a b : Left) (out' : Draft) (a' b' : Left) : Type 0 where
  pub old : out'.old ≡ out.old
  pub same : (xs : List Item) → length xs ≡ out.old → whole out'.steps (steps_left a') (steps_left b') xs ≡ whole out.steps (steps_left a) (steps_left b) xs
  pub places : passed out'.steps + passed (steps_left a') ≡ passed out.steps + passed (steps_left a)
  pub fits : given (steps_left a') ≡ passed (steps_left b')
  pub made : given out'.steps + given (steps_left b') ≡ given out.steps + given (steps_left b)
  pub less : length (steps_left a') + length (steps_left b') < length (steps_left a) + length (steps_left b)
  pub trues : (us : Text) → length us ≡ out.old → AreTrueOf out a b us → AreTrueOf out' a' b' us

-- nothing is left but places that are kept
pub record IsAll (out : Draft) (a b : Left) (out' : Draft) (a' b' : Left) : Type 0 where
  pub out_is : out' ≡ out
  pub a_is : a' ≡ a
  pub b_is : b' ≡ b
  pub first : a.ops ≡ []
  pub second : b.ops ≡ []

-- what is written, and what is left, is all of p and q
pub record IsComposing (p q : Change) (out : Draft) (a b : Left) : Type 0 where
  pub old : out.old ≡ length p.edit.places
  pub same : (xs : List Item) → length xs ≡ out.old → whole out.steps (steps_left a) (steps_left b) xs ≡ apply_items q.edit (apply_items p.edit xs)
  pub go : CanGo out a b
  pub trues : (doc : Doc) → Fits p doc → Fits q (apply p.edit doc) → AreTrueOf out a b (text_of doc)
