-- The newline's edit can be made of a document.
use Rattle.std.proofs.Common.{◌≡◌, true, length, refl, sym}
use Rattle.ep_cs.specs.Doc.{Doc}
use Rattle.ep_cs.proofs.Items.{length-identity}
use Rattle.ep_cs.proofs.EditFits.{IsFit, ends_well, identity-pairs, identity-settled, identity-pieces}
use Rattle.ep_history.specs.History.{newline, newline_edit}

pub fit-newline : (doc : Doc) → ends_well doc ≡ true → IsFit (newline_edit (length doc)) doc
fit-newline doc e = record {
  long = sym (length-identity (length doc));
  pairs = identity-pairs doc e;
  settled = identity-settled (length doc);
  pieces = identity-pieces (length doc) newline refl;
}
