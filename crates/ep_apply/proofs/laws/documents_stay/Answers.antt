use Rattle.std.proofs.Common.{refl, sym}
use Rattle.ep_attr.specs.AttrMap.{none}
use Rattle.ep_attr.proofs.Maps.{after-none}
use Rattle.ep_apply.proofs.Documents.{document_made}
use Rattle.ep_apply.proofs.laws.documents_stay.Goals as goal

pub returns : goal.returns
returns c = record {
  empty = record { pairs = refl; values = tt };
  newline = record { pairs = refl; values = (sym (after-none none), tt) };
  applied = document_made;
}
