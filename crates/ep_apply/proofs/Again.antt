-- A document that is inserted.
use Rattle.std.proofs.Common.{◌≡◌, [], refl}
use Rattle.ep_cs.specs.Doc.{Doc}
use Rattle.ep_cs.specs.Edit.{apply}
use Rattle.ep_cs.specs.Fits.{Fits}
use Rattle.ep_cs.proofs.Pairs.{same_cells}
use Rattle.ep_apply.specs.Documents.{insertion}

pub inserted_again : (doc : Doc) → apply (insertion doc).edit [] ≡ doc
inserted_again doc = same_cells doc

pub insertion_fits : (doc : Doc) → Fits (insertion doc) []
insertion_fits doc = record { length = refl; runs = refl; pairs = refl }
