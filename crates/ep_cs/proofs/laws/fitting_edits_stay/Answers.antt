use Rattle.ep_cs.proofs.EditFits.{fits_true, true_fits, fit-compose, fit-follow}
use Rattle.ep_cs.specs.Edit.{apply, compose}
use Rattle.ep_cs.specs.Follow.{follow}
use Rattle.ep_cs.proofs.laws.fitting_edits_stay.Goals as goal

pub returns : goal.returns
returns c = record {
  composed = λ a b doc f g. true_fits (compose a b) doc (fit-compose a b doc (fits_true a doc f) (fits_true b (apply a doc) g));
  followed = λ side a b doc f g. true_fits (follow side a b) (apply a doc) (fit-follow side a b doc (fits_true a doc f) (fits_true b doc g));
}
