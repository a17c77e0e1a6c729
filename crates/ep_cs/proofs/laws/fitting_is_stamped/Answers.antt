use Rattle.ep_cs.proofs.laws.fitting_is_stamped.Goals as goal

pub returns : goal.returns
returns c = λ change doc fits. λ i. record { edit = change.edit; runs = fits.runs i }
