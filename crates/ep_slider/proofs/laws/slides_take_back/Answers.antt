use Rattle.ep_invert.proofs.Undone.{inverse_undoes}
use Rattle.ep_slider.proofs.laws.slides_take_back.Goals as goal

pub returns : goal.returns
returns c doc d is fits = inverse_undoes d.edit doc fits.length is.values
