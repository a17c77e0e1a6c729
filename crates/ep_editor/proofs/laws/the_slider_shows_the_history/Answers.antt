use Rattle.ep_editor.proofs.History.{stays-slid, stays-slides, tells-slid, tells-slides}
use Rattle.ep_editor.proofs.laws.the_slider_shows_the_history.Goals as goal

pub returns-clause-asked : goal.returns-clause-asked
returns-clause-asked c = tells-slides

pub returns-clause-stays : goal.returns-clause-stays
returns-clause-stays c = stays-slides

pub returns-clause-told : goal.returns-clause-told
returns-clause-told c = tells-slid

pub returns-clause-hears : goal.returns-clause-hears
returns-clause-hears c = stays-slid
