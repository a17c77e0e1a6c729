-- The timeslider of an editor: what is answered where a revision is wanted, and where steps come.
use Rattle.std.specs.Prelude.{ℕ, ◌==◌, ◌||◌, nat_lt, if◌then◌else◌, List, Option, Some, None, Result, Ok, Err}
use Rattle.ep_client.specs.declared.bad.ClientBad.{ClientBad}
use Rattle.ep_hearing.specs.declared.meaning.Slid.{Slid}
use Rattle.ep_timeslider.specs.Steps.{answers, asking, question, steps_of, walked}
use Rattle.ep_timeslider.specs.declared.slider.Asked.{Asked}
use Rattle.ep_timeslider.specs.declared.slider.Place.{Place}
use Rattle.ep_timeslider.specs.declared.slider.Slider.{Slider}
use Rattle.ep_timeslider.specs.declared.slider.Step.{Step}
use Rattle.ep_editor.specs.Bads.{bad_of_client}
use Rattle.ep_editor.specs.Replies.{Reply, Sends, Past, refuses}
use Rattle.ep_editor.specs.declared.bad.EditorBad.TheVariants as bad
use Rattle.ep_editor.specs.declared.entered.Entered.{Entered}

-- it awaits nothing
abbrev pub silent : Slider → Slider
silent s = record s { asked = None }

-- it stands there, and shows the document where that was wanted; else it asks for more
abbrev pub stands : Place → List Step → ℕ → Entered → Reply × Entered
stands at steps to p =
    if at.rev == to then (Past at.doc, record p { slider = record { place = at; steps = steps; asked = None } })
    else (Sends (asking (question at.rev to)), record p { slider = record { place = at; steps = steps; asked = Some (question at.rev to) } })

abbrev pub slides_by : Result Place ClientBad → ℕ → Entered → Reply × Entered
slides_by (Ok at) to p = if at.rev == to || p.client.client.connected then stands at p.slider.steps to p else refuses bad.Turn p
slides_by (Err why) to p = refuses (bad_of_client why) p

-- the document of a revision is wanted, of those that it has heard
abbrev pub slides : ℕ → Entered → Reply × Entered
slides to p = if nat_lt p.client.client.rev to then refuses bad.Place p else slides_by (walked to p.slider.steps p.slider.place) to p

-- steps came that lead on
abbrev pub slid_by : Result Place ClientBad → List Step → ℕ → Entered → Reply × Entered
slid_by (Ok at) steps to p = if at.rev == p.slider.place.rev then refuses bad.Turn p else stands at steps to p
slid_by (Err why) steps to p = refuses (bad_of_client why) p

abbrev pub slid_to : Slid → Asked → Entered → Reply × Entered
slid_to s q p = if answers s q then slid_by (walked q.to (steps_of s) p.slider.place) (steps_of s) q.to p else refuses bad.Turn p

abbrev pub slid_for : Slid → Option Asked → Entered → Reply × Entered
slid_for s None p = refuses bad.Turn p
slid_for s (Some q) p = slid_to s q p

abbrev pub hears_slid : Slid → Entered → Reply × Entered
hears_slid s p = slid_for s p.slider.asked p
