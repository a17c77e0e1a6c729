-- Working words of private contracts: a code of the last revisions, by which they can be a model's value.
use Rattle.std.specs.Prelude.{ℕ, List, Option, refl}
use Rattle.std.specs.Coded.{Coded, coded_ℕ, coded_list, coded_option, coded×, code_by}
use Rattle.ep_units.specs.Text.{Text}
use Rattle.ep_cs.specs.Change.{Change}
use Rattle.ep_cs.specs.Doc.{Doc}
use Rattle.ep_cs.specs.Codes.{coded_cell, coded_change}
use Rattle.ep_history.specs.declared.rev.Rev.{Rev}
use Rattle.ep_recent.specs.Recent.{LastRevs}

abbrev pub coded_rev : Coded Rev
coded_rev =
    code_by ((Change × Text) × ((ℕ × ℕ) × ℕ)) (coded× (coded× coded_change (coded_list coded_ℕ)) (coded× (coded× coded_ℕ coded_ℕ) coded_ℕ))
    (λ v. ((v.change, v.author), ((v.session.epoch, v.session.count), v.time)))
    (λ p. record { change = p.0.0; author = p.0.1; session = record { epoch = p.1.0.0; count = p.1.0.1 }; time = p.1.1 })
    (λ _. refl)

abbrev pub coded_last : Coded LastRevs
coded_last =
    code_by ((ℕ × List (Rev × Option Doc)) × (Option Doc × ℕ))
    (coded× (coded× coded_ℕ (coded_list (coded× coded_rev (coded_option (coded_list coded_cell))))) (coded× (coded_option (coded_list coded_cell)) coded_ℕ))
    (λ r. ((r.first, r.kept), (r.head, r.room))) (λ p. record { first = p.0.0; kept = p.0.1; head = p.1.0; room = p.1.1 }) (λ _. refl)
