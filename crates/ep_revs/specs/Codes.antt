-- Working words of private contracts: a code of revisions, by which they can be a model's value.
use Rattle.std.specs.Prelude.{ℕ, List, refl}
use Rattle.std.specs.Coded.{Coded, coded_ℕ, coded_list, coded×, code_by}
use Rattle.ep_units.specs.Text.{Text}
use Rattle.ep_cs.specs.Change.{Change}
use Rattle.ep_cs.specs.Codes.{coded_change}
use Rattle.ep_history.specs.declared.rev.Rev.{Rev}
use Rattle.ep_revs.specs.Revisions.{Revisions}

abbrev pub coded_rev : Coded Rev
coded_rev =
    code_by ((Change × Text) × ((ℕ × ℕ) × ℕ)) (coded× (coded× coded_change (coded_list coded_ℕ)) (coded× (coded× coded_ℕ coded_ℕ) coded_ℕ))
    (λ v. ((v.change, v.author), ((v.session.epoch, v.session.count), v.time)))
    (λ p. record { change = p.0.0; author = p.0.1; session = record { epoch = p.1.0.0; count = p.1.0.1 }; time = p.1.1 })
    (λ _. refl)

abbrev pub coded_revisions : Coded Revisions
coded_revisions =
    code_by (List Rev × ℕ) (coded× (coded_list coded_rev) coded_ℕ) (λ r. (r.revs, r.room)) (λ p. record { revs = p.0; room = p.1 }) (λ _. refl)
