use Rattle.std.proofs.Common.{◌≡◌, Some, IsSomeAnd, refl, sym, subst}
use Rattle.serde_json.specs.Find.{as_object}
use Rattle.serde_json.specs.View.{members_view, view}
use Rattle.ep_pool.specs.Read.{AreEntries}
use Rattle.ep_pool.proofs.Reading.{least_beyond}
use Rattle.ep_pool.proofs.from_json.first_gap.Goals as goal

pub returns-in_ok-as_object-in-None-clause-some : goal.returns-in_ok-as_object-in-None-clause-some
returns-in_ok-as_object-in-None-clause-some c =
    let ms = members_view c.in_ok-as_object-in-None.field-0.now.entries in
    let is : as_object (view c.args.attribs.now) ≡ Some ms = sym c.in_ok-as_object-in-None.ensures in
    let all : AreEntries ms = subst (λ o. IsSomeAnd o AreEntries) is c.requires.all in
    least_beyond (view c.args.attribs.now) ms c.args.next c.first_beyond.result is all (c.in-None.ensures.none refl) c.first_beyond.ensures.some c.first_beyond.ensures.rest
