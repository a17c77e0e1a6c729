use Rattle.std.proofs.Common.{◌∙◌, sym}
use Rattle.ep_seats.proofs.Places.{replaced-none, replaced-at}
use Rattle.ep_seats.proofs.seats.Seats.end_older.Goals as goal

pub returns-in-Some-clause-places : goal.returns-in-Some-clause-places
returns-in-Some-clause-places c =
    c.end.ensures.places ∙ sym (replaced-at c.args.author.now c.args.why c.args.self.now.places c.in-Some.i c.in-Some.ensures.single c.in-Some.ensures.found)

pub returns-in_default-clause-places : goal.returns-in_default-clause-places
returns-in_default-clause-places c = sym (replaced-none c.args.author.now c.args.why c.args.self.now.places c.in_default.ensures.found)
