use Rattle.std.proofs.Common.{◌≡◌, sym, ap, ◌∙◌}
use Rattle.std.proofs.lemmas.List.{map-id}
use Rattle.std.proofs.lemmas.Iterator.{YieldsList-from_chars}
use Rattle.std.proofs.lemmas.Iterator.Consumers.{YieldsList-end}
use Rattle.std.specs.Char.Escape.{encode_utf16}
use Rattle.std.specs.List.{flat_map}
use Rattle.std.specs.Str.{chars}
use Rattle.ep_units.proofs.Pairing.{paired_utf8}
use Rattle.ep_units.specs.Text.{is_well_formed}
use Rattle.ep_units.proofs.units.Units.from_chars.Goals as goal

pub returns-clause-units : goal.returns-clause-units
returns-clause-units c =
    let t = YieldsList-end (YieldsList-from_chars c.args.text.now c.utf8.text cc) c.loop-c.yielded _ c.loop-c.yielded_by _ _ c.in-None.is c.next.ensures.steps in
    let all : c.loop-c.yielded ≡ chars c.args.text.now = sym (map-id c.loop-c.yielded) ∙ t.0 in
    c.loop-c.invariant ∙ ap (flat_map encode_utf16) all

pub returns-clause-well_formed : goal.returns-clause-well_formed
returns-clause-well_formed c = ap is_well_formed (returns-clause-units c) ∙ paired_utf8 c.args.text.now c.utf8.text
