use Rattle.std.proofs.Common.{rules, ◌≡◌, ◌++◌, List, ℕ, true, length, take, drop, sym, ap, ◌∙◌}
use Rattle.std.proofs.Math.Seq.{take-append_seam}
use Rattle.ep_units.proofs.Ascii.{ascii_units}
use Rattle.ep_units.proofs.Pairing.{paired_utf8}
use Rattle.ep_units.specs.Text.{is_well_formed}
use Rattle.ep_units.specs.Utf8.{units_of, is_ascii}
use Rattle.ep_units.proofs.units.Units.from_str.Goals as goal

pub returns-then-widen-clause-units : goal.returns-then-widen-clause-units
returns-then-widen-clause-units c =
    let bytes = c.args.text.now in
    let new = c.widen.new.units in
    let rest : List ℕ = drop (length new) c.resize.new.self.items in
    let set : new ≡ bytes = c.widen.ensures.units ∙ c.as_bytes.ensures.value in
    let len : c.resize.new.self.len ≡ length new = search rules in
    let ascii : is_ascii bytes ≡ true = ap is_ascii (sym c.as_bytes.ensures.value) ∙ sym c.widen.ensures.ascii ∙ c.if-widen.true in
    ap (λ (k : ℕ). take k (new ++ rest)) len ∙ take-append_seam new rest ∙ set ∙ sym (ascii_units bytes ascii)

pub returns-then-widen-clause-well_formed : goal.returns-then-widen-clause-well_formed
returns-then-widen-clause-well_formed c =
    ap is_well_formed (returns-then-widen-clause-units c) ∙ paired_utf8 c.args.text.now c.utf8.text
