use Rattle.std.proofs.Common.{◌≡◌, ℕ, List, Option, ap, sym, subst, ◌∙◌}
use Rattle.std.specs.Prelude.{option_map}
use Rattle.ep_outside.specs.Shelf.{with_name}
use Rattle.ep_move.specs.Moving.{is_among}
use Rattle.ep_move.proofs.Naming.{stays}
use Rattle.ep_move.proofs.file.file_of.Goals as goal

-- the name is there already, so that opening its disk puts no other there
pub read_file-requires : goal.read_file-requires
read_file-requires g c =
    let id = c.args.pad.now in
    let among = ap (λ (l : List (List ℕ)). is_among l id) (sym c.deref.ensures.value) ∙ sym c.is_among.ensures ∙ c.if-not-is_among.false in
    subst (λ (ns : Option (List (List ℕ))). option_map (λ (l : List (List ℕ)). with_name l id) ns ≡ ns) (sym c.find_names.ensures.names)
    (stays (g.H.Shelf.names c.args.shelf.now) c.in-Ok.names.items id c.in-Ok.ensures.value c.in-Ok.ensures.sorted among)
