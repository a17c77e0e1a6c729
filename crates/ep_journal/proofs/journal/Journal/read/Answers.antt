use Rattle.std.proofs.Common.{◌≡◌, ◌∙◌, ◌+◌, ◌++◌, [], ◌∷◌, get_or, length, ap, subst, sym, rules, List, ℕ}
use Rattle.ep_outside.specs.Disk.{Reaches}
use Rattle.ep_journal.proofs.Keeping.{read_inside, read_value, written_back}
use Rattle.ep_journal.proofs.journal.Journal.read.Goals as goal

pub read-requires : goal.read-requires
read-requires g c =
    let long : length c.deref_mut.result.now ≡ c.place_of-at.result.1 = search rules in
    subst (λ (n : ℕ). Reaches (g.D.Disk.told c.args.self.now.disk) (c.place_of-at.result.0 + n)) (sym long)
    (read_inside _ c.args.self.now.gates.items c.args.self.now.gate c.args.i c.place_of-at.result.0 c.place_of-at.result.1 c.requires.ready.held c.requires.below
    (c.place_of-at.ensures.0 ∙ ap (λ (gs : List ℕ). get_or gs c.args.i 0 + 5) c.deref.ensures.value)
    (c.place_of-at.ensures.1 ∙ ap (λ (gs : List ℕ). get_or (gs ++ c.args.self.now.gate ∷ []) (c.args.i + 1) 0) c.deref.ensures.value))

pub returns-in-Ok-read-clause-value : goal.returns-in-Ok-read-clause-value
returns-in-Ok-read-clause-value g c =
    let long : length c.read.new.into ≡ c.place_of-at.result.1 = search rules in
    let same : length c.read.new.into ≡ length c.in-Ok.rec.items = search rules in
    read_value _ c.args.self.now.gates.items c.args.self.now.gate c.args.i c.place_of-at.result.0 c.place_of-at.result.1 c.read.new.into _ c.requires.ready.held c.requires.below
    (c.place_of-at.ensures.0 ∙ ap (λ (gs : List ℕ). get_or gs c.args.i 0 + 5) c.deref.ensures.value)
    (c.place_of-at.ensures.1 ∙ ap (λ (gs : List ℕ). get_or (gs ++ c.args.self.now.gate ∷ []) (c.args.i + 1) 0) c.deref.ensures.value)
    c.in-Ok-read.ensures.value long (written_back _ c.read.new.into c.in-Ok.rec.items (search rules) same)
