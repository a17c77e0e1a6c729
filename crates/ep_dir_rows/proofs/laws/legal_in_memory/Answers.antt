use Rattle.std.proofs.Common.{◌≡◌, refl}
use Rattle.std.specs.Prelude.{List, [], ◌∷◌, Some, Ok}
use Rattle.ep_outside.specs.declared.keeper.Pair.{Pair}
use Rattle.ep_groups.specs.History.{Follows}
use Rattle.ep_groups.specs.declared.entries.DirEntry.{DirEntry}
use Rattle.ep_groups.specs.declared.entries.DirEntry.TheVariants as entry
use Rattle.ep_groups.specs.declared.entries.DirReply.{DirReply}
use Rattle.ep_groups.specs.declared.entries.DirReply.TheVariants as reply
use Rattle.ep_dir_rows.proofs.laws.legal_in_memory.Goals as goal

pub returns-clause-follows : goal.returns-clause-follows
returns-clause-follows c = λ first h legal. c.legal_follows.ensures.follows first h (c.legal_follows.ensures.telling first h (λ k. refl) legal) legal

pub returns-clause-wrong_grant : goal.returns-clause-wrong_grant
returns-clause-wrong_grant c = λ first a g never legal.
    let h : List (DirEntry × DirReply) = (entry.Grant a, reply.Grant (Ok g)) ∷ [] in
    let found : (m : List Pair) × (first.told ≡ Some m) × Follows m h = c.legal_follows.ensures.follows first h (c.legal_follows.ensures.telling first h (λ k. refl) legal) legal in
    never found.0 found.2.1.0 found.1 found.2.1.1
