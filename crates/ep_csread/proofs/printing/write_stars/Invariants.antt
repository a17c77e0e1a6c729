use Rattle.std.proofs.Common.{◌≡◌, ◌++◌, take}
use Rattle.std.specs.List.{flat_map}
use Rattle.ep_cs.specs.Spelling.{star_text}
use Rattle.ep_csread.proofs.printing.write_stars.Given as goal

abbrev pub invariant-loop-star : goal.invariant-loop-star
invariant-loop-star g l = g.S.Spell.spelled l.out ≡ g.S.Spell.spelled l.initial.out ++ flat_map star_text (take l.star-index l.stars)
