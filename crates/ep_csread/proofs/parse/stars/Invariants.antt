use Rattle.std.proofs.Common.{◌≡◌, length}
use Rattle.ep_csread.specs.Syntax.{stars_at}
use Rattle.ep_csread.proofs.Many.{with_front}
use Rattle.ep_csread.proofs.parse.stars.Given as goal

abbrev pub invariant-stars : goal.invariant-stars
invariant-stars l = with_front l.stars.items (stars_at l.rest) ≡ stars_at l.text

abbrev pub decreases-stars : goal.decreases-stars
decreases-stars l = length l.rest
