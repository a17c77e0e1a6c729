use Rattle.ep_http.proofs.TargetLines.{from_line, to_line}
use Rattle.ep_http.proofs.target.ends_in_target.Goals as goal

pub returns : goal.returns
returns c =
    let behind = c.behind_empty_lines.ensures in (
      λ t. from_line _ _ behind (c.is_in_target.ensures.0 t),
      λ at. c.is_in_target.ensures.1 (to_line _ _ behind at),
    )
