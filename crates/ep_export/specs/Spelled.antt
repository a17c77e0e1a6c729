-- Working words of private contracts: revisions whose changesets are spelled so.
use Rattle.std.specs.Prelude.{ℕ, suc, List, [], ◌∷◌}
use Rattle.serde_json.specs.Data.{Members, put}
use Rattle.ep_units.specs.Text.{Text}
use Rattle.ep_history.specs.declared.rev.Rev.{Rev}
use Rattle.ep_export.specs.Keys.{rev_key}
use Rattle.ep_export.specs.Exported.{spelled_json}

-- the revisions from n on
abbrev pub put_spelled : List ℕ → ℕ → List Text → List Rev → Members → Members
put_spelled key n ts [] ms = ms
put_spelled key n [] (v ∷ vs) ms = ms
put_spelled key n (t ∷ ts) (v ∷ vs) ms = put_spelled key (suc n) ts vs (put (rev_key key n) (spelled_json t v) ms)
