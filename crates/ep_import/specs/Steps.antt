-- Working words of private contracts: one row behind revisions, and a pool's refusal.
use Rattle.std.specs.Prelude.{◌≡◌, ◌⊎◌, List, [], ◌∷◌, ◌++◌, length, Result, Ok, Err}
use Rattle.ep_attr.specs.AttrMap.{Pair}
use Rattle.ep_history.specs.declared.rev.Rev.{Rev}
use Rattle.ep_pool.specs.declared.from_json.PoolBad.{PoolBad}
use Rattle.ep_pool.specs.declared.from_json.PoolBad.TheVariants as pool_bad
use Rattle.ep_import.specs.declared.bad.ImportBad.{ImportBad}
use Rattle.ep_import.specs.declared.bad.ImportBad.TheVariants as bad
use Rattle.ep_import.specs.declared.place.Place.TheVariants as place
use Rattle.ep_import.specs.Imported.{Row, Stands, StandsNone}

-- the row's revision stands behind these, or may not stand there
abbrev pub Follows : List Pair → List Rev → Row → Result (List Rev) ImportBad → Type 0
Follows pairs vs r answer =
    ((v : Rev) × Stands pairs vs r v × (answer ≡ Ok (vs ++ v ∷ [])))
    ⊎ (StandsNone pairs vs r × (answer ≡ Err (bad.Revision (length vs))))

-- a pool's refusal as one of the text, where want of memory is its own
abbrev pub pool_refusal : PoolBad → ImportBad
pool_refusal pool_bad.NoMemory = bad.NoMemory
pool_refusal why = bad.Shape place.Pool
