-- A document's attributes as they are printed.
use Rattle.std.specs.Prelude.{ℕ, List}
use Rattle.serde_json.specs.Written.{compact_text}
use Rattle.ep_attr.specs.AttrMap.{Pair}
use Rattle.ep_units.specs.Utf8.{utf8_of}
use Rattle.ep_pool.specs.Json.{pool_json}
use Rattle.ep_cs.specs.Doc.{Doc}
use Rattle.ep_csread.specs.Spelling.{ops_text, pairs_named}
use Rattle.ep_apply.specs.Documents.{insertion}

-- the pairs that it names, in order of appearance, within one run by key
abbrev pub pairs_in : Doc → List Pair
pairs_in doc = pairs_named (insertion doc).runs

-- the operations that insert it, with the numbers of its pairs
abbrev pub attribs_out : Doc → List ℕ
attribs_out doc = utf8_of (ops_text (pairs_in doc) (insertion doc).runs)

-- the pool of its pairs, as compact JSON
abbrev pub pool_out : Doc → List ℕ
pool_out doc = compact_text (pool_json (pairs_in doc))
