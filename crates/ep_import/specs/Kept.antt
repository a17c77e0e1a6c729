-- Which histories are read again as they were written.
use Rattle.std.specs.Prelude.{◌≡◌, ◌<◌, ◌≤◌, ◌^◌, true, List, length, None}
use Rattle.std.specs.List.{AllByRecursion}
use Rattle.ep_pool.specs.Read.{AreTexts, IsText}
use Rattle.ep_cs.specs.Change.{bank_of}
use Rattle.ep_cs.specs.Doc.{text_of}
use Rattle.ep_cs.specs.NormalRuns.{IsNormal}
use Rattle.ep_apply.specs.Documents.{insertion}
use Rattle.ep_csread.specs.Spelling.{has_pairs}
use Rattle.ep_history.specs.declared.rev.Rev.{Rev}
use Rattle.ep_wire_words.specs.Sent.{IsSession}
use Rattle.ep_export.specs.Exported.{last_doc, late, pool_of}

-- a revision as code has it: its change is normal, its texts are well-formed, and its session's numbers have 64 bits
pub record IsKept (v : Rev) : Type 0 where
  pub normal : IsNormal v.change
  pub bank : IsText (bank_of v.change.edit)
  pub author : IsText v.author
  pub session : IsSession v.session

-- revisions as code has them, whose pairs a pool can number, of times that a browser has exactly; the last document is as
-- code has it, and each of its pairs stands in a revision
pub record AreKept (vs : List Rev) : Type 0 where
  pub each : AllByRecursion IsKept vs
  pub few : length (pool_of vs) < 2 ^ 32
  pub pairs : AreTexts (pool_of vs)
  pub count : length vs ≤ 9007199254740991
  pub in_time : late 0 vs ≡ None
  pub normal : IsNormal (insertion (last_doc vs))
  pub text : IsText (text_of (last_doc vs))
  pub named : has_pairs (pool_of vs) (insertion (last_doc vs)).runs ≡ true
