-- What is written of the files of a shelf.
use Rattle.std.specs.Prelude.{ℕ, ◌≡◌, List, map, All, Option, IsTrue}
use Rattle.ep_outside.specs.Disk.{Contents}
use Rattle.ep_outside.specs.Outside.{Takes, TakesPart}
use Rattle.ep_outside.specs.Shelf.{AreTold, rises}
use Rattle.ep_verify.specs.Files.{IsVerdict}
use Rattle.ep_verify.specs.declared.verdict.Verdict.{Verdict}
use Rattle.ep_verdicts.specs.Lines.{found_in, lines_of}
use Rattle.ep_verdicts.specs.declared.found.Found.{Found}

-- The verdicts on a shelf that tells this: one on each name, by rising name, and each is what the name's file is.
pub record AreVerdicts (names : Option (List (List ℕ))) (told : List ℕ → Option Contents) (vs : List Verdict) : Type 0 where
  pub named : AreTold names (map (λ v. v.name) vs)
  pub order : IsTrue (rises (map (λ v. v.name) vs))
  pub judged : All (IsVerdict told) vs

-- their lines were written, and this is what they come to
pub record Writes (names : Option (List (List ℕ))) (told : List ℕ → Option Contents) (held now : Option (List ℕ)) (found : Found) : Type 0 where
  pub verdicts : List Verdict
  pub are : AreVerdicts names told verdicts
  pub written : Takes held now (lines_of verdicts)
  pub come_to : found ≡ found_in verdicts

-- a beginning of their lines was written
pub record WritesPart (names : Option (List (List ℕ))) (told : List ℕ → Option Contents) (held now : Option (List ℕ)) : Type 0 where
  pub verdicts : List Verdict
  pub are : AreVerdicts names told verdicts
  pub written : TakesPart held now (lines_of verdicts)
