-- Lines of verdicts, and what verdicts come to.
use Rattle.std.specs.Prelude.{ℕ, Bool, true, false, List, [], ◌∷◌, ◌++◌, codes, if◌then◌else◌}
use Rattle.std.specs.List.{flat_map, list_any}
use Rattle.std.specs.Fmt.{decimal}
use Rattle.ep_print.specs.Texts.{quoted}
use Rattle.ep_verify.specs.declared.verdict.Verdict.{Verdict}
use Rattle.ep_verify.specs.declared.verdict.What.{What}
use Rattle.ep_verify.specs.declared.verdict.What.TheVariants.{Whole, Absent, Foreign, BadRecord, Behind}
use Rattle.ep_verdicts.specs.declared.found.Found.{Found}
use Rattle.ep_verdicts.specs.declared.found.Found.TheVariants.{Sound, Broken}

-- what a file is, in words
abbrev pub what_out : What → List ℕ
what_out (Whole head units) = codes "whole head " ++ (decimal head ++ (codes " units " ++ decimal units))
what_out Absent = codes "absent"
what_out Foreign = codes "foreign"
what_out (BadRecord index) = codes "record " ++ decimal index
what_out (Behind count) = codes "behind " ++ decimal count

-- the line of a verdict: the pad's name in double quotes, a space, what its file is, and LF
abbrev pub verdict_line : Verdict → List ℕ
verdict_line v = quoted v.name ++ 32 ∷ (what_out v.what ++ 10 ∷ [])

-- the lines of verdicts, in their order
abbrev pub lines_of : List Verdict → List ℕ
lines_of vs = flat_map verdict_line vs

-- it is no journal, or has a bad record, or records behind a closed gate
abbrev pub is_broken : What → Bool
is_broken (Whole head units) = false
is_broken Absent = false
is_broken Foreign = true
is_broken (BadRecord index) = true
is_broken (Behind count) = true

-- what verdicts come to: whether a file among them is broken
abbrev pub found_in : List Verdict → Found
found_in vs = if list_any (λ v. is_broken v.what) vs then Broken else Sound
