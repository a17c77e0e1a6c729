-- Lines that are written one after the other.
use Rattle.std.proofs.Common.{◌≡◌, ℕ, ◌+◌, ◌<◌, ◌≤◌, List, ◌++◌, length, get_or, drop, sym, ap, ◌∙◌, subst}
use Rattle.std.specs.Prelude.{Option}
use Rattle.std.proofs.lemmas.List.{at_drop_more, at_drop_all}
use Rattle.ep_outside.specs.Outside.{Takes, TakesAllBut, TakesPart}
use Rattle.ep_outside.proofs.Pieces.{breaks_off, finished, goes_on}
use Rattle.ep_verify.specs.declared.verdict.Verdict.{Verdict}
use Rattle.ep_verdicts.specs.Lines.{lines_of, verdict_line}

-- all but the lines from a place on were written
abbrev pub IsAt : Option (List ℕ) → Option (List ℕ) → List Verdict → ℕ → Type 0
IsAt old now vs i = TakesAllBut old now (lines_of vs) (lines_of (drop i vs))

next : (vs : List Verdict) (i : ℕ) (v : Verdict) → i < length vs → v ≡ get_or vs i v → lines_of (drop i vs) ≡ verdict_line v ++ lines_of (drop (i + 1) vs)
next vs i v lt is =
    let e : lines_of (drop i vs) ≡ verdict_line (get_or vs i v) ++ lines_of (drop (i + 1) vs) = at_drop_more lines_of vs i v lt in
    e ∙ ap (λ (x : Verdict). verdict_line x ++ lines_of (drop (i + 1) vs)) (sym is)

pub one_more : (old mid now : Option (List ℕ)) (vs : List Verdict) (i : ℕ) (v : Verdict) (line : List ℕ) → IsAt old mid vs i → i < length vs → v ≡ get_or vs i v → line ≡ verdict_line v → Takes mid now line → IsAt old now vs (i + 1)
one_more old mid now vs i v line at lt is said took =
    goes_on old mid now (lines_of vs) (verdict_line v) (lines_of (drop (i + 1) vs)) (subst (TakesAllBut old mid (lines_of vs)) (next vs i v lt is) at) (subst (Takes mid now) said took)

pub one_part : (old mid now : Option (List ℕ)) (vs : List Verdict) (i : ℕ) (v : Verdict) (line : List ℕ) → IsAt old mid vs i → i < length vs → v ≡ get_or vs i v → line ≡ verdict_line v → TakesPart mid now line → TakesPart old now (lines_of vs)
one_part old mid now vs i v line at lt is said took =
    breaks_off old mid now (lines_of vs) (verdict_line v) (lines_of (drop (i + 1) vs)) (subst (TakesAllBut old mid (lines_of vs)) (next vs i v lt is) at) (subst (TakesPart mid now) said took)

pub all_written : (old now : Option (List ℕ)) (vs : List Verdict) (i : ℕ) → IsAt old now vs i → length vs ≤ i → Takes old now (lines_of vs)
all_written old now vs i at end = finished old now (lines_of vs) (subst (TakesAllBut old now (lines_of vs)) (at_drop_all lines_of vs i end) at)
