-- What stands behind some revisions, and one more behind them.
use Rattle.std.proofs.Common.{◌≡◌, ℕ, ◌<◌, Bool, List, [], ◌∷◌, ◌++◌, ◌↔◌, IsTrue, IfOk, Result, Ok, Err, length, refl, subst, arith}
use Rattle.ep_cs.specs.Doc.{Doc, text_of}
use Rattle.ep_cs.specs.Change.{stamped}
use Rattle.ep_cs.specs.Edit.{apply}
use Rattle.ep_units.specs.declared.no_memory.NoMemory.{NoMemory}
use Rattle.ep_history.specs.declared.rev.Rev.{Rev}
use Rattle.ep_history.specs.History.{first_rev, made, newline, newline_edit, newline_rev, nobody}
use Rattle.ep_past.specs.Revisions.{IsFirst, IsLater, text_in}
use Rattle.ep_step.specs.Texts.{first_edit}
use Rattle.ep_replay.specs.Standing.{MayStand, time_after}

pub first_stands : (vs : List Rev) (v : Rev) → length vs ≡ 0 → IsFirst v ↔ MayStand vs v
first_stands [] v e = (λ is. is, λ is. is)
first_stands (u ∷ us) v e = absurd (omega arith)

pub later_stands : (vs : List Rev) (v : Rev) → 0 < length vs → IsLater (time_after 0 vs) (made newline vs) v ↔ MayStand vs v
later_stands [] v e = absurd (omega arith)
later_stands (u ∷ us) v e = (λ is. is, λ is. is)

pub stands_answer : (vs : List Rev) (v : Rev) (time : ℕ) (doc : Doc) (result : Result Bool NoMemory) → 0 < length vs → time ≡ time_after 0 vs → doc ≡ made newline vs
    → IfOk result (λ is. IsTrue is ↔ IsLater time doc v) → IfOk result (λ is. IsTrue is ↔ MayStand vs v)
stands_answer vs v time doc (Err why) m t d h = tt
stands_answer vs v time doc (Ok r) m t d h =
    let later = later_stands vs v m in
    let here : IsTrue r ↔ IsLater (time_after 0 vs) (made newline vs) v = subst (λ k. IsTrue r ↔ IsLater k (made newline vs) v) t (subst (λ k. IsTrue r ↔ IsLater time k v) d h) in
    (λ is. later.0 (here.0 is), λ is. here.1 (later.1 is))

pub made_push : (doc : Doc) (vs : List Rev) (v : Rev) → made doc (vs ++ v ∷ []) ≡ apply v.change.edit (made doc vs)
made_push doc [] v = refl
made_push doc (u ∷ us) v = made_push (apply u.change.edit doc) us v

pub time_push : (time : ℕ) (vs : List Rev) (v : Rev) → time_after time (vs ++ v ∷ []) ≡ v.time
time_push time [] v = refl
time_push time (u ∷ us) v = time_push u.time us v

-- a revision is told by its parts
pub first_parts : (v : Rev) → v.author ≡ [] → v.session ≡ nobody → v.change ≡ stamped (first_edit (text_in v)) (text_of newline) → v ≡ first_rev v.time (text_in v)
first_parts v a s c = λ i. record { change = c i; author = a i; session = s i; time = v.time }

pub newline_parts : (v : Rev) (time : ℕ) (doc : Doc) → v.author ≡ [] → v.session ≡ nobody → v.time ≡ time → v.change ≡ stamped (newline_edit (length doc)) (text_of doc) → v ≡ newline_rev time doc
newline_parts v time doc a s t c = λ i. record { change = c i; author = a i; session = s i; time = t i }
