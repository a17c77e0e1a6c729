-- A birth's revisions stand, one behind another.
use Rattle.std.proofs.Common.{◌≡◌, false, List, [], ◌∷◌, ◌++◌, sym, ap, subst, ◌∙◌, append_assoc, append-nil}
use Rattle.ep_cs.specs.Edit.{apply}
use Rattle.ep_history.specs.declared.rev.Rev.{Rev}
use Rattle.ep_history.specs.History.{lacks_newline, made, newline}
use Rattle.ep_past.specs.Revisions.{AreLater, AreRevisions}
use Rattle.ep_replay.specs.Standing.{AllStand, time_after}
use Rattle.ep_replay.proofs.Standing.{made_push, time_push}

-- each may stand where it stands, and the last document ends in a newline
pub record Stand (us vs : List Rev) : Type 0 where
  pub all : AllStand us vs
  pub ends : lacks_newline (made newline (us ++ vs)) ≡ false

later_stand : (u : Rev) (us vs : List Rev) → AreLater (time_after 0 (u ∷ us)) (made newline (u ∷ us)) vs → Stand (u ∷ us) vs
later_stand u us [] are = record { all = tt; ends = ap (λ ws. lacks_newline (made newline (u ∷ ws))) (append-nil us) ∙ are }
later_stand u us (v ∷ vs) are =
    let timed : AreLater (time_after 0 (u ∷ (us ++ v ∷ []))) (apply v.change.edit (made newline (u ∷ us))) vs =
    subst (λ t. AreLater t (apply v.change.edit (made newline (u ∷ us))) vs) (sym (time_push 0 (u ∷ us) v)) are.1 in
    let next : AreLater (time_after 0 (u ∷ (us ++ v ∷ []))) (made newline (u ∷ (us ++ v ∷ []))) vs =
    subst (λ doc. AreLater (time_after 0 (u ∷ (us ++ v ∷ []))) doc vs) (sym (made_push newline (u ∷ us) v)) timed in
    let rest = later_stand u (us ++ v ∷ []) vs next in
    record { all = (are.0, rest.all); ends = ap (λ ws. lacks_newline (made newline (u ∷ ws))) (sym (append_assoc us (v ∷ []) vs)) ∙ rest.ends }

pub births_stand : (v : Rev) (vs : List Rev) → AreRevisions (v ∷ vs) → Stand [] (v ∷ vs)
births_stand v vs are = let later = later_stand v [] vs are.1 in record { all = (are.0, later.all); ends = later.ends }
