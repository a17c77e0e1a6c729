-- Revisions that each may stand behind those before them are a birth's, where the last leaves a final newline.
use Rattle.std.proofs.Common.{◌≡◌, false, List, [], ◌∷◌, ◌++◌, sym, ap, ◌∙◌, subst, append_assoc, append-nil}
use Rattle.ep_history.specs.declared.rev.Rev.{Rev}
use Rattle.ep_history.specs.History.{lacks_newline, made, newline}
use Rattle.ep_past.specs.Revisions.{AreLater, AreRevisions}
use Rattle.ep_replay.specs.Standing.{AllStand, time_after}
use Rattle.ep_replay.proofs.Standing.{made_push, time_push}

later_of : (u : Rev) (us vs : List Rev) → AllStand (u ∷ us) vs → lacks_newline (made newline (u ∷ (us ++ vs))) ≡ false → AreLater (time_after 0 (u ∷ us)) (made newline (u ∷ us)) vs
later_of u us [] are ends = ap (λ ws. lacks_newline (made newline (u ∷ ws))) (sym (append-nil us)) ∙ ends
later_of u us (v ∷ vs) are ends =
    let rest = later_of u (us ++ v ∷ []) vs are.1 (ap (λ ws. lacks_newline (made newline (u ∷ ws))) (append_assoc us (v ∷ []) vs) ∙ ends) in
    let timed = subst (λ t. AreLater t (made newline (u ∷ (us ++ v ∷ []))) vs) (time_push 0 (u ∷ us) v) rest in
    (are.0, subst (λ doc. AreLater v.time doc vs) (made_push newline (u ∷ us) v) timed)

pub births_of : (v : Rev) (vs : List Rev) → AllStand [] (v ∷ vs) → lacks_newline (made newline (v ∷ vs)) ≡ false → AreRevisions (v ∷ vs)
births_of v vs are ends = (are.0, later_of v [] vs are.1 ends)
