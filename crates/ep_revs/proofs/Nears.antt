-- What is kept near the head when one revision more comes.
use Rattle.std.proofs.Common.{◌≡◌, ◌∙◌, List, [], ◌∷◌, ◌++◌, Option, Some, sym, subst, arith, length-append}
use Rattle.std.specs.List.{All}
use Rattle.std.proofs.lemmas.List.Elements.{All-same, All-weaker}
use Rattle.ep_cs.specs.Doc.{Doc}
use Rattle.ep_history.specs.declared.rev.Rev.{Rev}
use Rattle.ep_revs.specs.Near.{IsNear}
use Rattle.ep_revs.specs.Revisions.{last_doc}
use Rattle.ep_revs.specs.declared.revs.Near.{Near}
use Rattle.ep_revs.proofs.Docs.{doc-stays}

-- the document of a revision near the head stays that
near_more : (vs : List Rev) (v : Rev) (n : Near) → IsNear vs n → IsNear (vs ++ v ∷ []) n
near_more vs v n h = (omega (arith, h.0, length-append vs (v ∷ [])), h.1 ∙ sym (doc-stays vs v n.rev h.0))

all_more : (vs new : List Rev) (v : Rev) (ns : List Near) → new ≡ vs ++ v ∷ [] → All (IsNear vs) ns → All (IsNear new) ns
all_more vs new v ns e h = All-weaker (IsNear vs) (IsNear new) (λ n k. subst (λ (us : List Rev). IsNear us n) (sym e) (near_more vs v n k)) ns h

-- what is near once one is pushed: what was near, and perhaps the document that was the last
pub near_pushed : (vs new : List Rev) (v : Rev) (before last : Option Doc) (old mid near : List Near)
    → ((d : Doc) → before ≡ Some d → d ≡ last_doc vs) → last ≡ before → All (IsNear vs) old → mid ≡ old
    → (((d : Doc) → last ≡ Some d → d ≡ last_doc vs) → All (IsNear vs) mid → All (IsNear vs) near)
    → new ≡ vs ++ v ∷ [] → All (IsNear new) near
near_pushed vs new v before last old mid near h e k f keep g =
    all_more vs new v near g (keep (λ d x. h d (sym e ∙ x)) (All-same (IsNear vs) mid old f k))
