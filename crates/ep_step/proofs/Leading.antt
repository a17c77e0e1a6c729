-- The revisions behind a revision lead to the head.
use Rattle.std.proofs.Common.{◌≡◌, ℕ, zero, suc, List, [], ◌∷◌, length, take, drop, refl, sym, ap, ◌∙◌, arith}
use Rattle.std.proofs.lemmas.List.{take_all}
use Rattle.ep_cs.specs.Doc.{Doc}
use Rattle.ep_cs.specs.Edit.{apply}
use Rattle.ep_history.specs.declared.rev.Rev.{Rev}
use Rattle.ep_history.specs.History.{Birth, doc_at, first_doc, head_doc, made}

in_two : (doc : Doc) (r : ℕ) (vs : List Rev) → made (made doc (take r vs)) (drop r vs) ≡ made doc vs
in_two doc zero vs = refl
in_two doc (suc r) [] = refl
in_two doc (suc r) (v ∷ vs) = in_two (apply v.change.edit doc) r vs

pub leads : (b : Birth) (r : ℕ) → made (doc_at b r) (drop r b.later) ≡ head_doc b
leads b r = in_two (first_doc b) r b.later ∙ ap (made (first_doc b)) (sym (take_all (length b.later) b.later (omega arith)))
