-- The identity, and the edits that count as one.
use Rattle.std.proofs.Common.{◌≡◌, ℕ, zero, suc, Bool, true, false, ◌&&◌, List, [], ◌∷◌, length, refl, ap}
use Rattle.ep_attr.specs.AttrMap.{AttrMap, Pair, none, is_none, same_pairs}
use Rattle.ep_attr.specs.Codes.{same_pairs_map}
use Rattle.ep_cs.specs.Doc.{Cell, Doc, painted}
use Rattle.ep_cs.specs.Edit.{Fate, Place, Edit, apply, identity, is_empty}
use Rattle.ep_cs.specs.Edit.Fate.{Drop, Keep}
use Rattle.ep_cs.specs.Fits.{is_plain, is_plain_rest, is_identity}
use Rattle.ep_cs.proofs.Composed.{cells_act}
use Rattle.ep_cs.proofs.Items.{over-identity}

pub apply-identity : (doc : Doc) → apply (identity (length doc)) doc ≡ doc
apply-identity doc = over-identity painted (λ c. c) cells_act doc

pub is_identity-identity : (n : ℕ) → is_identity (identity n) ≡ true
is_identity-identity zero = refl
is_identity-identity (suc n) = is_identity-identity n

both : (a b : Bool) → (a && b) ≡ true → (a ≡ true) × (b ≡ true)
both true b e = (refl, e)
both false b e = absurd cc

no_cells : (cs : List Cell) → is_empty cs ≡ true → cs ≡ []
no_cells [] e = refl
no_cells (c ∷ cs) e = absurd cc

no_pairs : (m : AttrMap) → is_none m ≡ true → m ≡ none
no_pairs m e = same_pairs_map m none (go m.pairs e)
  where
    go : (ps : List Pair) → same_pairs ps [] ≡ true → ps ≡ []
    go [] e = refl
    go (p ∷ ps) e = absurd cc

plain_fate : (f : Fate) → is_plain f ≡ true → f ≡ Keep none
plain_fate Drop e = absurd cc
plain_fate (Keep m) e = ap Keep (no_pairs m e)

plain_rest : (ps : List Place) (last : List Cell) → is_plain_rest ps last ≡ true → (ps ≡ (identity (length ps)).places) × (last ≡ (identity (length ps)).last)
plain_rest [] last e = (refl, no_cells last e)
plain_rest (p ∷ ps) last e =
    let x = both (is_empty p.before) _ e in
    let y = both (is_plain p.fate) _ x.1 in
    let rest = plain_rest ps last y.1 in
    let before = no_cells p.before x.0 in
    let fate = plain_fate p.fate y.0 in
    (λ i. record { before = before i; fate = fate i } ∷ rest.0 i, rest.1)

pub only_identity : (e : Edit) → is_identity e ≡ true → e ≡ identity (length e.places)
only_identity e h =
    let parts = plain_rest e.places e.last h in
    λ i. record { places = parts.0 i; last = parts.1 i }
