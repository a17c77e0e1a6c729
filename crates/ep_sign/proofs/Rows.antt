-- Worked rows, computed from the definitions: what an edit inserts under another's name, and what signs it.
use Rattle.std.proofs.Common.{◌≡◌, ℕ, true, false, List, [], ◌∷◌, refl, codes}
use Rattle.ep_units.specs.Text.{Text}
use Rattle.ep_attr.specs.AttrMap.{AttrMap, none, insert}
use Rattle.ep_cs.specs.Doc.{Cell, Doc}
use Rattle.ep_cs.specs.Edit.{Edit, Place, apply}
use Rattle.ep_cs.specs.Edit.Fate.{Drop, Keep}
use Rattle.ep_sign.specs.Signing.{inserts_another, naming, signing, signed}

abbrev ann : Text
ann = codes "a.1"

abbrev bob : Text
bob = codes "a.2"

abbrev unit : ℕ → AttrMap → Cell
unit u m = record { unit = u; attrs = m }

-- of two units the first goes, and before the second, which is given to Bob, a text of Ann's, Bob's and nobody's comes
abbrev edit : Edit
edit = record {
  places =
      record { before = []; fate = Drop }
      ∷ record { before = unit 120 (insert (naming ann) (codes "bold") (codes "true")) ∷ unit 121 (naming bob) ∷ unit 122 none ∷ []; fate = Keep (naming bob) }
      ∷ [];
  last = unit 10 (naming []) ∷ [];
}

abbrev before : Doc
before = unit 65 (naming bob) ∷ unit 66 none ∷ []

-- what is done to each unit of its result
abbrev kept_each : List AttrMap → List Place
kept_each [] = []
kept_each (m ∷ ms) = record { before = []; fate = Keep m } ∷ kept_each ms

-- Ann signs what is Bob's, and leaves the unit that the edit keeps
ann_signs : signing ann edit ≡ record { places = kept_each (none ∷ naming ann ∷ none ∷ none ∷ none ∷ []); last = [] }
ann_signs = refl

-- Bob signs what is Ann's
bob_signs : signing bob edit ≡ record { places = kept_each (naming bob ∷ none ∷ none ∷ none ∷ none ∷ []); last = [] }
bob_signs = refl

anothers_found : inserts_another ann edit ≡ true
anothers_found = refl

-- what nobody's name is on, and one's own, is no other's
nothing_found : inserts_another bob (record { places = record { before = unit 121 (naming bob) ∷ []; fate = Keep (naming ann) } ∷ []; last = unit 122 none ∷ unit 10 (naming []) ∷ [] }) ≡ false
nothing_found = refl

-- the document after the edit, and after Bob signed it: the text's other attributes stay
bob_signed : apply (signing bob edit) (apply edit before)
    ≡ unit 120 (insert (naming bob) (codes "bold") (codes "true")) ∷ unit 121 (naming bob) ∷ unit 122 none ∷ unit 66 (naming bob) ∷ unit 10 (naming []) ∷ []
bob_signed = refl

-- one without a name takes the other's off
nobody_signed : signed [] (unit 120 (naming ann)) ≡ unit 120 none
nobody_signed = refl
