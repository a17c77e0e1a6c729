-- The last revisions of a birth, and the documents that are kept before some of them.
use Rattle.std.specs.Prelude.{◌≡◌, ℕ, suc, ◌+◌, ◌<◌, List, [], ◌∷◌, length, take, slice_get, Option, Some, IfSome, unwrap_or}
use Rattle.ep_cs.specs.Doc.{Doc}
use Rattle.ep_cs.specs.Edit.{apply}
use Rattle.ep_cs.specs.Fits.{Fits}
use Rattle.ep_history.specs.Lists.{at}
use Rattle.ep_history.specs.History.{newline, made}
use Rattle.ep_history.specs.declared.rev.Rev.{Rev}

-- the number of the first of them; each with the document before it, where that is kept; the document of the last one; and
-- for how many more there is room
pub record LastRevs : Type 0 where
  pub first : ℕ
  pub kept : List (Rev × Option Doc)
  pub head : Option Doc
  pub room : ℕ

-- how many revisions there were
abbrev pub count_of : LastRevs → ℕ
count_of k = k.first + length k.kept

-- the document of the last one, and one newline where there is none
abbrev pub head_of : LastRevs → Doc
head_of k = unwrap_or k.head newline

-- the document before revision n
abbrev pub doc_before : List Rev → ℕ → Doc
doc_before vs n = made newline (take n vs)

-- they are the revisions from this number on, and the documents that are kept are those before them
abbrev pub AreFrom : List Rev → ℕ → List (Rev × Option Doc) → Type 0
AreFrom vs n [] = n ≡ length vs
AreFrom vs n (e ∷ es) = (at vs n ≡ Some e.0) × IfSome e.1 (λ d. d ≡ doc_before vs n) × AreFrom vs (suc n) es

-- they are the last ones of these revisions
pub record AreLastOf (k : LastRevs) (vs : List Rev) : Type 0 where
  pub kept : AreFrom vs k.first k.kept
  pub head : head_of k ≡ made newline vs

-- from this document on each fits the one before it, up to the last one's, and each document that is kept is that one
abbrev pub Leads : Doc → List (Rev × Option Doc) → Option Doc → Type 0
Leads d [] head = head ≡ Some d
Leads d (e ∷ es) head = IfSome e.1 (λ b. b ≡ d) × Fits e.0.change d × Leads (apply e.0.change.edit d) es head

-- this revision is kept at a place
abbrev pub IsRevAt : List (Rev × Option Doc) → ℕ → Rev → Type 0
IsRevAt kept i v = (before : Option Doc) × (slice_get kept i ≡ Some (v, before))

-- this document is kept before the revision at a place
abbrev pub IsKeptAt : List (Rev × Option Doc) → ℕ → Doc → Type 0
IsKeptAt kept i d = (v : Rev) × (slice_get kept i ≡ Some (v, Some d))

-- none is kept before any of the first n
abbrev pub HasNone : List (Rev × Option Doc) → ℕ → Type 0
HasNone kept n = (i : ℕ) (d : Doc) → i < n → IsKeptAt kept i d → ⊥
