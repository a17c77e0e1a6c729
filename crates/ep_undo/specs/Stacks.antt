-- Working words of private contracts: stacks in code, whose edits were made before what waits at them was heard.
use Rattle.std.specs.Prelude.{◌≡◌, ◌⊎◌, ℕ, Bool, true, false, ◌+◌, ◌≤◌, List, [], ◌∷◌, ◌++◌, map, length, vec_len, vec_capacity, Option, Some, None}
use Rattle.ep_cs.specs.Change.{Change}
use Rattle.ep_cs.specs.Doc.{Doc}
use Rattle.ep_cs.specs.Edit.{Edit, apply}
use Rattle.ep_cs.specs.Fits.{Fits}
use Rattle.ep_history.specs.Kept.{KeptClient, kept_edited}
use Rattle.ep_client.specs.declared.heard.Told.{Told}
use Rattle.ep_client.specs.declared.heard.Told.TheVariants as told
use Rattle.ep_invert.specs.Inverse.{inverse}
use Rattle.ep_undo.specs.Undo.{down}
use Rattle.ep_undo.specs.declared.stack.Record.{Record}

abbrev pub edits_of : List Change → List Edit
edits_of cs = map (λ c. c.edit) cs

-- all of these go down a stack, the first one first
abbrev pub all_down : List Edit → List Edit → List Edit
all_down [] us = us
all_down (d ∷ ds) us = all_down ds (down d us)

-- the edits of records, the last of which is the top, above others
abbrev pub stood : List Record → List Edit → List Edit
stood [] us = us
stood (r ∷ rs) us = stood rs (all_down (edits_of r.heard.items) (r.change.edit ∷ us))

-- what a record is, whatever room it has
abbrev pub essence : Record → Change × List Change
essence r = (r.change, r.heard.items)

-- whether there are any
abbrev pub has_records : List Record → Bool
has_records [] = false
has_records (r ∷ rs) = true

-- these changes lead from one document to another
abbrev pub IsWay : List Change → Doc → Doc → Type 0
IsWay [] a b = a ≡ b
IsWay (d ∷ ds) a b = Fits d a × IsWay ds (apply d.edit a) b

-- a record over what is below it: its change is one of some document, and makes that which is below it; what it heard leads from that document to the next
pub record IsOver (doc : Doc) (r : Record) (next : Doc) : Type 0 where
  pub base : Doc
  pub fits : Fits r.change base
  pub makes : apply r.change.edit base ≡ doc
  pub way : IsWay r.heard.items base next

-- records, the lowest of which makes the one document, and the top of which is a record of the other
abbrev pub IsChain : Doc → List Record → Doc → Type 0
IsChain doc [] view = doc ≡ view
IsChain doc (r ∷ rs) view = (next : Doc) × IsOver doc r next × IsChain next rs view

-- some document is below them
abbrev pub IsStackOf : List Record → Doc → Type 0
IsStackOf rs view = (doc : Doc) × IsChain doc rs view

-- so many more can be heard without memory
abbrev pub HasRoom : ℕ → List Record → Type 0
HasRoom n [] = Unit {0}
HasRoom n (r ∷ []) = vec_len r.heard + n ≤ vec_capacity r.heard
HasRoom n (r ∷ (s ∷ rs)) = HasRoom n (s ∷ rs)

-- records stand for the same edits, of the same views
pub record AreAlike (old new : List Record) : Type 0 where
  pub edits : stood new [] ≡ stood old []
  pub chain : (view : Doc) → IsStackOf old view → IsStackOf new view
  pub count : length new ≡ length old

-- these are heard now
pub record AreHeard (old : List Record) (heard : List Change) (new : List Record) : Type 0 where
  pub edits : stood new [] ≡ all_down (edits_of heard) (stood old [])
  pub chain : (mid view : Doc) → IsStackOf old mid → IsWay heard mid view → IsStackOf new view
  pub count : length new ≡ length old

-- a record as it is behind what it heard: its change, and what that is behind it
pub record IsSettled (r : Record) (change : Change) (heard : List Change) : Type 0 where
  pub fits : (base view : Doc) → Fits r.change base → IsWay r.heard.items base view → Fits change view × IsWay heard (apply r.change.edit base) (apply change.edit view)
  pub down : (us : List Edit) → all_down (edits_of r.heard.items) (r.change.edit ∷ us) ≡ change.edit ∷ all_down (edits_of heard) us

-- so far
pub record IsSettling (r : Record) (before left : List Change) (change : Change) (heard : List Change) : Type 0 where
  pub fits : (base view : Doc) → Fits r.change base → IsWay r.heard.items base view
      → (mid : Doc) × Fits change mid × IsWay left mid view × IsWay heard (apply r.change.edit base) (apply change.edit mid)
  pub down : (us : List Edit) → all_down (edits_of before) (r.change.edit ∷ us) ≡ change.edit ∷ all_down (edits_of heard) us

-- the top of a stack was made, where there is one, and what takes that back is on top of another
abbrev pub Makes : KeptClient → List Edit → List Edit → Option Change → KeptClient → List Edit → List Edit → Type 0
Makes k us rs None k' us' rs' = (us ≡ []) × (k' ≡ k) × (us' ≡ us) × (rs' ≡ rs)
Makes k us rs (Some c) k' us' rs' = (us ≡ c.edit ∷ us') × Fits c k.view × (k' ≡ kept_edited c.edit k) × (rs' ≡ inverse c.edit k.view ∷ rs)

-- another's change waits behind others, or none do where there is nothing for which they would wait; the client's own doesn't
abbrev pub Waits : Told → List Record → List Record → List Change → Change → List Change → Type 0
Waits told.Commit us rs cs c cs' = cs' ≡ cs
Waits told.News us rs cs c cs' = ((us ≡ []) × (rs ≡ []) × (cs' ≡ [])) ⊎ (cs' ≡ cs ++ c ∷ [])

-- the changes, or none where there is nothing that would hear them
abbrev pub IsToHear : List Record → List Change → List Change → Type 0
IsToHear rs cs cs' = (cs' ≡ cs) ⊎ ((rs ≡ []) × (cs' ≡ []))
