-- A name has one cell for good.
use Rattle.std.proofs.Common.{◌≡◌, ℕ, ⊎_elim, Bool, true, false, List, [], ◌∷◌, ◌++◌, refl, sym, ap, ◌∙◌, subst, Option, Some, None, Result, Ok, Err}
use Rattle.std.specs.Prelude.{bytes_eq, if◌then◌else◌}
use Rattle.std.proofs.lemmas.List.{map-append}
use Rattle.std.proofs.lemmas.Slice.Eq.{bytes_eq-Decides}
use Rattle.atomic_table.specs.Seated.{TableId}
use Rattle.ep_outside.specs.Disk.{Contents}
use Rattle.ep_pad.specs.declared.wanted.Wanted.{Wanted}
use Rattle.ep_pad.specs.declared.pass_bad.PassBad.{PassBad}
use Rattle.ep_pad.specs.declared.pass_bad.PassBad.TheVariants as bad
use Rattle.ep_house.specs.Register.{Register, Step, IsOpen, Opens, Runs, Stands, IsLegalFrom, found_in, all_told}
use Rattle.ep_pad.specs.Halls.{Answer, cell_in, or_cell, told_of}

abbrev or_else : Option TableId → Option TableId → Option TableId
or_else None y = y
or_else (Some x) y = Some x

or_none : (x : Option TableId) → or_else x None ≡ x
or_none None = refl
or_none (Some x) = refl

or_assoc : (x y z : Option TableId) → or_else (or_else x y) z ≡ or_else x (or_else y z)
or_assoc None y z = refl
or_assoc (Some x) y z = refl

same_name : (name : List ℕ) → bytes_eq name name ≡ true
same_name name = (bytes_eq-Decides name name).1 refl

cell_added : (cs : List (List ℕ × TableId)) (m name : List ℕ) (id : TableId) → found_in (cs ++ (m, id) ∷ []) name ≡ or_else (found_in cs name) (if bytes_eq name m then Some id else None)
cell_added [] m name id = refl
cell_added (c ∷ cs) m name id = elim (bytes_eq name c.0) as (λ b. (if b then Some c.1 else found_in (cs ++ (m, id) ∷ []) name) ≡ or_else (if b then Some c.1 else found_in cs name) (if bytes_eq name m then Some id else None)) [
  | true ↦ refl
  | false ↦ cell_added cs m name id
]

-- what a call's answer gives a name
abbrev given : List ℕ → Answer → List ℕ → Option TableId
given m r name = if bytes_eq name m then or_cell r None else None

cell_on : (xs ys : List (Wanted × Answer)) (name : List ℕ) → cell_in (xs ++ ys) name ≡ or_else (cell_in xs name) (cell_in ys name)
cell_on [] ys name = refl
cell_on (c ∷ cs) ys name = elim (bytes_eq name c.0.name) as (λ b. (if b then or_cell c.1 (cell_in (cs ++ ys) name) else cell_in (cs ++ ys) name) ≡ or_else (if b then or_cell c.1 (cell_in cs name) else cell_in cs name) (cell_in ys name)) [
  | true ↦ elim c.1 as (λ r. or_cell r (cell_in (cs ++ ys) name) ≡ or_else (or_cell r (cell_in cs name)) (cell_in ys name)) [
    | Ok id ↦ refl
    | Err e ↦ cell_on cs ys name
  ]
  | false ↦ cell_on cs ys name
]

-- a cell that was found stays
pub cell_stays : (xs ys : List (Wanted × Answer)) (name : List ℕ) (id : TableId) → cell_in xs name ≡ Some id → cell_in (xs ++ ys) name ≡ Some id
cell_stays xs ys name id e = cell_on xs ys name ∙ ap (λ x. or_else x (cell_in ys name)) e

given_or : (m : Wanted) (name : List ℕ) (r : Answer) (rest : List (Wanted × Answer)) → or_else (given m.name r name) (cell_in rest name) ≡ cell_in ((m, r) ∷ rest) name
given_or m name (Ok id) rest = elim (bytes_eq name m.name) as (λ b. or_else (if b then Some id else None) (cell_in rest name) ≡ (if b then Some id else cell_in rest name)) [ true ↦ refl | false ↦ refl ]
given_or m name (Err e) rest = elim (bytes_eq name m.name) as (λ b. or_else (if b then None else None) (cell_in rest name) ≡ (if b then cell_in rest name else cell_in rest name)) [ true ↦ refl | false ↦ refl ]

module _ {H D : Type 0} (failed : H → ℕ) (names : H → Option (List (List ℕ))) (told : H → List ℕ → Option Contents) (disk_failed : D → ℕ) (disk_told : D → Option Contents) where
  abbrev Steps : Register H D → Wanted → Answer → Register H D → Type 0
  Steps = Step failed names told disk_failed disk_told

  abbrev Goes : Register H D → List (Wanted × Answer) → Register H D → Type 0
  Goes = Runs failed names told disk_failed disk_told

  pub runs_on : (first mid last : Register H D) (h g : List (Wanted × Answer)) → Goes first h mid → Goes mid g last → Goes first (h ++ g) last
  runs_on first mid last [] g r q = subst (λ (n : Register H D). Goes n g last) (sym r) q
  runs_on first mid last (c ∷ cs) g r q = (r.0, r.1, runs_on r.0 mid last cs g r.2 q)

  -- after a call, each name has the cell that it had, or the one that the call gave it
  step_gives : (s t : Register H D) (m : Wanted) (name : List ℕ) (r : Answer) → Steps s m r t → found_in t.cells name ≡ or_else (found_in s.cells name) (given m.name r name)
  step_gives s t m name (Ok id) p = ⊎_elim
      (λ (old : IsOpen failed names told disk_failed disk_told s m.name id t). ap (λ (d : Register H D). found_in d.cells name) old.1 ∙ kept old.0 (bytes_eq name m.name) refl)
      (λ (new : Opens failed names told disk_failed disk_told s m id t). ap (λ l. found_in l name) new.cells ∙ cell_added s.cells m.name name id)
      p
    where
      kept : found_in s.cells m.name ≡ Some id → (b : Bool) → bytes_eq name m.name ≡ b → found_in s.cells name ≡ or_else (found_in s.cells name) (if b then Some id else None)
      kept found true e =
          let same : name ≡ m.name = (bytes_eq-Decides name m.name).0 e in
          let here : found_in s.cells name ≡ Some id = ap (found_in s.cells) same ∙ found in
          here ∙ sym (ap (λ x. or_else x (Some id)) here)
      kept found false e = sym (or_none (found_in s.cells name))
  step_gives s t m name (Err e) p = ap (λ l. found_in l name) (shut e p) ∙ (sym (or_none (found_in s.cells name)) ∙ ap (or_else (found_in s.cells name)) (sym (nothing (bytes_eq name m.name)))) where
    shut : (e : PassBad) → Steps s m (Err e) t → t.cells ≡ s.cells
    shut (bad.Pads n) p = ap (λ (d : Register H D). d.cells) p.0
    shut (bad.Shelf n) p = p.cells
    shut bad.Absent p = p.cells
    shut bad.NoMemory p = p.cells

    nothing : (b : Bool) → ◌≡◌ {A = Option TableId} (if b then None else None) None
    nothing true = refl
    nothing false = refl

  runs_give : (s t : Register H D) (h : List (Wanted × Answer)) (name : List ℕ) → Goes s h t → found_in t.cells name ≡ or_else (found_in s.cells name) (cell_in h name)
  runs_give s t [] name r = ap (λ (d : Register H D). found_in d.cells name) (sym r) ∙ sym (or_none (found_in s.cells name))
  runs_give s t (c ∷ cs) name r =
      runs_give r.0 t cs name r.2 ∙ (ap (λ x. or_else x (cell_in cs name)) (step_gives s r.0 c.0 name c.1 r.1)
      ∙ (or_assoc (found_in s.cells name) (given c.0.name c.1 name) (cell_in cs name) ∙ ap (or_else (found_in s.cells name)) (given_or c.0 name c.1 cs)))

  step_opens : (s t : Register H D) (m : Wanted) (id : TableId) → Steps s m (Ok id) t → found_in t.cells m.name ≡ Some id
  step_opens s t m id p = ⊎_elim
      (λ (old : IsOpen failed names told disk_failed disk_told s m.name id t). ap (λ (d : Register H D). found_in d.cells m.name) old.1 ∙ old.0)
      (λ (new : Opens failed names told disk_failed disk_told s m id t). ap (λ l. found_in l m.name) new.cells ∙ (cell_added s.cells m.name m.name id
      ∙ (ap (λ x. or_else x (if bytes_eq m.name m.name then Some id else None)) new.may.shut ∙ ap (λ b. if b then Some id else None) (same_name m.name))))
      p

  last_opens : (s t : Register H D) (h : List (Wanted × Answer)) (m : Wanted) (id : TableId) → Goes s (h ++ (m, Ok id) ∷ []) t → found_in t.cells m.name ≡ Some id
  last_opens s t [] m id r = ap (λ (d : Register H D). found_in d.cells m.name) (sym r.2) ∙ step_opens s r.0 m id r.1
  last_opens s t (c ∷ cs) m id r = last_opens r.0 t cs m id r.2

  -- a name that was answered a cell was answered that one at first
  pub one_cell : (first : Register H D) (h : List (Wanted × Answer)) (m : Wanted) (id : TableId) → IsLegalFrom failed names told disk_failed disk_told first (h ++ (m, Ok id) ∷ []) → cell_in (h ++ (m, Ok id) ∷ []) m.name ≡ Some id
  one_cell first h m id l =
      sym (runs_give first l.0 (h ++ (m, Ok id) ∷ []) m.name l.1.1 ∙ ap (λ cs. or_else (found_in cs m.name) (cell_in (h ++ (m, Ok id) ∷ []) m.name)) l.1.0.cells) ∙ last_opens first l.0 h m id l.1.1

  last_absent : (s t : Register H D) (h : List (Wanted × Answer)) (m : Wanted) → Goes s (h ++ (m, Err bad.Absent) ∷ []) t → found_in t.cells m.name ≡ None
  last_absent s t [] m r = ap (λ (d : Register H D). found_in d.cells m.name) (sym r.2) ∙ (ap (λ l. found_in l m.name) r.1.cells ∙ r.1.may.shut)
  last_absent s t (c ∷ cs) m r = last_absent r.0 t cs m r.2

  -- a name that was told to be absent was answered no cell before
  pub none_yet : (first : Register H D) (h : List (Wanted × Answer)) (m : Wanted) → IsLegalFrom failed names told disk_failed disk_told first (h ++ (m, Err bad.Absent) ∷ []) → cell_in (h ++ (m, Err bad.Absent) ∷ []) m.name ≡ None
  none_yet first h m l =
      sym (runs_give first l.0 (h ++ (m, Err bad.Absent) ∷ []) m.name l.1.1 ∙ ap (λ cs. or_else (found_in cs m.name) (cell_in (h ++ (m, Err bad.Absent) ∷ []) m.name)) l.1.0.cells) ∙ last_absent first l.0 h m l.1.1

  pub stands_on : {C : Type 0} (id : C → TableId) (first last now : Register H D) (wanted : Wanted) (r : Result C PassBad) → Steps last wanted (told_of id r) now
      → (h : List (Wanted × Result C PassBad)) → Stands failed names told disk_failed disk_told first last (all_told id h) → Stands failed names told disk_failed disk_told first now (all_told id (h ++ (wanted, r) ∷ []))
  stands_on id first last now wanted r p h s = (
    s.0,
    subst (λ l. Goes first l now) (sym (map-append (λ c. (c.0, told_of id c.1)) h ((wanted, r) ∷ [])))
        (runs_on first last now (all_told id h) ((wanted, told_of id r) ∷ []) s.1 (now, p, refl)),
  )
