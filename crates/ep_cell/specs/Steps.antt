-- Working words of private contracts: what each kind of step of a cell tells its seat: of the word that was found, and of the seat before and after.
use Rattle.std.specs.Prelude.{ℕ, ◌≡◌, ◌≢◌, ◌≤◌, true, false, List, [], ◌∷◌, ◌++◌, length, Option, Some, None}
use Rattle.std.specs.Option.{ForSome}
use Rattle.atomic_table.specs.Table.{Me, Step}
use Rattle.ep_cell.specs.declared.view.Call.{Call}
use Rattle.ep_cell.specs.declared.view.View.{View}
use Rattle.ep_cell.specs.declared.view.Last.{Last}
use Rattle.ep_cell.specs.declared.view.Held.{Held}
use Rattle.ep_cell.specs.History.{StartsWith, call, calls_by, pairs}

module _ {M E R : Type 0} (stands : M → M → List (E × R) → Type 0) (legal : M → List (E × R) → Type 0) where
  -- a new seat has seen the history so far
  abbrev pub Enters : Step (Held M E R) → Me (Held M E R) (View M E R) → ℕ → Me (Held M E R) (View M E R) → Type 0
  Enters s v found w = (w.0.number ≡ 0) × (w.0.has_machine ≡ false) × (w.0.floor ≡ found) × (length w.0.seen ≡ found) × (w.0.begun ≡ v.0.begun) × ForSome v.0.begun (λ first. legal first (pairs w.0.seen))

  -- the slot has a machine, which stands for the history, where it is known with which one that began
  abbrev pub IsHeld : Option M → Held M E R → List (Call E R) → Type 0
  IsHeld begun h log = (machine : M) × (h.machine ≡ Some machine) × ForSome begun (λ first. stands first machine (pairs log))

  -- the machine was taken with all of its history, or it wasn't at home
  abbrev pub Takes : Step (Held M E R) → Me (Held M E R) (View M E R) → ℕ → Me (Held M E R) (View M E R) → Type 0
  Takes s v found w =
      (found ≡ 0 → (h : Held M E R) × (w.1 ≡ (0, h) ∷ v.1) × IsHeld v.0.begun h w.0.seen × (w.0.has_machine ≡ true) × (w.0.number ≡ v.0.number)
      × StartsWith w.0.seen v.0.seen × (v.0.number ≢ 0 → calls_by v.0.number w.0.seen ≡ calls_by v.0.number v.0.seen)
      × (v.0.floor ≤ length w.0.seen) × (w.0.floor ≡ v.0.floor) × (w.0.begun ≡ v.0.begun))
      × (found ≢ 0 → w ≡ v)

  -- the machine in the slot has made this call behind the history
  pub record HasMade (begun : Option M) (h : Held M E R) (log : List (Call E R)) (e : E) (r : R) : Type 0 where
    pub machine : M
    pub is : h.machine ≡ Some machine
    pub stood : ForSome begun (λ first. stands first machine (pairs log ++ (e, r) ∷ []))
    pub told : ForSome begun (λ first. legal first (pairs log ++ (e, r) ∷ []))
    pub entry : Last E R
    pub last : h.last ≡ Some entry
    pub entry_is : entry.entry.value ≡ e
    pub reply_is : entry.reply.value ≡ r

-- the call that a machine in the slot has made last
abbrev pub call_of : {E R : Type 0} → ℕ → Option (Last E R) → List (Call E R)
call_of q None = []
call_of q (Some last) = call q last.entry.value last.reply.value ∷ []

module _ {M E R : Type 0} where
  -- a seat has got its number, or stays as it was
  abbrev pub Numbers : Step (Held M E R) → Me (Held M E R) (View M E R) → ℕ → Me (Held M E R) (View M E R) → Type 0
  Numbers s v found w = (w.1 ≡ v.1) × (w.0.seen ≡ v.0.seen) × (w.0.floor ≡ v.0.floor) × (w.0.has_machine ≡ v.0.has_machine) × (w.0.begun ≡ v.0.begun)
      × (found ≡ s.first → (w.0.number ≡ found) × (found ≢ 0) × (calls_by found w.0.seen ≡ []))
      × (found ≢ s.first → w.0.number ≡ v.0.number)

  -- The history has this length now. Both old histories are beginnings of what was seen, in which the pass has the calls of the first alone; and both began with one machine
  abbrev pub Learns : Step (Held M E R) → Me (Held M E R) (View M E R) → ℕ → Me (Held M E R) (View M E R) → Type 0
  Learns s v found w = (w.1 ≡ v.1) × (w.0 ≡ record v.0 { floor = found }) × (length v.0.seen ≤ found) × (v.0.floor ≤ found)
      × StartsWith v.0.seen v.0.one × StartsWith v.0.seen v.0.two × (v.0.number ≢ 0 → calls_by v.0.number v.0.seen ≡ calls_by v.0.number v.0.one)
      × ForSome v.0.begun (λ first. ForSome v.0.theirs (λ other. first ≡ other))

  -- the seat that has the machine finds the length of its history
  abbrev pub Counts : Step (Held M E R) → Me (Held M E R) (View M E R) → ℕ → Me (Held M E R) (View M E R) → Type 0
  Counts s v found w = (w ≡ v) × (v.0.has_machine ≡ true → found ≡ length v.0.seen)

  abbrev pub call_in : ℕ → List (ℕ × Held M E R) → List (Call E R)
  call_in q [] = []
  call_in q (x ∷ xs) = call_of q x.1.last

  -- the call that the machine made last is in the history
  abbrev pub Appends : Step (Held M E R) → Me (Held M E R) (View M E R) → ℕ → Me (Held M E R) (View M E R) → Type 0
  Appends s v found w = (found ≡ s.first) × (w.1 ≡ v.1) × (w.0.number ≡ v.0.number) × (w.0.has_machine ≡ true) × (w.0.seen ≡ v.0.seen ++ call_in v.0.number v.1) × (w.0.floor ≡ v.0.floor) × (w.0.begun ≡ v.0.begun)

  -- the machine is at home again
  abbrev pub Puts : Step (Held M E R) → Me (Held M E R) (View M E R) → ℕ → Me (Held M E R) (View M E R) → Type 0
  Puts s v found w = (w.1 ≡ []) × (w.0 ≡ record v.0 { has_machine = false })
