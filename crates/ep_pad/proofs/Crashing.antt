-- What a crash leaves on the way of a machine from one state to another.
use Rattle.std.proofs.Common.{◌≡◌, ◌⊎◌, inl, inr, ⊎_elim, ℕ, Bool, true, false, List, [], ◌∷◌, ◌++◌, Option, append_assoc, append-nil, refl, sym, ap, ◌∙◌, subst}
use Rattle.ep_outside.specs.Disk.{Contents, IsImage, KeepsMarks}
use Rattle.ep_outside.specs.Moments.{LeavesOnly}
use Rattle.ep_outside.proofs.Moments.{joined, started, weaker}
use Rattle.ep_history.specs.Entries.{Entry, Reply}
use Rattle.ep_history.specs.Pad.{PadState}
use Rattle.ep_history.specs.Machine.{MachineState, IsStep, open_record, settled}
use Rattle.ep_history.specs.declared.pad_bad.PadBad.{PadBad}
use Rattle.ep_history.specs.declared.record.Record.{Record}
use Rattle.ep_pad_file.specs.Standing.{size, IsLeft, IsOldOrMore, MayHold, StandsFor}
use Rattle.ep_pad_file.proofs.Left.{left_stands}
use Rattle.ep_pad_file.proofs.Telling.{image_left, left_tells}
use Rattle.ep_pad.specs.Crashes.{AreFirst, Comes, MayRemain}
use Rattle.ep_pad.specs.Held.{Held}
use Rattle.ep_pad.specs.Keeping.{IsKept, IsNotKept}
use Rattle.ep_pad.specs.Keeping.IsNotKept.{Lacks, IsFull, Fails}
use Rattle.ep_pad.specs.Opening.{IsWoken}
use Rattle.ep_pad.specs.Opening.IsWoken.{Was, Opened}
use Rattle.ep_pad.specs.Standing.{Stands}

-- ---- first records

pub first-all : (rs : List Record) → AreFirst rs rs
first-all rs = ([], append-nil rs)

pub first-more : (rs more : List Record) → AreFirst rs (rs ++ more)
first-more rs more = (more, refl)

pub first-on : (rs qs all : List Record) → AreFirst rs qs → AreFirst qs all → AreFirst rs all
first-on rs qs all a b = (a.0 ++ b.0, sym (append_assoc rs a.0 b.0) ∙ ap (λ (l : List Record). l ++ b.0) a.1 ∙ b.1)

first-settled : (kept : Bool) (st : MachineState) → AreFirst st.records (settled kept st).records
first-settled true st = first-more st.records st.pending
first-settled false st = first-all st.records

-- a machine that was woken has what was acknowledged
pub first-woken : (st mid : MachineState) → IsWoken st mid → AreFirst st.records mid.records
first-woken st mid (Was on is) = subst (λ (x : MachineState). AreFirst st.records x.records) (sym is) (first-all st.records)
first-woken st mid (Opened kept off fits t) =
    let at = settled kept st in
    first-on st.records at.records mid.records (first-settled kept st) (open_record at ∷ [], ap (λ (x : MachineState). x.records) (sym t.0))

-- what an open machine has is the first of what it has once a record was kept, or not
no-more : (st : MachineState) → st.pending ≡ [] → st.records ++ st.pending ≡ st.records
no-more st none = ap (λ (l : List Record). st.records ++ l) none ∙ append-nil st.records

pub first-kept : (st new : MachineState) (r : Record) (pad : PadState) → st.pending ≡ [] → IsKept st r pad new → AreFirst (st.records ++ st.pending) (new.records ++ new.pending)
first-kept st new r pad none k =
    let now : new.records ++ new.pending ≡ st.records ++ r ∷ [] ++ st.pending = ap (λ (x : MachineState). x.records ++ x.pending) k.1.0 in
    let all : st.records ++ r ∷ [] ++ st.pending ≡ st.records ++ r ∷ [] = ap (λ (l : List Record). st.records ++ r ∷ [] ++ l) none ∙ append-nil (st.records ++ r ∷ []) in
    (r ∷ [], ap (λ (l : List Record). l ++ r ∷ []) (no-more st none) ∙ sym (now ∙ all))

pub first-not-kept : (st new : MachineState) (r : Record) (bad : PadBad) → st.pending ≡ [] → IsNotKept st r bad new → AreFirst (st.records ++ st.pending) (new.records ++ new.pending)
first-not-kept st new r bad none (Lacks is t) = ([], append-nil (st.records ++ st.pending) ∙ sym (ap (λ (x : MachineState). x.records ++ x.pending) t.0))
first-not-kept st new r bad none (IsFull full t) = ([], append-nil (st.records ++ st.pending) ∙ sym (ap (λ (x : MachineState). x.records ++ x.pending) t.0))
first-not-kept st new r bad none (Fails count is fits rose t) =
    (r ∷ [], ap (λ (l : List Record). l ++ r ∷ []) (no-more st none) ∙ sym (ap (λ (x : MachineState). x.records ++ x.pending) t.0))

-- ---- images

-- no record is being appended
pub none-more : (rs : List Record) (image : List ℕ) → IsOldOrMore rs [] image → StandsFor rs image
none-more rs image h = ⊎_elim (λ s. s) (λ (s : StandsFor (rs ++ []) image). subst (λ (l : List Record). StandsFor l image) (append-nil rs) s) h

-- of a file where none is
pub image-stands : (told : Option Contents) (rs : List Record) → MayHold told rs [] → (image : List ℕ) → IsImage told image → StandsFor rs image
image-stands told rs may image left =
    let t = left_tells told rs [] may in
    none-more rs image (left_stands rs [] image (image_left told t.0 rs [] t.1 t.2 image left))

-- of one where some may be pending
pub image-old-or-more : (told : Option Contents) (rs pending : List Record) → MayHold told rs pending → (image : List ℕ) → IsImage told image → IsOldOrMore rs pending image
image-old-or-more told rs pending may image left =
    let t = left_tells told rs pending may in
    left_stands rs pending image (image_left told t.0 rs pending t.1 t.2 image left)

-- these records stand, or these and more that are being appended
pub remains-appended : (st next : MachineState) (rs more : List Record) (image : List ℕ) → AreFirst st.records rs → AreFirst (rs ++ more) (next.records ++ next.pending)
    → IsOldOrMore rs more image → MayRemain st next image
remains-appended st next rs more image a b (inl s) = inr (rs, s, a, first-on rs (rs ++ more) (next.records ++ next.pending) (first-more rs more) b)
remains-appended st next rs more image a b (inr s) = inr (rs ++ more, s, first-on st.records rs (rs ++ more) a (first-more rs more), b)

-- what remains between two states remains between them and others
pub remains-first : (st mid next : MachineState) (image : List ℕ) → AreFirst (mid.records ++ mid.pending) (next.records ++ next.pending) → MayRemain st mid image
    → MayRemain st next image
remains-first st mid next image b (inl h) = inl h
remains-first st mid next image b (inr x) = inr (x.0, x.1, x.2, first-on x.0 (mid.records ++ mid.pending) (next.records ++ next.pending) x.3 b)

pub remains-then : (st mid next : MachineState) (image : List ℕ) → AreFirst st.records mid.records → AreFirst (mid.records ++ mid.pending) (next.records ++ next.pending)
    → MayRemain mid next image → MayRemain st next image
remains-then st mid next image a b (inl h) = remains-appended st next mid.records mid.pending image a b h
remains-then st mid next image a b (inr x) = inr (x.0, x.1, first-on st.records mid.records x.0 a x.2, x.3)

-- what an opening that found the records leaves, while it appends its own
pub remains-found : (st next : MachineState) (kept : Bool) (more : List Record) (image : List ℕ) → AreFirst ((settled kept st).records ++ more) (next.records ++ next.pending)
    → IsOldOrMore (settled kept st).records more image → MayRemain st next image
remains-found st next kept more image b h = remains-appended st next (settled kept st).records more image (first-settled kept st) b h

-- and where it appends none
pub old-found : (st : MachineState) (kept : Bool) (image : List ℕ) → IsOldOrMore (settled kept st).records [] image → IsOldOrMore st.records st.pending image
old-found st true image (inl s) = inr s
old-found st true image (inr s) = inr (subst (λ (l : List Record). StandsFor l image) (append-nil (st.records ++ st.pending)) s)
old-found st false image (inl s) = inl s
old-found st false image (inr s) = inl (subst (λ (l : List Record). StandsFor l image) (append-nil st.records) s)

module _ {D : Type 0} (moment : D → ℕ) (since : D → ℕ → List ℕ → Type 0) where
  -- one run after another, each with what it leaves
  pub both : (old mid new : D) (P Q R : List ℕ → Type 0) → LeavesOnly moment since old mid P → LeavesOnly moment since mid new Q → ((image : List ℕ) → P image ⊎ Q image → R image)
      → LeavesOnly moment since old new R
  both old mid new P Q R first then_ to =
      joined moment since old mid new R (weaker moment since old mid P R (λ image p. to image (inl p)) first) (weaker moment since mid new Q R (λ image q. to image (inr q)) then_)

  -- one more run that leaves what it could have left before
  pub images-on : (told_by : D → Option Contents) (old mid new : D) → told_by mid ≡ told_by old → LeavesOnly moment since old mid (IsImage (told_by old))
      → LeavesOnly moment since mid new (IsImage (told_by mid)) → LeavesOnly moment since old new (IsImage (told_by old))
  images-on told_by old mid new same first then_ =
      joined moment since old mid new (IsImage (told_by old)) first
      (weaker moment since mid new (IsImage (told_by mid)) (IsImage (told_by old)) (λ image is. subst (λ t. IsImage t image) same is) then_)

  -- from a machine that is the same
  pub leaves-from : (a b : Held D) (new : D) (P : List ℕ → Type 0) → a ≡ b → LeavesOnly moment since a.disk new P → LeavesOnly moment since b.disk new P
  leaves-from a b new P same run = subst (λ (m : Held D). LeavesOnly moment since m.disk new P) same run

  -- what is left stands for the records, or for these and the pending ones
  pub left-old-or-more : (old new : D) (rs pending : List Record) → LeavesOnly moment since old new (IsLeft rs pending) → LeavesOnly moment since old new (IsOldOrMore rs pending)
  left-old-or-more old new rs pending run = weaker moment since old new (IsLeft rs pending) (IsOldOrMore rs pending) (λ image l. left_stands rs pending image l) run

module _ {D : Type 0} (told_by : D → Option Contents) (failures moment : D → ℕ) (since : D → ℕ → List ℕ → Type 0) (is_steady stops_alone : D → Bool) (left : D → Option ℕ) where
  -- a way of two parts
  pub comes-on : (old mid new : Held D) (st between next : MachineState) → AreFirst st.records between.records → AreFirst (between.records ++ between.pending) (next.records ++ next.pending)
      → Comes told_by failures moment since is_steady stops_alone left old st mid between → Comes told_by failures moment since is_steady stops_alone left mid between new next
      → Comes told_by failures moment since is_steady stops_alone left old st new next
  comes-on old mid new st between next a b first then_ = (
    then_.0,
    joined moment since old.disk mid.disk new.disk (MayRemain st next)
        (weaker moment since old.disk mid.disk (MayRemain st between) (MayRemain st next) (λ image h. remains-first st between next image b h) first.1)
        (weaker moment since mid.disk new.disk (MayRemain between next) (MayRemain st next) (λ image h. remains-then st between next image a b h) then_.1),
    record {
      steady = then_.2.steady ∙ first.2.steady;
      alone = then_.2.alone ∙ first.2.alone;
      unstopped = λ none. then_.2.unstopped (first.2.unstopped none);
    },
  )

  -- a step with all that its clause says
  pub steps-over : (st : MachineState) (e : Entry) (reply : Reply) (old new : Held D)
      → (next : MachineState) × IsStep size st e reply next × Comes told_by failures moment since is_steady stops_alone left old st new next
      → (next : MachineState)
      × IsStep size st e reply next
      × Stands told_by failures new next
      × LeavesOnly moment since old.disk new.disk (MayRemain st next)
      × KeepsMarks is_steady stops_alone left old.disk new.disk
  steps-over st e reply old new h = (h.0, h.1, h.2.0, h.2.1, h.2.2)

  -- a machine that does nothing
  pub comes-nowhere : (m : Held D) (st : MachineState) → Stands told_by failures m st → MayHold (told_by m.disk) st.records st.pending
      → ((image : List ℕ) → since m.disk (moment m.disk) image → IsImage (told_by m.disk) image) → Comes told_by failures moment since is_steady stops_alone left m st m st
  comes-nowhere m st s may now = (
    s,
    started moment since m.disk (MayRemain st st) (λ image is. inl (image-old-or-more (told_by m.disk) st.records st.pending may image (now image is))),
    record { steady = refl; alone = refl; unstopped = λ none. none },
  )

  -- from a machine that is the same
  pub comes-from : (Is : MachineState → Type 0) (a b new : Held D) (st : MachineState) → a ≡ b
      → (next : MachineState) × Is next × Comes told_by failures moment since is_steady stops_alone left a st new next
      → (next : MachineState) × Is next × Comes told_by failures moment since is_steady stops_alone left b st new next
  comes-from Is a b new st same h =
      (h.0, h.1, subst (λ (m : Held D). Comes told_by failures moment since is_steady stops_alone left m st new h.0) same h.2)
