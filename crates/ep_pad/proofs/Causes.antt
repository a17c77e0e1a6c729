-- Why the file of a machine refuses.
use Rattle.std.proofs.Common.{◌≡◌, ◌⊎◌, inl, inr, ℕ, ◌+◌, ◌≤◌, Bool, true, false, nat_lt, [], ◌∷◌, Option, Some, refl, sym, ap, ◌∙◌, subst}
use Rattle.ep_outside.specs.Disk.{Contents}
use Rattle.ep_history.specs.Machine.{most_bytes}
use Rattle.ep_history.specs.Refusals.{first_fault, fault_if}
use Rattle.ep_history.specs.declared.pad_bad.PadBad.{PadBad}
use Rattle.ep_history.specs.declared.pad_bad.PadBad.TheVariants.{Store, Foreign, BadRecord, JournalFull, NoMemory}
use Rattle.ep_history.proofs.Lists.{none_some, some_same}
use Rattle.ep_pad_file.specs.PadFile.{size_fault}
use Rattle.ep_pad_file.specs.Refusals as file
use Rattle.ep_pad_file.specs.Refusals.{HasFault, AppendRefused, ReadRefused}
use Rattle.ep_pad.specs.Opening.{BeginRefused, HasRisenTo, IsReadFault, OpenRefused}
use Rattle.ep_pad.specs.Opening.IsReadFault.{Wants, Faults}
use Rattle.ep_pad.proofs.Waking.{risen-from}

risen : (sure : Type 0) (before now n : ℕ) → HasFault sure before now n → HasRisenTo before now n
risen sure before now n h = record { is = sym h.count; risen = h.risen }

pub open-fault : (told : Option Contents) (sure : Type 0) (before now : ℕ) (bad : PadBad) → file.OpenRefused told sure before now bad → (bad ≡ Foreign → ⊥) → IsReadFault before now bad
open-fault told sure before now (Store n) why own = Faults n refl (risen sure before now n why)
open-fault told sure before now NoMemory why own = Wants refl
open-fault told sure before now Foreign why own = absurd (own refl)
open-fault told sure before now bad why own = absurd why

pub append-fault : (sure : Type 0) (before now : ℕ) (bad : PadBad) → AppendRefused sure before now bad → (n : ℕ) × (bad ≡ Store n) × HasRisenTo before now n
append-fault sure before now (Store n) why = (n, refl, risen sure before now n why)
append-fault sure before now bad why = absurd why

pub read-fault : (told : Option Contents) (i : ℕ) (closed ready sure : Type 0) (before now : ℕ) (bad : PadBad) → ReadRefused told i closed ready sure before now bad
    → ((k : ℕ) → bad ≡ BadRecord k → ⊥) → IsReadFault before now bad
read-fault told i closed ready sure before now (Store n) why own = Faults n refl (risen sure before now n why.0)
read-fault told i closed ready sure before now NoMemory why own = Wants refl
read-fault told i closed ready sure before now (BadRecord k) why own = absurd (own k refl)
read-fault told i closed ready sure before now bad why own = absurd why

-- ---- of any disk

pub later-refused : (a b now : ℕ) (bad : PadBad) → a ≤ b → BeginRefused b now bad → BeginRefused a now bad
later-refused a b now (Store n) h why = record { is = why.is; risen = risen-from a b n h why.risen }
later-refused a b now (JournalFull n) h why = tt
later-refused a b now (BadRecord k) h why = tt
later-refused a b now NoMemory h why = tt
later-refused a b now bad h why = absurd why

pub read-refused : (told : Option Contents) (i : ℕ) (closed ready sure : Type 0) (before now : ℕ) (bad : PadBad) → ReadRefused told i closed ready sure before now bad → BeginRefused before now bad
read-refused told i closed ready sure before now (Store n) why = risen sure before now n why.0
read-refused told i closed ready sure before now NoMemory why = tt
read-refused told i closed ready sure before now (BadRecord k) why = tt
read-refused told i closed ready sure before now bad why = absurd why

pub append-refused : (sure : Type 0) (before now : ℕ) (bad : PadBad) → AppendRefused sure before now bad → BeginRefused before now bad
append-refused sure before now (Store n) why = risen sure before now n why
append-refused sure before now bad why = absurd why

pub long-refused : (length limit bytes before now : ℕ) (bad : PadBad) → (bad ≡ NoMemory) ⊎ (size_fault length limit bytes ≡ Some bad) → BeginRefused before now bad
long-refused length limit bytes before now bad (inl lacks) = subst (BeginRefused before now) (sym lacks) tt
long-refused length limit bytes before now bad (inr full) = go (nat_lt most_bytes bytes) (nat_lt limit (length + (bytes + 5))) full
  where
    go : (a b : Bool) → first_fault (fault_if a (JournalFull bytes) ∷ fault_if b (JournalFull (length + (bytes + 5))) ∷ []) ≡ Some bad → BeginRefused before now bad
    go true b is = subst (BeginRefused before now) (some_same is) tt
    go false true is = subst (BeginRefused before now) (some_same is) tt
    go false false is = none_some is

-- neither an opening of the file nor an append is refused for a length
pub open-unfilled : (told : Option Contents) (sure : Type 0) (before now n : ℕ) (bad : PadBad) → file.OpenRefused told sure before now bad → bad ≡ JournalFull n → ⊥
open-unfilled told sure before now n (Store m) why is = absurd (cc)
open-unfilled told sure before now n Foreign why is = absurd (cc)
open-unfilled told sure before now n NoMemory why is = absurd (cc)
open-unfilled told sure before now n bad why is = why

pub append-unfilled : (sure : Type 0) (before now n : ℕ) (bad : PadBad) → AppendRefused sure before now bad → bad ≡ JournalFull n → ⊥
append-unfilled sure before now n (Store m) why is = absurd (cc)
append-unfilled sure before now n bad why is = why

pub full-is : (n : ℕ) (bad : PadBad) (fault : Option PadBad) → (bad ≡ NoMemory) ⊎ (fault ≡ Some bad) → bad ≡ JournalFull n → fault ≡ Some (JournalFull n)
full-is n bad fault (inl lacks) is = let e : NoMemory ≡ JournalFull n = sym lacks ∙ is in absurd (cc)
full-is n bad fault (inr full) is = full ∙ ap (λ (b : PadBad). Some b) is

pub file-refused : (told : Option Contents) (sure : Type 0) (before now : ℕ) (bad : PadBad) → file.OpenRefused told sure before now bad → OpenRefused told before now bad
file-refused told sure before now (Store n) why = risen sure before now n why
file-refused told sure before now NoMemory why = tt
file-refused told sure before now Foreign why = why
file-refused told sure before now bad why = absurd why

pub begin-refused : (told : Option Contents) (before mid now : ℕ) (bad : PadBad) → before ≤ mid → BeginRefused mid now bad → OpenRefused told before now bad
begin-refused told before mid now (Store n) h why = record { is = why.is; risen = risen-from before mid n h why.risen }
begin-refused told before mid now (JournalFull n) h why = tt
begin-refused told before mid now (BadRecord k) h why = tt
begin-refused told before mid now NoMemory h why = tt
begin-refused told before mid now bad h why = absurd why
