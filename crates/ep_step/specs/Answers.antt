-- Why a call is refused.
use Rattle.std.specs.Prelude.{◌≡◌, ◌⊎◌, ℕ, nat_lt, length, Option, Some, None, Result, Err, IsOkUnless}
use Rattle.ep_cs.specs.Doc.{Doc}
use Rattle.ep_cs.specs.Edit.{Edit}
use Rattle.ep_history.specs.History.{step_doc}
use Rattle.ep_history.specs.Refusals.{fault_if}
use Rattle.ep_history.specs.declared.pad_bad.PadBad.{PadBad}
use Rattle.ep_history.specs.declared.pad_bad.PadBad.TheVariants.{NoMemory, TooLong}

-- a call is refused for this reason, unless memory was wanting before it was seen; where there is none, for want of
-- memory alone
abbrev pub Refuses : {A : Type 0} → Option PadBad → Result A PadBad → Type 0
Refuses (Some bad) r = (r ≡ Err bad) ⊎ (r ≡ Err NoMemory)
Refuses None r = IsOkUnless r NoMemory

-- an edit of a head is refused where the document after its step has more units than this
abbrev pub units_fault : ℕ → Edit → Doc → Option PadBad
units_fault limit e head = let units = length (step_doc e head) in fault_if (nat_lt limit units) (TooLong units)
