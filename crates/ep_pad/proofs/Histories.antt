-- A history goes on.
use Rattle.std.proofs.Common.{ℕ, List, [], ◌∷◌, ◌++◌, Option, refl, sym, subst}
use Rattle.std.proofs.lemmas.List.{map-append}
use Rattle.std.proofs.lemmas.List.Elements.{All-push}
use Rattle.ep_outside.specs.Disk.{Contents}
use Rattle.ep_history.specs.Machine.{MachineState, Call, Size, IsStep, Runs}
use Rattle.ep_history.proofs.Steps.{first-kept, runs-kept}
use Rattle.ep_pad_file.specs.Standing.{size}
use Rattle.ep_pad.specs.Held.{Held}
use Rattle.ep_pad.specs.Standing.{Makes}
use Rattle.ep_pad.specs.Entries.{Suits, entry_of, reply_of}
use Rattle.ep_pad.specs.Histories.{HasMade, calls_of}
use Rattle.ep_pad.specs.declared.entries.PadEntry.{PadEntry}
use Rattle.ep_pad.specs.declared.entries.PadReply.{PadReply}

runs-more : (size : Size) (st : MachineState) (cs : List Call) (mid : MachineState) (c : Call) (next : MachineState) → Runs size st cs mid
    → IsStep size mid c.entry c.reply next → Runs size st (cs ++ c ∷ []) next
runs-more size st [] mid c next r step = (next, subst (λ s. IsStep size s c.entry c.reply next) r step, refl)
runs-more size st (d ∷ ds) mid c next r step = (r.0, r.1, runs-more size r.0 ds mid c next r.2 step)

module _ {D : Type 0} (told_by : D → Option Contents) (failures : D → ℕ) where
  pub goes-on : (begun m new : Held D) (e : PadEntry) (r : PadReply) (h : List (PadEntry × PadReply)) → HasMade told_by failures begun m h
      → Makes told_by failures m (entry_of e) (reply_of r) new → Suits e r → HasMade told_by failures begun new (h ++ (e, r) ∷ [])
  goes-on begun m new e r h so_far makes suits = (
    λ told.
        let x = so_far.0 told in
        let n = makes x.1 (runs-kept size x.0 (calls_of h) x.1 (first-kept x.0 x.2.first) x.3) x.4 in
        let more = runs-more size x.0 (calls_of h) x.1 (record { entry = entry_of e; reply = reply_of r }) n.0 x.3 n.1 in
        (x.0, n.0, x.2, subst (λ cs. Runs size x.0 cs n.0) (sym (map-append _ h ((e, r) ∷ []))) more, n.2),
    All-push (λ (c : PadEntry × PadReply). Suits c.0 c.1) h (e, r) so_far.1 suits,
  )
