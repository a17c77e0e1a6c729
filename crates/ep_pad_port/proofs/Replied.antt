-- The reply of a pass's call is of its entry's kind.
use Rattle.std.proofs.Common.{◌≡◌, ◌∙◌, ℕ, List, [], ◌∷◌, ◌++◌, All, Option, ap, subst}
use Rattle.std.proofs.lemmas.List.{map-append}
use Rattle.std.proofs.lemmas.List.Elements.{All-head, All-tail}
use Rattle.ep_outside.specs.Disk.{Contents}
use Rattle.ep_cell.specs.declared.view.Call.{Call}
use Rattle.ep_cell.specs.History.{call, pairs}
use Rattle.ep_cell.specs.Passes.{Known, Makes}
use Rattle.ep_pad.specs.declared.entries.PadEntry.{PadEntry}
use Rattle.ep_pad.specs.declared.entries.PadReply.{PadReply}
use Rattle.ep_pad.specs.Entries.{Suits}
use Rattle.ep_pad.specs.Histories.{AllSuit}
use Rattle.ep_pad.specs.Lazy.{IsLegalFrom, Lazy}
use Rattle.ep_pad.proofs.LazyPads.{legal_suit}

all_last : {X : Type 0} (P : X → Type 0) (xs : List X) (x : X) → All P (xs ++ x ∷ []) → P x
all_last P [] x all = All-head P x [] all
all_last P (y ∷ ys) x all = all_last P ys x (All-tail P y (ys ++ x ∷ []) all)

pub suits : {D : Type 0} (told_by : D → Option Contents) (failures : D → ℕ) (begun : Lazy D) (v w : Known PadEntry PadReply) (e : PadEntry) (r : PadReply) → Makes v e r w → IsLegalFrom told_by failures begun (pairs w.seen) → Suits e r
suits told_by failures begun v w e r makes legal =
    let x = makes.extends in
    let whole : pairs w.seen ≡ pairs (v.seen ++ x.0) ++ (e, r) ∷ [] = ap pairs x.1 ∙ map-append (λ (c : Call PadEntry PadReply). (c.entry, c.reply)) (v.seen ++ x.0) (call v.number e r ∷ []) in
    all_last (λ (c : PadEntry × PadReply). Suits c.0 c.1) (pairs (v.seen ++ x.0)) (e, r) (subst AllSuit whole (legal_suit told_by failures begun (pairs w.seen) legal))
