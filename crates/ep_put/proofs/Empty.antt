-- A journal without records.
use Rattle.std.proofs.Common.{◌≡◌, inl, inr, ℕ, List, [], ◌∷◌, ◌++◌, length, get_or, drop, refl, sym, ◌∙◌, ap, subst, arith, take-append-drop, Bool, Option, Some, None}
use Rattle.std.proofs.lemmas.List.{drop_all, drop_more}
use Rattle.ep_outside.specs.Disk.{Contents, IsImage, Reaches, settled}
use Rattle.ep_outside.specs.declared.limits.Limits.{Limits}
use Rattle.ep_outside.proofs.Images.{only_told}
use Rattle.ep_journal.specs.File.{closed_gate, end_of, header, records_of, stands_for}
use Rattle.ep_journal.specs.Held.{HoldsFile, IsHeld}
use Rattle.ep_journal.proofs.File.{length-gates}
use Rattle.ep_journal.proofs.Append.{end_from}
use Rattle.ep_history.specs.Records.{AreLegal, told}
use Rattle.ep_history.specs.declared.rev.Rev.{Rev}
use Rattle.ep_past.specs.Revisions.{AreRevisions}
use Rattle.ep_past.specs.Records.{records_of as birth_records, told_pad}
use Rattle.ep_put.specs.Whole.{gated_all, whole_file}
use Rattle.ep_put.specs.Putting.{HoldsHistory, IsAllOrNone, StandsForHistory, TellsHistory, history_records}
use Rattle.ep_put.specs.Steps.{IsWholeOrNone, new_file}
use Rattle.ep_put.proofs.NewFile.{shut_none}

none_in : (rs : List (List ℕ)) → length rs ≡ 0 → rs ≡ []
none_in [] e = refl
none_in (r ∷ rs) e = absurd (omega arith)

new_seen : (c : Contents) (gates : List ℕ) (gate : ℕ) → HoldsFile c gates gate → length gates ≡ 0 → c.seen ≡ new_file
new_seen c gates gate h none =
    let rs : records_of c.seen ≡ [] = none_in (records_of c.seen) (sym (length-gates 8 (records_of c.seen)) ∙ ap (λ (l : List ℕ). length l) (sym h.gates_are) ∙ none) in
    let at : closed_gate c.seen ≡ 8 = ap (λ (l : List (List ℕ)). end_of 8 l) rs in
    let long : length c.seen ≡ 9 = omega (arith, h.rest.ends, at) in
    let shut : get_or c.seen 8 0 ≡ 0 = ap (λ (n : ℕ). get_or c.seen n 0) (sym at) ∙ h.rest.closed in
    sym (take-append-drop 8 c.seen) ∙ (λ i. h.rest.begins i ++ drop 8 c.seen)
    ∙ ap (λ (l : List ℕ). header ++ l) (drop_more c.seen 8 0 (omega (arith, long)) ∙ (λ i. shut i ∷ drop_all 9 c.seen (omega (arith, long)) i))

-- of a journal without records the disk tells a new file
pub new_told : (c : Contents) (told : Option Contents) (gates : List ℕ) (gate : ℕ) → told ≡ Some c → IsHeld told gates gate → length gates ≡ 0 → told ≡ Some (settled new_file)
new_told c told gates gate is held none =
    let h = subst (λ (o : Option Contents). IsHeld o gates gate) is held in
    is ∙ ap (λ (k : Contents). Some k) (h.settled ∙ ap settled (new_seen c gates gate h none))

pub nine_bytes : (told : Option Contents) (gates : List ℕ) (gate : ℕ) → IsHeld told gates gate → Reaches told 9
nine_bytes None gates gate held = tt
nine_bytes (Some c) gates gate held = omega (arith, held.rest.ends, end_from 8 (records_of c.seen))

-- ---- the records begin with an open gate

pub begins_open : (vs : List Rev) (public : Bool) → AreRevisions vs → gated_all (history_records vs public) ≡ 1 ∷ drop 1 (gated_all (history_records vs public))
begins_open [] public are = absurd are
begins_open (v ∷ vs) public are = refl

-- the image is the file of all of the history, or stands for no record
pub all_or_none : (vs : List Rev) (public : Bool) → StandsForHistory vs public (whole_file (history_records vs public)) → AreRevisions vs → (image : List ℕ) → IsWholeOrNone (drop 1 (gated_all (history_records vs public))) image
    → IsAllOrNone vs public image
all_or_none vs public stands are image (inl none) = inr (record { bytes = none; records = tt })
all_or_none vs public stands are image (inr whole) = inl (subst (StandsForHistory vs public) (ap (λ (l : List ℕ). header ++ l) (begins_open vs public are) ∙ sym whole) stands)

pub none_yet : (vs : List Rev) (public : Bool) (image : List ℕ) → stands_for image ≡ Some [] → IsAllOrNone vs public image
none_yet vs public image none = inr (record { bytes = none; records = tt })

-- a new file as it is told
pub new_none : (vs : List Rev) (public : Bool) (told : Option Contents) (image : List ℕ) → told ≡ Some (settled new_file) → IsImage told image → IsAllOrNone vs public image
new_none vs public told image is left = none_yet vs public image (ap stands_for (only_told new_file image told is left) ∙ shut_none 0 [] (λ e. omega arith))

-- the bytes behind the header
pub bytes_are : (vs : List Rev) (public : Bool) (bytes given : List ℕ) → AreRevisions vs → bytes ≡ gated_all (history_records vs public) → given ≡ bytes → given ≡ 1 ∷ drop 1 (gated_all (history_records vs public))
bytes_are vs public bytes given are is same = same ∙ is ∙ begins_open vs public are

pub file_is : (vs : List Rev) (public : Bool) (told : Option Contents) → AreRevisions vs → told ≡ Some (settled (header ++ 1 ∷ drop 1 (gated_all (history_records vs public)))) → told ≡ Some (settled (whole_file (history_records vs public)))
file_is vs public told are is = is ∙ ap (λ (l : List ℕ). Some (settled (header ++ l))) (sym (begins_open vs public are))

-- the disk tells that file
pub holds_all : (told : Option Contents) (vs : List Rev) (public : Bool) (file : List ℕ) → told ≡ Some (settled file) → StandsForHistory vs public file → HoldsHistory told vs public
holds_all told vs public file is stands = subst (λ (o : Option Contents). HoldsHistory o vs public) (sym is) stands

pub image_stands : (told : Option Contents) (vs : List Rev) (public : Bool) (file image : List ℕ) → told ≡ Some (settled file) → StandsForHistory vs public file → IsImage told image → StandsForHistory vs public image
image_stands told vs public file image is stands left = subst (StandsForHistory vs public) (sym (only_told file image told is left)) stands

pub tells_it : (vs : List Rev) (public : Bool) → AreRevisions vs
    → ((limits : Limits) (v : Rev) (ws : List Rev) (public : Bool) → AreRevisions (v ∷ ws) → AreLegal limits (birth_records v ws public))
    → ((limits : Limits) (v : Rev) (ws : List Rev) (public : Bool) → AreRevisions (v ∷ ws) → told limits (birth_records v ws public) ≡ told_pad limits v ws public)
    → TellsHistory (history_records vs public) vs public
tells_it [] public are legal same = are
tells_it (v ∷ vs) public are legal same = λ limits. (legal limits v vs public are, same limits v vs public are)
