-- What is written of a pad's file.
use Rattle.std.proofs.Common.{◌≡◌, ℕ, Bool, true, false, List, Option, Some, None, Vec, Global, sym, ap, ◌∙◌, subst}
use Rattle.std.specs.Prelude.{option_map}
use Rattle.serde_json.specs.Written.{compact_text}
use Rattle.ep_units.specs.Text.{Text}
use Rattle.ep_outside.specs.Disk.{Contents}
use Rattle.ep_history.specs.Pad.{PadState}
use Rattle.ep_history.specs.declared.rev.Rev.{Rev}
use Rattle.ep_export.specs.Exported.{exported, late}
use Rattle.ep_verify.specs.Files.{IsFile}
use Rattle.ep_verify.specs.Verdicts.{Tells}
use Rattle.ep_move.specs.Lines.{line, refusal}
use Rattle.ep_move.specs.Moving.{GoesOut, IsFound, IsSaid, IsUnnamed, WritesLine}
use Rattle.ep_move.specs.Moving.IsSaid.{NoFile}
use Rattle.ep_move.specs.Reread.{IsLast, IsReread}
use Rattle.ep_move.specs.Told.{HasPast, IsGone, IsUnexported, IsWritten}
use Rattle.ep_move.specs.Told.IsWritten.{Unwritten, Whole}
use Rattle.ep_move.specs.declared.last.Last.{Last}
use Rattle.ep_move.specs.declared.lines.Reason.{Reason}
use Rattle.ep_move.specs.declared.lines.Reason.TheVariants as reason
use Rattle.ep_move.specs.declared.moved.Moved.{Moved}
use Rattle.ep_move.specs.declared.moved.Moved.TheVariants as moved
use Rattle.ep_move.specs.declared.rereading.Reread.{Reread}

pub is_whole : (id : Text) (file : List ℕ) (vs : List Rev) (public refuses : Bool) (out text : List ℕ) → refuses ≡ false → out ≡ line text → HasPast file vs public → late 0 vs ≡ None
    → text ≡ compact_text (exported id vs public) → IsWritten id file refuses out
is_whole id file vs public refuses out text r o h l t =
    subst (λ (b : Bool). IsWritten id file b out) (sym r) (subst (λ (x : List ℕ). IsWritten id file false x) (sym (o ∙ ap line t)) (Whole vs public h l))

pub is_refused : (id : Text) (file : List ℕ) (why : Reason) (refuses : Bool) (out : List ℕ) → refuses ≡ true → out ≡ refusal id why → IsUnexported file why → IsWritten id file refuses out
is_refused id file why refuses out r o h =
    subst (λ (b : Bool). IsWritten id file b out) (sym r) (subst (λ (x : List ℕ). IsWritten id file true x) (sym o) (Unwritten why h))

pub has_past : (file : List ℕ) (p : PadState) (k : Reread) (l : Last) → Tells file p → IsReread k p → k.last ≡ Some l → HasPast file l.revs.items k.public
has_past file p k l t h is =
    let there = subst (λ (o : Option Last). IsLast o p) is h.last in
    record { pad = p; tells = t; present = there.present; revs = there.revs; status = sym h.public }

pub is_gone : (file : List ℕ) (p : PadState) (k : Reread) → Tells file p → IsReread k p → k.last ≡ None → IsGone file
is_gone file p k t h is = (p, t, subst (λ (o : Option Last). IsLast o p) is h.last)

-- ---- a file that was found, or not

abbrev bytes_of : Option (Vec ℕ Global) → Option (List ℕ)
bytes_of found = option_map (λ bytes. bytes.items) found

pub file_found : (names : Option (List (List ℕ))) (told : Option Contents) (id : Text) (found : Option (Vec ℕ Global)) (bytes : Vec ℕ Global) → found ≡ Some bytes
    → IsFound names told id (bytes_of found) → IsFile told bytes.items
file_found names told id found bytes is h = subst (λ (o : Option (Vec ℕ Global)). IsFound names told id (bytes_of o)) is h

pub none_found : (names : Option (List (List ℕ))) (told : Option Contents) (id : Text) (found : Option (Vec ℕ Global)) → found ≡ None → IsFound names told id (bytes_of found) → IsUnnamed names id
none_found names told id found is h = subst (λ (o : Option (Vec ℕ Global)). IsFound names told id (bytes_of o)) is h

pub no_file : (names : Option (List (List ℕ))) (told : Option Contents) (id : Text) (refuses : Bool) (out : List ℕ) → refuses ≡ true → out ≡ refusal id reason.Gone → IsUnnamed names id
    → IsSaid names told id refuses out
no_file names told id refuses out r o h =
    subst (λ (b : Bool). IsSaid names told id b out) (sym r) (subst (λ (x : List ℕ). IsSaid names told id true x) (sym o) (NoFile h))

-- a line that is written of what was said of a pad
pub goes_out : (names : Option (List (List ℕ))) (told : Option Contents) (id : Text) (held now : Option (List ℕ)) (refuses : Bool) (out : List ℕ) (end : Moved) → IsSaid names told id refuses out
    → WritesLine refuses out held now end → GoesOut names told id held now end
goes_out names told id held now refuses out moved.All said w = (out, subst (λ (b : Bool). IsSaid names told id b out) w.0 said, w.1)
goes_out names told id held now refuses out moved.Refused said w = (out, subst (λ (b : Bool). IsSaid names told id b out) w.0 said, w.1)
goes_out names told id held now refuses out moved.SinkFault said w = (refuses, out, said, w)
goes_out names told id held now refuses out moved.SourceFault said w = absurd w
goes_out names told id held now refuses out moved.DiskFault said w = absurd w
goes_out names told id held now refuses out moved.NoMemory said w = absurd w
