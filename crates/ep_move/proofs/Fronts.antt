-- A file's records, read one after another.
use Rattle.std.proofs.Common.{◌≡◌, ℕ, ◌+◌, ◌<◌, Bool, true, false, List, [], ◌∷◌, ◌++◌, length, get_or, refl, sym, ◌∙◌, subst}
use Rattle.std.proofs.lemmas.List.{map-append, take_more}
use Rattle.ep_journal.specs.File.{records_of}
use Rattle.ep_record.specs.Bytes.{bytes_of, IsEncoding}
use Rattle.ep_history.specs.Pad.{PadState}
use Rattle.ep_history.specs.Records.{IsNext, next_pad, told, unopened}
use Rattle.ep_history.specs.declared.record.Record.{Record}
use Rattle.ep_history.proofs.Recorded.{next-more, told-more}
use Rattle.ep_pad_file.proofs.Standing.{all_more, record_in_bytes}
use Rattle.ep_pad.specs.Opening.{IsBadAt, IsFront}
use Rattle.ep_verify.specs.Verdicts.{no_limits}
use Rattle.ep_move.specs.Reread.{IsReread, MayFollow}
use Rattle.ep_move.specs.declared.rereading.Reread.{Reread}

-- so many were read, and it stands for what they tell
pub record AreRead (file : List ℕ) (k : Reread) (n : ℕ) : Type 0 where
  pub front : List Record
  pub are : IsFront no_limits file front n
  pub tells : IsReread k (told no_limits front)

pub none_read : (file : List ℕ) (k : Reread) → IsReread k (unopened no_limits) → AreRead file k 0
none_read file k is = record { front = []; are = record { bytes = refl; records = tt; legal = tt }; tells = is }

went_on : (p : PadState) (r : Record) (new : Reread) (b : Bool) → MayFollow IsReread p r new b → b ≡ true → IsNext p r × IsReread new (next_pad p r)
went_on p r new b h goes = subst (MayFollow IsReread p r new) goes h

pub one_read : (file : List ℕ) (k new : Reread) (i : ℕ) (r : Record) (b : Bool) → i < length (records_of file) → AreRead file k i
    → IsEncoding (get_or (records_of file) i []) r → ((p : PadState) → IsReread k p → MayFollow IsReread p r new b) → b ≡ true → AreRead file new (i + 1)
one_read file k new i r b below a enc next goes =
    let n = went_on (told no_limits a.front) r new b (next (told no_limits a.front) a.tells) goes in
    let same = enc.same in
    let so_far = a.are.bytes in
    record {
      front = a.front ++ r ∷ [];
      are = record {
        bytes = map-append bytes_of a.front (r ∷ []) ∙ (λ j. so_far j ++ sym same j ∷ []) ∙ sym (take_more (records_of file) i [] below);
        records = all_more a.front (r ∷ []) a.are.records (enc.is, tt);
        legal = next-more (unopened no_limits) a.front r a.are.legal n.0;
      };
      tells = subst (IsReread new) (sym (told-more (unopened no_limits) a.front r)) n.1;
    }

-- a record that can't come next, of which there is but one with its bytes
pub bad_next : (file : List ℕ) (k new : Reread) (i n : ℕ) (r : Record) (b : Bool) → i < length (records_of file) → AreRead file k i
    → IsEncoding (get_or (records_of file) i []) r → ((p : PadState) → IsReread k p → MayFollow IsReread p r new b) → b ≡ false → i ≡ n → IsBadAt no_limits file n
bad_next file k new i n r b below a enc next stops is = subst (IsBadAt no_limits file) is record {
  front = a.front;
  are = a.are;
  below = below;
  bad = λ q other may.
      let h = subst (MayFollow IsReread (told no_limits a.front) r new) stops (next (told no_limits a.front) a.tells) in
      let same = sym (record_in_bytes (get_or (records_of file) i []) q other) ∙ record_in_bytes (get_or (records_of file) i []) r enc in
      h (subst (IsNext (told no_limits a.front)) same may);
}
