-- A file's records, read one after another.
use Rattle.std.proofs.Common.{◌≡◌, ℕ, ◌+◌, ◌<◌, Bool, true, false, List, [], ◌∷◌, ◌++◌, length, get_or, Option, Some, refl, sym, ap, ◌∙◌, subst, arith}
use Rattle.std.proofs.lemmas.List.{map-append, take_all, take_more}
use Rattle.ep_outside.specs.Disk.{Contents}
use Rattle.ep_outside.specs.declared.limits.Limits.{Limits}
use Rattle.ep_journal.specs.File.{records_of}
use Rattle.ep_journal.specs.Held as held
use Rattle.ep_journal.proofs.Append.{stands}
use Rattle.ep_journal.proofs.Keeping.{counted}
use Rattle.ep_record.specs.Bytes.{bytes_of, IsEncoding}
use Rattle.ep_history.specs.Pad.{PadState}
use Rattle.ep_history.specs.Records.{IsNext, next_pad, told, unopened}
use Rattle.ep_history.specs.declared.record.Record.{Record}
use Rattle.ep_history.proofs.Recorded.{next-more, told-more}
use Rattle.ep_pad_file.specs.Standing.{IsNoRecord, IsRecordAt}
use Rattle.ep_pad_file.proofs.Standing.{all_more, record_in_bytes}
use Rattle.ep_pad_file.proofs.Telling.{held_rest}
use Rattle.ep_pad_state.specs.Held.{IsPad}
use Rattle.ep_pad_state.specs.Rereading.{IsReread}
use Rattle.ep_pad_state.specs.declared.pad.Pad.{Pad}
use Rattle.ep_pad.specs.Opening.{IsBadAt, IsFront, IsLegalFile}

-- so many were read, and the pad is what they tell
pub record AreRead (limits : Limits) (file : List ℕ) (pad : Pad) (n : ℕ) : Type 0 where
  pub front : List Record
  pub are : IsFront limits file front n
  pub tells : IsPad pad (told limits front)

pub none-read : (limits : Limits) (file : List ℕ) (pad : Pad) → IsPad pad (unopened limits) → AreRead limits file pad 0
none-read limits file pad is = record { front = []; are = record { bytes = refl; records = tt; legal = tt }; tells = is }

went-on : (p : PadState) (r : Record) (new : Pad) (b : Bool) → IsReread p r new b → b ≡ true → IsNext p r × IsPad new (next_pad p r)
went-on p r new b h goes = subst (IsReread p r new) goes h

pub one-read : (limits : Limits) (file : List ℕ) (pad new : Pad) (i : ℕ) (r : Record) (b : Bool) → i < length (records_of file) → AreRead limits file pad i
    → IsEncoding (get_or (records_of file) i []) r → ((p : PadState) → IsPad pad p → IsReread p r new b) → b ≡ true → AreRead limits file new (i + 1)
one-read limits file pad new i r b below a enc next goes =
    let n = went-on (told limits a.front) r new b (next (told limits a.front) a.tells) goes in
    let same = enc.same in
    let so_far = a.are.bytes in
    record {
      front = a.front ++ r ∷ [];
      are = record {
        bytes = map-append bytes_of a.front (r ∷ []) ∙ (λ j. so_far j ++ sym same j ∷ []) ∙ sym (take_more (records_of file) i [] below);
        records = all_more a.front (r ∷ []) a.are.records (enc.is, tt);
        legal = next-more (unopened limits) a.front r a.are.legal n.0;
      };
      tells = subst (IsPad new) (sym (told-more (unopened limits) a.front r)) n.1;
    }

-- a record that can't come next, of which there is but one with its bytes
pub bad-next : (limits : Limits) (file : List ℕ) (pad new : Pad) (i k : ℕ) (r : Record) (b : Bool) → i < length (records_of file) → AreRead limits file pad i
    → IsEncoding (get_or (records_of file) i []) r → ((p : PadState) → IsPad pad p → IsReread p r new b) → b ≡ false → i ≡ k → IsBadAt limits file k
bad-next limits file pad new i k r b below a enc next stops is = subst (IsBadAt limits file) is record {
  front = a.front;
  are = a.are;
  below = below;
  bad = λ q other n.
      let h = subst (IsReread (told limits a.front) r new) stops (next (told limits a.front) a.tells) in
      let same = sym (record_in_bytes (get_or (records_of file) i []) q other) ∙ record_in_bytes (get_or (records_of file) i []) r enc in
      h.0 (subst (IsNext (told limits a.front)) same n);
}

-- bytes that are no record
pub bad-bytes : (limits : Limits) (c : Contents) (pad : Pad) (i k : ℕ) (t : Option Contents) → i < length (records_of c.seen) → AreRead limits c.seen pad i → t ≡ Some c → IsNoRecord t i → k ≡ i → IsBadAt limits c.seen k
bad-bytes limits c pad i k t below a is none same = subst (IsBadAt limits c.seen) (sym same) record {
  front = a.front;
  are = a.are;
  below = below;
  bad = λ q enc n. subst (λ o. IsNoRecord o i) is none q enc;
}

-- all were read
pub all-read : (limits : Limits) (c : Contents) (pad : Pad) (n : ℕ) (t : Option Contents) (gates : List ℕ) (gate : ℕ) → AreRead limits c.seen pad n → t ≡ Some c → held.IsHeld t gates gate
    → n ≡ length gates → IsLegalFile limits c.seen
all-read limits c pad n t gates gate a is h count =
    let rest = held_rest t c gates gate is h in
    let long : n ≡ length (records_of c.seen) = subst (λ o. held.HasCount o n) is (counted t gates gate n h count) in
    let all = a.are.bytes ∙ take_all n (records_of c.seen) (omega (arith, long)) in (
      a.front,
      record { bytes = stands c.seen rest.1.begins ∙ ap (λ (l : List (List ℕ)). Some l) (sym all); records = a.are.records },
      a.are.legal,
    )

pub below-count : (c : Contents) (i n : ℕ) (t : Option Contents) (gates : List ℕ) (gate : ℕ) → t ≡ Some c → held.IsHeld t gates gate → n ≡ length gates → i < n → i < length (records_of c.seen)
below-count c i n t gates gate is h count lt =
    let long : n ≡ length (records_of c.seen) = subst (λ o. held.HasCount o n) is (counted t gates gate n h count) in
    omega (arith, long, lt)

pub record-at : (c : Contents) (i : ℕ) (r : Record) (t : Option Contents) → t ≡ Some c → IsRecordAt t i r → IsEncoding (get_or (records_of c.seen) i []) r
record-at c i r t is at = subst (λ o. IsRecordAt o i r) is at
