-- What the bytes of a file come to.
use Rattle.std.proofs.Common.{◌≡◌, ℕ, Bool, true, false, List, length, take, Some, refl, sym, ap, ◌∙◌, arith}
use Rattle.std.proofs.lemmas.List.{take_all}
use Rattle.ep_history.specs.Records.{told}
use Rattle.ep_history.specs.declared.record.Record.{Record}
use Rattle.ep_journal.specs.File.{is_foreign, records_of, stands_for}
use Rattle.ep_pad.specs.Opening.{IsFront}
use Rattle.ep_verify.specs.Verdicts.{Tells, no_limits}

-- a file that stands for records is a journal, and they are its records
pub record IsJournal (file : List ℕ) (records : List (List ℕ)) : Type 0 where
  pub own : is_foreign file ≡ false
  pub are : records_of file ≡ records

pub journal : (file : List ℕ) (records : List (List ℕ)) → stands_for file ≡ Some records → IsJournal file records
journal file records stands = go (is_foreign file) refl
  where
    go : (b : Bool) → is_foreign file ≡ b → IsJournal file records
    go true is = absurd (cc)
    go false is = record { own = is; are = cc }

-- all its records were read
pub tells-all : (file : List ℕ) (records : List (List ℕ)) (rs : List Record) → stands_for file ≡ Some records → IsFront no_limits file rs (length records) → Tells file (told no_limits rs)
tells-all file records rs stands front =
    let j = journal file records stands in
    let whole = ap (λ (l : List (List ℕ)). take (length records) l) j.are ∙ take_all (length records) records (omega arith) in
    record {
      records = rs;
      stands = record { bytes = stands ∙ ap (λ (l : List (List ℕ)). Some l) (sym (front.bytes ∙ whole)); records = front.records };
      legal = front.legal;
      are_told = refl;
    }
