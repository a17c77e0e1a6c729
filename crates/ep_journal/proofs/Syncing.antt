-- What stays synced where a write isn't.
use Rattle.std.proofs.Common.{◌≡◌, ⊎_elim, ℕ, List, sym, ◌∙◌, ap, Option, Some, None}
use Rattle.std.specs.Prelude.{Result, Ok, Err, OnErr}
use Rattle.ep_outside.specs.Disk.{Contents, settled, wrote, Writes, Cuts, Syncs}
use Rattle.ep_outside.specs.declared.source.Failed.{Failed}

abbrev synced_of : Contents → List ℕ
synced_of c = c.synced

pub write_keeps : (old new : Option Contents) (at : ℕ) (bytes : List ℕ) (r : Result (Unit {0}) Failed) (s : List ℕ) (d : Contents) → Writes old new at bytes r → old ≡ Some (settled s) → new ≡ Some d → d.synced ≡ s
write_keeps None new at bytes r s d w is now = absurd (cc)
write_keeps (Some c) None at bytes r s d w is now = absurd (cc)
write_keeps (Some c) (Some n) at bytes (Ok u) s d w is now =
    let a : c ≡ settled s = cc in
    let b : n ≡ d = cc in
    ap synced_of (sym b ∙ w) ∙ ap synced_of a
write_keeps (Some c) (Some n) at bytes (Err e) s d w is now =
    let a : c ≡ settled s = cc in
    let b : n ≡ d = cc in
    ap synced_of (sym b) ∙ ⊎_elim (λ same. ap synced_of same) (λ part. ap synced_of part.1) w ∙ ap synced_of a

pub put_keeps : (old mid new : Option Contents) (at : ℕ) (bytes : List ℕ) (w r : Result (Unit {0}) Failed) (s : List ℕ) (d : Contents) → Writes old mid at bytes w → Syncs mid new r → old ≡ Some (settled s) → new ≡ Some d → OnErr r (d.synced ≡ s)
put_keeps old mid new at bytes w (Ok u) s d writes syncs is now = tt
put_keeps old None new at bytes w (Err e) s d writes syncs is now = put_none old new at bytes w e s d writes syncs is now
  where
    put_none : (old new : Option Contents) (at : ℕ) (bytes : List ℕ) (w : Result (Unit {0}) Failed) (e : Failed) (s : List ℕ) (d : Contents) → Writes old None at bytes w → Syncs None new (Err e) → old ≡ Some (settled s) → new ≡ Some d → d.synced ≡ s
    put_none None new at bytes w e s d writes syncs is now = absurd (cc)
    put_none (Some c) new at bytes w e s d writes syncs is now = absurd writes
put_keeps old (Some m) None at bytes w (Err e) s d writes syncs is now = absurd (cc)
put_keeps old (Some m) (Some n) at bytes w (Err e) s d writes syncs is now =
    let b : n ≡ d = cc in
    write_keeps old (Some m) at bytes w s d writes is (ap (λ (k : Contents). Some k) (sym syncs ∙ b))

pub on_err : {T E : Type 0} (r : Result T E) (P Q : Type 0) → (P → Q) → OnErr r P → OnErr r Q
on_err (Ok u) P Q to so = tt
on_err (Err e) P Q to so = to so

pub on_err_of : {T E : Type 0} (r : Result T E) (P : Type 0) → P → OnErr r P
on_err_of (Ok u) P so = tt
on_err_of (Err e) P so = so

-- a disk that tells as before
pub same_synced : (told : Option Contents) (s : List ℕ) (d : Contents) → told ≡ Some (settled s) → told ≡ Some d → d.synced ≡ s
same_synced told s d is now = let e : d ≡ settled s = cc in ap synced_of e

pub same_contents : (told : Option Contents) (c d : Contents) → told ≡ Some c → told ≡ Some d → d.synced ≡ c.synced
same_contents told c d is now = let e : d ≡ c = cc in ap synced_of e

pub cut_keeps : (old new : Option Contents) (to : ℕ) (r : Result (Unit {0}) Failed) (s : List ℕ) (d : Contents) → Cuts old new to r → old ≡ Some (settled s) → new ≡ Some d → d.synced ≡ s
cut_keeps None new to r s d cuts is now = absurd (cc)
cut_keeps (Some c) None to r s d cuts is now = absurd (cc)
cut_keeps (Some c) (Some n) to (Ok u) s d cuts is now =
    let a : c ≡ settled s = cc in
    let b : n ≡ d = cc in
    ap synced_of (sym b ∙ cuts) ∙ ap synced_of a
cut_keeps (Some c) (Some n) to (Err e) s d cuts is now =
    let a : c ≡ settled s = cc in
    let b : n ≡ d = cc in
    ap synced_of (sym b) ∙ ⊎_elim (λ same. ap synced_of same) (λ part. ap synced_of part.2) cuts ∙ ap synced_of a

pub sync_keeps : (old new : Option Contents) (r : Result (Unit {0}) Failed) (c d : Contents) → Syncs old new r → old ≡ Some c → new ≡ Some d → OnErr r (d.synced ≡ c.synced)
sync_keeps old new (Ok u) c d syncs is now = tt
sync_keeps None new (Err e) c d syncs is now = absurd (cc)
sync_keeps (Some o) None (Err e) c d syncs is now = absurd (cc)
sync_keeps (Some o) (Some n) (Err e) c d syncs is now =
    let a : o ≡ c = cc in
    let b : n ≡ d = cc in
    ap synced_of (sym b ∙ syncs ∙ a)

pub clip_keeps : (old mid new : Option Contents) (to : ℕ) (w r : Result (Unit {0}) Failed) (s : List ℕ) (d : Contents) → Cuts old mid to w → Syncs mid new r → old ≡ Some (settled s) → new ≡ Some d → OnErr r (d.synced ≡ s)
clip_keeps old mid new to w (Ok u) s d cuts syncs is now = tt
clip_keeps old None None to w (Err e) s d cuts syncs is now = absurd (cc)
clip_keeps old None (Some n) to w (Err e) s d cuts syncs is now = absurd syncs
clip_keeps old (Some m) None to w (Err e) s d cuts syncs is now = absurd (cc)
clip_keeps old (Some m) (Some n) to w (Err e) s d cuts syncs is now =
    let b : n ≡ d = cc in
    cut_keeps old (Some m) to w s d cuts is (ap (λ (k : Contents). Some k) (sym syncs ∙ b))
