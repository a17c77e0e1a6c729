-- What a crash leaves of a disk that was in sync before one call.
use Rattle.std.proofs.Common.{◌≡◌, ◌⊎◌, inl, inr, ⊎_elim, ℕ, ◌+◌, ◌-◌, ◌≤◌, ◌<◌, max, List, [], ◌∷◌, ◌++◌, length, get_or, take, drop, refl, sym, ◌∙◌, ap, subst, arith, Option, Some, None, Result, Ok, Err, length-append, length-drop}
use Rattle.std.proofs.lemmas.List.{get_or-take, get_or-drop, ext_get_or, length-take, take_all, get_or_append_left, get_or-append_right}
use Rattle.ep_outside.specs.Disk.{Contents, IsUntouched, MayLeave, IsImage, settled, wrote, written, shortened, Writes, Cuts, Syncs, ReadsAsLeft, Reaches}
use Rattle.ep_outside.specs.Images.{Torn, Front}
use Rattle.ep_outside.specs.declared.source.Failed.{Failed}

-- in sync, a crash leaves what a read gives
pub only_seen : (s c : List ℕ) → MayLeave (settled s) c → c ≡ s
only_seen s c m = ext_get_or 0 c s (omega arith) (λ i l. m.stays i l (omega arith) tt)

pub seen_image : (s : List ℕ) → MayLeave (settled s) s
seen_image s = record { no_shorter = omega arith; no_longer = omega arith; stays = λ i l k u. refl }

pub untorn : (at n : ℕ) (s c : List ℕ) → c ≡ s → Torn at n s c
untorn at n s c is = subst (λ (l : List ℕ). Torn at n s l) (sym is) (record { before = refl; after = refl; no_shorter = omega arith; no_longer = omega arith })

pub whole_front : (to : ℕ) (s c : List ℕ) → to ≤ length s → c ≡ s → Front to s c
whole_front to s c le is = subst (λ (l : List ℕ). Front to s l) (sym is) (record { no_shorter = le; no_longer = omega arith; front = sym (take_all (length s) s (omega arith)) })

pub only_told : (s c : List ℕ) (told : Option Contents) → told ≡ Some (settled s) → IsImage told c → c ≡ s
only_told s c told is image = only_seen s c (subst (λ (o : Option Contents). IsImage o c) is image)

pub torn : (s seen bytes c : List ℕ) (at : ℕ) → at ≤ length s → length s ≤ length seen → MayLeave (wrote (settled s) at bytes seen) c → Torn at (length bytes) s c
torn s seen bytes c at inside longer m = record {
  before = ext_get_or 0 (take at c) (take at s) (omega (arith, length-take at c, length-take at s)) (λ i l.
      let lt : i < at = omega (arith, length-take at c) in
      get_or-take at c i 0 lt ∙ m.stays i (omega arith) (omega arith) (inl lt, tt) ∙ sym (get_or-take at s i 0 lt));
  after = ext_get_or 0 (drop (at + length bytes) c) (drop (at + length bytes) s) (omega (arith, length-drop (at + length bytes) c, length-drop (at + length bytes) s)) (λ i l.
      let lt : (at + length bytes) + i < length c = omega (arith, length-drop (at + length bytes) c) in
      get_or-drop (at + length bytes) c i 0 ∙ m.stays (at + length bytes + i) lt (omega arith) (inr (omega arith), tt) ∙ sym (get_or-drop (at + length bytes) s i 0));
  no_shorter = omega arith;
  no_longer = omega arith;
}

length-written : (s bytes : List ℕ) (at : ℕ) → at ≤ length s → length s ≤ length (written s at bytes)
length-written s bytes at inside = omega (arith, length-take at s, length-append (take at s) bytes, length-append (take at s ++ bytes) (drop (at + length bytes) s), length-drop (at + length bytes) s)

-- after a write in sync, whether it succeeded or not
pub after_write : (s bytes : List ℕ) (at : ℕ) (old new : Option Contents) (r : Result (Unit {0}) Failed) → at ≤ length s → old ≡ Some (settled s) → Writes old new at bytes r → (c : List ℕ) → IsImage new c → Torn at (length bytes) s c
after_write s bytes at None new r inside is writes c image = absurd (cc)
after_write s bytes at (Some o) None r inside is writes c image = absurd writes
after_write s bytes at (Some o) (Some d) (Ok u) inside is writes c image =
    let same : o ≡ settled s = cc in
    let now : d ≡ wrote (settled s) at bytes (written s at bytes) = writes ∙ ap (λ (k : Contents). wrote k at bytes (written k.seen at bytes)) same in
    torn s (written s at bytes) bytes c at inside (length-written s bytes at inside) (subst (λ (k : Contents). MayLeave k c) now image)
after_write s bytes at (Some o) (Some d) (Err e) inside is (inl same) c image = untorn at (length bytes) s c (only_told s c (Some d) (ap (λ (k : Contents). Some k) same ∙ is) image)
after_write s bytes at (Some o) (Some d) (Err e) inside is (inr writes) c image =
    let same : o ≡ settled s = cc in
    let seen = writes.0 in
    let now : d ≡ wrote (settled s) at bytes seen = writes.1 ∙ ap (λ (k : Contents). wrote k at bytes seen) same in
    let left = subst (λ (k : Contents). MayLeave (wrote k at bytes (written k.seen at bytes)) seen) same writes.2 in
    let longer : length s ≤ length seen = omega (arith, left.no_shorter, length-written s bytes at inside) in
    torn s seen bytes c at inside longer (subst (λ (k : Contents). MayLeave k c) now image)

-- and what it holds where it succeeded
pub wrote_seen : (s bytes : List ℕ) (at : ℕ) (old new : Option Contents) (u : Unit {0}) → old ≡ Some (settled s) → Writes old new at bytes (Ok u) → new ≡ Some (wrote (settled s) at bytes (written s at bytes))
wrote_seen s bytes at None new u is writes = absurd (cc)
wrote_seen s bytes at (Some o) None u is writes = absurd writes
wrote_seen s bytes at (Some o) (Some d) u is writes =
    let same : o ≡ settled s = cc in
    ap (λ (k : Contents). Some k) (writes ∙ ap (λ (k : Contents). wrote k at bytes (written k.seen at bytes)) same)

pub after_sync : (o : Contents) (old new : Option Contents) (u : Unit {0}) → old ≡ Some o → Syncs old new (Ok u) → new ≡ Some (settled o.seen)
after_sync o None new u is syncs = absurd (cc)
after_sync o (Some p) None u is syncs = absurd syncs
after_sync o (Some p) (Some d) u is syncs = let same : p ≡ o = cc in ap (λ (k : Contents). Some k) (syncs ∙ ap (λ (k : Contents). settled k.seen) same)

pub failed_sync : (o : Contents) (old new : Option Contents) (e : Failed) → old ≡ Some o → Syncs old new (Err e) → new ≡ Some o
failed_sync o None new e is syncs = absurd (cc)
failed_sync o (Some p) None e is syncs = absurd syncs
failed_sync o (Some p) (Some d) e is syncs = ap (λ (k : Contents). Some k) syncs ∙ is

pub cut_front : (s seen c : List ℕ) (to : ℕ) → to ≤ length s → MayLeave (shortened (settled s) to seen) c → Front to s c
cut_front s seen c to inside m = record {
  no_shorter = omega arith;
  no_longer = omega arith;
  front = ext_get_or 0 c (take (length c) s) (omega (arith, length-take (length c) s)) (λ i l. m.stays i l (omega arith) tt ∙ sym (get_or-take (length c) s i 0 l));
}

pub after_cut : (s : List ℕ) (to : ℕ) (old new : Option Contents) (r : Result (Unit {0}) Failed) → to ≤ length s → old ≡ Some (settled s) → Cuts old new to r → (c : List ℕ) → IsImage new c → Front to s c
after_cut s to None new r inside is cuts c image = absurd (cc)
after_cut s to (Some o) None r inside is cuts c image = absurd cuts
after_cut s to (Some o) (Some d) (Ok u) inside is cuts c image =
    let same : o ≡ settled s = cc in
    let now : d ≡ shortened (settled s) to (take to s) = cuts ∙ ap (λ (k : Contents). shortened k to (take to k.seen)) same in
    cut_front s (take to s) c to inside (subst (λ (k : Contents). MayLeave k c) now image)
after_cut s to (Some o) (Some d) (Err e) inside is (inl same) c image = whole_front to s c inside (only_told s c (Some d) (ap (λ (k : Contents). Some k) same ∙ is) image)
after_cut s to (Some o) (Some d) (Err e) inside is (inr cuts) c image =
    let same : o ≡ settled s = cc in
    let n = cuts.0 in
    let now : d ≡ shortened (settled s) to (take n s) = cuts.2 ∙ ap (λ (k : Contents). shortened k to (take n k.seen)) same in
    cut_front s (take n s) c to inside (subst (λ (k : Contents). MayLeave k c) now image)

pub cut_seen : (s : List ℕ) (to : ℕ) (old new : Option Contents) (u : Unit {0}) → old ≡ Some (settled s) → Cuts old new to (Ok u) → new ≡ Some (shortened (settled s) to (take to s))
cut_seen s to None new u is cuts = absurd (cc)
cut_seen s to (Some o) None u is cuts = absurd cuts
cut_seen s to (Some o) (Some d) u is cuts =
    let same : o ≡ settled s = cc in
    ap (λ (k : Contents). Some k) (cuts ∙ ap (λ (k : Contents). shortened k to (take to k.seen)) same)

-- a sync leaves no new image
pub sync_images : (old new : Option Contents) (r : Result (Unit {0}) Failed) → ReadsAsLeft old → Syncs old new r → (c : List ℕ) → IsImage new c → IsImage old c
sync_images None None r left syncs c image = tt
sync_images None (Some d) r left syncs c image = tt
sync_images (Some o) None r left syncs c image = absurd syncs
sync_images (Some o) (Some d) (Ok u) left syncs c image = subst (λ (l : List ℕ). MayLeave o l) (sym (only_seen o.seen c (subst (λ (k : Contents). MayLeave k c) syncs image))) left
sync_images (Some o) (Some d) (Err e) left syncs c image = subst (λ (k : Contents). MayLeave k c) syncs image

-- bytes that are there stay there, and no call changes whether a disk tells
pub wrote_longer : (old new : Option Contents) (at : ℕ) (bytes : List ℕ) (u : Unit {0}) (n : ℕ) → Reaches old at → Writes old new at bytes (Ok u) → Reaches old n → Reaches new n
wrote_longer None None at bytes u n inside writes le = tt
wrote_longer None (Some d) at bytes u n inside writes le = absurd writes
wrote_longer (Some o) None at bytes u n inside writes le = absurd writes
wrote_longer (Some o) (Some d) at bytes u n inside writes le = omega (arith, ap (λ (k : Contents). length k.seen) writes, length-written o.seen bytes at inside)

pub sync_longer : (old new : Option Contents) (r : Result (Unit {0}) Failed) (n : ℕ) → Syncs old new r → Reaches old n → Reaches new n
sync_longer None None r n syncs le = tt
sync_longer None (Some d) r n syncs le = absurd syncs
sync_longer (Some o) None r n syncs le = absurd syncs
sync_longer (Some o) (Some d) (Ok u) n syncs le = omega (arith, ap (λ (k : Contents). length k.seen) syncs)
sync_longer (Some o) (Some d) (Err e) n syncs le = omega (arith, ap (λ (k : Contents). length k.seen) syncs)

pub wrote_tells : (old new : Option Contents) (at : ℕ) (bytes : List ℕ) (r : Result (Unit {0}) Failed) → old ≡ None → Writes old new at bytes r → new ≡ None
wrote_tells None None at bytes r is writes = refl
wrote_tells None (Some d) at bytes r is writes = absurd writes
wrote_tells (Some o) new at bytes r is writes = absurd (cc)

pub cut_tells : (old new : Option Contents) (to : ℕ) (r : Result (Unit {0}) Failed) → old ≡ None → Cuts old new to r → new ≡ None
cut_tells None None to r is cuts = refl
cut_tells None (Some d) to r is cuts = absurd cuts
cut_tells (Some o) new to r is cuts = absurd (cc)

pub sync_tells : (old new : Option Contents) (r : Result (Unit {0}) Failed) → old ≡ None → Syncs old new r → new ≡ None
sync_tells None None r is syncs = refl
sync_tells None (Some d) r is syncs = absurd syncs
sync_tells (Some o) new r is syncs = absurd (cc)

-- one range more
pub untouched_parts : (rs : List (ℕ × ℕ)) (r : ℕ × ℕ) (i : ℕ) → IsUntouched (rs ++ r ∷ []) i → IsUntouched rs i × ((i < r.0) ⊎ (r.1 ≤ i))
untouched_parts [] r i u = (tt, u.0)
untouched_parts (q ∷ rs) r i u = let rest = untouched_parts rs r i u.1 in ((u.0, rest.0), rest.1)

pub untouched_too : (rs : List (ℕ × ℕ)) (r : ℕ × ℕ) (i : ℕ) → IsUntouched rs i → (i < r.0) ⊎ (r.1 ≤ i) → IsUntouched (rs ++ r ∷ []) i
untouched_too [] r i u out = (out, tt)
untouched_too (q ∷ rs) r i u out = (u.0, untouched_too rs r i u.1 out)

-- what a read gives is an image after a write, and after a cut
pub written_image : (c : Contents) (at : ℕ) (bytes : List ℕ) → at ≤ length c.seen → MayLeave c c.seen → MayLeave (wrote c at bytes (written c.seen at bytes)) (written c.seen at bytes)
written_image c at bytes inside m =
    let n = length bytes in
    let front = take at c.seen in
    let back = drop (at + n) c.seen in
    let total : length (written c.seen at bytes) ≡ max (length c.seen) (at + n) = omega (arith, length-take at c.seen, length-append front bytes, length-append (front ++ bytes) back, length-drop (at + n) c.seen) in
    let before : (i : ℕ) → i < at → get_or (written c.seen at bytes) i 0 ≡ get_or c.seen i 0 = λ i lt.
    get_or_append_left (front ++ bytes) back 0 i (omega (arith, length-append front bytes, length-take at c.seen)) ∙ get_or_append_left front bytes 0 i (omega (arith, length-take at c.seen)) ∙ get_or-take at c.seen i 0 lt in
    let behind : (i : ℕ) → at + n ≤ i → get_or (written c.seen at bytes) i 0 ≡ get_or c.seen i 0 = λ i le.
    get_or-append_right (front ++ bytes) back (at + n) i 0 (omega (arith, length-append front bytes, length-take at c.seen)) le ∙ get_or-drop (at + n) c.seen (i - (at + n)) 0 ∙ (let e : at + n + (i - (at + n)) ≡ i = omega arith in ap (λ (k : ℕ). get_or c.seen k 0) e) in
    record {
      no_shorter = omega arith;
      no_longer = omega (arith, total, m.no_longer);
      stays = λ i l k u.
          let parts = untouched_parts c.ranges (at, at + n) i u in
          ⊎_elim (λ lt. before i lt ∙ m.stays i (omega arith) k parts.0) (λ le. behind i le ∙ m.stays i (omega (arith, total, le, l)) k parts.0) parts.1;
    }

pub cut_image : (c : Contents) (to : ℕ) → to ≤ length c.seen → MayLeave c c.seen → MayLeave (shortened c to (take to c.seen)) (take to c.seen)
cut_image c to inside m = record {
  no_shorter = omega (arith, length-take to c.seen);
  no_longer = omega (arith, length-take to c.seen, m.no_longer);
  stays = λ i l k u. get_or-take to c.seen i 0 (omega (arith, length-take to c.seen, l)) ∙ m.stays i (omega (arith, length-take to c.seen, l)) k u;
}
