-- How the record of past moments goes on.
use Rattle.std.proofs.Common.{◌≡◌, inl, inr, ⊎_elim, ℕ, zero, suc, ◌+◌, ◌≤◌, ◌⊎◌, List, [], ◌∷◌, ◌++◌, length, drop, refl, sym, ap, subst, arith, length-append, Bool, true, false, Some}
use Rattle.std.specs.declared.snapshot.Snapshot.{Snapshot}
use Rattle.ep_disk_mem.specs.declared.held.Held.{Held}
use Rattle.ep_outside.specs.Disk.{Contents, MayLeave, Moves, settled}
use Rattle.ep_outside.specs.Crash.{Restarts, IsAsked, IsTorn}
use Rattle.ep_outside.specs.declared.image.Image.{Image}
use Rattle.ep_outside.specs.declared.image.Image.TheVariants.{Old, New, Torn}
use Rattle.ep_outside.proofs.Images.{seen_image}
use Rattle.ep_disk_mem.specs.Held.{contents_of, HadImage, Since, HasSpace}

abbrev Past : Type 0
Past = List (Snapshot Held)

keeps : (past : Past) (s : Snapshot Held) (c : List ℕ) → HadImage past c → HadImage (past ++ s ∷ []) c
keeps [] s c had = absurd had
keeps (p ∷ past) s c (inl here) = inl here
keeps (p ∷ past) s c (inr there) = inr (keeps past s c there)

adds : (past : Past) (s : Snapshot Held) (c : List ℕ) → HadImage (past ++ s ∷ []) c → HadImage past c ⊎ MayLeave (contents_of s.value) c
adds [] s c (inl here) = inr here
adds [] s c (inr none) = absurd none
adds (p ∷ past) s c (inl here) = inl (inl here)
adds (p ∷ past) s c (inr there) = ⊎_elim (λ had. inl (inr had)) (λ new. inr new) (adds past s c there)

newest : (past : Past) (s : Snapshot Held) (c : List ℕ) → MayLeave (contents_of s.value) c → HadImage (past ++ s ∷ []) c
newest [] s c is = inl is
newest (p ∷ past) s c is = inr (newest past s c is)

drop_push : (t : ℕ) (past : Past) (s : Snapshot Held) → t ≤ length past → drop t (past ++ s ∷ []) ≡ drop t past ++ s ∷ []
drop_push zero past s le = refl
drop_push (suc t) [] s le = absurd (omega arith)
drop_push (suc t) (p ∷ past) s le = drop_push t past s (omega arith)

pub moves_same : (past : Past) (held : Held) → Moves (length past) (length past) (Since past held) (Since past held) (Some (contents_of held))
moves_same past held = record { later = omega arith; nothing_else = λ t c le left. inl left; keeps = λ t c le left. left }

moves_push : (past : Past) (s : Snapshot Held) (old new : Held) → s.value ≡ old → Moves (length past) (length (past ++ s ∷ [])) (Since past old) (Since (past ++ s ∷ []) new) (Some (contents_of new))
moves_push past s old new is = record {
  later = omega (arith, length-append past (s ∷ []));
  nothing_else = λ t c le left. ⊎_elim (λ now. inr now) (λ had. inl (was t c (adds (drop t past) s c (subst (λ (l : Past). HadImage l c) (drop_push t past s le) had)))) left;
  keeps = λ t c le left. inr (subst (λ (l : Past). HadImage l c) (sym (drop_push t past s le)) (⊎_elim (λ now. newest (drop t past) s c (subst (λ (i : Held). MayLeave (contents_of i) c) (sym is) now)) (keeps (drop t past) s c) left));
}
  where
    was : (t : ℕ) (c : List ℕ) → HadImage (drop t past) c ⊎ MayLeave (contents_of s.value) c → Since past old t c
    was t c (inl had) = inr had
    was t c (inr new) = inl (subst (λ (i : Held). MayLeave (contents_of i) c) is new)

pub moves_to : (past later : Past) (s : Snapshot Held) (old new : Held) → s.value ≡ old → later ≡ past ++ s ∷ [] → Moves (length past) (length later) (Since past old) (Since later new) (Some (contents_of new))
moves_to past later s old new is same =
    subst (λ (l : Past). Moves (length past) (length l) (Since past old) (Since l new) (Some (contents_of new))) (sym same) (moves_push past s old new is)

pub room_at : (i : Held) (calls more calls_2 more_2 : ℕ) → calls ≡ calls_2 → more ≡ more_2 → HasSpace i calls more → HasSpace i calls_2 more_2
room_at i calls more calls_2 more_2 a b r = subst (λ (n : ℕ). HasSpace i n more_2) a (subst (λ (n : ℕ). HasSpace i calls n) b r)

-- a disk with room for a call has a place for the moment
pub slot : (fresh : Bool) (len calls cap : ℕ) → (fresh ≡ false → len + calls + 1 ≤ cap) → (fresh ≡ true → calls ≡ 0) → 1 ≤ calls → (fresh ≡ false) × (len + calls + 1 ≤ cap)
slot false len calls cap room none some = (refl, room refl)
slot true len calls cap room none some = absurd (omega (arith, none refl))

pub fresh_restarts : (i : Held) (asked : Image) → contents_of i ≡ settled i.bytes.items → Restarts (Some (contents_of i)) (Some (contents_of i)) asked
fresh_restarts i asked is = (i.bytes.items, asks asked, is)
  where
    asks : (asked : Image) → IsAsked (contents_of i) asked i.bytes.items
    asks Old = sym (ap (λ (c : Contents). c.synced) is)
    asks New = refl
    asks (Torn n fill) = subst (λ (c : Contents). IsTorn c n fill.items i.bytes.items) (sym is) (record {
      size = omega arith;
      filled = λ k l t. ⊎_elim (λ (touched : ⊥). absurd touched) (λ past. absurd (omega arith)) t;
      allowed = seen_image i.bytes.items;
    })
