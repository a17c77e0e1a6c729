-- What a pass made, by what its calls say.
use Rattle.std.proofs.Common.{◌≡◌, List, [], ◌∷◌, ◌++◌, Option, Some, None, refl, sym, ap, ◌∙◌, subst, append_assoc, append-nil, inl, inr, rules}
use Rattle.std.specs.Prelude.{Result, Ok, Err, ℕ, ◌⊎◌}
use Rattle.atomic_table.specs.Seated.{TableId}
use Rattle.ep_cell.specs.declared.view.Call.{Call}
use Rattle.ep_cell.specs.History.{call, calls_by, pairs}
use Rattle.ep_cell.specs.Passes.{Known, IsFresh, Makes}
use Rattle.ep_dir_records.specs.declared.dir_bad.DirBad.{DirBad}
use Rattle.ep_dir_records.specs.declared.dir_bad.DirBad.TheVariants as dirbad
use Rattle.ep_groups.specs.declared.entries.DirEntry.{DirEntry}
use Rattle.ep_groups.specs.declared.entries.DirReply.{DirReply}
use Rattle.ep_groups.specs.Asking.{Asks as DirAsks, AsksOrLacks as DirAsksOrLacks}
use Rattle.ep_outside.specs.Disk.{Contents}
use Rattle.ep_history.specs.declared.pad_bad.PadBad.{PadBad}
use Rattle.ep_history.specs.declared.pad_bad.PadBad.TheVariants as bad
use Rattle.ep_pad.specs.Asking.{Asks, AsksOrLacks}
use Rattle.ep_pad.specs.Lazy.{IsLegalFrom, Lazy}
use Rattle.ep_pad.specs.declared.wanted.Wanted.{Wanted}
use Rattle.ep_pad.specs.Halls.{Answer, Notes, NotesOrNone}
use Rattle.ep_pad.specs.declared.entries.PadEntry.{PadEntry}
use Rattle.ep_pad.specs.declared.entries.PadReply.{PadReply}
use Rattle.ep_session.specs.Passing.{Goes, own}

module _ {E R : Type 0} where
  pairs_on : (xs ys : List (Call E R)) → pairs (xs ++ ys) ≡ pairs xs ++ pairs ys
  pairs_on [] ys = refl
  pairs_on (x ∷ xs) ys = ap (λ l. (x.entry, x.reply) ∷ l) (pairs_on xs ys)

  -- a pass that made one call more
  one_more : (u v : Known E R) (e : E) (r : R) → v.number ≡ u.number → calls_by u.number v.seen ≡ calls_by u.number u.seen ++ call u.number e r ∷ [] → own v ≡ own u ++ (e, r) ∷ []
  one_more u v e r number more = ap (λ n. pairs (calls_by n v.seen)) number ∙ ap pairs more ∙ pairs_on (calls_by u.number u.seen) (call u.number e r ∷ [])

  pub goes_of : (u v : Known E R) (e : E) (r : R) → Makes u e r v → Goes u v ((e, r) ∷ [])
  goes_of u v e r m = record {
    number = m.number;
    between = m.extends.0 ++ call u.number e r ∷ [];
    seen = m.extends.1 ∙ append_assoc u.seen m.extends.0 (call u.number e r ∷ []);
    made = one_more u v e r m.number m.own;
  }

  pub goes_nowhere : (v : Known E R) → Goes v v []
  goes_nowhere v = record { number = refl; between = []; seen = sym (append-nil v.seen); made = sym (append-nil (own v)) }

  pub goes_on : (u v w : Known E R) (a b : List (E × R)) → Goes u v a → Goes v w b → Goes u w (a ++ b)
  goes_on u v w a b g h = record {
    number = h.number ∙ g.number;
    between = g.between ++ h.between;
    seen = h.seen ∙ ap (λ t. t ++ h.between) g.seen ∙ append_assoc u.seen g.between h.between;
    made = h.made ∙ ap (λ t. t ++ b) g.made ∙ append_assoc (own u) a b;
  }

  pub fresh_own : (v : Known E R) → IsFresh v → own v ≡ []
  fresh_own v fresh = ap pairs fresh.none

  pub first_made : (u v : Known E R) (calls : List (E × R)) → own u ≡ [] → Goes u v calls → own v ≡ calls
  first_made u v calls none goes = goes.made ∙ ap (λ l. l ++ calls) none

  pub same_goes : (u v : Known E R) → v ≡ u → Goes u v []
  same_goes u v same = subst (λ w. Goes u w []) (sym same) (goes_nowhere u)

not_ok : {X E : Type 0} (x : X) (e : E) → Ok x ≡ Err e → ⊥
not_ok x e h = search rules

pub same_err : {X E : Type 0} (r : Result X E) (d e : E) → r ≡ Err d → r ≡ Err e → d ≡ e
same_err r d e h k = cc

-- a call of a pad that was answered was made
pub answered : {A : Type 0} (Legal : List (PadEntry × PadReply) → Type 0) (u v : Known PadEntry PadReply) (e : PadEntry) (kind : Result A PadBad → PadReply) (r : Result A PadBad) (x : A) → AsksOrLacks Legal u e kind r v → r ≡ Ok x → Goes u v ((e, kind r) ∷ [])
answered Legal u v e kind r x (inl asks) is = goes_of u v e (kind r) asks.makes
answered Legal u v e kind r x (inr (short, same)) is = absurd (not_ok x bad.NoMemory (sym is ∙ short))

-- a call of the directory too
pub desk_answered : {A : Type 0} (Legal : List (DirEntry × DirReply) → Type 0) (u v : Known DirEntry DirReply) (e : DirEntry) (kind : Result A DirBad → DirReply) (r : Result A DirBad) (x : A) → DirAsksOrLacks Legal u e kind r v → r ≡ Ok x → Goes u v ((e, kind r) ∷ [])
desk_answered Legal u v e kind r x (inl asks) is = goes_of u v e (kind r) asks.makes
desk_answered Legal u v e kind r x (inr (short, same)) is = absurd (not_ok x dirbad.NoMemory (sym is ∙ short))

-- a refusal of a pad: the call was made, or memory ran out before it
pub refused : {A : Type 0} (Legal : List (PadEntry × PadReply) → Type 0) (u v : Known PadEntry PadReply) (e : PadEntry) (kind : Result A PadBad → PadReply) (r : Result A PadBad) (b : PadBad) → AsksOrLacks Legal u e kind r v → r ≡ Err b → Goes u v ((e, kind r) ∷ []) ⊎ ((b ≡ bad.NoMemory) × Goes u v [])
refused Legal u v e kind r b (inl asks) is = inl (goes_of u v e (kind r) asks.makes)
refused Legal u v e kind r b (inr (short, same)) is = inr (same_err r b bad.NoMemory is short, same_goes u v same)

pub desk_refused : {A : Type 0} (Legal : List (DirEntry × DirReply) → Type 0) (u v : Known DirEntry DirReply) (e : DirEntry) (kind : Result A DirBad → DirReply) (r : Result A DirBad) (b : DirBad) → DirAsksOrLacks Legal u e kind r v → r ≡ Err b → Goes u v ((e, kind r) ∷ []) ⊎ ((b ≡ dirbad.NoMemory) × Goes u v [])
desk_refused Legal u v e kind r b (inl asks) is = inl (goes_of u v e (kind r) asks.makes)
desk_refused Legal u v e kind r b (inr (short, same)) is = inr (same_err r b dirbad.NoMemory is short, same_goes u v same)

-- what a pass of the directory has seen stays legal
pub desk_legal : {A : Type 0} (Legal : List (DirEntry × DirReply) → Type 0) (u v : Known DirEntry DirReply) (e : DirEntry) (kind : Result A DirBad → DirReply) (r : Result A DirBad) → DirAsksOrLacks Legal u e kind r v → Legal (pairs u.seen) → Legal (pairs v.seen)
desk_legal Legal u v e kind r (inl asks) legal = asks.legal
desk_legal Legal u v e kind r (inr (short, same)) legal = subst (λ (w : Known DirEntry DirReply). Legal (pairs w.seen)) (sym same) legal

-- a call of a hall was made
pub noted : (Legal : List (Wanted × Answer) → Type 0) (u v : Known Wanted Answer) (name : Wanted) (r : Answer) → Notes Legal u name r v → own v ≡ own u ++ (name, r) ∷ []
noted Legal u v name r n = one_more u v name r n.number n.own

-- a history that was legal is legal behind a call, or where memory ran out before it
pub asked_legal : {D A : Type 0} (told_by : D → Option Contents) (failures : D → ℕ) (begun now : Lazy D) (v : Known PadEntry PadReply) (e : PadEntry) (kind : Result A PadBad → PadReply) (r : Result A PadBad) (w : Known PadEntry PadReply)
    → now ≡ begun → AsksOrLacks (IsLegalFrom told_by failures begun) v e kind r w → IsLegalFrom told_by failures begun (pairs v.seen) → IsLegalFrom told_by failures now (pairs w.seen)
asked_legal told_by failures begun now v e kind r w same (inl a) h = subst (λ b. IsLegalFrom told_by failures b (pairs w.seen)) (sym same) a.legal
asked_legal told_by failures begun now v e kind r w same (inr x) h = subst (λ b. IsLegalFrom told_by failures b (pairs w.seen)) (sym same) (subst (λ (u : Known PadEntry PadReply). IsLegalFrom told_by failures begun (pairs u.seen)) (sym x.1) h)

-- what is legal behind a machine is so behind the same one
pub legal_on : {D : Type 0} {told : D → Option Contents} {failures : D → ℕ} {old new : Lazy D} (h : List (PadEntry × PadReply)) → new ≡ old → IsLegalFrom told failures old h → IsLegalFrom told failures new h
legal_on {told = told} {failures = failures} h same legal = subst (λ m. IsLegalFrom told failures m h) (sym same) legal
