-- Visits of pads.
use Rattle.std.proofs.Common.{◌≡◌, ℕ, List, [], ◌∷◌, ◌++◌, All, map, refl, sym, ap, ◌∙◌, subst, inl, inr, Option, Result, Ok, Err}
use Rattle.std.proofs.lemmas.List.{append-nil, map-append}
use Rattle.std.proofs.lemmas.List.Elements.{All-push}
use Rattle.atomic_table.specs.Seated.{TableId}
use Rattle.ep_units.specs.Text.{Text}
use Rattle.ep_outside.specs.Disk.{Contents}
use Rattle.ep_outside.specs.declared.limits.Limits.{Limits}
use Rattle.ep_cell.specs.History.{pairs}
use Rattle.ep_cell.specs.Passes.{Known}
use Rattle.ep_history.specs.declared.pad_bad.PadBad.{PadBad}
use Rattle.ep_history.specs.declared.pad_bad.PadBad.TheVariants as pad
use Rattle.ep_pad.specs.declared.entries.PadEntry.{PadEntry}
use Rattle.ep_pad.specs.declared.entries.PadReply.{PadReply}
use Rattle.ep_pad.specs.declared.pass_bad.PassBad.{PassBad}
use Rattle.ep_pad.specs.declared.pass_bad.PassBad.TheVariants as pass
use Rattle.ep_pad.specs.Asking.{AsksOrLacks}
use Rattle.ep_pad.specs.declared.wanted.Wanted.{Wanted}
use Rattle.ep_pad.specs.Halls.{Answer, NotesOrNone}
use Rattle.ep_pad.specs.Lazy.{IsLegalFrom, Lazy}
use Rattle.ep_ask.specs.declared.bad.ApiBad.{ApiBad}
use Rattle.ep_ask.specs.declared.bad.ApiBad.TheVariants.{NoMemory}
use Rattle.ep_ask.specs.declared.param.Param.{Param}
use Rattle.ep_api.specs.Causes.{of_pad, of_pass, with_cause}
use Rattle.ep_api.specs.Tasks.{Answers, IsIdle, IsOut, IsRefused, Refused, Stayed, turned, visit}
use Rattle.ep_api.specs.Passes.{AtHall, Enters, IsLacking, IsToldAway, IsTurnedAway, Refuses, Stay, own, stay_of}
use Rattle.ep_api.specs.Legal.{Stands}
use Rattle.ep_api.proofs.Desks.{own-made}

-- what a hall has seen stays legal
pub legal_noted : (is_register : List (Wanted × Answer) → Type 0) (v w : Known Wanted Answer) (name : Wanted) (r : Answer)
    → NotesOrNone is_register v name r w → is_register (pairs v.seen) → is_register (pairs w.seen)
legal_noted is_register v w name r (inl notes) legal = notes.legal
legal_noted is_register v w name r (inr none) legal = let P : Known Wanted Answer → Type 0 = λ k. is_register (pairs k.seen) in subst P (sym none.1) legal

-- a pad was asked for, and this is the one more of the hall
pub own-noted : (is_register : List (Wanted × Answer) → Type 0) (v w : Known Wanted Answer) (name : Wanted) (cell : TableId)
    → NotesOrNone is_register v name (Ok cell) w → own w ≡ own v ++ (name, Ok cell) ∷ []
own-noted is_register v w name cell (inl notes) = own-made v w name (Ok cell) notes.number notes.own
own-noted is_register v w name cell (inr none) = cc

-- no pass was given
pub turned_away : (is_register : List (Wanted × Answer) → Type 0) (v w : Known Wanted Answer) (name : Wanted) (why : PassBad)
    → NotesOrNone is_register v name (Err why) w → IsTurnedAway v name why w
turned_away is_register v w name why (inl notes) = Refuses (own-made v w name (Err why) notes.number notes.own)
turned_away is_register v w name why (inr none) =
    let lacks : why ≡ pass.NoMemory = cc in
    IsLacking (ap (λ (k : Known Wanted Answer). own k) none.1) lacks

-- an absent pad is told as any refusal of a pass, where a refusal is only told by its cause
pub plain : {A : Type 0} (which : Param) (why : PassBad) → turned {A = A} (with_cause (of_pad which)) why ≡ Err (of_pass why)
plain which (pass.Pads n) = refl
plain which (pass.Shelf n) = refl
plain which pass.Absent = refl
plain which pass.NoMemory = refl

module _ {Pass : Type 0} (known : Pass → Known PadEntry PadReply) (name : Pass → Text) (cell : Pass → TableId) where
  abbrev stays : List Pass → List Stay
  stays xs = map (stay_of known name cell) xs

  -- no pass, and so no visit
  pub no_visit : {A : Type 0} (v w : Known Wanted Answer) (xs ys : List Pass) (id : Wanted) (e : PadEntry) (kind : Result A PadBad → PadReply) (judge : Result A PadBad → Result A ApiBad) (why : PassBad) (r : Result A ApiBad)
      → IsTurnedAway v id why w → ys ≡ xs → r ≡ turned judge why → AtHall v (stays xs) (visit id e kind judge) r w (stays ys)
  no_visit v w xs ys id e kind judge why r (Refuses hall) same is = λ desk t. record {
    log = Refused id why ∷ [];
    adds = record {
      desk = sym (append-nil desk);
      hall = hall;
      pads = ap stays same ∙ sym (append-nil (stays xs));
      draws = refl;
    };
    comes = IsRefused why refl is;
  }
  no_visit v w xs ys id e kind judge why r (IsLacking hall lacks) same is = λ desk t. record {
    log = [];
    adds = record {
      desk = sym (append-nil desk);
      hall = hall ∙ sym (append-nil (own v));
      pads = ap stays same ∙ sym (append-nil (stays xs));
      draws = refl;
    };
    comes = IsOut refl (is ∙ ap (turned judge) lacks);
  }

  pub not_visited : {A : Type 0} (v w : Known Wanted Answer) (xs ys : List Pass) (id : Wanted) (e : PadEntry) (kind : Result A PadBad → PadReply) (judge : Result A PadBad → Result A ApiBad) (told : ApiBad)
      → IsToldAway v id told w → ys ≡ xs → ((why : PassBad) → turned judge why ≡ Err (of_pass why)) → AtHall v (stays xs) (visit id e kind judge) (Err told) w (stays ys)
  not_visited v w xs ys id e kind judge told away same plain = no_visit v w xs ys id e kind judge away.0 (Err told) away.1 same (ap Err away.2 ∙ sym (plain away.0))

  stay-is : (s : Stay) (n : Text) (c : TableId) (calls : List (PadEntry × PadReply)) → s.name ≡ n → s.cell ≡ c → s.calls ≡ calls → s ≡ record { name = n; cell = c; calls = calls }
  stay-is s n c calls p q r =
      ap (λ (x : Text). let y : Stay = record { name = x; cell = s.cell; calls = s.calls } in y) p
      ∙ (ap (λ (x : TableId). let y : Stay = record { name = n; cell = x; calls = s.calls } in y) q
      ∙ ap (λ (x : List (PadEntry × PadReply)). let y : Stay = record { name = n; cell = c; calls = x } in y) r)

  -- one pass more was taken
  more : (xs mid ys : List Pass) (new : Pass) (s : Stay) → mid ≡ xs → ys ≡ mid ++ new ∷ [] → stay_of known name cell new ≡ s → stays ys ≡ stays xs ++ s ∷ []
  more xs mid ys new s same pushed is =
      ap stays pushed
      ∙ (map-append (stay_of known name cell) mid (new ∷ [])
      ∙ (ap (λ (l : List Pass). stays l ++ stay_of known name cell new ∷ []) same
      ∙ ap (λ (x : Stay). stays xs ++ x ∷ []) is))

  -- a pass, and its call
  pub visited : {A : Type 0} (Legal : List (PadEntry × PadReply) → Type 0) (v w : Known Wanted Answer) (xs mid ys : List Pass) (id : Wanted) (e : PadEntry) (kind : Result A PadBad → PadReply) (judge : Result A PadBad → Result A ApiBad)
      (old new : Pass) (x : Result A PadBad) (r : Result A ApiBad)
      → Enters v id (stay_of known name cell old) w → mid ≡ xs → (name new ≡ name old) × (cell new ≡ cell old)
      → AsksOrLacks Legal (known old) e kind x (known new) → ys ≡ mid ++ new ∷ [] → r ≡ judge x → judge (Err pad.NoMemory) ≡ Err NoMemory
      → AtHall v (stays xs) (visit id e kind judge) r w (stays ys)
  visited Legal v w xs mid ys id e kind judge old new x r enters same pad (inl asks) pushed is lacks = λ desk t. record {
    log = Stayed id (cell old) ((e, kind x) ∷ []) ∷ [];
    adds = record {
      desk = sym (append-nil desk);
      hall = enters.hall;
      pads = more xs mid ys new _ same pushed (stay-is (stay_of known name cell new) id.name (cell old) ((e, kind x) ∷ []) (pad.0 ∙ enters.name) pad.1
          (own-made (known old) (known new) e (kind x) asks.makes.number asks.makes.own ∙ ap (λ (l : List (PadEntry × PadReply)). l ++ (e, kind x) ∷ []) enters.none));
      draws = refl;
    };
    comes = Answers (cell old) x refl is;
  }
  visited Legal v w xs mid ys id e kind judge old new x r enters same pad (inr none) pushed is lacks = λ desk t. record {
    log = Stayed id (cell old) [] ∷ [];
    adds = record {
      desk = sym (append-nil desk);
      hall = enters.hall;
      pads = more xs mid ys new _ same pushed (stay-is (stay_of known name cell new) id.name (cell old) [] (pad.0 ∙ enters.name) pad.1
          (ap (λ (k : Known PadEntry PadReply). own k) none.1 ∙ enters.none));
      draws = refl;
    };
    comes = IsIdle (cell old) refl (is ∙ (ap judge none.0 ∙ lacks));
  }

-- what a pass has seen stays legal
legal_after : {A : Type 0} (Legal : List (PadEntry × PadReply) → Type 0) (v w : Known PadEntry PadReply) (e : PadEntry) (kind : Result A PadBad → PadReply) (x : Result A PadBad)
    → AsksOrLacks Legal v e kind x w → Legal (pairs v.seen) → Legal (pairs w.seen)
legal_after Legal v w e kind x (inl asks) legal = asks.legal
legal_after Legal v w e kind x (inr none) legal = let P : Known PadEntry PadReply → Type 0 = λ k. Legal (pairs k.seen) in subst P (sym none.1) legal

pub stand_same : {D Pass : Type 0} (limits : Limits) (told : D → Option Contents) (failures : D → ℕ) (begun : Pass → Lazy D) (is_of : Pass → Type 0) (known : Pass → Known PadEntry PadReply) (xs ys : List Pass)
    → All (Stands is_of limits told failures begun known) xs → ys ≡ xs → All (Stands is_of limits told failures begun known) ys
stand_same {Pass = Pass} limits told failures begun is_of known xs ys all same =
    let P : List Pass → Type 0 = λ l. All (Stands is_of limits told failures begun known) l in
    subst P (sym same) all

-- the passes that were taken still stand
pub stand_after : {A D Pass : Type 0} (limits : Limits) (told : D → Option Contents) (failures : D → ℕ) (begun : Pass → Lazy D) (is_of : Pass → Type 0) (known : Pass → Known PadEntry PadReply) (xs mid ys : List Pass) (e : PadEntry) (kind : Result A PadBad → PadReply) (old new : Pass) (x : Result A PadBad)
    → All (Stands is_of limits told failures begun known) xs → mid ≡ xs → Stands is_of limits told failures begun known old → is_of new → begun new ≡ begun old → AsksOrLacks (IsLegalFrom told failures (begun old)) (known old) e kind x (known new) → ys ≡ mid ++ new ∷ []
    → All (Stands is_of limits told failures begun known) ys
stand_after {Pass = Pass} limits told failures begun is_of known xs mid ys e kind old new x all same stands of stays asks pushed =
    let P : List Pass → Type 0 = λ l. All (Stands is_of limits told failures begun known) l in
    subst P (sym pushed) (All-push (Stands is_of limits told failures begun known) mid new (subst P (sym same) all)
    (record {
      of = of;
      held = ap (λ b. b.limits) stays ∙ stands.held;
      legal = subst (λ b. IsLegalFrom told failures b (pairs (known new).seen)) (sym stays) (legal_after (IsLegalFrom told failures (begun old)) (known old) (known new) e kind x asks stands.legal);
    }))
