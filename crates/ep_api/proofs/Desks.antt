-- Calls of the directory.
use Rattle.std.proofs.Common.{◌≡◌, ℕ, Bool, List, [], ◌∷◌, ◌++◌, refl, sym, ap, ◌∙◌, subst, inl, inr, Option, Result, Ok, Err}
use Rattle.std.proofs.lemmas.List.{append-nil, map-append}
use Rattle.ep_cell.specs.History.{pairs, calls_by, call}
use Rattle.ep_cell.specs.Passes.{Known}
use Rattle.ep_dir_records.specs.declared.ids.Drawn.{Drawn}
use Rattle.ep_dir_records.specs.declared.dir_bad.DirBad.{DirBad}
use Rattle.ep_groups.specs.declared.entries.DirEntry.{DirEntry}
use Rattle.ep_groups.specs.declared.entries.DirReply.{DirReply}
use Rattle.ep_groups.specs.Asking.{AsksOrLacks}
use Rattle.ep_groups.specs.History.{IsLegal}
use Rattle.ep_dir_records.specs.Answers.{Seen}
use Rattle.ep_pad.specs.declared.wanted.Wanted.{Wanted}
use Rattle.ep_pad.specs.Halls.{Answer}
use Rattle.ep_ask.specs.declared.bad.ApiBad.{ApiBad}
use Rattle.ep_api.specs.Causes.{of_dir, with_cause}
use Rattle.ep_api.specs.Tasks.{Asked, Task, Replies, Lacks, ◌>>=◌, ask, draw}
use Rattle.ep_api.specs.Passes.{AtDesk, ByDraws, Does, Stay, own, seen}
use Rattle.ep_api.specs.Legal.{Sits}
use Rattle.ep_api.proofs.Doing.{ends, goes, stops}

-- a call is the one more of its pass
pub own-made : {E R : Type 0} (v w : Known E R) (e : E) (r : R) → w.number ≡ v.number → calls_by v.number w.seen ≡ calls_by v.number v.seen ++ call v.number e r ∷ [] → own w ≡ own v ++ (e, r) ∷ []
own-made v w e r number made = rw (number, made) (map-append _ (calls_by v.number v.seen) (call v.number e r ∷ []))

module _ (Legal : List (DirEntry × DirReply) → Type 0) where
  -- one call
  pub asked_once : {A : Type 0} (v w : Known DirEntry DirReply) (e : DirEntry) (kind : Result A DirBad → DirReply) (x : Result A DirBad) (r : Result A ApiBad) (t : Option (List ℕ))
      → AsksOrLacks Legal v e kind x w → r ≡ with_cause of_dir x → AtDesk v t (ask e kind) r w t
  asked_once v w e kind x r t (inl asks) is = λ hall pads. record {
    log = Asked e (kind x) ∷ [];
    adds = record {
      desk = own-made v w e (kind x) asks.makes.number asks.makes.own;
      hall = sym (append-nil hall);
      pads = sym (append-nil pads);
      draws = refl;
    };
    comes = Replies x refl is;
  }
  asked_once v w e kind x r t (inr none) is = λ hall pads. record {
    log = [];
    adds = record {
      desk = ap (λ (k : Known DirEntry DirReply). own k) none.1 ∙ sym (append-nil (own v));
      hall = sym (append-nil hall);
      pads = sym (append-nil pads);
      draws = refl;
    };
    comes = Lacks refl (is ∙ ap (with_cause of_dir) none.0);
  }

  -- a call that was answered, and nothing more behind it
  pub asked_ok : {A B : Type 0} (v w : Known DirEntry DirReply) (e : DirEntry) (kind : Result A DirBad → DirReply) (f : A → Task B) (x : A) (r : Result B ApiBad) (t : Option (List ℕ))
      → AsksOrLacks Legal v e kind (Ok x) w → f x [] r → AtDesk v t (ask e kind >>= f) r w t
  asked_ok v w e kind f x r t asks next = λ hall pads. ends _ _ (ask e kind) f x r (asked_once v w e kind (Ok x) (Ok x) t asks refl hall pads) next

  -- a call that was refused
  pub asked_err : {A B : Type 0} (v w : Known DirEntry DirReply) (e : DirEntry) (kind : Result A DirBad → DirReply) (f : A → Task B) (why : DirBad) (told : ApiBad) (t : Option (List ℕ))
      → AsksOrLacks Legal v e kind (Err why) w → told ≡ of_dir why → AtDesk v t (ask e kind >>= f) (Err told) w t
  asked_err v w e kind f why told t asks is = λ hall pads. stops _ _ (ask e kind) f told (asked_once v w e kind (Err why) (Err told) t asks (ap Err is) hall pads)

  -- the same call
  pub asks_same : {A : Type 0} (v w : Known DirEntry DirReply) (e other : DirEntry) (kind : Result A DirBad → DirReply) (x : Result A DirBad) → other ≡ e → AsksOrLacks Legal v other kind x w → AsksOrLacks Legal v e kind x w
  asks_same v w e other kind x is asks = let P : DirEntry → Type 0 = λ y. AsksOrLacks Legal v y kind x w in subst P is asks

  -- the history stays legal
  pub legal_after : {A : Type 0} (v w : Known DirEntry DirReply) (e : DirEntry) (kind : Result A DirBad → DirReply) (r : Result A DirBad)
      → AsksOrLacks Legal v e kind r w → Legal (pairs v.seen) → Legal (pairs w.seen)
  legal_after v w e kind r (inl asks) legal = asks.legal
  legal_after v w e kind r (inr none) legal = let P : Known DirEntry DirReply → Type 0 = λ k. Legal (pairs k.seen) in subst P (sym none.1) legal

-- a pass still sits at the desk
pub sits_after : {A Pass K : Type 0} (tells : K → Bool) (first : Seen) (is_of : Pass → Type 0) (known : Pass → Known DirEntry DirReply) (old new : Pass) (e : DirEntry) (kind : Result A DirBad → DirReply) (r : Result A DirBad)
    → Sits is_of tells first known old → is_of new → AsksOrLacks (IsLegal tells first) (known old) e kind r (known new) → Sits is_of tells first known new
sits_after tells first is_of known old new e kind r sits of asks = record { of = of; legal = legal_after (IsLegal tells first) (known old) (known new) e kind r asks sits.legal }

-- draws before it
pub drawn_first : {B : Type 0} (v w : List (DirEntry × DirReply)) (d : Drawn) (f : Drawn → Task B) (r : Result B ApiBad) (t u x : Option (List ℕ))
    → ByDraws t draw (Ok d) u → ((hall : List (Wanted × Answer)) (pads : List Stay) → Does (seen v hall pads u) (f d) r (seen w hall pads x))
    → (hall : List (Wanted × Answer)) (pads : List Stay) → Does (seen v hall pads t) (draw >>= f) r (seen w hall pads x)
drawn_first v w d f r t u x drew next = λ hall pads. goes _ _ _ draw f d r (drew v hall pads) (next hall pads)
