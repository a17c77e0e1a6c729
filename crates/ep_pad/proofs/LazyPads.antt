-- A pad that is opened by its first call goes on.
use Rattle.std.proofs.Common.{◌≡◌, ◌∙◌, ℕ, List, [], ◌∷◌, ◌++◌, Option, Some, None, Err, ap, append_assoc, refl, sym, subst}
use Rattle.std.proofs.lemmas.List.Elements.{All-append, All-cons, All-nil}
use Rattle.ep_outside.specs.Disk.{Contents}
use Rattle.ep_outside.specs.declared.limits.Limits.{Limits}
use Rattle.ep_pad.specs.Held.{Held}
use Rattle.ep_history.specs.declared.pad_bad.PadBad.{PadBad}
use Rattle.ep_pad.specs.Entries.{Suits, reply_of}
use Rattle.ep_pad.specs.Histories.{AllSuit, HasMade}
use Rattle.ep_pad.specs.Lazy.{AreRefused, HasCalled, HasCalledSince, IsLegalFrom, IsOpenThen, IsOpenedOn, IsRefusedAt, IsShutThen, Lazy}
use Rattle.ep_pad.specs.declared.entries.PadEntry.{PadEntry}
use Rattle.ep_pad.specs.declared.entries.PadReply.{PadReply}

held_or : {A : Type 0} → A → Option A → A
held_or x None = x
held_or x (Some y) = y

some_same : {A : Type 0} (x y : A) → Some x ≡ Some y → x ≡ y
unfolding held_or
some_same x y e = ap (held_or x) e

module _ {D : Type 0} (told_by : D → Option Contents) (failures : D → ℕ) where
  refused_more : (within : Limits) (disk mid back : D) (h : List (PadEntry × PadReply)) (e : PadEntry) (r : PadReply)
      → AreRefused told_by failures within disk h mid → IsRefusedAt told_by failures within mid e r back → AreRefused told_by failures within disk (h ++ (e, r) ∷ []) back
  refused_more within disk mid back [] e r are at = (back, subst (λ d. IsRefusedAt told_by failures within d e r back) are at, refl)
  refused_more within disk mid back (c ∷ cs) e r are at = (are.0, are.1, refused_more within are.0 mid back cs e r are.2 at)

  -- the pad is this now, of which the disk and the machine are told
  now_is : (begun old new : Lazy D) (disk : Option D) (machine : Option (Held D)) (h g : List (PadEntry × PadReply)) (s : HasCalledSince told_by failures begun old h)
      → new.limits ≡ old.limits → new.disk ≡ disk → new.machine ≡ machine → HasCalled told_by failures begun.limits s.0 disk machine g → HasCalledSince told_by failures begun new g
  now_is begun old new disk machine h g s limits of by called = (
    s.0,
    s.1,
    limits ∙ s.2,
    subst (λ d. HasCalled told_by failures begun.limits s.0 d new.machine g) (sym of) (subst (λ m. HasCalled told_by failures begun.limits s.0 disk m g) (sym by) called),
  )

  -- a call was refused, as the disk was
  pub stays_shut : (begun old new : Lazy D) (e : PadEntry) (r : PadReply) (h : List (PadEntry × PadReply)) (mid back : D) → HasCalledSince told_by failures begun old h
      → old.disk ≡ Some mid → new.limits ≡ old.limits → new.disk ≡ Some back → new.machine ≡ old.machine → IsRefusedAt told_by failures old.limits mid e r back
      → HasCalledSince told_by failures begun new (h ++ (e, r) ∷ [])
  stays_shut begun old new e r h mid back s was limits of by at =
      now_is begun old new (Some back) old.machine h (h ++ (e, r) ∷ []) s limits of by
      (go old.machine (subst (λ d. HasCalled told_by failures begun.limits s.0 d old.machine h) was s.3))
    where
      go : (m : Option (Held D)) → HasCalled told_by failures begun.limits s.0 (Some mid) m h → HasCalled told_by failures begun.limits s.0 (Some back) m (h ++ (e, r) ∷ [])
      go None are = refused_more begun.limits s.0 mid back h e r are (subst (λ (l : Limits). IsRefusedAt told_by failures l mid e r back) s.2 at)
      go (Some m) never = absurd never

  -- it was opened, and its machine made the call
  pub opens : (begun old new : Lazy D) (e : PadEntry) (r : PadReply) (h : List (PadEntry × PadReply)) (mid : D) (first m : Held D) → HasCalledSince told_by failures begun old h
      → old.disk ≡ Some mid → new.limits ≡ old.limits → new.disk ≡ None → new.machine ≡ Some m → IsOpenedOn told_by failures old.limits mid first
      → HasMade told_by failures first m ((e, r) ∷ []) → HasCalledSince told_by failures begun new (h ++ (e, r) ∷ [])
  opens begun old new e r h mid first m s was limits of by opened made =
      now_is begun old new None (Some m) h (h ++ (e, r) ∷ []) s limits of by
      (go old.machine (subst (λ d. HasCalled told_by failures begun.limits s.0 d old.machine h) was s.3))
    where
      go : (o : Option (Held D)) → HasCalled told_by failures begun.limits s.0 (Some mid) o h → HasCalled told_by failures begun.limits s.0 None (Some m) (h ++ (e, r) ∷ [])
      go None are = (
        first,
        (e, r) ∷ [],
        record {
          refused = h;
          are = refl;
          back = mid;
          left = are;
          opens = subst (λ (l : Limits). IsOpenedOn told_by failures l mid first) s.2 opened;
        },
        made,
      )
      go (Some o) never = absurd never

  -- its machine, which was open, made the call
  pub goes_on : (begun old new : Lazy D) (e : PadEntry) (r : PadReply) (h : List (PadEntry × PadReply)) (was m : Held D) → HasCalledSince told_by failures begun old h
      → old.disk ≡ None → old.machine ≡ Some was → new.limits ≡ old.limits → new.disk ≡ None → new.machine ≡ Some m
      → ((first : Held D) (g : List (PadEntry × PadReply)) → HasMade told_by failures first was g → HasMade told_by failures first m (g ++ (e, r) ∷ []))
      → HasCalledSince told_by failures begun new (h ++ (e, r) ∷ [])
  goes_on begun old new e r h was m s shut has limits of by makes =
      now_is begun old new None (Some m) h (h ++ (e, r) ∷ []) s limits of by
      (go (subst (λ o. HasCalled told_by failures begun.limits s.0 None o h) has (subst (λ d. HasCalled told_by failures begun.limits s.0 d old.machine h) shut s.3)))
    where
      go : HasCalled told_by failures begun.limits s.0 None (Some was) h → HasCalled told_by failures begun.limits s.0 None (Some m) (h ++ (e, r) ∷ [])
      go (first, others, behind, made) = (
        first,
        others ++ (e, r) ∷ [],
        record {
          refused = behind.refused;
          are = ap (λ l. l ++ (e, r) ∷ []) behind.are ∙ append_assoc behind.refused others ((e, r) ∷ []);
          back = behind.back;
          left = behind.left;
          opens = behind.opens;
        },
        makes first others made,
      )

  -- there is no pad without a disk and a machine
  pub has_either : {Z : Type 0} (begun old : Lazy D) (h : List (PadEntry × PadReply)) → HasCalledSince told_by failures begun old h → old.disk ≡ None → old.machine ≡ None → Z
  has_either {Z} begun old h s none neither = absurd never where
    never : ⊥
    never = subst (λ m. HasCalled told_by failures begun.limits s.0 None m h) neither (subst (λ d. HasCalled told_by failures begun.limits s.0 d old.machine h) none s.3)

  -- a pad that could not be opened refused its call
  pub refuses : (begun old new : Lazy D) (e : PadEntry) (r : PadReply) (why : PadBad) (h : List (PadEntry × PadReply)) → HasCalledSince told_by failures begun old h → (disk : Option D) → old.disk ≡ disk
      → IsShutThen told_by failures disk old why new → Suits e r → reply_of r ≡ Err why → HasCalledSince told_by failures begun new (h ++ (e, r) ∷ [])
  refuses begun old new e r why h s None was never suits told = absurd never
  refuses begun old new e r why h s (Some mid) was (limits, (back, of, by, refused)) suits told =
      stays_shut begun old new e r h mid back s was limits of by (record { why = why; refused = refused; suits = suits; reply = told })

  -- the machine of a pad that is open made the call
  pub makes : (begun old mid new : Lazy D) (e : PadEntry) (r : PadReply) (h : List (PadEntry × PadReply)) (was m : Held D) → HasCalledSince told_by failures begun old h → (disk : Option D) → old.disk ≡ disk
      → IsOpenThen told_by failures disk old mid → mid.machine ≡ Some was → new.limits ≡ mid.limits → new.disk ≡ mid.disk → new.machine ≡ Some m
      → ((first : Held D) (g : List (PadEntry × PadReply)) → HasMade told_by failures first was g → HasMade told_by failures first m (g ++ (e, r) ∷ []))
      → HasCalledSince told_by failures begun new (h ++ (e, r) ∷ [])
  makes begun old mid new e r h was m s None shut same has limits of by call =
      goes_on begun old new e r h was m s shut (ap (λ (p : Lazy D). p.machine) (sym same) ∙ has) (limits ∙ ap (λ (p : Lazy D). p.limits) same)
      (of ∙ (ap (λ (p : Lazy D). p.disk) same ∙ shut)) by call
  makes begun old mid new e r h was m s (Some disk) had (kept, none, (opened, is, opens_on)) has limits of by call =
      let one : opened ≡ was = some_same opened was (sym is ∙ has) in
      let on : IsOpenedOn told_by failures old.limits disk was = subst (λ (p : Held D). IsOpenedOn told_by failures old.limits disk p) one opens_on in
      opens begun old new e r h disk was m s had (limits ∙ kept) (of ∙ none) by on (call was [] on.begun)

  -- a pad that is open has a machine
  pub has_machine : {Z : Type 0} (begun old mid : Lazy D) (h : List (PadEntry × PadReply)) → HasCalledSince told_by failures begun old h → (disk : Option D) → old.disk ≡ disk
      → IsOpenThen told_by failures disk old mid → mid.machine ≡ None → Z
  has_machine begun old mid h s None shut same none = has_either begun old h s shut (ap (λ (p : Lazy D). p.machine) (sym same) ∙ none)
  has_machine begun old mid h s (Some disk) had (kept, gone, (opened, is, opens_on)) none = let e : Some opened ≡ None = sym is ∙ none in absurd cc

  refused_suit : (within : Limits) (disk back : D) (h : List (PadEntry × PadReply)) → AreRefused told_by failures within disk h back → AllSuit h
  refused_suit within disk back [] are = All-nil (λ c. Suits c.0 c.1)
  refused_suit within disk back (c ∷ cs) are = All-cons (λ c. Suits c.0 c.1) c cs are.1.suits (refused_suit within are.0 back cs are.2)

  called_suit : (within : Limits) (disk : D) (now : Option D) (machine : Option (Held D)) (h : List (PadEntry × PadReply)) → HasCalled told_by failures within disk now machine h → AllSuit h
  called_suit within disk (Some back) None h are = refused_suit within disk back h are
  called_suit within disk None (Some m) h (first, others, behind, made) =
      subst AllSuit (sym behind.are) (All-append (λ c. Suits c.0 c.1) behind.refused others (refused_suit within disk behind.back behind.refused behind.left) made.1)
  called_suit within disk None None h never = absurd never
  called_suit within disk (Some back) (Some m) h never = absurd never

  -- each reply is of its entry's kind
  pub legal_suit : (begun : Lazy D) (h : List (PadEntry × PadReply)) → IsLegalFrom told_by failures begun h → AllSuit h
  legal_suit begun h legal = called_suit begun.limits legal.1.0 legal.0.disk legal.0.machine h legal.1.3
