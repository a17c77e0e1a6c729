-- What was told of a birth is so of the birth as it grew.
use Rattle.std.proofs.Common.{◌≡◌, ℕ, suc, ◌≤◌, Bool, true, false, if◌then◌else◌, List, [], ◌∷◌, ◌++◌, inl, inr, map, length, take, drop, Some, Ok, refl, sym, ap, ◌∙◌, subst, arith}
use Rattle.std.proofs.lemmas.List.{length-append, map-append, take-append-le}
use Rattle.ep_units.specs.declared.session.Session.{Session}
use Rattle.ep_history.specs.Lists.{Among, at}
use Rattle.ep_cs.specs.Edit.{Edit}
use Rattle.ep_cs.specs.Change.{Change}
use Rattle.ep_history.specs.History.{Birth, head, is_session, nops_of, rebase, rebased}
use Rattle.ep_history.specs.Readings.{CatchUp, Committed, Fetched, Piece, Welcome, fetch_size, nop_heads}
use Rattle.ep_history.specs.Entries.{Entry, Reply}
use Rattle.ep_history.specs.Entries.Answer.{CommitAnswer, FetchAnswer, HistoryAnswer, LoginAnswer, ResumeAnswer}
use Rattle.ep_history.specs.Entries.Entry.{Login, Resume, Accept, Fetch, ReadHistory}
use Rattle.ep_history.specs.declared.nop.Nop.{Nop}
use Rattle.ep_history.specs.declared.rev.Rev.{Rev}
use Rattle.ep_history.proofs.Lists.{at-below, at-left}
use Rattle.ep_history.proofs.Growing.{IsGrown, grown-doc}
use Rattle.ep_fetches.specs.Told.{IsCatchUp, IsCommitted, IsFetched, IsNothing, IsPiece, IsRevision, IsTold, IsWelcome}
use Rattle.ep_fetches.proofs.Lists.{AreNext, next-grown}

head-grown : (b c : Birth) → IsGrown b c → (r : ℕ) → r ≤ head b → r ≤ head c
head-grown b c g r h =
    let l : length c.later ≡ length (b.later ++ g.more) = ap (λ vs. length vs) g.later in
    let n = length-append b.later g.more in
    omega (arith, h, l, n)

take-grown : (b c : Birth) → IsGrown b c → (r : ℕ) → r ≤ head b → take r c.later ≡ take r b.later
take-grown b c g r h = ap (take r) g.later ∙ take-append-le r b.later g.more h

nops_of-append : (s : Session) (xs ys : List Nop) → nops_of s (xs ++ ys) ≡ nops_of s xs ++ nops_of s ys
nops_of-append s [] ys = refl
nops_of-append s (x ∷ xs) ys = go (is_session x.session s) (nops_of-append s xs ys)
  where
    go : (b : Bool) → nops_of s (xs ++ ys) ≡ nops_of s xs ++ nops_of s ys
        → (if b then x ∷ nops_of s (xs ++ ys) else nops_of s (xs ++ ys)) ≡ (if b then x ∷ nops_of s xs else nops_of s xs) ++ nops_of s ys
    go true e = ap (λ zs. x ∷ zs) e
    go false e = e

heads-grown : (s : Session) (b c : Birth) (g : IsGrown b c) → nop_heads s c ≡ nop_heads s b ++ map (λ x. x.rev) (nops_of s g.notes)
heads-grown s b c g =
    ap (λ xs. map (λ x. x.rev) (nops_of s xs)) g.nops
    ∙ ap (map (λ x. x.rev)) (nops_of-append s b.nops g.notes)
    ∙ map-append (λ x. x.rev) (nops_of s b.nops) (nops_of s g.notes)

pub fetched-grown : (b c : Birth) → IsGrown b c → (me : Session) (from told : ℕ) (x : Fetched) → IsFetched b me from told x → IsFetched c me from told x
fetched-grown b c g me from told x f = record {
  within = head-grown b c g x.head f.within;
  start = f.start;
  revs = f.revs ∙ ap (λ vs. take fetch_size (drop from vs)) (sym (take-grown b c g x.head f.within));
  nops = subst (λ hs. AreNext hs told x.nops) (sym (heads-grown me b c g)) (next-grown (nop_heads me b) (map (λ x. x.rev) (nops_of me g.notes)) told x.nops f.nops);
  far = f.far;
}

pub piece-grown : (b c : Birth) → IsGrown b c → (start count : ℕ) (x : Piece) → IsPiece b start count x → IsPiece c start count x
piece-grown b c g start count x f = record {
  within = head-grown b c g x.head f.within;
  begins = f.begins;
  doc = f.doc ∙ sym (grown-doc b c g start (let h = f.begins in let w = f.within in omega (arith, h, w)));
  revs = f.revs ∙ ap (λ vs. take count (drop start vs)) (sym (take-grown b c g x.head f.within));
}

among-left : {A : Type 0} (x : A) (xs ys : List A) → Among x xs → Among x (xs ++ ys)
among-left x [] ys h = absurd h
among-left x (z ∷ xs) ys (inl e) = inl e
among-left x (z ∷ xs) ys (inr h) = inr (among-left x xs ys h)

at-grown : (b c : Birth) → IsGrown b c → (i : ℕ) (v : Rev) → at b.later i ≡ Some v → at c.later i ≡ Some v
at-grown b c g i v e = ap (λ vs. at vs i) g.later ∙ at-left b.later g.more i v e

rebase-grown : (b c : Birth) → IsGrown b c → (e : Edit) (base h : ℕ) → h ≤ head b → rebase b e base h ≡ rebase c e base h
rebase-grown b c g e base h l = ap (λ vs. rebased (drop base vs) e) (sym (take-grown b c g h l))

revision-grown : (b d : Birth) → IsGrown b d → (me : Session) (base : ℕ) (c : Change) (w : Committed) → IsRevision b me base c w → IsRevision d me base c w
revision-grown b d g me base c w f = record {
  before = f.before;
  made = f.made;
  number = f.number;
  known = f.known;
  there = at-grown b d g f.before f.made f.there;
  own = f.own;
  told = f.told;
  rebased = f.rebased ∙ rebase-grown b d g c.edit base f.before (let l = at-below b.later f.before f.made f.there in omega (arith, l));
  newline = λ e. let v = f.newline e in (v.0, at-grown b d g (suc f.before) v.0 v.1, v.2);
}

nothing-grown : (b d : Birth) → IsGrown b d → (me : Session) (base : ℕ) (c : Change) (w : Committed) → IsNothing b me base c w → IsNothing d me base c w
nothing-grown b d g me base c w f = record {
  within = head-grown b d g w.rev f.within;
  known = f.known;
  noted = subst (λ hs. Among w.rev hs) (sym (heads-grown me b d g)) (among-left w.rev (nop_heads me b) (map (λ x. x.rev) (nops_of me g.notes)) f.noted);
  rebased = f.rebased ∙ rebase-grown b d g c.edit base w.rev f.within;
}

committed-grown : (b d : Birth) → IsGrown b d → (me : Session) (base : ℕ) (c : Change) (w : Committed) → IsCommitted b me base c w → IsCommitted d me base c w
committed-grown b d g me base c w f = record {
  revision = λ e. revision-grown b d g me base c w (f.revision e);
  nothing = λ e. nothing-grown b d g me base c w (f.nothing e);
}

welcome-grown : (k : ℕ) (b c : Birth) → IsGrown b c → (w : Welcome) → IsWelcome k b w → IsWelcome k c w
welcome-grown k b c g w f = record {
  birth = f.birth;
  within = head-grown b c g w.rev f.within;
  doc = f.doc ∙ sym (grown-doc b c g w.rev f.within);
}

catch-up-grown : (k : ℕ) (b c : Birth) → IsGrown b c → (rev : ℕ) (w : CatchUp) → IsCatchUp k b rev w → IsCatchUp k c rev w
catch-up-grown k b c g rev w f = record { birth = f.birth; within = head-grown b c g w.head f.within; start = f.start }

pub told-grown : (k : ℕ) (b c : Birth) → IsGrown b c → (me : Session) (e : Entry) (reply : Reply) → IsTold k b me e reply → IsTold k c me e reply
told-grown k b c g me (Login grant now) (Ok (LoginAnswer w)) h = λ e. welcome-grown k b c g w (h e)
told-grown k b c g me (Resume grant rev birth author now) (Ok (ResumeAnswer w)) h = λ e. catch-up-grown k b c g rev w (h e)
told-grown k b c g me (Accept s base change now) (Ok (CommitAnswer w)) h = λ e. committed-grown b c g me base change w (h e)
told-grown k b c g me (Fetch s from told) (Ok (FetchAnswer x)) h = λ e. fetched-grown b c g me from told x (h e)
told-grown k b c g me (ReadHistory s start count) (Ok (HistoryAnswer x)) h = λ e. piece-grown b c g start count x (h e)
told-grown k b c g me e reply h = tt
