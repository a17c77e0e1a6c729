-- What a walk on a pad tells of a birth.
use Rattle.std.proofs.Common.{◌≡◌, ℕ, zero, suc, ◌+◌, ◌-◌, ◌^◌, ◌<◌, ◌≤◌, Bool, true, false, if◌then◌else◌, List, [], ◌∷◌, ◌++◌, length, take, drop, Option, Some, None, refl, sym, ap, ◌∙◌, subst, append_assoc, append-nil, ◌⊎◌, inl, inr, arith}
use Rattle.std.specs.Prelude.{◌==◌, ◌*◌, nat_lt, Result, Ok, Err}
use Rattle.std.proofs.lemmas.Bool.Decides.{nat_tests}
use Rattle.ep_units.specs.declared.session.Session.{Session}
use Rattle.ep_cs.specs.Change.{Change}
use Rattle.ep_cs.specs.Doc.{Doc}
use Rattle.ep_cs.specs.declared.bad.FitBad.{FitBad}
use Rattle.ep_history.specs.Lists.{at}
use Rattle.ep_history.specs.History.{Birth, head, is_session}
use Rattle.ep_history.specs.declared.pad_bad.PadBad.{PadBad}
use Rattle.ep_history.specs.declared.rev.Rev.{Rev}
use Rattle.ep_history.proofs.Lists.{at-below, none_some}
use Rattle.ep_fetches.specs.Told.{AreTold, IsFetched}
use Rattle.ep_step.specs.declared.telling.Committed.{Committed}
use Rattle.ep_pad_state.specs.declared.answers.Fetched.{Fetched}
use Rattle.ep_pad_state.specs.declared.answers.Piece.{Piece}
use Rattle.ep_pad_state.specs.Answering.{fetched_of}
use Rattle.ep_pad.specs.Histories.{calls_of as all_calls}
use Rattle.ep_pad.specs.declared.entries.PadEntry.TheVariants as entry
use Rattle.ep_pad.specs.declared.entries.PadReply.TheVariants as reply
use Rattle.ep_wire_words.specs.declared.bad.WireBad.{WireBad}
use Rattle.ep_wire_words.specs.declared.client.ClientMsg.{ClientMsg}
use Rattle.ep_wire_words.specs.declared.client.ClientMsg.TheVariants as msgs
use Rattle.ep_wire_words.specs.declared.server.ServerMsg.{ServerMsg}
use Rattle.ep_wire_words.specs.declared.server.ServerMsg.TheVariants as msg
use Rattle.ep_link.specs.declared.passed.LinkGot.{LinkGot}
use Rattle.ep_link.specs.declared.passed.LinkGot.TheVariants as got
use Rattle.ep_session.specs.Output.{said_by, said_of, place_at}
use Rattle.ep_session.specs.Session.{Did, Heard, Understood, Said, Unsaid, Called, Duty, Greet, Begin, Ask, Enter, Login, Rejoin, Hear, Understand, Take, Look, Show, Fetch, Tell, TellNop, Say, Outcome, Then, Ends, Runs, Sends, heard, asked, took, looked, shown, slid, unfit, changes_of, calls_of, fetched, is_full, nops_due, news_due, due_at, counted, telling, told, nop_telling, nop_told, is_step}
use Rattle.ep_session.specs.declared.end.End.{End}
use Rattle.ep_session.specs.declared.end.End.TheVariants as ends
use Rattle.ep_session.specs.declared.place.Place.{Place}
use Rattle.ep_session.proofs.Running.{not_both}
use Rattle.ep_session.proofs.Sent.{moved}
use Rattle.ep_told.specs.Telling.{IsNext, IsOwn, Tells}

-- ---- stretches of a birth's revisions

-- these stand one after the other, from this place on
abbrev pub Stands : {A : Type 0} → List A → ℕ → List A → Type 0
Stands xs i [] = Unit {0}
Stands xs i (y ∷ ys) = (at xs i ≡ Some y) × Stands xs (suc i) ys

stands_all : {A : Type 0} (xs : List A) (i : ℕ) (ys : List A) → ((j : ℕ) (v : A) → at ys j ≡ Some v → at xs (j + i) ≡ Some v) → Stands xs i ys
stands_all xs i [] h = tt
stands_all xs i (y ∷ ys) h = (subst (λ (n : ℕ). at xs n ≡ Some y) (omega arith) (h zero y refl), stands_all xs (suc i) ys (λ j v e. subst (λ n. at xs n ≡ Some v) (omega arith) (h (suc j) v e)))

take_back : {A : Type 0} (n : ℕ) (ys : List A) (j : ℕ) (v : A) → at (take n ys) j ≡ Some v → at ys j ≡ Some v
take_back zero ys j v e = none_some e
take_back (suc n) [] j v e = none_some e
take_back (suc n) (y ∷ ys) zero v e = e
take_back (suc n) (y ∷ ys) (suc j) v e = take_back n ys j v e

drop_back : {A : Type 0} (i : ℕ) (ys : List A) (j : ℕ) (v : A) → at (drop i ys) j ≡ Some v → at ys (i + j) ≡ Some v
drop_back zero [] j v e = none_some e
drop_back (suc i) [] j v e = none_some e
drop_back zero (y ∷ ys) j v e = let s : j ≡ 0 + j = omega arith in subst (λ (n : ℕ). at (y ∷ ys) n ≡ Some v) s e
drop_back (suc i) (y ∷ ys) j v e = let s : suc (i + j) ≡ suc i + j = omega arith in subst (λ (n : ℕ). at (y ∷ ys) n ≡ Some v) s (drop_back i ys j v e)

stands_taken : {A : Type 0} (xs ys : List A) (i n h : ℕ) → ys ≡ take n (drop i (take h xs)) → Stands xs i ys
stands_taken xs ys i n h is =
    stands_all xs i ys (λ j v e.
    subst (λ m. at xs m ≡ Some v) (omega arith)
    (take_back h xs (i + j) v (drop_back i (take h xs) j v (take_back n (drop i (take h xs)) j v (subst (λ zs. at zs j ≡ Some v) is e)))))

-- ---- numbers

counted_one : (n : ℕ) → n < 2 ^ 64 - 1 → counted n 1 ≡ suc n
counted_one n h = grind (arith, nat_tests, h)

below : (b : Birth) (rev : ℕ) (v : Rev) → head b < 2 ^ 64 → at b.later rev ≡ Some v → counted rev 1 ≡ suc rev
below b rev v few is = let l = at-below b.later rev v is in counted_one rev (omega (arith, l, few))

-- ---- what is due

-- at this revision what is due tells a birth: each revision that is to be told is the next one; what is due after a receive or a call does so wherever that leads
abbrev pub IsDue : Birth → Session → ℕ → List Duty → Type 0
IsDue b s rev [] = Unit {0}
IsDue b s rev (Say m ∷ due) = ((ms : List ServerMsg) (cursor : ℕ) → Tells b s rev ms cursor → Tells b s rev (m ∷ ms) cursor) × IsDue b s rev due
IsDue b s rev (Tell v ∷ due) = (at b.later rev ≡ Some v) × IsDue b s (suc rev) due
IsDue b s rev (TellNop ∷ due) = IsDue b s rev due
IsDue b s rev (Show start granularity request doc cs ∷ due) = IsDue b s rev due
IsDue b s rev (Hear ∷ due) = (r : ℕ) → IsDue b s r due
IsDue b s rev (Understand text ∷ due) = (r : ℕ) → IsDue b s r due
IsDue b s rev (Take base change ∷ due) = (r : ℕ) → IsDue b s r due
IsDue b s rev (Look start granularity request ∷ due) = (r : ℕ) → IsDue b s r due
IsDue b s rev (Fetch ∷ due) = (r : ℕ) → IsDue b s r due
IsDue b s rev (d ∷ due) = ⊥

nops_on : (b : Birth) (s : Session) (rev n : ℕ) (due : List Duty) → IsDue b s rev due → IsDue b s rev (nops_due n ++ due)
nops_on b s rev zero due q = q
nops_on b s rev (suc n) due q = nops_on b s rev n due q

news_on : (b : Birth) (s : Session) (rev : ℕ) (vs : List Rev) (nops : List ℕ) (due : List Duty) → head b < 2 ^ 64 → Stands b.later rev vs → ((r : ℕ) → IsDue b s r due) → IsDue b s rev (news_due rev vs nops ++ due)
news_on b s rev [] nops due few h q = nops_on b s rev (length nops) due (q rev)
news_on b s rev (v ∷ vs) nops due few h q =
    let n = due_at rev nops in
    let rest = drop n nops in
    subst (IsDue b s rev) (sym (append_assoc (nops_due n) (Tell v ∷ news_due (counted rev 1) vs rest) due))
    (nops_on b s rev n (Tell v ∷ (news_due (counted rev 1) vs rest ++ due))
    (h.0, subst (λ (m : ℕ). IsDue b s (suc rev) (news_due m vs rest ++ due)) (sym (below b rev v few h.0)) (news_on b s (suc rev) vs rest due few h.1 q)))

after_on : (b : Birth) (s : Session) (full : Bool) (due : List Duty) → ((r : ℕ) → IsDue b s r due) → (r : ℕ) → IsDue b s r ((if full then [] else (Fetch ∷ [])) ++ due)
after_on b s true due q r = q r
after_on b s false due q r = q

-- ---- what a duty leads to

-- from a place to a later one of the same session, these messages tell the birth
pub record Goes (b : Birth) (s : Session) (at to : Place) (ms : List ServerMsg) : Type 0 where
  pub start : to.start ≡ at.start
  pub same : to.me ≡ at.me
  pub inside : to.inside ≡ at.inside
  pub tells : Tells b s at.rev ms to.rev

goes_here : (b : Birth) (s : Session) (at : Place) → Goes b s at at []
goes_here b s at = record { start = refl; same = refl; inside = refl; tells = refl }

-- the session stays where it is, and what is due then tells the birth too
abbrev pub Keeps : Birth → Session → Place → List Duty → Outcome → Type 0
Keeps b s at due (Then to more) = (to.start ≡ at.start) × (to.me ≡ at.me) × (to.inside ≡ at.inside) × (to.rev ≡ at.rev) × IsDue b s at.rev (more ++ due)
Keeps b s at due (Ends to e) = to ≡ at

keeps_choice : (b : Birth) (s : Session) (c : Bool) (at : Place) (more due : List Duty) (e : End) → IsDue b s at.rev (more ++ due) → Keeps b s at due (if c then Then at more else Ends at e)
keeps_choice b s true at more due e q = (refl, refl, refl, refl, q)
keeps_choice b s false at more due e q = refl

asked_keeps : (b : Birth) (s : Session) (at : Place) (due : List Duty) (r : Result ClientMsg WireBad) → ((n : ℕ) → IsDue b s n due) → Keeps b s at due (asked at r)
asked_keeps b s at due (Ok (msgs.Ready pad token sessions resume)) q = refl
asked_keeps b s at due (Ok (msgs.Edit base change)) q = (refl, refl, refl, refl, λ n m p. q p)
asked_keeps b s at due (Ok (msgs.Slide start granularity request)) q = keeps_choice b s (is_step granularity) at (Look start granularity request ∷ Fetch ∷ Hear ∷ []) due _ (λ n m p. q p)
asked_keeps b s at due (Ok msgs.Other) q = (refl, refl, refl, refl, λ n m. q m)
asked_keeps b s at due (Err bad) q = refl

heard_keeps : (b : Birth) (s : Session) (at : Place) (due : List Duty) (g : LinkGot) (n : ℕ) → ((n : ℕ) → IsDue b s n due) → Keeps b s at due (heard at g n)
heard_keeps b s at due (got.Message text) n q = (refl, refl, refl, refl, q)
heard_keeps b s at due got.Binary n q = refl
heard_keeps b s at due got.Nothing n q = (refl, refl, refl, refl, λ m p. q p)
heard_keeps b s at due got.Closed n q = refl
heard_keeps b s at due got.Failed n q = refl
heard_keeps b s at due got.NoMemory n q = refl

took_keeps : (b : Birth) (s : Session) (at : Place) (due : List Duty) (r : Result Committed PadBad) → ((n : ℕ) → IsDue b s n due) → Keeps b s at due (took at r)
took_keeps b s at due (Ok c) q = (refl, refl, refl, refl, q at.rev)
took_keeps b s at due (Err bad) q = refl

shown_keeps : (b : Birth) (s : Session) (at : Place) (due : List Duty) (start granularity request : ℕ) (doc : Doc) (cs : List Change) (o : Option FitBad) → ((n : ℕ) → IsDue b s n due) → Keeps b s at due (shown at (Show start granularity request doc cs) o)
shown_keeps b s at due start granularity request doc cs None q = (refl, refl, refl, refl, q at.rev)
shown_keeps b s at due start granularity request doc cs (Some why) q = refl

looked_keeps : (b : Birth) (s : Session) (at : Place) (due : List Duty) (start granularity request : ℕ) (r : Result Piece PadBad) → ((n : ℕ) → IsDue b s n due) → Keeps b s at due (looked at start granularity request r)
looked_keeps b s at due start granularity request (Ok p) q = shown_keeps b s at due start granularity request p.doc (changes_of p.revs.items) (unfit p.doc (changes_of p.revs.items)) q
looked_keeps b s at due start granularity request (Err bad) q = refl

-- what a fetch told this session of the birth
abbrev pub FetchTold : Birth → Session → Place → Result Fetched PadBad → Type 0
FetchTold b s at (Ok f) = at.me ≡ s → IsFetched b s at.rev at.nops (fetched_of f)
FetchTold b s at (Err bad) = Unit {0}

fetched_keeps : (b : Birth) (s : Session) (at : Place) (due : List Duty) (r : Result Fetched PadBad) → head b < 2 ^ 64 → at.me ≡ s → FetchTold b s at r → ((n : ℕ) → IsDue b s n due) → Keeps b s at due (fetched at r)
fetched_keeps b s at due (Ok f) few mine was q =
    let x = was mine in
    let news = news_due at.rev f.revs.items f.nops.items in
    let after = if is_full at f then [] else (Fetch ∷ []) in (
      refl,
      refl,
      refl,
      refl,
      subst (IsDue b s at.rev) (sym (append_assoc news after due))
          (news_on b s at.rev f.revs.items f.nops.items (after ++ due) few (stands_taken b.later f.revs.items at.rev 64 f.head x.revs) (after_on b s (is_full at f) due q)),
    )
fetched_keeps b s at due (Err bad) few mine was q = refl

-- ---- what is said

said_none : (did d : Did) (log : List Did) → did ≡ d → said_by d ≡ [] → said_of (did ∷ log) ≡ said_of log
said_none did d log is none = ap (λ x. said_by x ++ said_of log) is ∙ ap (λ l. l ++ said_of log) none

silent : (b : Birth) (s : Session) (at to : Place) (more due : List Duty) (did d : Did) (log : List Did) (out o : Outcome) → did ≡ d → said_by d ≡ [] → Then to more ≡ o → Keeps b s at due o → at.me ≡ s
    → (to.me ≡ s → IsDue b s to.rev (more ++ due) → Goes b s to (place_at out) (said_of log)) → Goes b s at (place_at out) (said_of (did ∷ log))
silent b s at to more due did d log out o is none same keeps mine ih = go (subst (Keeps b s at due) (sym same) keeps)
  where
    go : Keeps b s at due (Then to more) → Goes b s at (place_at out) (said_of (did ∷ log))
    go (start, me, inside, rev, q) =
        let w = ih (me ∙ mine) (subst (λ (n : ℕ). IsDue b s n (more ++ due)) (sym rev) q) in
        subst (Goes b s at (place_at out)) (sym (said_none did d log is none))
        (record { start = w.start ∙ start; same = w.same ∙ me; inside = w.inside ∙ inside; tells = subst (λ (n : ℕ). Tells b s n (said_of log) (place_at out).rev) rev w.tells })

stopped : (b : Birth) (s : Session) (at to : Place) (due : List Duty) (e : End) (did d : Did) (log : List Did) (out o : Outcome) → did ≡ d → said_by d ≡ [] → Ends to e ≡ o → Keeps b s at due o → log ≡ [] → out ≡ Ends to e
    → Goes b s at (place_at out) (said_of (did ∷ log))
stopped b s at to due e did d log out o is none same keeps nil isout =
    let k : Keeps b s at due (Ends to e) = subst (Keeps b s at due) (sym same) keeps in
    subst (Goes b s at (place_at out)) (sym (said_none did d log is none ∙ ap said_of nil))
    (subst (λ (p : Place). Goes b s at p []) (sym (ap place_at isout ∙ k)) (goes_here b s at))

spoken : (b : Birth) (s : Session) (at to next : Place) (more due : List Duty) (did : Did) (log : List Did) (out : Outcome) (m : ServerMsg)
    → ((ms : List ServerMsg) (cursor : ℕ) → Tells b s next.rev ms cursor → Tells b s at.rev (m ∷ ms) cursor) → next.start ≡ at.start → next.me ≡ at.me → next.inside ≡ at.inside
    → Sends at m did (Then to more) (Then next []) → Runs to (more ++ due) log out → (Runs next due log out → Goes b s next (place_at out) (said_of log)) → Goes b s at (place_at out) (said_of (did ∷ log))
spoken b s at to next more due did log out m tells start me inside (inl (is, same)) r ih =
    let w = ih (moved to next more [] log out same due r) in
    subst (Goes b s at (place_at out)) (sym (ap (λ x. said_by x ++ said_of log) is))
    (record { start = w.start ∙ start; same = w.same ∙ me; inside = w.inside ∙ inside; tells = tells (said_of log) (place_at out).rev w.tells })
spoken b s at to next more due did log out m tells start me inside (inr (n, is, same)) r ih = absurd (not_both to at more _ same)

unspoken : (b : Birth) (s : Session) (at to next : Place) (due : List Duty) (e : End) (did : Did) (log : List Did) (out : Outcome) (m : ServerMsg) → Sends at m did (Ends to e) (Then next []) → log ≡ [] → out ≡ Ends to e → Goes b s at (place_at out) (said_of (did ∷ log))
unspoken b s at to next due e did log out m (inl (is, same)) nil isout = absurd (not_both next to [] e (sym same))
unspoken b s at to next due e did log out m (inr (n, is, same)) nil isout = stopped b s at to due e did (Unsaid n) log out (Ends at (ends.LinkFault n)) is refl same refl nil isout

tell_tells : (b : Birth) (s : Session) (at : Place) (v : Rev) → at.me ≡ s → (told at v).rev ≡ suc at.rev → ◌≡◌ {A = Option Rev} (Rattle.ep_history.specs.Lists.at b.later at.rev) (Some v) → (ms : List ServerMsg) (cursor : ℕ) → Tells b s (told at v).rev ms cursor → Tells b s at.rev (telling at v ∷ ms) cursor
tell_tells b s at v mine next there ms cursor h = go (nat_lt at.rev at.caught) (is_session at.me v.session) refl
  where
    is_next : IsNext b at.rev (counted at.rev 1) v.change v.author v.session v.time
    is_next = (next, v, there, refl, refl, refl, refl)

    go : (a c : Bool) → is_session at.me v.session ≡ c → Tells b s at.rev ((if a then msg.Reconnect at.me at.birth at.caught (counted at.rev 1) v.change v.author v.session v.time else (if c then msg.Accepted (counted at.rev 1) at.me else msg.News (counted at.rev 1) v.change v.author v.session v.time (v.time - at.time))) ∷ ms) cursor
    go true c e = (is_next, h)
    go false true e = (inl (next, v, there, ap (λ (x : Session). is_session x v.session) (sym mine) ∙ e), h)
    go false false e = (is_next, h)

-- ---- the walk

-- all that was told along a walk is of the birth
abbrev pub IsTold : ℕ → Birth → Session → List Did → Type 0
IsTold k b s log = AreTold k b s (all_calls (calls_of log))

pub passed : (k : ℕ) (b : Birth) (s : Session) (did d : Did) (log : List Did) → did ≡ d → calls_of (d ∷ log) ≡ calls_of log → IsTold k b s (did ∷ log) → IsTold k b s log
passed k b s did d log is none h = subst (λ l. AreTold k b s (all_calls l)) (ap (λ x. calls_of (x ∷ log)) is ∙ none) h

pub along : (k : ℕ) (b : Birth) (s : Session) → head b < 2 ^ 64 → (at : Place) (due : List Duty) (log : List Did) (out : Outcome) → at.me ≡ s → IsDue b s at.rev due → IsTold k b s log → Runs at due log out → Goes b s at (place_at out) (said_of log)
along k b s few at due [] out mine q h r = subst (λ o. Goes b s at (place_at o) []) (sym r) (goes_here b s at)
along k b s few at [] (did ∷ log) out mine q h r = absurd r
along k b s few at (Hear ∷ due) (did ∷ log) out mine q h (inl (to, more, (g, n, is, same), r)) =
    silent b s at to more due did (Heard g n) log out (heard at g n) is refl same (heard_keeps b s at due g n q) mine (λ m p. along k b s few to (more ++ due) log out m p (passed k b s did (Heard g n) log is refl h) r)
along k b s few at (Understand text ∷ due) (did ∷ log) out mine q h (inl (to, more, (g, reads, is, same), r)) =
    silent b s at to more due did (Understood text g) log out (asked at g) is refl same (asked_keeps b s at due g q) mine (λ m p. along k b s few to (more ++ due) log out m p (passed k b s did (Understood text g) log is refl h) r)
along k b s few at (Take base change ∷ due) (did ∷ log) out mine q h (inl (to, more, (now, g, is, same), r)) =
    silent b s at to more due did (Called (entry.Accept at.me base change now) (reply.Committed g)) log out (took at g) is refl same (took_keeps b s at due g q) mine
    (λ m p. along k b s few to (more ++ due) log out m p (subst (λ x. IsTold k b s (x ∷ log)) is h).1 r)
along k b s few at (Look start granularity request ∷ due) (did ∷ log) out mine q h (inl (to, more, (g, is, same), r)) =
    silent b s at to more due did (Called (entry.History at.me start (100 * granularity)) (reply.Piece g)) log out (looked at start granularity request g) is refl same (looked_keeps b s at due start granularity request g q) mine
    (λ m p. along k b s few to (more ++ due) log out m p (subst (λ x. IsTold k b s (x ∷ log)) is h).1 r)
along k b s few at (Fetch ∷ due) (did ∷ log) out mine q h (inl (to, more, (g, is, same), r)) =
    let t = subst (λ x. IsTold k b s (x ∷ log)) is h in
    silent b s at to more due did (Called (entry.Fetch at.me at.rev at.nops) (reply.Fetched g)) log out (fetched at g) is refl same (fetched_keeps b s at due g few mine (fetch_told g t.0) q) mine (λ m p. along k b s few to (more ++ due) log out m p t.1 r)
  where
    fetch_told : (g : Result Fetched PadBad) → Rattle.ep_fetches.specs.Told.IsTold k b s (Rattle.ep_pad.specs.Entries.entry_of (entry.Fetch at.me at.rev at.nops)) (Rattle.ep_pad.specs.Entries.reply_of (reply.Fetched g)) → FetchTold b s at g
    fetch_told (Ok f) w = w
    fetch_told (Err bad) w = tt
along k b s few at (Show start granularity request doc cs ∷ due) (did ∷ log) out mine q h (inl (to, more, (forward, backward, slides, does), r)) =
    spoken b s at to at more due did log out (slid start granularity request (length cs) forward backward) (λ ms cursor w. w) refl refl refl does r (λ w. along k b s few at due log out mine q (unheard does h) w)
  where
    unheard : Sends at (slid start granularity request (length cs) forward backward) did (Then to more) (Then at []) → IsTold k b s (did ∷ log) → IsTold k b s log
    unheard (inl (is, same)) h = passed k b s did _ log is refl h
    unheard (inr (n, is, same)) h = passed k b s did _ log is refl h
along k b s few at (Tell v ∷ due) (did ∷ log) out mine q h (inl (to, more, does, r)) =
    let next = below b at.rev v few q.0 in
    spoken b s at to (told at v) more due did log out (telling at v) (tell_tells b s at v mine next q.0) refl refl refl does r
    (λ w. along k b s few (told at v) due log out mine (subst (λ (n : ℕ). IsDue b s n due) (sym next) q.1) (unheard does h) w)
  where
    unheard : Sends at (telling at v) did (Then to more) (Then (told at v) []) → IsTold k b s (did ∷ log) → IsTold k b s log
    unheard (inl (is, same)) h = passed k b s did _ log is refl h
    unheard (inr (n, is, same)) h = passed k b s did _ log is refl h
along k b s few at (TellNop ∷ due) (did ∷ log) out mine q h (inl (to, more, does, r)) =
    spoken b s at to (nop_told at) more due did log out (nop_telling at) (λ ms cursor w. (inr refl, w)) refl refl refl does r (λ w. along k b s few (nop_told at) due log out mine q (unheard does h) w)
  where
    unheard : Sends at (nop_telling at) did (Then to more) (Then (nop_told at) []) → IsTold k b s (did ∷ log) → IsTold k b s log
    unheard (inl (is, same)) h = passed k b s did _ log is refl h
    unheard (inr (n, is, same)) h = passed k b s did _ log is refl h
along k b s few at (Say m ∷ due) (did ∷ log) out mine q h (inl (to, more, does, r)) =
    spoken b s at to at more due did log out m q.0 refl refl refl does r (λ w. along k b s few at due log out mine q.1 (unheard does h) w)
  where
    unheard : Sends at m did (Then to more) (Then at []) → IsTold k b s (did ∷ log) → IsTold k b s log
    unheard (inl (is, same)) h = passed k b s did _ log is refl h
    unheard (inr (n, is, same)) h = passed k b s did _ log is refl h
along k b s few at (Hear ∷ due) (did ∷ log) out mine q h (inr (to, e, (g, n, is, same), nil, isout)) = stopped b s at to due e did (Heard g n) log out (heard at g n) is refl same (heard_keeps b s at due g n q) nil isout
along k b s few at (Understand text ∷ due) (did ∷ log) out mine q h (inr (to, e, (g, reads, is, same), nil, isout)) = stopped b s at to due e did (Understood text g) log out (asked at g) is refl same (asked_keeps b s at due g q) nil isout
along k b s few at (Take base change ∷ due) (did ∷ log) out mine q h (inr (to, e, (now, g, is, same), nil, isout)) = stopped b s at to due e did _ log out (took at g) is refl same (took_keeps b s at due g q) nil isout
along k b s few at (Look start granularity request ∷ due) (did ∷ log) out mine q h (inr (to, e, (g, is, same), nil, isout)) =
    stopped b s at to due e did _ log out (looked at start granularity request g) is refl same (looked_keeps b s at due start granularity request g q) nil isout
along k b s few at (Fetch ∷ due) (did ∷ log) out mine q h (inr (to, e, (g, is, same), nil, isout)) = stopped b s at to due e did _ log out (fetched at g) is refl same (fetch_ends g same) nil isout
  where
    fetch_ends : (g : Result Fetched PadBad) → Ends to e ≡ fetched at g → Keeps b s at due (fetched at g)
    fetch_ends (Ok f) same = absurd (not_both at to _ e (sym same))
    fetch_ends (Err bad) same = refl
along k b s few at (Show start granularity request doc cs ∷ due) (did ∷ log) out mine q h (inr (to, e, (forward, backward, slides, does), nil, isout)) = unspoken b s at to at due e did log out (slid start granularity request (length cs) forward backward) does nil isout
along k b s few at (Tell v ∷ due) (did ∷ log) out mine q h (inr (to, e, does, nil, isout)) = unspoken b s at to (told at v) due e did log out (telling at v) does nil isout
along k b s few at (TellNop ∷ due) (did ∷ log) out mine q h (inr (to, e, does, nil, isout)) = unspoken b s at to (nop_told at) due e did log out (nop_telling at) does nil isout
along k b s few at (Say m ∷ due) (did ∷ log) out mine q h (inr (to, e, does, nil, isout)) = unspoken b s at to at due e did log out m does nil isout
along k b s few at (Greet drawn ∷ due) (did ∷ log) out mine q h r = absurd q
along k b s few at (Begin drawn text ∷ due) (did ∷ log) out mine q h r = absurd q
along k b s few at (Ask drawn ready ∷ due) (did ∷ log) out mine q h r = absurd q
along k b s few at (Enter grant resume ∷ due) (did ∷ log) out mine q h r = absurd q
along k b s few at (Login grant ∷ due) (did ∷ log) out mine q h r = absurd q
along k b s few at (Rejoin grant again ∷ due) (did ∷ log) out mine q h r = absurd q
