-- How far the cursor goes, along a walk.
use Rattle.std.proofs.Common.{◌≡◌, ℕ, zero, suc, Bool, true, false, List, [], ◌∷◌, ◌++◌, map, drop, Option, Some, None, refl, sym, ap, ◌∙◌, subst, inl, inr}
use Rattle.std.specs.Prelude.{◌⊎◌, ◌==◌, ◌-◌, nat_lt, Result, Ok, Err, length, if◌then◌else◌}
use Rattle.ep_units.specs.declared.grant.Grant.{Grant}
use Rattle.ep_cs.specs.Change.{Change}
use Rattle.ep_cs.specs.Doc.{Doc}
use Rattle.ep_cs.specs.declared.bad.FitBad.{FitBad}
use Rattle.ep_history.specs.History.{is_session}
use Rattle.ep_history.specs.declared.pad_bad.PadBad.{PadBad}
use Rattle.ep_history.specs.declared.rev.Rev.{Rev}
use Rattle.ep_dir_records.specs.declared.dir_bad.DirBad.{DirBad}
use Rattle.ep_dir_records.specs.declared.ids.Drawn.{Drawn}
use Rattle.ep_step.specs.declared.telling.Committed.{Committed}
use Rattle.ep_pad_state.specs.declared.answers.CatchUp.{CatchUp}
use Rattle.ep_pad_state.specs.declared.answers.Fetched.{Fetched}
use Rattle.ep_pad_state.specs.declared.answers.Piece.{Piece}
use Rattle.ep_pad_state.specs.declared.answers.Welcome.{Welcome}
use Rattle.ep_pad.specs.Halls.{Answer}
use Rattle.ep_wire_words.specs.declared.bad.WireBad.{WireBad}
use Rattle.ep_wire_words.specs.declared.client.ClientMsg.{ClientMsg}
use Rattle.ep_wire_words.specs.declared.client.ClientMsg.TheVariants as msgs
use Rattle.ep_wire_words.specs.declared.client.Resume.{Resume}
use Rattle.ep_wire_words.specs.declared.server.ServerMsg.{ServerMsg}
use Rattle.ep_wire_words.specs.declared.server.ServerMsg.TheVariants as msg
use Rattle.ep_link.specs.declared.passed.LinkGot.{LinkGot}
use Rattle.ep_link.specs.declared.passed.LinkGot.TheVariants as got
use Rattle.ep_session.specs.Output.{said_by, said_of, place_at, Counts, IsCursor}
use Rattle.ep_session.specs.Session.{Did, Heard, Understood, Said, Unsaid, Duty, Greet, Begin, Ask, Enter, Login, Rejoin, Hear, Understand, Take, Look, Show, Fetch, Tell, TellNop, Say, Outcome, Then, Ends, Runs, Sends, heard, asked, begun, greeted, granted, entered, welcomed, none_missed, rejoined, took, looked, shown, slid, unfit, changes_of, fetched, is_full, nops_due, news_due, due_at, counted, telling, told, nop_telling, nop_told, is_step, admitted, is_short}
use Rattle.ep_session.specs.declared.end.End.{End}
use Rattle.ep_session.specs.declared.end.End.TheVariants as ends
use Rattle.ep_session.specs.declared.place.Place.{Place}
use Rattle.ep_session.specs.declared.ready.Ready.{Ready}
use Rattle.ep_session.proofs.Running.{not_both}
use Rattle.ep_session.proofs.Sent.{moved, same_to}

-- a message that tells no revision
abbrev pub IsSilent : ServerMsg → Type 0
IsSilent m = (rev : ℕ) (ms : List ServerMsg) (cursor : ℕ) → Counts rev ms cursor → Counts rev (m ∷ ms) cursor

-- no duty of the beginning is there, and what is due to be said tells no revision
abbrev pub Settled : List Duty → Type 0
Settled [] = Unit {0}
Settled (Say m ∷ due) = IsSilent m × Settled due
Settled (Tell r ∷ due) = Settled due
Settled (TellNop ∷ due) = Settled due
Settled (Show s g q doc cs ∷ due) = Settled due
Settled (Hear ∷ due) = Settled due
Settled (Understand text ∷ due) = Settled due
Settled (Take base change ∷ due) = Settled due
Settled (Look start granularity request ∷ due) = Settled due
Settled (Fetch ∷ due) = Settled due
Settled (d ∷ due) = ⊥

settled_on : (a b : List Duty) → Settled a → Settled b → Settled (a ++ b)
settled_on [] b p q = q
settled_on (Say m ∷ a) b p q = (p.0, settled_on a b p.1 q)
settled_on (Tell r ∷ a) b p q = settled_on a b p q
settled_on (TellNop ∷ a) b p q = settled_on a b p q
settled_on (Show s g x doc cs ∷ a) b p q = settled_on a b p q
settled_on (Hear ∷ a) b p q = settled_on a b p q
settled_on (Understand text ∷ a) b p q = settled_on a b p q
settled_on (Take base change ∷ a) b p q = settled_on a b p q
settled_on (Look start granularity request ∷ a) b p q = settled_on a b p q
settled_on (Fetch ∷ a) b p q = settled_on a b p q
settled_on (Greet drawn ∷ a) b p q = absurd p
settled_on (Begin drawn text ∷ a) b p q = absurd p
settled_on (Ask drawn ready ∷ a) b p q = absurd p
settled_on (Enter grant resume ∷ a) b p q = absurd p
settled_on (Login grant ∷ a) b p q = absurd p
settled_on (Rejoin grant again ∷ a) b p q = absurd p

nops_settled : (n : ℕ) → Settled (nops_due n)
nops_settled zero = tt
nops_settled (suc n) = nops_settled n

news_settled : (rev : ℕ) (revs : List Rev) (nops : List ℕ) → Settled (news_due rev revs nops)
news_settled rev [] nops = nops_settled (length nops)
news_settled rev (r ∷ revs) nops = let n = due_at rev nops in settled_on (nops_due n) (Tell r ∷ news_due (counted rev 1) revs (drop n nops)) (nops_settled n) (news_settled (counted rev 1) revs (drop n nops))

-- from a place to a later one, these messages moved the cursor on
pub record Moves (at to : Place) (ms : List ServerMsg) : Type 0 where
  pub start : to.start ≡ at.start
  pub rev : Counts at.rev ms to.rev

moves_here : (at : Place) → Moves at at []
moves_here at = record { start = refl; rev = refl }

-- what an outcome is, where the duty told nothing
abbrev pub Keeps : Place → Outcome → Type 0
Keeps at (Then to more) = (to.start ≡ at.start) × (to.rev ≡ at.rev) × Settled more
Keeps at (Ends to e) = to ≡ at

keeps_choice : (b : Bool) (at : Place) (due : List Duty) (e : End) → Settled due → Keeps at (if b then Then at due else Ends at e)
keeps_choice true at due e q = (refl, refl, q)
keeps_choice false at due e q = refl

asked_keeps : (at : Place) (r : Result ClientMsg WireBad) → Keeps at (asked at r)
asked_keeps at (Ok (msgs.Ready pad token sessions resume)) = refl
asked_keeps at (Ok (msgs.Edit base change)) = (refl, refl, tt)
asked_keeps at (Ok (msgs.Slide start granularity request)) = keeps_choice (is_step granularity) at (Look start granularity request ∷ Fetch ∷ Hear ∷ []) _ tt
asked_keeps at (Ok msgs.Other) = (refl, refl, tt)
asked_keeps at (Err b) = refl

heard_keeps : (at : Place) (g : LinkGot) (n : ℕ) → Keeps at (heard at g n)
heard_keeps at (got.Message text) n = (refl, refl, tt)
heard_keeps at got.Binary n = refl
heard_keeps at got.Nothing n = (refl, refl, tt)
heard_keeps at got.Closed n = refl
heard_keeps at got.Failed n = refl
heard_keeps at got.NoMemory n = refl

took_keeps : (at : Place) (r : Result Committed PadBad) → Keeps at (took at r)
took_keeps at (Ok c) = (refl, refl, tt)
took_keeps at (Err b) = refl

shown_keeps : (at : Place) (s g q : ℕ) (doc : Doc) (cs : List Change) (o : Option FitBad) → Keeps at (shown at (Show s g q doc cs) o)
shown_keeps at s g q doc cs None = (refl, refl, tt)
shown_keeps at s g q doc cs (Some why) = refl

looked_keeps : (at : Place) (s g q : ℕ) (r : Result Piece PadBad) → Keeps at (looked at s g q r)
looked_keeps at s g q (Ok p) = shown_keeps at s g q p.doc (changes_of p.revs.items) (unfit p.doc (changes_of p.revs.items))
looked_keeps at s g q (Err b) = refl

fetched_keeps : (at : Place) (r : Result Fetched PadBad) → Keeps at (fetched at r)
fetched_keeps at (Ok f) = (refl, refl, settled_on (news_due at.rev f.revs.items f.nops.items) (if is_full at f then [] else (Fetch ∷ [])) (news_settled at.rev f.revs.items f.nops.items) (go (is_full at f)))
  where
    go : (b : Bool) → Settled (if b then [] else (Fetch ∷ []))
    go true = tt
    go false = tt
fetched_keeps at (Err b) = refl

-- ---- what is said

said_none : (did d : Did) (log : List Did) → did ≡ d → said_by d ≡ [] → said_of (did ∷ log) ≡ said_of log
said_none did d log is none = ap (λ x. said_by x ++ said_of log) is ∙ ap (λ l. l ++ said_of log) none

silent : (at to : Place) (more due : List Duty) (did d : Did) (log : List Did) (out o : Outcome) → did ≡ d → said_by d ≡ [] → Then to more ≡ o → Keeps at o → Settled due → (Settled (more ++ due) → Moves to (place_at out) (said_of log)) → Moves at (place_at out) (said_of (did ∷ log))
silent at to more due did d log out o is none same keeps q ih = go (subst (Keeps at) (sym same) keeps)
  where
    go : Keeps at (Then to more) → Moves at (place_at out) (said_of (did ∷ log))
    go (start, rev, s) =
        let w = ih (settled_on more due s q) in
        subst (Moves at (place_at out)) (sym (said_none did d log is none))
        (record { start = w.start ∙ start; rev = subst (λ n. Counts n (said_of log) (place_at out).rev) rev w.rev })

stopped : (at to : Place) (e : End) (did d : Did) (log : List Did) (out o : Outcome) → did ≡ d → said_by d ≡ [] → Ends to e ≡ o → Keeps at o → log ≡ [] → out ≡ Ends to e → Moves at (place_at out) (said_of (did ∷ log))
stopped at to e did d log out o is none same keeps nil isout =
    let k : Keeps at (Ends to e) = subst (Keeps at) (sym same) keeps in
    subst (Moves at (place_at out)) (sym (said_none did d log is none ∙ ap said_of nil))
    (subst (λ p. Moves at p []) (sym (ap place_at isout ∙ k)) (moves_here at))

spoken : (at to next : Place) (more due : List Duty) (did : Did) (log : List Did) (out : Outcome) (m : ServerMsg) → ((ms : List ServerMsg) (cursor : ℕ) → Counts next.rev ms cursor → Counts at.rev (m ∷ ms) cursor) → next.start ≡ at.start
    → Sends at m did (Then to more) (Then next []) → Runs to (more ++ due) log out → (Runs next due log out → Moves next (place_at out) (said_of log)) → Moves at (place_at out) (said_of (did ∷ log))
spoken at to next more due did log out m counts start (inl (is, same)) r ih =
    let w = ih (moved to next more [] log out same due r) in
    subst (Moves at (place_at out)) (sym (ap (λ x. said_by x ++ said_of log) is))
    (record { start = w.start ∙ start; rev = counts (said_of log) (place_at out).rev w.rev })
spoken at to next more due did log out m counts start (inr (n, is, same)) r ih = absurd (not_both to at more _ same)

unspoken : (at to next : Place) (e : End) (did : Did) (log : List Did) (out : Outcome) (m : ServerMsg) → Sends at m did (Ends to e) (Then next []) → log ≡ [] → out ≡ Ends to e → Moves at (place_at out) (said_of (did ∷ log))
unspoken at to next e did log out m (inl (is, same)) nil isout = absurd (not_both next to [] e (sym same))
unspoken at to next e did log out m (inr (n, is, same)) nil isout =
    stopped at to e did (Unsaid n) log out (Ends at (ends.LinkFault n)) is refl same refl nil isout

tell_counts : (at : Place) (r : Rev) (ms : List ServerMsg) (cursor : ℕ) → Counts (told at r).rev ms cursor → Counts at.rev (telling at r ∷ ms) cursor
tell_counts at r ms cursor h = go (nat_lt at.rev at.caught) (is_session at.me r.session)
  where
    go : (a b : Bool) → Counts at.rev ((if a then msg.Reconnect at.me at.birth at.caught (counted at.rev 1) r.change r.author r.session r.time else (if b then msg.Accepted (counted at.rev 1) at.me else msg.News (counted at.rev 1) r.change r.author r.session r.time (r.time - at.time))) ∷ ms) cursor
    go true b = (refl, h)
    go false true = (inr refl, h)
    go false false = (refl, h)

-- once a session began
moves_law : (at : Place) (due : List Duty) (log : List Did) (out : Outcome) → Settled due → Runs at due log out → Moves at (place_at out) (said_of log)
moves_law at due [] out q r = subst (λ o. Moves at (place_at o) []) (sym r) (moves_here at)
moves_law at [] (did ∷ log) out q r = absurd r
moves_law at (Hear ∷ due) (did ∷ log) out q (inl (to, more, (g, n, is, same), r)) = silent at to more due did (Heard g n) log out (heard at g n) is refl same (heard_keeps at g n) q (λ p. moves_law to (more ++ due) log out p r)
moves_law at (Understand text ∷ due) (did ∷ log) out q (inl (to, more, (g, reads, is, same), r)) = silent at to more due did (Understood text g) log out (asked at g) is refl same (asked_keeps at g) q (λ p. moves_law to (more ++ due) log out p r)
moves_law at (Take base change ∷ due) (did ∷ log) out q (inl (to, more, (now, g, is, same), r)) = silent at to more due did _ log out (took at g) is refl same (took_keeps at g) q (λ p. moves_law to (more ++ due) log out p r)
moves_law at (Look st gr rq ∷ due) (did ∷ log) out q (inl (to, more, (g, is, same), r)) = silent at to more due did _ log out (looked at st gr rq g) is refl same (looked_keeps at st gr rq g) q (λ p. moves_law to (more ++ due) log out p r)
moves_law at (Fetch ∷ due) (did ∷ log) out q (inl (to, more, (g, is, same), r)) = silent at to more due did _ log out (fetched at g) is refl same (fetched_keeps at g) q (λ p. moves_law to (more ++ due) log out p r)
moves_law at (Show st gr rq doc cs ∷ due) (did ∷ log) out q (inl (to, more, (forward, backward, slides, does), r)) = spoken at to at more due did log out (slid st gr rq (length cs) forward backward) (λ ms cursor h. h) refl does r (λ w. moves_law at due log out q w)
moves_law at (Tell rev ∷ due) (did ∷ log) out q (inl (to, more, does, r)) = spoken at to (told at rev) more due did log out (telling at rev) (tell_counts at rev) refl does r (λ w. moves_law (told at rev) due log out q w)
moves_law at (TellNop ∷ due) (did ∷ log) out q (inl (to, more, does, r)) = spoken at to (nop_told at) more due did log out (nop_telling at) (λ ms cursor h. (inl refl, h)) refl does r (λ w. moves_law (nop_told at) due log out q w)
moves_law at (Say m ∷ due) (did ∷ log) out q (inl (to, more, does, r)) = spoken at to at more due did log out m (q.0 at.rev) refl does r (λ w. moves_law at due log out q.1 w)
moves_law at (Hear ∷ due) (did ∷ log) out q (inr (to, e, (g, n, is, same), nil, isout)) = stopped at to e did (Heard g n) log out (heard at g n) is refl same (heard_keeps at g n) nil isout
moves_law at (Understand text ∷ due) (did ∷ log) out q (inr (to, e, (g, reads, is, same), nil, isout)) = stopped at to e did (Understood text g) log out (asked at g) is refl same (asked_keeps at g) nil isout
moves_law at (Take base change ∷ due) (did ∷ log) out q (inr (to, e, (now, g, is, same), nil, isout)) = stopped at to e did _ log out (took at g) is refl same (took_keeps at g) nil isout
moves_law at (Look st gr rq ∷ due) (did ∷ log) out q (inr (to, e, (g, is, same), nil, isout)) = stopped at to e did _ log out (looked at st gr rq g) is refl same (looked_keeps at st gr rq g) nil isout
moves_law at (Fetch ∷ due) (did ∷ log) out q (inr (to, e, (g, is, same), nil, isout)) = stopped at to e did _ log out (fetched at g) is refl same (fetched_keeps at g) nil isout
moves_law at (Show st gr rq doc cs ∷ due) (did ∷ log) out q (inr (to, e, (forward, backward, slides, does), nil, isout)) = unspoken at to at e did log out (slid st gr rq (length cs) forward backward) does nil isout
moves_law at (Tell rev ∷ due) (did ∷ log) out q (inr (to, e, does, nil, isout)) = unspoken at to (told at rev) e did log out (telling at rev) does nil isout
moves_law at (TellNop ∷ due) (did ∷ log) out q (inr (to, e, does, nil, isout)) = unspoken at to (nop_told at) e did log out (nop_telling at) does nil isout
moves_law at (Say m ∷ due) (did ∷ log) out q (inr (to, e, does, nil, isout)) = unspoken at to at e did log out m does nil isout
moves_law at (Greet drawn ∷ due) (did ∷ log) out q r = absurd q
moves_law at (Begin drawn text ∷ due) (did ∷ log) out q r = absurd q
moves_law at (Ask drawn ready ∷ due) (did ∷ log) out q r = absurd q
moves_law at (Enter grant resume ∷ due) (did ∷ log) out q r = absurd q
moves_law at (Login grant ∷ due) (did ∷ log) out q r = absurd q
moves_law at (Rejoin grant again ∷ due) (did ∷ log) out q r = absurd q

-- ---- the beginning

-- the one duty of the beginning, at a place where nothing was told
abbrev pub Opening : Duty → Type 0
Opening (Greet drawn) = Unit {0}
Opening (Begin drawn text) = Unit {0}
Opening (Ask drawn ready) = Unit {0}
Opening (Enter grant resume) = Unit {0}
Opening (Login grant) = Unit {0}
Opening (Rejoin grant again) = Unit {0}
Opening d = ⊥

-- what an opening duty comes to: another one at the same place, or a session at its start, or an end
abbrev Opens : Place → Outcome → Type 0
Opens at (Then to more) = (to.rev ≡ to.start) × (((d : Duty) × Opening d × (more ≡ d ∷ [])) ⊎ Settled more)
Opens at (Ends to e) = to ≡ at

begun_opens : (at : Place) (drawn : Drawn) (r : Result ClientMsg WireBad) → at.rev ≡ at.start → Opens at (begun at drawn r)
begun_opens at drawn (Ok (msgs.Ready pad token sessions resume)) z = first (is_short token)
  where
    ready : Ready
    ready = record { pad = pad; token = token; sessions = sessions; resume = resume }

    first : (b : Bool) → Opens at (admitted at drawn ready b)
    first true = (z, inl (Ask drawn ready, tt, refl))
    first false = refl
begun_opens at drawn (Ok (msgs.Edit base change)) z = refl
begun_opens at drawn (Ok (msgs.Slide start granularity request)) z = refl
begun_opens at drawn (Ok msgs.Other) z = refl
begun_opens at drawn (Err b) z = refl

greeted_opens : (at : Place) (drawn : Drawn) (g : LinkGot) (n : ℕ) → at.rev ≡ at.start → Opens at (greeted at drawn g n)
greeted_opens at drawn (got.Message text) n z = (z, inl (Begin drawn text, tt, refl))
greeted_opens at drawn got.Binary n z = refl
greeted_opens at drawn got.Nothing n z = (z, inl (Greet drawn, tt, refl))
greeted_opens at drawn got.Closed n z = refl
greeted_opens at drawn got.Failed n z = refl
greeted_opens at drawn got.NoMemory n z = refl

granted_opens : (at : Place) (ready : Ready) (r : Result Grant DirBad) → at.rev ≡ at.start → Opens at (granted at ready r)
granted_opens at ready (Ok grant) z = (z, inl (Enter grant ready.resume, tt, refl))
granted_opens at ready (Err b) z = refl

entered_opens : (at : Place) (grant : Grant) (resume : Option Resume) (r : Answer) → at.rev ≡ at.start → Opens at (entered at grant resume r)
entered_opens at grant None (Ok id) z = (z, inl (Login grant, tt, refl))
entered_opens at grant (Some again) (Ok id) z = (z, inl (Rejoin grant again, tt, refl))
entered_opens at grant resume (Err b) z = refl

welcomed_opens : (at : Place) (grant : Grant) (r : Result Welcome PadBad) → Opens at (welcomed at grant r)
welcomed_opens at grant (Ok w) = (refl, inr ((λ rev ms cursor h. h), tt))
welcomed_opens at grant (Err b) = refl

rejoined_opens : (at : Place) (rev : ℕ) (r : Result CatchUp PadBad) → Opens at (rejoined at rev r)
rejoined_opens at rev (Ok c) = (refl, inr (settled_on (map Say (none_missed rev c)) (Fetch ∷ Hear ∷ []) (go (rev == c.head)) tt))
  where
    go : (b : Bool) → Settled (map Say (if b then msg.ReconnectNone c.session c.birth c.head c.head ∷ [] else []))
    go true = ((λ rev ms cursor h. h), tt)
    go false = tt
rejoined_opens at rev (Err b) = refl

opened : (at to : Place) (more : List Duty) (did d : Did) (log : List Did) (out o : Outcome) → did ≡ d → said_by d ≡ [] → Then to more ≡ o → Opens at o → Runs to (more ++ []) log out → ((next : Duty) → Opening next → to.rev ≡ to.start → Runs to (next ∷ []) log out → IsCursor log (place_at out)) → IsCursor (did ∷ log) (place_at out)
opened at to more did d log out o is none same opens r ih = subst (λ ms. Counts (place_at out).start ms (place_at out).rev) (sym (said_none did d log is none)) (go (subst (Opens at) (sym same) opens))
  where
    go : Opens at (Then to more) → IsCursor log (place_at out)
    go (z, inl (next, op, one)) = ih next op z (subst (λ m. Runs to (m ++ []) log out) one r)
    go (z, inr settled) =
        let w = moves_law to (more ++ []) log out (settled_on more [] settled tt) r in
        subst (λ n. Counts n (said_of log) (place_at out).rev) (z ∙ sym w.start) w.rev

opened_end : (at to : Place) (e : End) (did d : Did) (log : List Did) (out o : Outcome) → did ≡ d → said_by d ≡ [] → Ends to e ≡ o → Opens at o → log ≡ [] → out ≡ Ends to e → at.rev ≡ at.start → IsCursor (did ∷ log) (place_at out)
opened_end at to e did d log out o is none same opens nil isout z =
    let k : Opens at (Ends to e) = subst (Opens at) (sym same) opens in
    subst (λ ms. Counts (place_at out).start ms (place_at out).rev) (sym (said_none did d log is none ∙ ap said_of nil))
    (subst (λ (p : Place). p.rev ≡ p.start) (sym (ap place_at isout ∙ k)) z)

pub open_law : (at : Place) (d : Duty) (log : List Did) (out : Outcome) → Opening d → at.rev ≡ at.start → Runs at (d ∷ []) log out → IsCursor log (place_at out)
open_law at d [] out op z r = subst (λ (o : Outcome). (place_at o).rev ≡ (place_at o).start) (sym r) z
open_law at (Greet drawn) (did ∷ log) out op z (inl (to, more, (g, n, is, same), r)) = opened at to more did (Heard g n) log out (greeted at drawn g n) is refl same (greeted_opens at drawn g n z) r (λ next p y w. open_law to next log out p y w)
open_law at (Begin drawn text) (did ∷ log) out op z (inl (to, more, (g, reads, is, same), r)) = opened at to more did (Understood text g) log out (begun at drawn g) is refl same (begun_opens at drawn g z) r (λ next p y w. open_law to next log out p y w)
open_law at (Ask drawn ready) (did ∷ log) out op z (inl (to, more, (now, g, is, same), r)) = opened at to more did _ log out (granted at ready g) is refl same (granted_opens at ready g z) r (λ next p y w. open_law to next log out p y w)
open_law at (Enter grant resume) (did ∷ log) out op z (inl (to, more, (g, is, same), r)) = opened at to more did _ log out (entered at grant resume g) is refl same (entered_opens at grant resume g z) r (λ next p y w. open_law to next log out p y w)
open_law at (Login grant) (did ∷ log) out op z (inl (to, more, (now, g, is, same), r)) = opened at to more did _ log out (welcomed at grant g) is refl same (welcomed_opens at grant g) r (λ next p y w. open_law to next log out p y w)
open_law at (Rejoin grant again) (did ∷ log) out op z (inl (to, more, (now, g, is, same), r)) = opened at to more did _ log out (rejoined at again.rev g) is refl same (rejoined_opens at again.rev g) r (λ next p y w. open_law to next log out p y w)
open_law at (Greet drawn) (did ∷ log) out op z (inr (to, e, (g, n, is, same), nil, isout)) = opened_end at to e did (Heard g n) log out (greeted at drawn g n) is refl same (greeted_opens at drawn g n z) nil isout z
open_law at (Begin drawn text) (did ∷ log) out op z (inr (to, e, (g, reads, is, same), nil, isout)) = opened_end at to e did (Understood text g) log out (begun at drawn g) is refl same (begun_opens at drawn g z) nil isout z
open_law at (Ask drawn ready) (did ∷ log) out op z (inr (to, e, (now, g, is, same), nil, isout)) = opened_end at to e did _ log out (granted at ready g) is refl same (granted_opens at ready g z) nil isout z
open_law at (Enter grant resume) (did ∷ log) out op z (inr (to, e, (g, is, same), nil, isout)) = opened_end at to e did _ log out (entered at grant resume g) is refl same (entered_opens at grant resume g z) nil isout z
open_law at (Login grant) (did ∷ log) out op z (inr (to, e, (now, g, is, same), nil, isout)) = opened_end at to e did _ log out (welcomed at grant g) is refl same (welcomed_opens at grant g) nil isout z
open_law at (Rejoin grant again) (did ∷ log) out op z (inr (to, e, (now, g, is, same), nil, isout)) = opened_end at to e did _ log out (rejoined at again.rev g) is refl same (rejoined_opens at again.rev g) nil isout z
open_law at (Say m) (did ∷ log) out op z r = absurd op
open_law at (Tell rev) (did ∷ log) out op z r = absurd op
open_law at (TellNop) (did ∷ log) out op z r = absurd op
open_law at (Show s g q doc cs) (did ∷ log) out op z r = absurd op
open_law at (Hear) (did ∷ log) out op z r = absurd op
open_law at (Understand text) (did ∷ log) out op z r = absurd op
open_law at (Take base change) (did ∷ log) out op z r = absurd op
open_law at (Look start granularity request) (did ∷ log) out op z r = absurd op
open_law at (Fetch) (did ∷ log) out op z r = absurd op
