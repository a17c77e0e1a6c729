-- How far a session comes.
use Rattle.std.proofs.Common.{◌≡◌, ℕ, zero, suc, ◌+◌, ◌≤◌, Bool, true, false, List, [], ◌∷◌, ◌++◌, map, drop, Option, Some, None, refl, sym, ap, ◌∙◌, subst, append_assoc, append-nil, inl, inr, arith, length-append}
use Rattle.std.proofs.lemmas.Bool.Decides.{nat_tests}
use Rattle.std.specs.Prelude.{◌⊎◌, ◌==◌, ◌*◌, ◌-◌, ◌^◌, max, min, Result, Ok, Err, length, if◌then◌else◌}
use Rattle.ep_units.specs.declared.grant.Grant.{Grant}
use Rattle.ep_cs.specs.Change.{Change}
use Rattle.ep_cs.specs.Doc.{Doc}
use Rattle.ep_cs.specs.declared.bad.FitBad.{FitBad}
use Rattle.ep_history.specs.declared.pad_bad.PadBad.{PadBad}
use Rattle.ep_history.specs.declared.rev.Rev.{Rev}
use Rattle.ep_dir_records.specs.declared.dir_bad.DirBad.{DirBad}
use Rattle.ep_dir_records.specs.declared.ids.Drawn.{Drawn}
use Rattle.ep_step.specs.declared.telling.Committed.{Committed}
use Rattle.ep_pad_state.specs.declared.answers.CatchUp.{CatchUp}
use Rattle.ep_pad_state.specs.declared.answers.Fetched.{Fetched}
use Rattle.ep_pad_state.specs.declared.answers.Piece.{Piece}
use Rattle.ep_pad_state.specs.declared.answers.Welcome.{Welcome}
use Rattle.ep_pad.specs.Halls.{Answer}
use Rattle.ep_pad.specs.declared.entries.PadEntry.{PadEntry}
use Rattle.ep_pad.specs.declared.entries.PadEntry.TheVariants as entry
use Rattle.ep_pad.specs.declared.entries.PadReply.{PadReply}
use Rattle.ep_pad.specs.declared.entries.PadReply.TheVariants as reply
use Rattle.ep_wire_words.specs.declared.bad.WireBad.{WireBad}
use Rattle.ep_wire_words.specs.declared.client.ClientMsg.{ClientMsg}
use Rattle.ep_wire_words.specs.declared.client.ClientMsg.TheVariants as msgs
use Rattle.ep_wire_words.specs.declared.client.Resume.{Resume}
use Rattle.ep_wire_words.specs.declared.server.ServerMsg.{ServerMsg}
use Rattle.ep_wire_words.specs.declared.server.ServerMsg.TheVariants as msg
use Rattle.ep_link.specs.declared.passed.LinkGot.{LinkGot}
use Rattle.ep_link.specs.declared.passed.LinkGot.TheVariants as got
use Rattle.ep_session.specs.Beginning.{IsFirst, IsJoin, Joins, IsHoused, IsBegun}
use Rattle.ep_session.specs.Ends.{end_of_dir, end_of_pass}
use Rattle.ep_session.specs.Says.{IsInside}
use Rattle.ep_session.specs.Session.{asking, joining, desk_of, hall_of, Did, Heard, Understood, Said, Unsaid, Called, Granted, Entered, Duty, Greet, Begin, Ask, Enter, Login, Rejoin, Hear, Understand, Take, Look, Show, Fetch, Tell, TellNop, Say, Outcome, Then, Ends, Runs, Does, heard, asked, begun, greeted, granted, entered, welcomed, rejoined, none_missed, took, looked, shown, unfit, changes_of, fetched, is_full, nops_due, news_due, due_at, counted, telling, told, nop_telling, nop_told, is_step, nowhere, calls_of, admitted, is_short, wanting}
use Rattle.ep_session.specs.declared.end.End.{End}
use Rattle.ep_session.specs.declared.place.Place.{Place}
use Rattle.ep_session.specs.declared.ready.Ready.{Ready}
use Rattle.ep_groups.specs.declared.entries.DirEntry.{DirEntry}
use Rattle.ep_groups.specs.declared.entries.DirReply.TheVariants as dirs
use Rattle.ep_pad.specs.declared.pass_bad.PassBad.{PassBad}
use Rattle.ep_session.proofs.Running.{not_both}
use Rattle.ep_session.proofs.Sent.{moved}
use Rattle.ep_session.proofs.Coming.{inside_desk, inside_hall}

-- no duty of the beginning is there
abbrev pub Settled : List Duty → Type 0
Settled [] = Unit {0}
Settled (Hear ∷ due) = Settled due
Settled (Understand text ∷ due) = Settled due
Settled (Take base change ∷ due) = Settled due
Settled (Look s g q ∷ due) = Settled due
Settled (Show s g q doc cs ∷ due) = Settled due
Settled (Fetch ∷ due) = Settled due
Settled (Tell r ∷ due) = Settled due
Settled (TellNop ∷ due) = Settled due
Settled (Say m ∷ due) = Settled due
Settled (d ∷ due) = ⊥

settled_on : (a b : List Duty) → Settled a → Settled b → Settled (a ++ b)
settled_on [] b p q = q
settled_on (Hear ∷ a) b p q = settled_on a b p q
settled_on (Understand x ∷ a) b p q = settled_on a b p q
settled_on (Take x y ∷ a) b p q = settled_on a b p q
settled_on (Look x y z ∷ a) b p q = settled_on a b p q
settled_on (Show x y z doc cs ∷ a) b p q = settled_on a b p q
settled_on (Fetch ∷ a) b p q = settled_on a b p q
settled_on (Tell r ∷ a) b p q = settled_on a b p q
settled_on (TellNop ∷ a) b p q = settled_on a b p q
settled_on (Say m ∷ a) b p q = settled_on a b p q
settled_on (Greet x ∷ a) b p q = absurd p
settled_on (Begin x y ∷ a) b p q = absurd p
settled_on (Ask x y ∷ a) b p q = absurd p
settled_on (Enter x y ∷ a) b p q = absurd p
settled_on (Login x ∷ a) b p q = absurd p
settled_on (Rejoin x y ∷ a) b p q = absurd p

-- what an outcome has due is none of the beginning
abbrev Lands : Outcome → Type 0
Lands (Then to more) = Settled more
Lands (Ends to e) = Unit {0}

lands_choice : (b : Bool) (at : Place) (due : List Duty) (e : End) → Settled due → Lands (if b then Then at due else Ends at e)
lands_choice true at due e q = q
lands_choice false at due e q = tt

asked_lands : (at : Place) (r : Result ClientMsg WireBad) → Lands (asked at r)
asked_lands at (Ok (msgs.Ready pad token sessions resume)) = tt
asked_lands at (Ok (msgs.Edit base change)) = tt
asked_lands at (Ok (msgs.Slide start granularity request)) = lands_choice (is_step granularity) at (Look start granularity request ∷ Fetch ∷ Hear ∷ []) _ tt
asked_lands at (Ok msgs.Other) = tt
asked_lands at (Err b) = tt

heard_lands : (at : Place) (g : LinkGot) (n : ℕ) → Lands (heard at g n)
heard_lands at (got.Message text) n = tt
heard_lands at got.Binary n = tt
heard_lands at got.Nothing n = tt
heard_lands at got.Closed n = tt
heard_lands at got.Failed n = tt
heard_lands at got.NoMemory n = tt

took_lands : (at : Place) (r : Result Committed PadBad) → Lands (took at r)
took_lands at (Ok c) = tt
took_lands at (Err b) = tt

shown_lands : (at : Place) (s g q : ℕ) (doc : Doc) (cs : List Change) (o : Option FitBad) → Lands (shown at (Show s g q doc cs) o)
shown_lands at s g q doc cs None = tt
shown_lands at s g q doc cs (Some why) = tt

looked_lands : (at : Place) (s g q : ℕ) (r : Result Piece PadBad) → Lands (looked at s g q r)
looked_lands at s g q (Ok p) = shown_lands at s g q p.doc (changes_of p.revs.items) (unfit p.doc (changes_of p.revs.items))
looked_lands at s g q (Err b) = tt

nops_settled : (n : ℕ) → Settled (nops_due n)
nops_settled zero = tt
nops_settled (suc n) = nops_settled n

news_settled : (rev : ℕ) (revs : List Rev) (nops : List ℕ) → Settled (news_due rev revs nops)
news_settled rev [] nops = nops_settled (length nops)
news_settled rev (r ∷ revs) nops = let n = due_at rev nops in settled_on (nops_due n) (Tell r ∷ news_due (counted rev 1) revs (drop n nops)) (nops_settled n) (news_settled (counted rev 1) revs (drop n nops))

fetched_lands : (at : Place) (r : Result Fetched PadBad) → Lands (fetched at r)
fetched_lands at (Ok f) = settled_on (news_due at.rev f.revs.items f.nops.items) (if is_full at f then [] else (Fetch ∷ [])) (news_settled at.rev f.revs.items f.nops.items) (go (is_full at f))
  where
    go : (b : Bool) → Settled (if b then [] else (Fetch ∷ []))
    go true = tt
    go false = tt
fetched_lands at (Err b) = tt

more_settled : (to : Place) (more due : List Duty) (o : Outcome) → Then to more ≡ o → Lands o → Settled due → Settled (more ++ due)
more_settled to more due o same l q = let w : Lands (Then to more) = subst Lands (sym same) l in settled_on more due w q

inside_of : (did x : Did) (log : List Did) → did ≡ x → IsInside (x ∷ log) → IsInside (did ∷ log)
inside_of did x log is h = subst (λ d. IsInside (d ∷ log)) (sym is) h

inside_end : (did x : Did) (log : List Did) → did ≡ x → log ≡ [] → IsInside (x ∷ []) → IsInside (did ∷ log)
inside_end did x log is nil h = inside_of did x log is (subst (λ l. IsInside (x ∷ l)) (sym nil) h)

-- behind the login nobody else is asked
inside_law : (at : Place) (due : List Duty) (log : List Did) (out : Outcome) → Settled due → Runs at due log out → IsInside log
inside_law at due [] out q r = tt
inside_law at [] (did ∷ log) out q r = absurd r
inside_law at (Hear ∷ due) (did ∷ log) out q (inl (to, more, (g, n, is, same), r)) = inside_of did (Heard g n) log is (inside_law to (more ++ due) log out (more_settled to more due (heard at g n) same (heard_lands at g n) q) r)
inside_law at (Take base change ∷ due) (did ∷ log) out q (inl (to, more, (now, g, is, same), r)) = inside_of did _ log is (inside_law to (more ++ due) log out (more_settled to more due (took at g) same (took_lands at g) q) r)
inside_law at (Look s gr rq ∷ due) (did ∷ log) out q (inl (to, more, (g, is, same), r)) = inside_of did _ log is (inside_law to (more ++ due) log out (more_settled to more due (looked at s gr rq g) same (looked_lands at s gr rq g) q) r)
inside_law at (Fetch ∷ due) (did ∷ log) out q (inl (to, more, (g, is, same), r)) = inside_of did _ log is (inside_law to (more ++ due) log out (more_settled to more due (fetched at g) same (fetched_lands at g) q) r)
inside_law at (Understand text ∷ due) (did ∷ log) out q (inl (to, more, (g, reads, is, same), r)) = inside_of did (Understood text g) log is (inside_law to (more ++ due) log out (more_settled to more due (asked at g) same (asked_lands at g) q) r)
inside_law at (Understand text ∷ due) (did ∷ log) out q (inr (to, e, (g, reads, is, same), nil, isout)) = inside_end did (Understood text g) log is nil tt
inside_law at (TellNop ∷ due) (did ∷ log) out q (inl (to, more, inl (is, same), r)) = inside_of did (Said (nop_telling at)) log is (inside_law (nop_told at) due log out q (moved to (nop_told at) more [] log out same due r))
inside_law at (TellNop ∷ due) (did ∷ log) out q (inl (to, more, inr (n, is, same), r)) = absurd (not_both to at more _ same)
inside_law at (TellNop ∷ due) (did ∷ log) out q (inr (to, e, inl (is, same), nil, isout)) = absurd (not_both (nop_told at) to [] e (sym same))
inside_law at (TellNop ∷ due) (did ∷ log) out q (inr (to, e, inr (n, is, same), nil, isout)) = inside_end did (Unsaid n) log is nil tt
inside_law at (Show s g x doc cs ∷ due) (did ∷ log) out q (inl (to, more, (forward, backward, slides, inl (is, same)), r)) = inside_of did (Said _) log is (inside_law at due log out q (moved to at more [] log out same due r))
inside_law at (Show s g x doc cs ∷ due) (did ∷ log) out q (inl (to, more, (forward, backward, slides, inr (n, is, same)), r)) = absurd (not_both to at more _ same)
inside_law at (Show s g x doc cs ∷ due) (did ∷ log) out q (inr (to, e, (forward, backward, slides, inl (is, same)), nil, isout)) = absurd (not_both at to [] e (sym same))
inside_law at (Show s g x doc cs ∷ due) (did ∷ log) out q (inr (to, e, (forward, backward, slides, inr (n, is, same)), nil, isout)) = inside_end did (Unsaid n) log is nil tt
inside_law at (Begin x y ∷ due) (did ∷ log) out q r = absurd q
inside_law at (Tell rev ∷ due) (did ∷ log) out q (inl (to, more, inl (is, same), r)) = inside_of did (Said (telling at rev)) log is (inside_law (told at rev) due log out q (moved to (told at rev) more [] log out same due r))
inside_law at (Tell rev ∷ due) (did ∷ log) out q (inl (to, more, inr (n, is, same), r)) = absurd (not_both to at more _ same)
inside_law at (Say m ∷ due) (did ∷ log) out q (inl (to, more, inl (is, same), r)) = inside_of did (Said m) log is (inside_law at due log out q (moved to at more [] log out same due r))
inside_law at (Say m ∷ due) (did ∷ log) out q (inl (to, more, inr (n, is, same), r)) = absurd (not_both to at more _ same)
inside_law at (Hear ∷ due) (did ∷ log) out q (inr (to, e, (g, n, is, same), nil, isout)) = inside_end did (Heard g n) log is nil tt
inside_law at (Take base change ∷ due) (did ∷ log) out q (inr (to, e, (now, g, is, same), nil, isout)) = inside_end did _ log is nil tt
inside_law at (Look s gr rq ∷ due) (did ∷ log) out q (inr (to, e, (g, is, same), nil, isout)) = inside_end did _ log is nil tt
inside_law at (Fetch ∷ due) (did ∷ log) out q (inr (to, e, (g, is, same), nil, isout)) = inside_end did _ log is nil tt
inside_law at (Tell rev ∷ due) (did ∷ log) out q (inr (to, e, inl (is, same), nil, isout)) = absurd (not_both (told at rev) to [] e (sym same))
inside_law at (Tell rev ∷ due) (did ∷ log) out q (inr (to, e, inr (n, is, same), nil, isout)) = inside_end did (Unsaid n) log is nil tt
inside_law at (Say m ∷ due) (did ∷ log) out q (inr (to, e, inl (is, same), nil, isout)) = absurd (not_both at to [] e (sym same))
inside_law at (Say m ∷ due) (did ∷ log) out q (inr (to, e, inr (n, is, same), nil, isout)) = inside_end did (Unsaid n) log is nil tt
inside_law at (Greet x ∷ due) (did ∷ log) out q r = absurd q
inside_law at (Ask x y ∷ due) (did ∷ log) out q r = absurd q
inside_law at (Enter x y ∷ due) (did ∷ log) out q r = absurd q
inside_law at (Login x ∷ due) (did ∷ log) out q r = absurd q
inside_law at (Rejoin x y ∷ due) (did ∷ log) out q r = absurd q

welcomed_lands : (at : Place) (grant : Grant) (r : Result Welcome PadBad) → Lands (welcomed at grant r)
welcomed_lands at grant (Ok w) = tt
welcomed_lands at grant (Err b) = tt

missed_lands : (b : Bool) (m : ServerMsg) → Settled (map Say (if b then m ∷ [] else []) ++ Fetch ∷ Hear ∷ [])
missed_lands true m = tt
missed_lands false m = tt

rejoined_lands : (at : Place) (rev : ℕ) (r : Result CatchUp PadBad) → Lands (rejoined at rev r)
rejoined_lands at rev (Ok c) = missed_lands (rev == c.head) (msg.ReconnectNone c.session c.birth c.head c.head)
rejoined_lands at rev (Err b) = tt

landed : (to : Place) (more : List Duty) (o : Outcome) → Then to more ≡ o → Lands o → Settled (more ++ [])
landed to more o same l = let w : Lands (Then to more) = subst Lands (sym same) l in settled_on more [] w tt

-- a session on its pad
abbrev OnPad : Grant → Option Resume → List Did → Type 0
OnPad grant resume log = (desk_of log ≡ []) × (hall_of log ≡ []) × Joins grant resume (calls_of log)

pad_of : (grant : Grant) (resume : Option Resume) (did : Did) (e : PadEntry) (r : PadReply) (log : List Did) → did ≡ Called e r → IsJoin grant resume e → IsInside log → OnPad grant resume (did ∷ log)
pad_of grant resume did e r log is join inside = subst (λ d. OnPad grant resume (d ∷ log)) (sym is) (inside_desk log inside, inside_hall log inside, join)

nil_inside : (log : List Did) → log ≡ [] → IsInside log
nil_inside log nil = subst IsInside (sym nil) tt

join_law : (at : Place) (grant : Grant) (resume : Option Resume) (log : List Did) (out : Outcome) → Runs at (joining grant resume ∷ []) log out → OnPad grant resume log
join_law at grant resume [] out r = (refl, refl, tt)
join_law at grant None (did ∷ log) out (inl (to, more, (now, g, is, same), r)) = pad_of grant None did _ _ log is (now, refl) (inside_law to (more ++ []) log out (landed to more (welcomed at grant g) same (welcomed_lands at grant g)) r)
join_law at grant None (did ∷ log) out (inr (to, e, (now, g, is, same), nil, isout)) = pad_of grant None did _ _ log is (now, refl) (nil_inside log nil)
join_law at grant (Some again) (did ∷ log) out (inl (to, more, (now, g, is, same), r)) = pad_of grant (Some again) did _ _ log is (now, refl) (inside_law to (more ++ []) log out (landed to more (rejoined at again.rev g) same (rejoined_lands at again.rev g)) r)
join_law at grant (Some again) (did ∷ log) out (inr (to, e, (now, g, is, same), nil, isout)) = pad_of grant (Some again) did _ _ log is (now, refl) (nil_inside log nil)

-- ---- the registry

abbrev Enters : Grant → Option Resume → List Did → Outcome → Type 0
Enters grant resume log out = (desk_of log ≡ []) × IsHoused grant resume log out

enter_law : (grant : Grant) (resume : Option Resume) (log : List Did) (out : Outcome) → Runs nowhere (Enter grant resume ∷ []) log out → Enters grant resume log out
enter_law grant resume [] out r = (refl, inl (refl, refl))
enter_law grant resume (did ∷ log) out (inl (to, more, (Ok id, is, same), r)) =
    let p = join_law nowhere grant resume log out (moved to nowhere more (joining grant resume ∷ []) log out same [] r) in
    subst (λ d. Enters grant resume (d ∷ log) out) (sym is) (p.0, inr (inr (id, ap (λ l. (wanting grant resume, Ok id) ∷ l) p.1, p.2)))
enter_law grant resume (did ∷ log) out (inl (to, more, (Err b, is, same), r)) = absurd (not_both to nowhere more _ same)
enter_law grant resume (did ∷ log) out (inr (to, e, (Ok id, is, same), nil, isout)) = absurd (not_both nowhere to _ e (sym same))
enter_law grant resume (did ∷ log) out (inr (to, e, (Err b, is, same), nil, isout)) =
    subst (λ d. Enters grant resume (d ∷ log) out) (sym is) (subst (λ l. Enters grant resume (Entered (wanting grant resume) (Err b) ∷ l) out) (sym nil) (refl, inr (inl (b, refl, refl, isout ∙ same))))

-- ---- the directory

abbrev Asks : Drawn → Ready → List Did → Outcome → Type 0
Asks drawn ready log out =
    ((desk_of log ≡ []) × (hall_of log ≡ []) × (calls_of log ≡ []))
    ⊎ ((now : ℕ) × (((bad : DirBad) × (desk_of log ≡ (asking drawn ready now, dirs.Grant (Err bad)) ∷ []) × (hall_of log ≡ []) × (calls_of log ≡ []) × (out ≡ Ends nowhere (end_of_dir bad)))
    ⊎ ((grant : Grant) × (desk_of log ≡ (asking drawn ready now, dirs.Grant (Ok grant)) ∷ []) × IsHoused grant ready.resume log out)))

ask_law : (drawn : Drawn) (ready : Ready) (log : List Did) (out : Outcome) → Runs nowhere (Ask drawn ready ∷ []) log out → Asks drawn ready log out
ask_law drawn ready [] out r = inl (refl, refl, refl)
ask_law drawn ready (did ∷ log) out (inl (to, more, (now, Ok grant, is, same), r)) =
    let p = enter_law grant ready.resume log out (moved to nowhere more (Enter grant ready.resume ∷ []) log out same [] r) in
    subst (λ d. Asks drawn ready (d ∷ log) out) (sym is) (inr (now, inr (grant, ap (λ l. (asking drawn ready now, dirs.Grant (Ok grant)) ∷ l) p.0, p.1)))
ask_law drawn ready (did ∷ log) out (inl (to, more, (now, Err b, is, same), r)) = absurd (not_both to nowhere more _ same)
ask_law drawn ready (did ∷ log) out (inr (to, e, (now, Ok grant, is, same), nil, isout)) = absurd (not_both nowhere to _ e (sym same))
ask_law drawn ready (did ∷ log) out (inr (to, e, (now, Err b, is, same), nil, isout)) =
    subst (λ d. Asks drawn ready (d ∷ log) out) (sym is) (subst (λ l. Asks drawn ready (Granted now (asking drawn ready now) (dirs.Grant (Err b)) ∷ l) out) (sym nil) (inr (now, inl (b, refl, refl, refl, isout ∙ same))))

-- ---- the first message

-- the log begins with the reading of the first message
abbrev Meets : List Did → Ready → Type 0
Meets (Understood text r ∷ log) ready = r ≡ Ok (msgs.Ready ready.pad ready.token ready.sessions ready.resume)
Meets log ready = ⊥

-- how far a session came whose first message is to be read
abbrev IsMet : Drawn → List Did → Outcome → Type 0
IsMet drawn log out =
    ((desk_of log ≡ []) × (hall_of log ≡ []) × (calls_of log ≡ []))
    ⊎ ((ready : Ready) × (now : ℕ) × Meets log ready
    × (((bad : DirBad) × (desk_of log ≡ (asking drawn ready now, dirs.Grant (Err bad)) ∷ []) × (hall_of log ≡ []) × (calls_of log ≡ []) × (out ≡ Ends nowhere (end_of_dir bad)))
    ⊎ ((grant : Grant) × (desk_of log ≡ (asking drawn ready now, dirs.Grant (Ok grant)) ∷ []) × IsHoused grant ready.resume log out)))

met : (drawn : Drawn) (text : List ℕ) (m : Result ClientMsg WireBad) (ready : Ready) (log : List Did) (out : Outcome) → m ≡ Ok (msgs.Ready ready.pad ready.token ready.sessions ready.resume) → Asks drawn ready log out → IsMet drawn (Understood text m ∷ log) out
met drawn text m ready log out is (inl none) = inl none
met drawn text m ready log out is (inr (now, rest)) = inr (ready, now, is, rest)

read_law : (drawn : Drawn) (text : List ℕ) (did : Did) (log : List Did) (out : Outcome) (to : Place) (more : List Duty) (m : Result ClientMsg WireBad) → did ≡ Understood text m → Then to more ≡ begun nowhere drawn m → Runs to (more ++ []) log out → IsMet drawn (did ∷ log) out
read_law drawn text did log out to more (Ok (msgs.Ready pad token sessions resume)) is same r = first (is_short token) same
  where
    ready : Ready
    ready = record { pad = pad; token = token; sessions = sessions; resume = resume }

    first : (b : Bool) → Then to more ≡ admitted nowhere drawn ready b → IsMet drawn (did ∷ log) out
    first true so = subst (λ d. IsMet drawn (d ∷ log) out) (sym is) (met drawn text (Ok (msgs.Ready pad token sessions resume)) ready log out refl (ask_law drawn ready log out (moved to nowhere more (Ask drawn ready ∷ []) log out so [] r)))
    first false so = absurd (not_both to nowhere more _ so)
read_law drawn text did log out to more (Ok (msgs.Edit base change)) is same r = absurd (not_both to nowhere more _ same)
read_law drawn text did log out to more (Ok (msgs.Slide start granularity request)) is same r = absurd (not_both to nowhere more _ same)
read_law drawn text did log out to more (Ok msgs.Other) is same r = absurd (not_both to nowhere more _ same)
read_law drawn text did log out to more (Err b) is same r = absurd (not_both to nowhere more _ same)

met_law : (drawn : Drawn) (text : List ℕ) (log : List Did) (out : Outcome) → Runs nowhere (Begin drawn text ∷ []) log out → IsMet drawn log out
met_law drawn text [] out r = inl (refl, refl, refl)
met_law drawn text (did ∷ log) out (inl (to, more, (m, reads, is, same), r)) = read_law drawn text did log out to more m is same r
met_law drawn text (did ∷ log) out (inr (to, e, (m, reads, is, same), nil, isout)) = subst (λ d. IsMet drawn (d ∷ log) out) (sym is) (subst (λ l. IsMet drawn (Understood text m ∷ l) out) (sym nil) (inl (refl, refl, refl)))

-- behind the receive that brought the first message
first_met : (drawn : Drawn) (text : List ℕ) (n : ℕ) (log : List Did) (out : Outcome) → IsMet drawn log out → IsBegun drawn (Heard (got.Message text) n ∷ log) out
first_met drawn text n log out (inl none) = inl none
first_met drawn text n [] out (inr (ready, now, first, rest)) = absurd first
first_met drawn text n (Understood same m ∷ log) out (inr (ready, now, first, rest)) = inr (ready, now, first, rest)
first_met drawn text n (Heard g k ∷ log) out (inr (ready, now, first, rest)) = absurd first
first_met drawn text n (Said m ∷ log) out (inr (ready, now, first, rest)) = absurd first
first_met drawn text n (Unsaid k ∷ log) out (inr (ready, now, first, rest)) = absurd first
first_met drawn text n (Called e r ∷ log) out (inr (ready, now, first, rest)) = absurd first
first_met drawn text n (Granted k e r ∷ log) out (inr (ready, now, first, rest)) = absurd first
first_met drawn text n (Entered pad r ∷ log) out (inr (ready, now, first, rest)) = absurd first

pub begin_law : (drawn : Drawn) (log : List Did) (out : Outcome) → Runs nowhere (Greet drawn ∷ []) log out → IsBegun drawn log out
begin_law drawn [] out r = inl (refl, refl, refl)
begin_law drawn (did ∷ log) out (inr (to, e, (g, n, is, same), nil, isout)) = subst (λ d. IsBegun drawn (d ∷ log) out) (sym is) (subst (λ l. IsBegun drawn (Heard g n ∷ l) out) (sym nil) (inl (refl, refl, refl)))
begin_law drawn (did ∷ log) out (inl (to, more, (got.Message text, n, is, same), r)) = subst (λ d. IsBegun drawn (d ∷ log) out) (sym is) (first_met drawn text n log out (met_law drawn text log out (moved to nowhere more (Begin drawn text ∷ []) log out same [] r)))
begin_law drawn (did ∷ log) out (inl (to, more, (got.Nothing, n, is, same), r)) = subst (λ d. IsBegun drawn (d ∷ log) out) (sym is) (begin_law drawn log out (moved to nowhere more (Greet drawn ∷ []) log out same [] r))
begin_law drawn (did ∷ log) out (inl (to, more, (got.Binary, n, is, same), r)) = absurd (not_both to nowhere more _ same)
begin_law drawn (did ∷ log) out (inl (to, more, (got.Closed, n, is, same), r)) = absurd (not_both to nowhere more _ same)
begin_law drawn (did ∷ log) out (inl (to, more, (got.Failed, n, is, same), r)) = absurd (not_both to nowhere more _ same)
begin_law drawn (did ∷ log) out (inl (to, more, (got.NoMemory, n, is, same), r)) = absurd (not_both to nowhere more _ same)
