-- What is sent, along a walk.
use Rattle.std.proofs.Common.{◌≡◌, ℕ, zero, suc, ◌+◌, Bool, true, false, List, [], ◌∷◌, ◌++◌, map, drop, Option, Some, None, refl, sym, ap, ◌∙◌, subst, append_assoc, append-nil, inl, inr}
use Rattle.std.specs.Prelude.{◌⊎◌, ◌==◌, ◌*◌, ◌-◌, nat_lt, Result, Ok, Err, length, if◌then◌else◌}
use Rattle.ep_units.specs.declared.grant.Grant.{Grant}
use Rattle.ep_cs.specs.Change.{Change}
use Rattle.ep_cs.specs.Doc.{Doc}
use Rattle.ep_cs.specs.declared.bad.FitBad.{FitBad}
use Rattle.ep_history.specs.History.{is_session}
use Rattle.ep_history.specs.declared.pad_bad.PadBad.{PadBad}
use Rattle.ep_history.specs.declared.rev.Rev.{Rev}
use Rattle.ep_dir_records.specs.declared.dir_bad.DirBad.{DirBad}
use Rattle.ep_dir_records.specs.declared.ids.Drawn.{Drawn}
use Rattle.ep_step.specs.declared.telling.Committed.{Committed}
use Rattle.ep_pad_state.specs.declared.answers.CatchUp.{CatchUp}
use Rattle.ep_pad_state.specs.declared.answers.Fetched.{Fetched}
use Rattle.ep_pad_state.specs.declared.answers.Piece.{Piece}
use Rattle.ep_pad_state.specs.declared.answers.Welcome.{Welcome}
use Rattle.ep_pad.specs.Halls.{Answer}
use Rattle.ep_pad.specs.declared.entries.PadEntry.TheVariants as entry
use Rattle.ep_pad.specs.declared.entries.PadReply.TheVariants as reply
use Rattle.ep_wire_words.specs.declared.bad.WireBad.{WireBad}
use Rattle.ep_wire_words.specs.declared.client.ClientMsg.{ClientMsg}
use Rattle.ep_wire_words.specs.declared.client.ClientMsg.TheVariants as msgs
use Rattle.ep_wire_words.specs.declared.client.Resume.{Resume}
use Rattle.ep_wire_words.specs.declared.server.ServerMsg.{ServerMsg}
use Rattle.ep_wire_words.specs.declared.server.ServerMsg.TheVariants as msg
use Rattle.ep_link.specs.declared.passed.LinkGot.{LinkGot}
use Rattle.ep_link.specs.declared.passed.LinkGot.TheVariants as got
use Rattle.ep_session.specs.Output.{nop_tellings, nops_told, tellings, told_all, output, said_by, said_of, plain}
use Rattle.ep_session.specs.Session.{Did, Heard, Understood, Said, Unsaid, Called, Duty, Greet, Begin, Ask, Enter, Login, Rejoin, Hear, Understand, Take, Look, Show, Fetch, Tell, TellNop, Say, Outcome, Then, Ends, Runs, heard, asked, begun, greeted, granted, entered, welcomed, rejoined, none_missed, welcome_place, rejoin_place, vars, took, looked, shown, unfit, changes_of, fetched, is_full, nops_due, news_due, due_at, counted, telling, told, nop_telling, nop_told, is_step, calls_of, admitted, is_short}
use Rattle.ep_session.specs.declared.end.End.{End}
use Rattle.ep_session.specs.declared.end.End.TheVariants as ends
use Rattle.ep_session.specs.declared.place.Place.{Place}
use Rattle.ep_session.specs.declared.ready.Ready.{Ready}
use Rattle.ep_session.proofs.Running.{not_both}

-- nothing is due to be said
abbrev pub Quiet : List Duty → Type 0
Quiet [] = Unit {0}
Quiet (Say m ∷ due) = ⊥
Quiet (Tell r ∷ due) = ⊥
Quiet (TellNop ∷ due) = ⊥
Quiet (Show s g q doc cs ∷ due) = ⊥
Quiet (d ∷ due) = Quiet due

-- what is due to be said stands in front
abbrev Fronted : List Duty → Type 0
Fronted [] = Unit {0}
Fronted (Say m ∷ due) = Fronted due
Fronted (Tell r ∷ due) = Fronted due
Fronted (TellNop ∷ due) = Fronted due
Fronted (Show s g q doc cs ∷ due) = Fronted due
Fronted (d ∷ due) = Quiet due

-- what is due to be said but the steps of timesliders, and the place behind it
abbrev owed : Place → List Duty → List ServerMsg
owed at [] = []
owed at (Say m ∷ due) = m ∷ owed at due
owed at (Tell r ∷ due) = telling at r ∷ owed (told at r) due
owed at (TellNop ∷ due) = nop_telling at ∷ owed (nop_told at) due
owed at (Show s g q doc cs ∷ due) = owed at due
owed at (d ∷ due) = []

abbrev pub behind : Place → List Duty → Place
behind at [] = at
behind at (Say m ∷ due) = behind at due
behind at (Tell r ∷ due) = behind (told at r) due
behind at (TellNop ∷ due) = behind (nop_told at) due
behind at (Show s g q doc cs ∷ due) = behind at due
behind at (d ∷ due) = at

abbrev Law : Place → List Duty → List Did → Type 0
Law at due log = (rest : List ServerMsg) × (plain (owed at due) ++ output (behind at due) (calls_of log) ≡ plain (said_of log) ++ rest)

abbrev Still : Place → List Did → Type 0
Still at log = (rest : List ServerMsg) × (output at (calls_of log) ≡ plain (said_of log) ++ rest)

quiet_fronted : (due : List Duty) → Quiet due → Fronted due
quiet_fronted [] q = tt
quiet_fronted (Greet x ∷ due) q = q
quiet_fronted (Ask x y ∷ due) q = q
quiet_fronted (Enter x y ∷ due) q = q
quiet_fronted (Login x ∷ due) q = q
quiet_fronted (Rejoin x y ∷ due) q = q
quiet_fronted (Hear ∷ due) q = q
quiet_fronted (Take x y ∷ due) q = q
quiet_fronted (Look x y z ∷ due) q = q
quiet_fronted (Fetch ∷ due) q = q
quiet_fronted (Tell r ∷ due) q = absurd q
quiet_fronted (TellNop ∷ due) q = absurd q
quiet_fronted (Show s g x doc cs ∷ due) q = absurd q
quiet_fronted (Begin x y ∷ due) q = q
quiet_fronted (Understand x ∷ due) q = q
quiet_fronted (Say m ∷ due) q = absurd q

quiet_on : (a b : List Duty) → Quiet a → Quiet b → Quiet (a ++ b)
quiet_on [] b p q = q
quiet_on (Greet x ∷ a) b p q = quiet_on a b p q
quiet_on (Ask x y ∷ a) b p q = quiet_on a b p q
quiet_on (Enter x y ∷ a) b p q = quiet_on a b p q
quiet_on (Login x ∷ a) b p q = quiet_on a b p q
quiet_on (Rejoin x y ∷ a) b p q = quiet_on a b p q
quiet_on (Hear ∷ a) b p q = quiet_on a b p q
quiet_on (Take x y ∷ a) b p q = quiet_on a b p q
quiet_on (Look x y z ∷ a) b p q = quiet_on a b p q
quiet_on (Fetch ∷ a) b p q = quiet_on a b p q
quiet_on (Tell r ∷ a) b p q = absurd p
quiet_on (TellNop ∷ a) b p q = absurd p
quiet_on (Show s g x doc cs ∷ a) b p q = absurd p
quiet_on (Begin x y ∷ a) b p q = quiet_on a b p q
quiet_on (Understand x ∷ a) b p q = quiet_on a b p q
quiet_on (Say m ∷ a) b p q = absurd p

-- where nothing is due to be said, what was sent is of calls
quiet_still : (at : Place) (due : List Duty) (log : List Did) → Quiet due → Law at due log → Still at log
quiet_still at [] log q l = l
quiet_still at (Greet x ∷ due) log q l = l
quiet_still at (Ask x y ∷ due) log q l = l
quiet_still at (Enter x y ∷ due) log q l = l
quiet_still at (Login x ∷ due) log q l = l
quiet_still at (Rejoin x y ∷ due) log q l = l
quiet_still at (Hear ∷ due) log q l = l
quiet_still at (Take x y ∷ due) log q l = l
quiet_still at (Look x y z ∷ due) log q l = l
quiet_still at (Fetch ∷ due) log q l = l
quiet_still at (Tell r ∷ due) log q l = absurd q
quiet_still at (TellNop ∷ due) log q l = absurd q
quiet_still at (Show s g x doc cs ∷ due) log q l = absurd q
quiet_still at (Begin x y ∷ due) log q l = l
quiet_still at (Understand x ∷ due) log q l = l
quiet_still at (Say m ∷ due) log q l = absurd q

plain_one : (m : ServerMsg) (ms : List ServerMsg) → plain (m ∷ ms) ≡ plain (m ∷ []) ++ plain ms
plain_one (msg.Vars pad author read_only session birth rev doc time) ms = refl
plain_one (msg.Accepted rev session) ms = refl
plain_one (msg.News rev change author session time delta) ms = refl
plain_one (msg.Reconnect current birth head rev change author session time) ms = refl
plain_one (msg.ReconnectNone current birth head rev) ms = refl
plain_one (msg.Slid start reached granularity request forward backward) ms = refl
plain_one (msg.Closing word) ms = refl

plain_on : (xs ys : List ServerMsg) → plain (xs ++ ys) ≡ plain xs ++ plain ys
plain_on [] ys = refl
plain_on (x ∷ xs) ys = plain_one x (xs ++ ys) ∙ ap (λ l. plain (x ∷ []) ++ l) (plain_on xs ys) ∙ sym (append_assoc (plain (x ∷ [])) (plain xs) (plain ys)) ∙ ap (λ l. l ++ plain ys) (sym (plain_one x xs))

plain_front : (m : ServerMsg) (xs ys zs rest : List ServerMsg) → plain xs ++ ys ≡ plain zs ++ rest → plain (m ∷ xs) ++ ys ≡ plain (m ∷ zs) ++ rest
plain_front m xs ys zs rest h =
    ap (λ l. l ++ ys) (plain_one m xs) ∙ append_assoc (plain (m ∷ [])) (plain xs) ys ∙ ap (λ l. plain (m ∷ []) ++ l) h ∙ sym (append_assoc (plain (m ∷ [])) (plain zs) rest) ∙ ap (λ l. l ++ rest) (sym (plain_one m zs))

-- a revision is told by no steps
plain_telling_by : (a b : Bool) (x y z : ServerMsg) (ms : List ServerMsg) → plain (x ∷ ms) ≡ x ∷ plain ms → plain (y ∷ ms) ≡ y ∷ plain ms → plain (z ∷ ms) ≡ z ∷ plain ms → plain ((if a then x else (if b then y else z)) ∷ ms) ≡ (if a then x else (if b then y else z)) ∷ plain ms
plain_telling_by true b x y z ms p q r = p
plain_telling_by false true x y z ms p q r = q
plain_telling_by false false x y z ms p q r = r

plain_telling : (at : Place) (r : Rev) (ms : List ServerMsg) → plain (telling at r ∷ ms) ≡ telling at r ∷ plain ms
plain_telling at r ms = plain_telling_by (nat_lt at.rev at.caught) (is_session at.me r.session) (msg.Reconnect at.me at.birth at.caught (counted at.rev 1) r.change r.author r.session r.time) (msg.Accepted (counted at.rev 1) at.me) (msg.News (counted at.rev 1) r.change r.author r.session r.time (r.time - at.time)) ms refl refl refl

plain_nops : (at : Place) (n : ℕ) → plain (nop_tellings at n) ≡ nop_tellings at n
plain_nops at zero = refl
plain_nops at (suc n) = ap (λ l. nop_telling at ∷ l) (plain_nops (nop_told at) n)

plain_tellings : (at : Place) (revs : List Rev) (nops : List ℕ) → plain (tellings at revs nops) ≡ tellings at revs nops
plain_tellings at [] nops = plain_nops at (length nops)
plain_tellings at (r ∷ revs) nops =
    let n = due_at at.rev nops in
    let here = nops_told at n in
    let rest = tellings (told here r) revs (drop n nops) in
    plain_on (nop_tellings at n) (telling here r ∷ rest) ∙ ap (λ l. l ++ plain (telling here r ∷ rest)) (plain_nops at n)
    ∙ ap (λ l. nop_tellings at n ++ l) (plain_telling here r rest ∙ ap (λ l. telling here r ∷ l) (plain_tellings (told here r) revs (drop n nops)))

-- where nothing is due to be said
owed_quiet : (at : Place) (due : List Duty) → Quiet due → owed at due ≡ []
owed_quiet at [] q = refl
owed_quiet at (Greet x ∷ due) q = refl
owed_quiet at (Begin x y ∷ due) q = refl
owed_quiet at (Ask x y ∷ due) q = refl
owed_quiet at (Enter x y ∷ due) q = refl
owed_quiet at (Login x ∷ due) q = refl
owed_quiet at (Rejoin x y ∷ due) q = refl
owed_quiet at (Hear ∷ due) q = refl
owed_quiet at (Understand x ∷ due) q = refl
owed_quiet at (Take x y ∷ due) q = refl
owed_quiet at (Look x y z ∷ due) q = refl
owed_quiet at (Fetch ∷ due) q = refl
owed_quiet at (Tell r ∷ due) q = absurd q
owed_quiet at (TellNop ∷ due) q = absurd q
owed_quiet at (Show s g x doc cs ∷ due) q = absurd q
owed_quiet at (Say m ∷ due) q = absurd q

pub behind_quiet : (at : Place) (due : List Duty) → Quiet due → behind at due ≡ at
behind_quiet at [] q = refl
behind_quiet at (Greet x ∷ due) q = refl
behind_quiet at (Begin x y ∷ due) q = refl
behind_quiet at (Ask x y ∷ due) q = refl
behind_quiet at (Enter x y ∷ due) q = refl
behind_quiet at (Login x ∷ due) q = refl
behind_quiet at (Rejoin x y ∷ due) q = refl
behind_quiet at (Hear ∷ due) q = refl
behind_quiet at (Understand x ∷ due) q = refl
behind_quiet at (Take x y ∷ due) q = refl
behind_quiet at (Look x y z ∷ due) q = refl
behind_quiet at (Fetch ∷ due) q = refl
behind_quiet at (Tell r ∷ due) q = absurd q
behind_quiet at (TellNop ∷ due) q = absurd q
behind_quiet at (Show s g x doc cs ∷ due) q = absurd q
behind_quiet at (Say m ∷ due) q = absurd q

-- that edits have become nothing leaves the revision
pub nops_rev : (at : Place) (n : ℕ) → (nops_told at n).rev ≡ at.rev
nops_rev at zero = refl
nops_rev at (suc n) = nops_rev (nop_told at) n

owed_nops : (at : Place) (n : ℕ) (due : List Duty) → owed at (nops_due n ++ due) ≡ nop_tellings at n ++ owed (nops_told at n) due
owed_nops at zero due = refl
owed_nops at (suc n) due = ap (λ l. nop_telling at ∷ l) (owed_nops (nop_told at) n due)

behind_nops : (at : Place) (n : ℕ) (due : List Duty) → behind at (nops_due n ++ due) ≡ behind (nops_told at n) due
behind_nops at zero due = refl
behind_nops at (suc n) due = behind_nops (nop_told at) n due

-- what a fetch brought stands in front
owed_news : (at : Place) (revs : List Rev) (nops : List ℕ) (due : List Duty) → Quiet due → owed at (news_due at.rev revs nops ++ due) ≡ tellings at revs nops
owed_news at [] nops due q = owed_nops at (length nops) due ∙ ap (λ l. nop_tellings at (length nops) ++ l) (owed_quiet (nops_told at (length nops)) due q) ∙ append-nil (nop_tellings at (length nops))
owed_news at (r ∷ revs) nops due q =
    let n = due_at at.rev nops in
    let here = nops_told at n in
    let more = drop n nops in
    let rest = news_due (counted at.rev 1) revs more in
    ap (λ d. owed at d) (append_assoc (nops_due n) (Tell r ∷ rest) due) ∙ owed_nops at n (Tell r ∷ (rest ++ due))
    ∙ ap (λ l. nop_tellings at n ++ telling here r ∷ l) (ap (λ k. owed (told here r) (news_due (counted k 1) revs more ++ due)) (sym (nops_rev at n)) ∙ owed_news (told here r) revs more due q)

pub behind_news : (at : Place) (revs : List Rev) (nops : List ℕ) (due : List Duty) → Quiet due → behind at (news_due at.rev revs nops ++ due) ≡ told_all at revs nops
behind_news at [] nops due q = behind_nops at (length nops) due ∙ behind_quiet (nops_told at (length nops)) due q
behind_news at (r ∷ revs) nops due q =
    let n = due_at at.rev nops in
    let here = nops_told at n in
    let more = drop n nops in
    let rest = news_due (counted at.rev 1) revs more in
    ap (λ d. behind at d) (append_assoc (nops_due n) (Tell r ∷ rest) due) ∙ behind_nops at n (Tell r ∷ (rest ++ due))
    ∙ (ap (λ k. behind (told here r) (news_due (counted k 1) revs more ++ due)) (sym (nops_rev at n)) ∙ behind_news (told here r) revs more due q)

fronted_nops : (n : ℕ) (due : List Duty) → Fronted due → Fronted (nops_due n ++ due)
fronted_nops zero due f = f
fronted_nops (suc n) due f = fronted_nops n due f

fronted_news : (rev : ℕ) (revs : List Rev) (nops : List ℕ) (due : List Duty) → Quiet due → Fronted (news_due rev revs nops ++ due)
fronted_news rev [] nops due q = fronted_nops (length nops) due (quiet_fronted due q)
fronted_news rev (r ∷ revs) nops due q =
    let n = due_at rev nops in
    let rest = news_due (counted rev 1) revs (drop n nops) in
    subst Fronted (sym (append_assoc (nops_due n) (Tell r ∷ rest) due)) (fronted_nops n (Tell r ∷ (rest ++ due)) (fronted_news (counted rev 1) revs (drop n nops) due q))

-- ---- outcomes

to_of : Outcome → Place
to_of (Then to more) = to
to_of (Ends to e) = to

more_of : Outcome → List Duty
more_of (Then to more) = more
more_of (Ends to e) = []

pub same_to : (to at : Place) (more due : List Duty) → Then to more ≡ Then at due → to ≡ at
unfolding to_of
same_to to at more due h = ap to_of h

pub same_more : (to at : Place) (more due : List Duty) → Then to more ≡ Then at due → more ≡ due
unfolding more_of
same_more to at more due h = ap more_of h

-- from a place and duties to others that are the same
pub moved : (to at : Place) (more due : List Duty) (log : List Did) (out : Outcome) → Then to more ≡ Then at due → (others : List Duty) → Runs to (more ++ others) log out → Runs at (due ++ others) log out
moved to at more due log out h others r = subst (λ p. Runs p (due ++ others) log out) (same_to to at more due h) (subst (λ d. Runs to (d ++ others) log out) (same_more to at more due h) r)

-- it goes on at the same place, and nothing is due to be said
abbrev Steady : Place → Outcome → Type 0
Steady at (Then to more) = (to ≡ at) × Quiet more
Steady at (Ends to e) = Unit {0}

steady_choice : (b : Bool) (at : Place) (due : List Duty) (e : End) → Quiet due → Steady at (if b then Then at due else Ends at e)
steady_choice true at due e q = (refl, q)
steady_choice false at due e q = tt

asked_steady : (at : Place) (r : Result ClientMsg WireBad) → Steady at (asked at r)
asked_steady at (Ok (msgs.Ready pad token sessions resume)) = tt
asked_steady at (Ok (msgs.Edit base change)) = (refl, tt)
asked_steady at (Ok (msgs.Slide start granularity request)) = steady_choice (is_step granularity) at (Look start granularity request ∷ Fetch ∷ Hear ∷ []) _ tt
asked_steady at (Ok msgs.Other) = (refl, tt)
asked_steady at (Err b) = tt

heard_steady : (at : Place) (g : LinkGot) (n : ℕ) → Steady at (heard at g n)
heard_steady at (got.Message text) n = (refl, tt)
heard_steady at got.Binary n = tt
heard_steady at got.Nothing n = (refl, tt)
heard_steady at got.Closed n = tt
heard_steady at got.Failed n = tt
heard_steady at got.NoMemory n = tt

begun_steady : (at : Place) (drawn : Drawn) (r : Result ClientMsg WireBad) → Steady at (begun at drawn r)
begun_steady at drawn (Ok (msgs.Ready pad token sessions resume)) = first (is_short token)
  where
    first : (b : Bool) → Steady at (admitted at drawn (record { pad = pad; token = token; sessions = sessions; resume = resume }) b)
    first true = (refl, tt)
    first false = tt
begun_steady at drawn (Ok (msgs.Edit base change)) = tt
begun_steady at drawn (Ok (msgs.Slide start granularity request)) = tt
begun_steady at drawn (Ok msgs.Other) = tt
begun_steady at drawn (Err b) = tt

greeted_steady : (at : Place) (drawn : Drawn) (g : LinkGot) (n : ℕ) → Steady at (greeted at drawn g n)
greeted_steady at drawn (got.Message text) n = (refl, tt)
greeted_steady at drawn got.Binary n = tt
greeted_steady at drawn got.Nothing n = (refl, tt)
greeted_steady at drawn got.Closed n = tt
greeted_steady at drawn got.Failed n = tt
greeted_steady at drawn got.NoMemory n = tt

granted_steady : (at : Place) (ready : Ready) (r : Result Grant DirBad) → Steady at (granted at ready r)
granted_steady at ready (Ok grant) = (refl, tt)
granted_steady at ready (Err b) = tt

entered_steady : (at : Place) (grant : Grant) (resume : Option Resume) (r : Answer) → Steady at (entered at grant resume r)
entered_steady at grant None (Ok id) = (refl, tt)
entered_steady at grant (Some again) (Ok id) = (refl, tt)
entered_steady at grant resume (Err b) = tt

-- a step that says nothing and makes no call of the pad
steady_law : (at to : Place) (more due : List Duty) (log : List Did) (out : Outcome) → Then to more ≡ out → Steady at out → Quiet due → ((q : Quiet (more ++ due)) → Law to (more ++ due) log) → Still at log
steady_law at to more due log out is steady q ih =
    let s : Steady at (Then to more) = subst (Steady at) (sym is) steady in
    let quiet : Quiet (more ++ due) = quiet_on more due s.1 q in
    subst (λ p. Still p log) s.0 (quiet_still to (more ++ due) log quiet (ih quiet))

-- what ended said nothing more
ended_law : (at : Place) (due : List Duty) (did : Did) (log : List Did) → said_by did ≡ [] → log ≡ [] → Law at due (did ∷ log)
ended_law at due did log none nil =
    let all = plain (owed at due) ++ output (behind at due) (calls_of (did ∷ log)) in
    (all, ap (λ l. plain l ++ all) (sym (ap (λ s. s ++ said_of log) none ∙ ap said_of nil)))

said_nothing : (d did : Did) → did ≡ d → said_by d ≡ [] → said_by did ≡ []
said_nothing d did is none = ap said_by is ∙ none

unsaid : (at to : Place) (m : ServerMsg) (did : Did) (e : End) (next : Place) → ((did ≡ Said m) × (Ends to e ≡ Then next [])) ⊎ ((n : ℕ) × (did ≡ Unsaid n) × (Ends to e ≡ Ends at (ends.LinkFault n))) → said_by did ≡ []
unsaid at to m did e next (inl (is, other)) = absurd (not_both next to [] e (sym other))
unsaid at to m did e next (inr (n, is, same)) = said_nothing (Unsaid n) did is refl

-- a message is said
say_law : (at to next : Place) (more due : List Duty) (did : Did) (log : List Did) (out : Outcome) (m : ServerMsg) (d : Duty) → owed at (d ∷ due) ≡ m ∷ owed next due → behind at (d ∷ due) ≡ behind next due
    → ((did ≡ Said m) × (Then to more ≡ Then next [])) ⊎ ((n : ℕ) × (did ≡ Unsaid n) × (Then to more ≡ Ends at (ends.LinkFault n))) → Runs to (more ++ due) log out → (Runs next due log out → Law next due log) → Law at (d ∷ due) (did ∷ log)
say_law at to next more due did log out m d o b (inl (is, same)) r ih =
    let l = ih (moved to next more [] log out same due r) in
    let h : plain (m ∷ owed next due) ++ output (behind next due) (calls_of log) ≡ plain (m ∷ said_of log) ++ l.0 = plain_front m (owed next due) (output (behind next due) (calls_of log)) (said_of log) l.0 l.1 in
    subst (λ x. Law at (d ∷ due) (x ∷ log)) (sym is) (l.0, ap (λ x. plain x ++ output (behind at (d ∷ due)) (calls_of log)) o ∙ ap (λ x. plain (m ∷ owed next due) ++ output x (calls_of log)) b ∙ h)
say_law at to next more due did log out m d o b (inr (n, is, other)) r ih = absurd (not_both to at more (ends.LinkFault n) other)

-- what a fetch brought is due before what is quiet
news_law : (at : Place) (revs : List Rev) (nops : List ℕ) (due : List Duty) (log : List Did) → Quiet due → Law at (news_due at.rev revs nops ++ due) log → (rest : List ServerMsg) × (tellings at revs nops ++ output (told_all at revs nops) (calls_of log) ≡ plain (said_of log) ++ rest)
news_law at revs nops due log q l =
    (l.0, sym (ap (λ x. x ++ output (told_all at revs nops) (calls_of log)) (ap plain (owed_news at revs nops due q) ∙ plain_tellings at revs nops)) ∙ sym (ap (λ p. plain (owed at (news_due at.rev revs nops ++ due)) ++ output p (calls_of log)) (behind_news at revs nops due q)) ∙ l.1)

after_quiet : (b : Bool) (due : List Duty) → Quiet due → Quiet ((if b then [] else (Fetch ∷ [])) ++ due)
after_quiet true due q = q
after_quiet false due q = q

fetch_law : (at to : Place) (more due : List Duty) (did : Did) (log : List Did) (out : Outcome) (r : Result Fetched PadBad) → did ≡ Called (entry.Fetch at.me at.rev at.nops) (reply.Fetched r) → Then to more ≡ fetched at r → Quiet due → Runs to (more ++ due) log out → ((p : Place) (d : List Duty) → Fronted d → Runs p d log out → Law p d log) → Law at (Fetch ∷ due) (did ∷ log)
fetch_law at to more due did log out (Ok f) is same q r ih =
    let news = news_due at.rev f.revs.items f.nops.items in
    let after = if is_full at f then [] else (Fetch ∷ []) in
    let rest = after ++ due in
    let quiet : Quiet rest = after_quiet (is_full at f) due q in
    let run : Runs at (news ++ rest) log out = subst (λ d. Runs at d log out) (append_assoc news after due) (moved to at more (news ++ after) log out same due r) in
    subst (λ d. Law at (Fetch ∷ due) (d ∷ log)) (sym is) (news_law at f.revs.items f.nops.items rest log quiet (ih at (news ++ rest) (fronted_news at.rev f.revs.items f.nops.items rest quiet) run))
fetch_law at to more due did log out (Err b) is same q r ih = absurd (not_both to at more _ same)

take_law : (at to : Place) (more due : List Duty) (did : Did) (log : List Did) (out : Outcome) (base : ℕ) (change : Change) (now : ℕ) (r : Result Committed PadBad) → did ≡ Called (entry.Accept at.me base change now) (reply.Committed r) → Then to more ≡ took at r → Quiet due → Runs to (more ++ due) log out → ((p : Place) (d : List Duty) → Fronted d → Runs p d log out → Law p d log) → Law at (Take base change ∷ due) (did ∷ log)
take_law at to more due did log out base change now (Ok c) is same q r ih =
    let next = record at { taken = counted at.taken 1 } in
    subst (λ d. Law at (Take base change ∷ due) (d ∷ log)) (sym is) (quiet_still next due log q (ih next due (quiet_fronted due q) (moved to next more [] log out same due r)))
take_law at to more due did log out base change now (Err b) is same q r ih = absurd (not_both to at more _ same)

-- the steps of a piece are due, of which nothing counts
show_law : (at to : Place) (more due : List Duty) (log : List Did) (out : Outcome) (s g x : ℕ) (doc : Doc) (cs : List Change) (o : Option FitBad) → Then to more ≡ shown at (Show s g x doc cs) o → Quiet due → Runs to (more ++ due) log out → ((p : Place) (d : List Duty) → Fronted d → Runs p d log out → Law p d log) → Still at log
show_law at to more due log out s g x doc cs None same q r ih = quiet_still at due log q (ih at (Show s g x doc cs ∷ due) (quiet_fronted due q) (moved to at more (Show s g x doc cs ∷ []) log out same due r))
show_law at to more due log out s g x doc cs (Some why) same q r ih = absurd (not_both to at more _ same)

look_law : (at to : Place) (more due : List Duty) (did : Did) (log : List Did) (out : Outcome) (s g x : ℕ) (r : Result Piece PadBad) → did ≡ Called (entry.History at.me s (100 * g)) (reply.Piece r) → Then to more ≡ looked at s g x r → Quiet due → Runs to (more ++ due) log out → ((p : Place) (d : List Duty) → Fronted d → Runs p d log out → Law p d log) → Law at (Look s g x ∷ due) (did ∷ log)
look_law at to more due did log out s g x (Ok p) is same q r ih = subst (λ d. Law at (Look s g x ∷ due) (d ∷ log)) (sym is) (show_law at to more due log out s g x p.doc (changes_of p.revs.items) (unfit p.doc (changes_of p.revs.items)) same q r ih)
look_law at to more due did log out s g x (Err b) is same q r ih = absurd (not_both to at more _ same)

login_law : (at to : Place) (more due : List Duty) (did : Did) (log : List Did) (out : Outcome) (grant : Grant) (now : ℕ) (r : Result Welcome PadBad) → did ≡ Called (entry.Login grant now) (reply.Welcome r) → Then to more ≡ welcomed at grant r → Quiet due → Runs to (more ++ due) log out → ((p : Place) (d : List Duty) → Fronted d → Runs p d log out → Law p d log) → Law at (Login grant ∷ due) (did ∷ log)
login_law at to more due did log out grant now (Ok w) is same q r ih =
    let m = vars grant w in
    subst (λ d. Law at (Login grant ∷ due) (d ∷ log)) (sym is) (ih (welcome_place w) (Say m ∷ Fetch ∷ Hear ∷ due) q (moved to (welcome_place w) more (Say m ∷ Fetch ∷ Hear ∷ []) log out same due r))
login_law at to more due did log out grant now (Err b) is same q r ih = absurd (not_both to at more _ same)

missed_law : (b : Bool) (m : ServerMsg) (p : Place) (due : List Duty) (log : List Did) → plain (m ∷ []) ≡ m ∷ [] → Law p (map Say (if b then m ∷ [] else []) ++ Fetch ∷ Hear ∷ due) log → (rest : List ServerMsg) × ((if b then m ∷ [] else []) ++ output p (calls_of log) ≡ plain (said_of log) ++ rest)
missed_law true m p due log one l = (l.0, sym (ap (λ x. x ++ output p (calls_of log)) one) ∙ l.1)
missed_law false m p due log one l = l

missed_fronted : (b : Bool) (m : ServerMsg) (due : List Duty) → Quiet due → Fronted (map Say (if b then m ∷ [] else []) ++ Fetch ∷ Hear ∷ due)
missed_fronted true m due q = q
missed_fronted false m due q = q

rejoin_law : (at to : Place) (more due : List Duty) (did : Did) (log : List Did) (out : Outcome) (grant : Grant) (again : Resume) (now : ℕ) (r : Result CatchUp PadBad) → did ≡ Called (entry.Resume grant again.rev again.birth again.author now) (reply.CatchUp r) → Then to more ≡ rejoined at again.rev r → Quiet due → Runs to (more ++ due) log out → ((p : Place) (d : List Duty) → Fronted d → Runs p d log out → Law p d log) → Law at (Rejoin grant again ∷ due) (did ∷ log)
rejoin_law at to more due did log out grant again now (Ok c) is same q r ih =
    let m = msg.ReconnectNone c.session c.birth c.head c.head in
    let b = again.rev == c.head in
    let p = rejoin_place again.rev c in
    let none = map Say (none_missed again.rev c) in
    let run : Runs p (none ++ Fetch ∷ Hear ∷ due) log out = subst (λ d. Runs p d log out) (append_assoc none (Fetch ∷ Hear ∷ []) due) (moved to p more (none ++ Fetch ∷ Hear ∷ []) log out same due r) in
    subst (λ d. Law at (Rejoin grant again ∷ due) (d ∷ log)) (sym is) (missed_law b m p due log refl (ih p (none ++ Fetch ∷ Hear ∷ due) (missed_fronted b m due q) run))
rejoin_law at to more due did log out grant again now (Err b) is same q r ih = absurd (not_both to at more _ same)

pub sent_law : (at : Place) (due : List Duty) (log : List Did) (out : Outcome) → Fronted due → Runs at due log out → Law at due log
sent_law at due [] out f r = (plain (owed at due) ++ output (behind at due) [], refl)
sent_law at [] (did ∷ log) out f r = absurd r
sent_law at (Greet drawn ∷ due) (did ∷ log) out f (inl (to, more, (g, n, is, same), r)) = subst (λ d. Law at (Greet drawn ∷ due) (d ∷ log)) (sym is) (steady_law at to more due log (greeted at drawn g n) same (greeted_steady at drawn g n) f (λ q. sent_law to (more ++ due) log out (quiet_fronted (more ++ due) q) r))
sent_law at (Begin drawn text ∷ due) (did ∷ log) out f (inl (to, more, (g, reads, is, same), r)) = subst (λ d. Law at (Begin drawn text ∷ due) (d ∷ log)) (sym is) (steady_law at to more due log (begun at drawn g) same (begun_steady at drawn g) f (λ q. sent_law to (more ++ due) log out (quiet_fronted (more ++ due) q) r))
sent_law at (Understand text ∷ due) (did ∷ log) out f (inl (to, more, (g, reads, is, same), r)) = subst (λ d. Law at (Understand text ∷ due) (d ∷ log)) (sym is) (steady_law at to more due log (asked at g) same (asked_steady at g) f (λ q. sent_law to (more ++ due) log out (quiet_fronted (more ++ due) q) r))
sent_law at (TellNop ∷ due) (did ∷ log) out f (inl (to, more, does, r)) = say_law at to (nop_told at) more due did log out (nop_telling at) TellNop refl refl does r (sent_law (nop_told at) due log out f)
sent_law at (Show s g x doc cs ∷ due) (did ∷ log) out f (inl (to, more, (forward, backward, slides, inl (is, same)), r)) = subst (λ d. Law at (Show s g x doc cs ∷ due) (d ∷ log)) (sym is) (sent_law at due log out f (moved to at more [] log out same due r))
sent_law at (Show s g x doc cs ∷ due) (did ∷ log) out f (inl (to, more, (forward, backward, slides, inr (n, is, same)), r)) = absurd (not_both to at more _ same)
sent_law at (Ask drawn ready ∷ due) (did ∷ log) out f (inl (to, more, (now, g, is, same), r)) = subst (λ d. Law at (Ask drawn ready ∷ due) (d ∷ log)) (sym is) (steady_law at to more due log (granted at ready g) same (granted_steady at ready g) f (λ q. sent_law to (more ++ due) log out (quiet_fronted (more ++ due) q) r))
sent_law at (Enter grant resume ∷ due) (did ∷ log) out f (inl (to, more, (g, is, same), r)) = subst (λ d. Law at (Enter grant resume ∷ due) (d ∷ log)) (sym is) (steady_law at to more due log (entered at grant resume g) same (entered_steady at grant resume g) f (λ q. sent_law to (more ++ due) log out (quiet_fronted (more ++ due) q) r))
sent_law at (Hear ∷ due) (did ∷ log) out f (inl (to, more, (g, n, is, same), r)) = subst (λ d. Law at (Hear ∷ due) (d ∷ log)) (sym is) (steady_law at to more due log (heard at g n) same (heard_steady at g n) f (λ q. sent_law to (more ++ due) log out (quiet_fronted (more ++ due) q) r))
sent_law at (Login grant ∷ due) (did ∷ log) out f (inl (to, more, (now, g, is, same), r)) = login_law at to more due did log out grant now g is same f r (λ p d. sent_law p d log out)
sent_law at (Rejoin grant again ∷ due) (did ∷ log) out f (inl (to, more, (now, g, is, same), r)) = rejoin_law at to more due did log out grant again now g is same f r (λ p d. sent_law p d log out)
sent_law at (Take base change ∷ due) (did ∷ log) out f (inl (to, more, (now, g, is, same), r)) = take_law at to more due did log out base change now g is same f r (λ p d. sent_law p d log out)
sent_law at (Look start granularity request ∷ due) (did ∷ log) out f (inl (to, more, (g, is, same), r)) = look_law at to more due did log out start granularity request g is same f r (λ p d. sent_law p d log out)
sent_law at (Fetch ∷ due) (did ∷ log) out f (inl (to, more, (g, is, same), r)) = fetch_law at to more due did log out g is same f r (λ p d. sent_law p d log out)
sent_law at (Tell rev ∷ due) (did ∷ log) out f (inl (to, more, does, r)) = say_law at to (told at rev) more due did log out (telling at rev) (Tell rev) refl refl does r (sent_law (told at rev) due log out f)
sent_law at (Say m ∷ due) (did ∷ log) out f (inl (to, more, does, r)) = say_law at to at more due did log out m (Say m) refl refl does r (sent_law at due log out f)
sent_law at (Greet drawn ∷ due) (did ∷ log) out f (inr (to, e, (g, n, is, same), nil, isout)) = ended_law at (Greet drawn ∷ due) did log (said_nothing _ did is refl) nil
sent_law at (Ask drawn ready ∷ due) (did ∷ log) out f (inr (to, e, (now, g, is, same), nil, isout)) = ended_law at (Ask drawn ready ∷ due) did log (said_nothing _ did is refl) nil
sent_law at (Enter grant resume ∷ due) (did ∷ log) out f (inr (to, e, (g, is, same), nil, isout)) = ended_law at (Enter grant resume ∷ due) did log (said_nothing _ did is refl) nil
sent_law at (Hear ∷ due) (did ∷ log) out f (inr (to, e, (g, n, is, same), nil, isout)) = ended_law at (Hear ∷ due) did log (said_nothing _ did is refl) nil
sent_law at (Login grant ∷ due) (did ∷ log) out f (inr (to, e, (now, g, is, same), nil, isout)) = ended_law at (Login grant ∷ due) did log (said_nothing _ did is refl) nil
sent_law at (Rejoin grant again ∷ due) (did ∷ log) out f (inr (to, e, (now, g, is, same), nil, isout)) = ended_law at (Rejoin grant again ∷ due) did log (said_nothing _ did is refl) nil
sent_law at (Take base change ∷ due) (did ∷ log) out f (inr (to, e, (now, g, is, same), nil, isout)) = ended_law at (Take base change ∷ due) did log (said_nothing _ did is refl) nil
sent_law at (Look start granularity request ∷ due) (did ∷ log) out f (inr (to, e, (g, is, same), nil, isout)) = ended_law at (Look start granularity request ∷ due) did log (said_nothing _ did is refl) nil
sent_law at (Fetch ∷ due) (did ∷ log) out f (inr (to, e, (g, is, same), nil, isout)) = ended_law at (Fetch ∷ due) did log (said_nothing _ did is refl) nil
sent_law at (Tell rev ∷ due) (did ∷ log) out f (inr (to, e, does, nil, isout)) = ended_law at (Tell rev ∷ due) did log (unsaid at to (telling at rev) did e (told at rev) does) nil
sent_law at (Say m ∷ due) (did ∷ log) out f (inr (to, e, does, nil, isout)) = ended_law at (Say m ∷ due) did log (unsaid at to m did e at does) nil
sent_law at (Begin drawn text ∷ due) (did ∷ log) out f (inr (to, e, (g, reads, is, same), nil, isout)) = ended_law at (Begin drawn text ∷ due) did log (said_nothing _ did is refl) nil
sent_law at (Understand text ∷ due) (did ∷ log) out f (inr (to, e, (g, reads, is, same), nil, isout)) = ended_law at (Understand text ∷ due) did log (said_nothing _ did is refl) nil
sent_law at (TellNop ∷ due) (did ∷ log) out f (inr (to, e, does, nil, isout)) = ended_law at (TellNop ∷ due) did log (unsaid at to (nop_telling at) did e (nop_told at) does) nil
sent_law at (Show s g x doc cs ∷ due) (did ∷ log) out f (inr (to, e, (forward, backward, slides, does), nil, isout)) = ended_law at (Show s g x doc cs ∷ due) did log (unsaid at to _ did e at does) nil
