-- What messages ask for, along a walk.
use Rattle.std.proofs.Common.{◌≡◌, ℕ, zero, suc, ◌+◌, ◌≤◌, Bool, true, false, List, [], ◌∷◌, ◌++◌, map, drop, Option, Some, None, refl, sym, ap, ◌∙◌, subst, append_assoc, append-nil, inl, inr, arith}
use Rattle.std.specs.Prelude.{◌==◌, ◌*◌, Result, Ok, Err, length, if◌then◌else◌}
use Rattle.ep_units.specs.declared.grant.Grant.{Grant}
use Rattle.ep_cs.specs.Change.{Change}
use Rattle.ep_cs.specs.Doc.{Doc}
use Rattle.ep_cs.specs.declared.bad.FitBad.{FitBad}
use Rattle.ep_history.specs.declared.pad_bad.PadBad.{PadBad}
use Rattle.ep_history.specs.declared.rev.Rev.{Rev}
use Rattle.ep_dir_records.specs.declared.dir_bad.DirBad.{DirBad}
use Rattle.ep_dir_records.specs.declared.ids.Drawn.{Drawn}
use Rattle.ep_step.specs.declared.telling.Committed.{Committed}
use Rattle.ep_pad_state.specs.declared.answers.CatchUp.{CatchUp}
use Rattle.ep_pad_state.specs.declared.answers.Fetched.{Fetched}
use Rattle.ep_pad_state.specs.declared.answers.Piece.{Piece}
use Rattle.ep_pad_state.specs.declared.answers.Welcome.{Welcome}
use Rattle.ep_pad.specs.Halls.{Answer}
use Rattle.ep_wire_words.specs.declared.bad.WireBad.{WireBad}
use Rattle.ep_wire_words.specs.declared.client.ClientMsg.{ClientMsg}
use Rattle.ep_wire_words.specs.declared.client.ClientMsg.TheVariants as msgs
use Rattle.ep_wire_words.specs.declared.client.Resume.{Resume}
use Rattle.ep_wire_words.specs.declared.server.ServerMsg.{ServerMsg}
use Rattle.ep_wire_words.specs.declared.server.ServerMsg.TheVariants as msg
use Rattle.ep_link.specs.declared.passed.LinkGot.{LinkGot}
use Rattle.ep_link.specs.declared.passed.LinkGot.TheVariants as got
use Rattle.ep_session.specs.Acts.{Act, Edits, Reads, act_of, act_by, acts_asked, acts_called}
use Rattle.ep_session.specs.Session.{Did, Heard, Understood, Said, Unsaid, Duty, Greet, Begin, Ask, Enter, Login, Rejoin, Hear, Understand, Take, Look, Show, Fetch, Tell, TellNop, Say, Outcome, Then, Ends, Runs, heard, asked, begun, greeted, granted, entered, welcomed, rejoined, none_missed, took, looked, shown, unfit, changes_of, fetched, is_full, nops_due, news_due, due_at, counted, telling, told, nop_told, is_step, calls_of, admitted, is_short}
use Rattle.ep_session.specs.declared.end.End.{End}
use Rattle.ep_session.specs.declared.place.Place.{Place}
use Rattle.ep_session.specs.declared.ready.Ready.{Ready}
use Rattle.ep_session.proofs.Running.{not_both}

-- what may be due: a duty of the beginning alone; or what is to be said, and then the rest of a turn
abbrev pub Shaped : List Duty → Type 0
Shaped [] = ⊥
Shaped (Say m ∷ due) = Shaped due
Shaped (Tell r ∷ due) = Shaped due
Shaped (TellNop ∷ due) = Shaped due
Shaped (Show s g q doc cs ∷ due) = Shaped due
Shaped (Hear ∷ due) = due ≡ []
Shaped (Fetch ∷ due) = due ≡ Hear ∷ []
Shaped (Take base change ∷ due) = due ≡ Fetch ∷ Hear ∷ []
Shaped (Look start granularity request ∷ due) = due ≡ Fetch ∷ Hear ∷ []
Shaped (d ∷ due) = due ≡ []

-- an outcome before what is due already
abbrev pub Fits : List Duty → Outcome → Type 0
Fits due (Then to more) = Shaped (more ++ due)
Fits due (Ends to e) = Unit {0}

fits_choice : (b : Bool) (at : Place) (more : List Duty) (e : End) (due : List Duty) → Shaped (more ++ due) → Fits due (if b then Then at more else Ends at e)
fits_choice true at more e due s = s
fits_choice false at more e due s = tt

pub begun_fits : (at : Place) (drawn : Drawn) (r : Result ClientMsg WireBad) → Fits [] (begun at drawn r)
begun_fits at drawn (Ok (msgs.Ready pad token sessions resume)) = first (is_short token)
  where
    first : (b : Bool) → Fits [] (admitted at drawn (record { pad = pad; token = token; sessions = sessions; resume = resume }) b)
    first true = refl
    first false = tt
begun_fits at drawn (Ok (msgs.Edit base change)) = tt
begun_fits at drawn (Ok (msgs.Slide start granularity request)) = tt
begun_fits at drawn (Ok msgs.Other) = tt
begun_fits at drawn (Err b) = tt

pub greeted_fits : (at : Place) (drawn : Drawn) (g : LinkGot) (n : ℕ) → Fits [] (greeted at drawn g n)
greeted_fits at drawn (got.Message text) n = refl
greeted_fits at drawn got.Binary n = tt
greeted_fits at drawn got.Nothing n = refl
greeted_fits at drawn got.Closed n = tt
greeted_fits at drawn got.Failed n = tt
greeted_fits at drawn got.NoMemory n = tt

pub granted_fits : (at : Place) (ready : Ready) (r : Result Grant DirBad) → Fits [] (granted at ready r)
granted_fits at ready (Ok grant) = refl
granted_fits at ready (Err b) = tt

pub entered_fits : (at : Place) (grant : Grant) (resume : Option Resume) (r : Answer) → Fits [] (entered at grant resume r)
entered_fits at grant None (Ok id) = refl
entered_fits at grant (Some again) (Ok id) = refl
entered_fits at grant resume (Err b) = tt

pub welcomed_fits : (at : Place) (grant : Grant) (r : Result Welcome PadBad) → Fits [] (welcomed at grant r)
welcomed_fits at grant (Ok w) = refl
welcomed_fits at grant (Err b) = tt

missed_fits : (b : Bool) (m : ServerMsg) → Shaped ((map Say (if b then m ∷ [] else []) ++ Fetch ∷ Hear ∷ []) ++ [])
missed_fits true m = refl
missed_fits false m = refl

pub rejoined_fits : (at : Place) (rev : ℕ) (r : Result CatchUp PadBad) → Fits [] (rejoined at rev r)
rejoined_fits at rev (Ok c) = missed_fits (rev == c.head) (msg.ReconnectNone c.session c.birth c.head c.head)
rejoined_fits at rev (Err b) = tt

pub asked_fits : (at : Place) (r : Result ClientMsg WireBad) → Fits [] (asked at r)
asked_fits at (Ok (msgs.Ready pad token sessions resume)) = tt
asked_fits at (Ok (msgs.Edit base change)) = refl
asked_fits at (Ok (msgs.Slide start granularity request)) = fits_choice (is_step granularity) at (Look start granularity request ∷ Fetch ∷ Hear ∷ []) _ [] refl
asked_fits at (Ok msgs.Other) = refl
asked_fits at (Err b) = tt

pub heard_fits : (at : Place) (g : LinkGot) (n : ℕ) → Fits [] (heard at g n)
heard_fits at (got.Message text) n = refl
heard_fits at got.Binary n = tt
heard_fits at got.Nothing n = refl
heard_fits at got.Closed n = tt
heard_fits at got.Failed n = tt
heard_fits at got.NoMemory n = tt

pub took_fits : (at : Place) (r : Result Committed PadBad) → Fits (Fetch ∷ Hear ∷ []) (took at r)
took_fits at (Ok c) = refl
took_fits at (Err b) = tt

shown_fits : (at : Place) (s g q : ℕ) (doc : Doc) (cs : List Change) (o : Option FitBad) → Fits (Fetch ∷ Hear ∷ []) (shown at (Show s g q doc cs) o)
shown_fits at s g q doc cs None = refl
shown_fits at s g q doc cs (Some why) = tt

pub looked_fits : (at : Place) (s g q : ℕ) (r : Result Piece PadBad) → Fits (Fetch ∷ Hear ∷ []) (looked at s g q r)
looked_fits at s g q (Ok p) = shown_fits at s g q p.doc (changes_of p.revs.items) (unfit p.doc (changes_of p.revs.items))
looked_fits at s g q (Err b) = tt

pub nops_shaped : (n : ℕ) (due : List Duty) → Shaped due → Shaped (nops_due n ++ due)
nops_shaped zero due s = s
nops_shaped (suc n) due s = nops_shaped n due s

pub news_shaped : (rev : ℕ) (revs : List Rev) (nops : List ℕ) (due : List Duty) → Shaped due → Shaped (news_due rev revs nops ++ due)
news_shaped rev [] nops due s = nops_shaped (length nops) due s
news_shaped rev (r ∷ revs) nops due s =
    let n = due_at rev nops in
    let rest = news_due (counted rev 1) revs (drop n nops) in
    subst Shaped (sym (append_assoc (nops_due n) (Tell r ∷ rest) due)) (nops_shaped n ((Tell r ∷ rest) ++ due) (news_shaped (counted rev 1) revs (drop n nops) due s))

pub fetched_fits : (at : Place) (r : Result Fetched PadBad) → Fits (Hear ∷ []) (fetched at r)
fetched_fits at (Ok f) =
    let news = news_due at.rev f.revs.items f.nops.items in
    let rest = if is_full at f then [] else (Fetch ∷ []) in
    subst Shaped (sym (append_assoc news rest (Hear ∷ []))) (news_shaped at.rev f.revs.items f.nops.items (rest ++ Hear ∷ []) (go (is_full at f)))
  where
    go : (b : Bool) → Shaped ((if b then [] else (Fetch ∷ [])) ++ Hear ∷ [])
    go true = refl
    go false = refl
fetched_fits at (Err b) = tt

pub fits_then : (to : Place) (more due : List Duty) (o : Outcome) → Then to more ≡ o → Fits due o → Shaped (more ++ due)
fits_then to more due o same f = let w : Fits due (Then to more) = subst (Fits due) (sym same) f in w

-- ---- what messages ask for

abbrev pub acts_due : List Duty → List Act
acts_due [] = []
acts_due (Take base change ∷ due) = Edits base change ∷ acts_due due
acts_due (Look start granularity request ∷ due) = Reads start (100 * granularity) ∷ acts_due due
acts_due (d ∷ due) = acts_due due

-- what an outcome has due of acts
abbrev acts_out : Outcome → List Act
acts_out (Then to more) = acts_due more
acts_out (Ends to e) = []

acts_due_on : (a b : List Duty) → acts_due (a ++ b) ≡ acts_due a ++ acts_due b
acts_due_on [] b = refl
acts_due_on (Take x y ∷ a) b = ap (λ l. Edits x y ∷ l) (acts_due_on a b)
acts_due_on (Look x y z ∷ a) b = ap (λ l. Reads x (100 * y) ∷ l) (acts_due_on a b)
acts_due_on (Greet x ∷ a) b = acts_due_on a b
acts_due_on (Ask x y ∷ a) b = acts_due_on a b
acts_due_on (Enter x y ∷ a) b = acts_due_on a b
acts_due_on (Login x ∷ a) b = acts_due_on a b
acts_due_on (Rejoin x y ∷ a) b = acts_due_on a b
acts_due_on (Hear ∷ a) b = acts_due_on a b
acts_due_on (Fetch ∷ a) b = acts_due_on a b
acts_due_on (Tell r ∷ a) b = acts_due_on a b
acts_due_on (TellNop ∷ a) b = acts_due_on a b
acts_due_on (Show s g q doc cs ∷ a) b = acts_due_on a b
acts_due_on (Begin x y ∷ a) b = acts_due_on a b
acts_due_on (Understand x ∷ a) b = acts_due_on a b
acts_due_on (Say m ∷ a) b = acts_due_on a b

nops_no_acts : (n : ℕ) → acts_due (nops_due n) ≡ []
nops_no_acts zero = refl
nops_no_acts (suc n) = nops_no_acts n

news_no_acts : (rev : ℕ) (revs : List Rev) (nops : List ℕ) → acts_due (news_due rev revs nops) ≡ []
news_no_acts rev [] nops = nops_no_acts (length nops)
news_no_acts rev (r ∷ revs) nops =
    let n = due_at rev nops in
    let rest = news_due (counted rev 1) revs (drop n nops) in
    acts_due_on (nops_due n) (Tell r ∷ rest) ∙ ap (λ l. l ++ acts_due rest) (nops_no_acts n) ∙ news_no_acts (counted rev 1) revs (drop n nops)

-- no more than one act is due
one_due : (due : List Duty) → Shaped due → length (acts_due due) ≤ 1
one_due [] s = absurd s
one_due (Say m ∷ due) s = one_due due s
one_due (Tell r ∷ due) s = one_due due s
one_due (TellNop ∷ due) s = one_due due s
one_due (Show x g q doc cs ∷ due) s = one_due due s
one_due (Begin x y ∷ due) s = subst (λ d. length (acts_due d) ≤ 1) (sym s) (omega arith)
one_due (Understand x ∷ due) s = subst (λ d. length (acts_due d) ≤ 1) (sym s) (omega arith)
one_due (Hear ∷ due) s = subst (λ d. length (acts_due d) ≤ 1) (sym s) (omega arith)
one_due (Fetch ∷ due) s = subst (λ d. length (acts_due d) ≤ 1) (sym s) (omega arith)
one_due (Take x y ∷ due) s = subst (λ d. length (Edits x y ∷ acts_due d) ≤ 1) (sym s) (omega arith)
one_due (Look x y z ∷ due) s = subst (λ d. length (Reads x (100 * y) ∷ acts_due d) ≤ 1) (sym s) (omega arith)
one_due (Greet x ∷ due) s = subst (λ d. length (acts_due d) ≤ 1) (sym s) (omega arith)
one_due (Ask x y ∷ due) s = subst (λ d. length (acts_due d) ≤ 1) (sym s) (omega arith)
one_due (Enter x y ∷ due) s = subst (λ d. length (acts_due d) ≤ 1) (sym s) (omega arith)
one_due (Login x ∷ due) s = subst (λ d. length (acts_due d) ≤ 1) (sym s) (omega arith)
one_due (Rejoin x y ∷ due) s = subst (λ d. length (acts_due d) ≤ 1) (sym s) (omega arith)

-- the acts that came are what is due then; where it ended there was one at most
abbrev HasActs : List Act → Outcome → Type 0
HasActs l (Then to more) = l ≡ acts_due more
HasActs l (Ends to e) = length l ≤ 1

slide_has : (b : Bool) (at : Place) (start granularity request : ℕ) (e : End) → HasActs (if b then Reads start (100 * granularity) ∷ [] else []) (if b then Then at (Look start granularity request ∷ Fetch ∷ Hear ∷ []) else Ends at e)
slide_has true at s g q e = refl
slide_has false at s g q e = omega arith

slide_few : (b : Bool) (a : Act) → length (if b then a ∷ [] else []) ≤ 1
slide_few true a = omega arith
slide_few false a = omega arith

asked_has : (at : Place) (r : Result ClientMsg WireBad) → HasActs (act_of r) (asked at r)
asked_has at (Ok (msgs.Ready pad token sessions resume)) = omega arith
asked_has at (Ok (msgs.Edit base change)) = refl
asked_has at (Ok (msgs.Slide start granularity request)) = slide_has (is_step granularity) at start granularity request _
asked_has at (Ok msgs.Other) = refl
asked_has at (Err b) = omega arith

heard_has : (at : Place) (g : LinkGot) (n : ℕ) → HasActs [] (heard at g n)
heard_has at (got.Message text) n = refl
heard_has at got.Binary n = omega arith
heard_has at got.Nothing n = refl
heard_has at got.Closed n = omega arith
heard_has at got.Failed n = omega arith
heard_has at got.NoMemory n = omega arith

begun_has : (at : Place) (drawn : Drawn) (r : Result ClientMsg WireBad) → HasActs (act_of r) (begun at drawn r)
begun_has at drawn (Ok (msgs.Ready pad token sessions resume)) = first (is_short token)
  where
    first : (b : Bool) → HasActs (act_of (Ok (msgs.Ready pad token sessions resume))) (admitted at drawn (record { pad = pad; token = token; sessions = sessions; resume = resume }) b)
    first true = refl
    first false = omega arith
begun_has at drawn (Ok (msgs.Edit base change)) = omega arith
begun_has at drawn (Ok (msgs.Slide start granularity request)) = slide_few (is_step granularity) (Reads start (100 * granularity))
begun_has at drawn (Ok msgs.Other) = omega arith
begun_has at drawn (Err b) = omega arith

greeted_has : (at : Place) (drawn : Drawn) (g : LinkGot) (n : ℕ) → HasActs [] (greeted at drawn g n)
greeted_has at drawn (got.Message text) n = refl
greeted_has at drawn got.Binary n = omega arith
greeted_has at drawn got.Nothing n = refl
greeted_has at drawn got.Closed n = omega arith
greeted_has at drawn got.Failed n = omega arith
greeted_has at drawn got.NoMemory n = omega arith

granted_has : (at : Place) (ready : Ready) (r : Result Grant DirBad) → HasActs [] (granted at ready r)
granted_has at ready (Ok grant) = refl
granted_has at ready (Err b) = omega arith

entered_has : (at : Place) (grant : Grant) (resume : Option Resume) (r : Answer) → HasActs [] (entered at grant resume r)
entered_has at grant None (Ok id) = refl
entered_has at grant (Some again) (Ok id) = refl
entered_has at grant resume (Err b) = omega arith

welcomed_has : (at : Place) (grant : Grant) (r : Result Welcome PadBad) → HasActs [] (welcomed at grant r)
welcomed_has at grant (Ok w) = refl
welcomed_has at grant (Err b) = omega arith

missed_has : (b : Bool) (m : ServerMsg) → [] ≡ acts_due (map Say (if b then m ∷ [] else []) ++ Fetch ∷ Hear ∷ [])
missed_has true m = refl
missed_has false m = refl

rejoined_has : (at : Place) (rev : ℕ) (r : Result CatchUp PadBad) → HasActs [] (rejoined at rev r)
rejoined_has at rev (Ok c) = missed_has (rev == c.head) (msg.ReconnectNone c.session c.birth c.head c.head)
rejoined_has at rev (Err b) = omega arith

took_has : (at : Place) (r : Result Committed PadBad) → HasActs [] (took at r)
took_has at (Ok c) = refl
took_has at (Err b) = omega arith

shown_has : (at : Place) (s g q : ℕ) (doc : Doc) (cs : List Change) (o : Option FitBad) → HasActs [] (shown at (Show s g q doc cs) o)
shown_has at s g q doc cs None = refl
shown_has at s g q doc cs (Some why) = omega arith

looked_has : (at : Place) (s g q : ℕ) (r : Result Piece PadBad) → HasActs [] (looked at s g q r)
looked_has at s g q (Ok p) = shown_has at s g q p.doc (changes_of p.revs.items) (unfit p.doc (changes_of p.revs.items))
looked_has at s g q (Err b) = omega arith

fetched_has : (at : Place) (r : Result Fetched PadBad) → HasActs [] (fetched at r)
fetched_has at (Ok f) =
    let news = news_due at.rev f.revs.items f.nops.items in
    let rest = if is_full at f then [] else (Fetch ∷ []) in
    sym (acts_due_on news rest ∙ ap (λ l. l ++ acts_due rest) (news_no_acts at.rev f.revs.items f.nops.items) ∙ go (is_full at f))
  where
    go : (b : Bool) → acts_due (if b then [] else (Fetch ∷ [])) ≡ []
    go true = refl
    go false = refl
fetched_has at (Err b) = omega arith

-- ---- the law

abbrev pub Asks : List Duty → List Did → Type 0
Asks due log = (rest : List Act) × (acts_due due ++ acts_asked log ≡ acts_called (calls_of log) ++ rest) × (length rest ≤ 1)

-- a duty that is no act, at which no act came
quiet_step : (to : Place) (more due : List Duty) (d : Duty) (did x : Did) (log : List Did) (o : Outcome) → did ≡ x → act_by x ≡ [] → acts_called (calls_of (x ∷ log)) ≡ acts_called (calls_of log) → acts_due (d ∷ due) ≡ acts_due due → Then to more ≡ o → HasActs [] o → Asks (more ++ due) log → Asks (d ∷ due) (did ∷ log)
quiet_step to more due d did x log o is none same_calls same_due same has ih =
    let h : [] ≡ acts_due more = let w : HasActs [] (Then to more) = subst (HasActs []) (sym same) has in w in
    subst (λ y. Asks (d ∷ due) (y ∷ log)) (sym is)
    (ih.0, ap (λ l. l ++ (act_by x ++ acts_asked log)) same_due ∙ ap (λ l. acts_due due ++ (l ++ acts_asked log)) none ∙ ap (λ l. (l ++ acts_due due) ++ acts_asked log) h ∙ ap (λ l. l ++ acts_asked log) (sym (acts_due_on more due)) ∙ ih.1 ∙ ap (λ l. l ++ ih.0) (sym same_calls), ih.2)

quiet_end : (due : List Duty) (d : Duty) (did x : Did) (log : List Did) → did ≡ x → act_by x ≡ [] → acts_called (calls_of (x ∷ [])) ≡ [] → acts_due (d ∷ due) ≡ acts_due due → Shaped (d ∷ due) → length (acts_due (d ∷ due)) ≤ 1 → log ≡ [] → Asks (d ∷ due) (did ∷ log)
quiet_end due d did x log is none no_calls same_due s few nil =
    subst (λ y. Asks (d ∷ due) (y ∷ log)) (sym is) (subst (λ l. Asks (d ∷ due) (x ∷ l)) (sym nil)
    (acts_due (d ∷ due), ap (λ l. acts_due (d ∷ due) ++ (l ++ [])) none ∙ append-nil (acts_due (d ∷ due)) ∙ ap (λ l. l ++ acts_due (d ∷ due)) (sym no_calls), few))

-- a message that is read
read_step : (to : Place) (more : List Duty) (d : Duty) (due : List Duty) (did : Did) (text : List ℕ) (m : Result ClientMsg WireBad) (log : List Did) (o : Outcome) → due ≡ [] → acts_due (d ∷ []) ≡ [] → did ≡ Understood text m → Then to more ≡ o → HasActs (act_of m) o → Asks (more ++ due) log → Asks (d ∷ due) (did ∷ log)
read_step to more d due did text m log o nil none is same has ih =
    let h : act_of m ≡ acts_due more = let w : HasActs (act_of m) (Then to more) = subst (HasActs (act_of m)) (sym same) has in w in
    let l : Asks more log = subst (λ m. Asks m log) (append-nil more) (subst (λ e. Asks (more ++ e) log) nil ih) in
    subst (λ e. Asks (d ∷ e) (did ∷ log)) (sym nil) (subst (λ y. Asks (d ∷ []) (y ∷ log)) (sym is)
    (l.0, ap (λ a. a ++ (act_of m ++ acts_asked log)) none ∙ ap (λ a. a ++ acts_asked log) h ∙ l.1, l.2))

read_end : (to : Place) (e : End) (d : Duty) (due : List Duty) (did : Did) (text : List ℕ) (m : Result ClientMsg WireBad) (log : List Did) (o : Outcome) → due ≡ [] → acts_due (d ∷ []) ≡ [] → did ≡ Understood text m → Ends to e ≡ o → HasActs (act_of m) o → log ≡ [] → Asks (d ∷ due) (did ∷ log)
read_end to e d due did text m log o nil none is same has end =
    let h : length (act_of m) ≤ 1 = let w : HasActs (act_of m) (Ends to e) = subst (HasActs (act_of m)) (sym same) has in w in
    subst (λ e. Asks (d ∷ e) (did ∷ log)) (sym nil) (subst (λ y. Asks (d ∷ []) (y ∷ log)) (sym is) (subst (λ l. Asks (d ∷ []) (Understood text m ∷ l)) (sym end)
    (act_of m, ap (λ a. a ++ (act_of m ++ [])) none ∙ append-nil (act_of m), h)))

-- an act
act_step : (to : Place) (more due : List Duty) (d : Duty) (a : Act) (did x : Did) (log : List Did) (o : Outcome) → did ≡ x → act_by x ≡ [] → acts_called (calls_of (x ∷ log)) ≡ a ∷ acts_called (calls_of log) → acts_due (d ∷ due) ≡ a ∷ acts_due due → Then to more ≡ o → HasActs [] o → Asks (more ++ due) log → Asks (d ∷ due) (did ∷ log)
act_step to more due d a did x log o is none calls here same has ih =
    let h : [] ≡ acts_due more = let w : HasActs [] (Then to more) = subst (HasActs []) (sym same) has in w in
    subst (λ y. Asks (d ∷ due) (y ∷ log)) (sym is)
    (ih.0, ap (λ l. l ++ (act_by x ++ acts_asked log)) here ∙ ap (λ l. a ∷ (acts_due due ++ (l ++ acts_asked log))) none ∙ ap (λ l. a ∷ ((l ++ acts_due due) ++ acts_asked log)) h ∙ ap (λ l. a ∷ (l ++ acts_asked log)) (sym (acts_due_on more due)) ∙ ap (λ l. a ∷ l) ih.1 ∙ ap (λ l. l ++ ih.0) (sym calls), ih.2)

act_end : (due : List Duty) (d : Duty) (a : Act) (did x : Did) (log : List Did) → did ≡ x → act_by x ≡ [] → acts_called (calls_of (x ∷ [])) ≡ a ∷ [] → acts_due (d ∷ due) ≡ a ∷ acts_due due → due ≡ Fetch ∷ Hear ∷ [] → log ≡ [] → Asks (d ∷ due) (did ∷ log)
act_end due d a did x log is none calls here rest nil =
    subst (λ y. Asks (d ∷ due) (y ∷ log)) (sym is) (subst (λ l. Asks (d ∷ due) (x ∷ l)) (sym nil)
    ([], ap (λ l. l ++ (act_by x ++ [])) here ∙ ap (λ l. a ∷ (acts_due due ++ (l ++ []))) none ∙ ap (λ l. a ∷ (acts_due l ++ [])) rest ∙ ap (λ l. l ++ []) (sym calls), omega arith))

pub act_law : (at : Place) (due : List Duty) (log : List Did) (out : Outcome) → Shaped due → Runs at due log out → Asks due log
act_law at due [] out s r = (acts_due due, append-nil (acts_due due), one_due due s)
act_law at [] (did ∷ log) out s r = absurd r
act_law at (Greet drawn ∷ due) (did ∷ log) out s (inl (to, more, (g, n, is, same), r)) = quiet_step to more due (Greet drawn) did (Heard g n) log (greeted at drawn g n) is refl refl refl same (greeted_has at drawn g n) (act_law to (more ++ due) log out (subst (λ e. Shaped (more ++ e)) (sym s) (fits_then to more [] (greeted at drawn g n) same (greeted_fits at drawn g n))) r)
act_law at (Hear ∷ due) (did ∷ log) out s (inl (to, more, (g, n, is, same), r)) = quiet_step to more due Hear did (Heard g n) log (heard at g n) is refl refl refl same (heard_has at g n) (act_law to (more ++ due) log out (subst (λ e. Shaped (more ++ e)) (sym s) (fits_then to more [] (heard at g n) same (heard_fits at g n))) r)
act_law at (Begin drawn text ∷ due) (did ∷ log) out s (inl (to, more, (g, reads, is, same), r)) = read_step to more (Begin drawn text) due did text g log (begun at drawn g) s refl is same (begun_has at drawn g) (act_law to (more ++ due) log out (subst (λ e. Shaped (more ++ e)) (sym s) (fits_then to more [] (begun at drawn g) same (begun_fits at drawn g))) r)
act_law at (Understand text ∷ due) (did ∷ log) out s (inl (to, more, (g, reads, is, same), r)) = read_step to more (Understand text) due did text g log (asked at g) s refl is same (asked_has at g) (act_law to (more ++ due) log out (subst (λ e. Shaped (more ++ e)) (sym s) (fits_then to more [] (asked at g) same (asked_fits at g))) r)
act_law at (Ask drawn ready ∷ due) (did ∷ log) out s (inl (to, more, (now, g, is, same), r)) = quiet_step to more due (Ask drawn ready) did _ log (granted at ready g) is refl refl refl same (granted_has at ready g) (act_law to (more ++ due) log out (subst (λ e. Shaped (more ++ e)) (sym s) (fits_then to more [] (granted at ready g) same (granted_fits at ready g))) r)
act_law at (Enter grant resume ∷ due) (did ∷ log) out s (inl (to, more, (g, is, same), r)) = quiet_step to more due (Enter grant resume) did _ log (entered at grant resume g) is refl refl refl same (entered_has at grant resume g) (act_law to (more ++ due) log out (subst (λ e. Shaped (more ++ e)) (sym s) (fits_then to more [] (entered at grant resume g) same (entered_fits at grant resume g))) r)
act_law at (Login grant ∷ due) (did ∷ log) out s (inl (to, more, (now, g, is, same), r)) = quiet_step to more due (Login grant) did _ log (welcomed at grant g) is refl refl refl same (welcomed_has at grant g) (act_law to (more ++ due) log out (subst (λ e. Shaped (more ++ e)) (sym s) (fits_then to more [] (welcomed at grant g) same (welcomed_fits at grant g))) r)
act_law at (Rejoin grant again ∷ due) (did ∷ log) out s (inl (to, more, (now, g, is, same), r)) = quiet_step to more due (Rejoin grant again) did _ log (rejoined at again.rev g) is refl refl refl same (rejoined_has at again.rev g) (act_law to (more ++ due) log out (subst (λ e. Shaped (more ++ e)) (sym s) (fits_then to more [] (rejoined at again.rev g) same (rejoined_fits at again.rev g))) r)
act_law at (Take base change ∷ due) (did ∷ log) out s (inl (to, more, (now, g, is, same), r)) = act_step to more due (Take base change) (Edits base change) did _ log (took at g) is refl refl refl same (took_has at g) (act_law to (more ++ due) log out (subst (λ e. Shaped (more ++ e)) (sym s) (fits_then to more (Fetch ∷ Hear ∷ []) (took at g) same (took_fits at g))) r)
act_law at (Look st gr rq ∷ due) (did ∷ log) out s (inl (to, more, (g, is, same), r)) = act_step to more due (Look st gr rq) (Reads st (100 * gr)) did _ log (looked at st gr rq g) is refl refl refl same (looked_has at st gr rq g) (act_law to (more ++ due) log out (subst (λ e. Shaped (more ++ e)) (sym s) (fits_then to more (Fetch ∷ Hear ∷ []) (looked at st gr rq g) same (looked_fits at st gr rq g))) r)
act_law at (Fetch ∷ due) (did ∷ log) out s (inl (to, more, (g, is, same), r)) = quiet_step to more due Fetch did _ log (fetched at g) is refl refl refl same (fetched_has at g) (act_law to (more ++ due) log out (subst (λ e. Shaped (more ++ e)) (sym s) (fits_then to more (Hear ∷ []) (fetched at g) same (fetched_fits at g))) r)
act_law at (Tell rev ∷ due) (did ∷ log) out s (inl (to, more, inl (is, same), r)) = quiet_step to more due (Tell rev) did (Said (telling at rev)) log (Then (told at rev) []) is refl refl refl same refl (act_law to (more ++ due) log out (fits_then to more due (Then (told at rev) []) same s) r)
act_law at (Say m ∷ due) (did ∷ log) out s (inl (to, more, inl (is, same), r)) = quiet_step to more due (Say m) did (Said m) log (Then at []) is refl refl refl same refl (act_law to (more ++ due) log out (fits_then to more due (Then at []) same s) r)
act_law at (TellNop ∷ due) (did ∷ log) out s (inl (to, more, inl (is, same), r)) = quiet_step to more due TellNop did (Said _) log (Then (nop_told at) []) is refl refl refl same refl (act_law to (more ++ due) log out (fits_then to more due (Then (nop_told at) []) same s) r)
act_law at (Show st gr rq doc cs ∷ due) (did ∷ log) out s (inl (to, more, (forward, backward, slides, inl (is, same)), r)) = quiet_step to more due (Show st gr rq doc cs) did (Said _) log (Then at []) is refl refl refl same refl (act_law to (more ++ due) log out (fits_then to more due (Then at []) same s) r)
act_law at (TellNop ∷ due) (did ∷ log) out s (inl (to, more, inr (n, is, same), r)) = absurd (not_both to at more _ same)
act_law at (Show st gr rq doc cs ∷ due) (did ∷ log) out s (inl (to, more, (forward, backward, slides, inr (n, is, same)), r)) = absurd (not_both to at more _ same)
act_law at (Tell rev ∷ due) (did ∷ log) out s (inl (to, more, inr (n, is, same), r)) = absurd (not_both to at more _ same)
act_law at (Say m ∷ due) (did ∷ log) out s (inl (to, more, inr (n, is, same), r)) = absurd (not_both to at more _ same)
act_law at (Greet drawn ∷ due) (did ∷ log) out s (inr (to, e, (g, n, is, same), nil, isout)) = quiet_end due (Greet drawn) did (Heard g n) log is refl refl refl s (one_due (Greet drawn ∷ due) s) nil
act_law at (Hear ∷ due) (did ∷ log) out s (inr (to, e, (g, n, is, same), nil, isout)) = quiet_end due Hear did (Heard g n) log is refl refl refl s (one_due (Hear ∷ due) s) nil
act_law at (Begin drawn text ∷ due) (did ∷ log) out s (inr (to, e, (g, reads, is, same), nil, isout)) = read_end to e (Begin drawn text) due did text g log (begun at drawn g) s refl is same (begun_has at drawn g) nil
act_law at (Understand text ∷ due) (did ∷ log) out s (inr (to, e, (g, reads, is, same), nil, isout)) = read_end to e (Understand text) due did text g log (asked at g) s refl is same (asked_has at g) nil
act_law at (Ask drawn ready ∷ due) (did ∷ log) out s (inr (to, e, (now, g, is, same), nil, isout)) = quiet_end due (Ask drawn ready) did _ log is refl refl refl s (one_due (Ask drawn ready ∷ due) s) nil
act_law at (Enter grant resume ∷ due) (did ∷ log) out s (inr (to, e, (g, is, same), nil, isout)) = quiet_end due (Enter grant resume) did _ log is refl refl refl s (one_due (Enter grant resume ∷ due) s) nil
act_law at (Login grant ∷ due) (did ∷ log) out s (inr (to, e, (now, g, is, same), nil, isout)) = quiet_end due (Login grant) did _ log is refl refl refl s (one_due (Login grant ∷ due) s) nil
act_law at (Rejoin grant again ∷ due) (did ∷ log) out s (inr (to, e, (now, g, is, same), nil, isout)) = quiet_end due (Rejoin grant again) did _ log is refl refl refl s (one_due (Rejoin grant again ∷ due) s) nil
act_law at (Take base change ∷ due) (did ∷ log) out s (inr (to, e, (now, g, is, same), nil, isout)) = act_end due (Take base change) (Edits base change) did _ log is refl refl refl s nil
act_law at (Look st gr rq ∷ due) (did ∷ log) out s (inr (to, e, (g, is, same), nil, isout)) = act_end due (Look st gr rq) (Reads st (100 * gr)) did _ log is refl refl refl s nil
act_law at (Fetch ∷ due) (did ∷ log) out s (inr (to, e, (g, is, same), nil, isout)) = quiet_end due Fetch did _ log is refl refl refl s (one_due (Fetch ∷ due) s) nil
act_law at (Tell rev ∷ due) (did ∷ log) out s (inr (to, e, inl (is, same), nil, isout)) = absurd (not_both (told at rev) to [] e (sym same))
act_law at (Tell rev ∷ due) (did ∷ log) out s (inr (to, e, inr (n, is, same), nil, isout)) = quiet_end due (Tell rev) did (Unsaid n) log is refl refl refl s (one_due (Tell rev ∷ due) s) nil
act_law at (Say m ∷ due) (did ∷ log) out s (inr (to, e, inl (is, same), nil, isout)) = absurd (not_both at to [] e (sym same))
act_law at (Say m ∷ due) (did ∷ log) out s (inr (to, e, inr (n, is, same), nil, isout)) = quiet_end due (Say m) did (Unsaid n) log is refl refl refl s (one_due (Say m ∷ due) s) nil
act_law at (TellNop ∷ due) (did ∷ log) out s (inr (to, e, inl (is, same), nil, isout)) = absurd (not_both (nop_told at) to [] e (sym same))
act_law at (TellNop ∷ due) (did ∷ log) out s (inr (to, e, inr (n, is, same), nil, isout)) = quiet_end due TellNop did (Unsaid n) log is refl refl refl s (one_due (TellNop ∷ due) s) nil
act_law at (Show st gr rq doc cs ∷ due) (did ∷ log) out s (inr (to, e, (forward, backward, slides, inl (is, same)), nil, isout)) = absurd (not_both at to [] e (sym same))
act_law at (Show st gr rq doc cs ∷ due) (did ∷ log) out s (inr (to, e, (forward, backward, slides, inr (n, is, same)), nil, isout)) = quiet_end due (Show st gr rq doc cs) did (Unsaid n) log is refl refl refl s (one_due (Show st gr rq doc cs ∷ due) s) nil
