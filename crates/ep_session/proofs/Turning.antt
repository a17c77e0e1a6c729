-- What stands before a receive.
use Rattle.std.proofs.Common.{◌≡◌, ℕ, zero, suc, ◌+◌, ◌≤◌, Bool, true, false, List, [], ◌∷◌, ◌++◌, map, drop, Option, Some, None, refl, sym, ap, ◌∙◌, subst, append_assoc, append-nil, inl, inr, arith, length-append}
use Rattle.std.proofs.lemmas.Bool.Decides.{nat_tests}
use Rattle.std.specs.Prelude.{◌⊎◌, ◌==◌, ◌*◌, ◌-◌, ◌^◌, max, min, Result, Ok, Err, length, if◌then◌else◌}
use Rattle.ep_units.specs.declared.grant.Grant.{Grant}
use Rattle.ep_cs.specs.Change.{Change}
use Rattle.ep_cs.specs.Doc.{Doc}
use Rattle.ep_cs.specs.declared.bad.FitBad.{FitBad}
use Rattle.ep_history.specs.declared.pad_bad.PadBad.{PadBad}
use Rattle.ep_history.specs.declared.rev.Rev.{Rev}
use Rattle.ep_dir_records.specs.declared.dir_bad.DirBad.{DirBad}
use Rattle.ep_dir_records.specs.declared.ids.Drawn.{Drawn}
use Rattle.ep_step.specs.declared.telling.Committed.{Committed}
use Rattle.ep_pad_state.specs.declared.answers.CatchUp.{CatchUp}
use Rattle.ep_pad_state.specs.declared.answers.Fetched.{Fetched}
use Rattle.ep_pad_state.specs.declared.answers.Piece.{Piece}
use Rattle.ep_pad_state.specs.declared.answers.Welcome.{Welcome}
use Rattle.ep_pad.specs.Halls.{Answer}
use Rattle.ep_pad.specs.declared.entries.PadEntry.{PadEntry}
use Rattle.ep_pad.specs.declared.entries.PadEntry.TheVariants as entry
use Rattle.ep_pad.specs.declared.entries.PadReply.{PadReply}
use Rattle.ep_pad.specs.declared.entries.PadReply.TheVariants as reply
use Rattle.ep_wire_words.specs.declared.bad.WireBad.{WireBad}
use Rattle.ep_wire_words.specs.declared.client.ClientMsg.{ClientMsg}
use Rattle.ep_wire_words.specs.declared.client.ClientMsg.TheVariants as msgs
use Rattle.ep_wire_words.specs.declared.client.Resume.{Resume}
use Rattle.ep_wire_words.specs.declared.server.ServerMsg.{ServerMsg}
use Rattle.ep_wire_words.specs.declared.server.ServerMsg.TheVariants as msg
use Rattle.ep_link.specs.declared.passed.LinkGot.{LinkGot}
use Rattle.ep_link.specs.declared.passed.LinkGot.TheVariants as got
use Rattle.ep_session.specs.Acts.{EndsFull}
use Rattle.ep_session.specs.Output.{nops_told, told_all}
use Rattle.ep_session.specs.Session.{Did, Heard, Understood, Said, Unsaid, Called, Granted, Entered, Duty, Greet, Begin, Ask, Enter, Login, Rejoin, Hear, Understand, Take, Look, Show, Fetch, Tell, TellNop, Say, Outcome, Then, Ends, Runs, Does, heard, asked, begun, greeted, granted, entered, welcomed, rejoined, none_missed, took, looked, shown, unfit, changes_of, fetched, is_full, nops_due, news_due, due_at, counted, telling, told, nop_telling, nop_told, is_step, nowhere, calls_of, admitted, is_short}
use Rattle.ep_session.specs.declared.end.End.{End}
use Rattle.ep_session.specs.declared.place.Place.{Place}
use Rattle.ep_session.specs.declared.ready.Ready.{Ready}
use Rattle.ep_session.proofs.Running.{not_both, calls_on}
use Rattle.ep_session.proofs.Sent.{same_to, same_more, behind, behind_news, Quiet, nops_rev}
use Rattle.ep_session.proofs.Acting.{Shaped, greeted_fits, begun_fits, granted_fits, entered_fits, welcomed_fits, rejoined_fits, heard_fits, asked_fits, took_fits, looked_fits, fetched_fits, fits_then}

-- a receive is due next, once what is due to be said was said
abbrev pub Awaits : List Duty → Type 0
Awaits [] = ⊥
Awaits (Say m ∷ due) = Awaits due
Awaits (Tell r ∷ due) = Awaits due
Awaits (TellNop ∷ due) = Awaits due
Awaits (Show s g q doc cs ∷ due) = Awaits due
Awaits (Hear ∷ due) = Unit {0}
Awaits (d ∷ due) = ⊥

-- a duty of the beginning is due next
abbrev pub Begins : List Duty → Type 0
Begins [] = ⊥
Begins (Say m ∷ due) = Begins due
Begins (Tell r ∷ due) = Begins due
Begins (TellNop ∷ due) = Begins due
Begins (Show s g q doc cs ∷ due) = Begins due
Begins (Begin x y ∷ due) = Unit {0}
Begins (Greet x ∷ due) = Unit {0}
Begins (Ask x y ∷ due) = Unit {0}
Begins (Enter x y ∷ due) = Unit {0}
Begins (Login x ∷ due) = Unit {0}
Begins (Rejoin x y ∷ due) = Unit {0}
Begins (d ∷ due) = ⊥

-- what holds of the calls so far
pub record Keeps (at : Place) (due : List Duty) (calls : List (PadEntry × PadReply)) : Type 0 where
  pub full : Awaits due → EndsFull calls (behind at due).rev
  pub none : Begins due → calls ≡ []

-- an outcome behind which neither is due next
abbrev Busy : List Duty → Outcome → Type 0
Busy due (Then to more) = (Awaits (more ++ due) → ⊥) × (Begins (more ++ due) → ⊥)
Busy due (Ends to e) = Unit {0}

-- an outcome behind which no receive is due next
abbrev Early : Outcome → Type 0
Early (Then to more) = Awaits (more ++ []) → ⊥
Early (Ends to e) = Unit {0}

begun_early : (at : Place) (drawn : Drawn) (r : Result ClientMsg WireBad) → Early (begun at drawn r)
begun_early at drawn (Ok (msgs.Ready pad token sessions resume)) = first (is_short token)
  where
    first : (b : Bool) → Early (admitted at drawn (record { pad = pad; token = token; sessions = sessions; resume = resume }) b)
    first true = λ a. a
    first false = tt
begun_early at drawn (Ok (msgs.Edit base change)) = tt
begun_early at drawn (Ok (msgs.Slide start granularity request)) = tt
begun_early at drawn (Ok msgs.Other) = tt
begun_early at drawn (Err b) = tt

greeted_early : (at : Place) (drawn : Drawn) (g : LinkGot) (n : ℕ) → Early (greeted at drawn g n)
greeted_early at drawn (got.Message text) n = λ a. a
greeted_early at drawn got.Binary n = tt
greeted_early at drawn got.Nothing n = λ a. a
greeted_early at drawn got.Closed n = tt
greeted_early at drawn got.Failed n = tt
greeted_early at drawn got.NoMemory n = tt

granted_early : (at : Place) (ready : Ready) (r : Result Grant DirBad) → Early (granted at ready r)
granted_early at ready (Ok grant) = λ a. a
granted_early at ready (Err b) = tt

entered_early : (at : Place) (grant : Grant) (resume : Option Resume) (r : Answer) → Early (entered at grant resume r)
entered_early at grant None (Ok id) = λ a. a
entered_early at grant (Some again) (Ok id) = λ a. a
entered_early at grant resume (Err b) = tt

choice_busy : (b : Bool) (at : Place) (more : List Duty) (e : End) (due : List Duty) → (Awaits (more ++ due) → ⊥) × (Begins (more ++ due) → ⊥) → Busy due (if b then Then at more else Ends at e)
choice_busy true at more e due q = q
choice_busy false at more e due q = tt

asked_busy : (at : Place) (r : Result ClientMsg WireBad) → Busy [] (asked at r)
asked_busy at (Ok (msgs.Ready pad token sessions resume)) = tt
asked_busy at (Ok (msgs.Edit base change)) = (λ a. a, λ a. a)
asked_busy at (Ok (msgs.Slide start granularity request)) = choice_busy (is_step granularity) at (Look start granularity request ∷ Fetch ∷ Hear ∷ []) _ [] (λ a. a, λ a. a)
asked_busy at (Ok msgs.Other) = (λ a. a, λ a. a)
asked_busy at (Err b) = tt

heard_busy : (at : Place) (g : LinkGot) (n : ℕ) → Busy [] (heard at g n)
heard_busy at (got.Message text) n = (λ a. a, λ a. a)
heard_busy at got.Binary n = tt
heard_busy at got.Nothing n = (λ a. a, λ a. a)
heard_busy at got.Closed n = tt
heard_busy at got.Failed n = tt
heard_busy at got.NoMemory n = tt

welcomed_busy : (at : Place) (grant : Grant) (r : Result Welcome PadBad) → Busy [] (welcomed at grant r)
welcomed_busy at grant (Ok w) = (λ a. a, λ a. a)
welcomed_busy at grant (Err b) = tt

missed_busy : (b : Bool) (m : ServerMsg) → (Awaits ((map Say (if b then m ∷ [] else []) ++ Fetch ∷ Hear ∷ []) ++ []) → ⊥) × (Begins ((map Say (if b then m ∷ [] else []) ++ Fetch ∷ Hear ∷ []) ++ []) → ⊥)
missed_busy true m = (λ a. a, λ a. a)
missed_busy false m = (λ a. a, λ a. a)

rejoined_busy : (at : Place) (rev : ℕ) (r : Result CatchUp PadBad) → Busy [] (rejoined at rev r)
rejoined_busy at rev (Ok c) = missed_busy (rev == c.head) (msg.ReconnectNone c.session c.birth c.head c.head)
rejoined_busy at rev (Err b) = tt

took_busy : (at : Place) (r : Result Committed PadBad) → Busy (Fetch ∷ Hear ∷ []) (took at r)
took_busy at (Ok c) = (λ a. a, λ a. a)
took_busy at (Err b) = tt

shown_busy : (at : Place) (s g q : ℕ) (doc : Doc) (cs : List Change) (o : Option FitBad) → Busy (Fetch ∷ Hear ∷ []) (shown at (Show s g q doc cs) o)
shown_busy at s g q doc cs None = (λ a. a, λ a. a)
shown_busy at s g q doc cs (Some why) = tt

looked_busy : (at : Place) (s g q : ℕ) (r : Result Piece PadBad) → Busy (Fetch ∷ Hear ∷ []) (looked at s g q r)
looked_busy at s g q (Ok p) = shown_busy at s g q p.doc (changes_of p.revs.items) (unfit p.doc (changes_of p.revs.items))
looked_busy at s g q (Err b) = tt

-- ---- a step

busy_keeps : (to : Place) (more due : List Duty) (calls : List (PadEntry × PadReply)) (o : Outcome) → Then to more ≡ o → Busy due o → Keeps to (more ++ due) calls
busy_keeps to more due calls o same b =
    let w : (Awaits (more ++ due) → ⊥) × (Begins (more ++ due) → ⊥) = let v : Busy due (Then to more) = subst (Busy due) (sym same) b in v in
    record { full = λ a. absurd (w.0 a); none = λ a. absurd (w.1 a) }

early_keeps : (to : Place) (more due : List Duty) (calls made : List (PadEntry × PadReply)) (o : Outcome) → due ≡ [] → Then to more ≡ o → Early o → calls ≡ [] → made ≡ [] → Keeps to (more ++ due) (calls ++ made)
early_keeps to more due calls made o nil same e none no_more =
    let w : Awaits (more ++ []) → ⊥ = let v : Early (Then to more) = subst Early (sym same) e in v in
    record { full = λ a. absurd (w (subst (λ d. Awaits (more ++ d)) nil a)); none = λ _. ap (λ l. l ++ made) none ∙ no_more }

nops_await : (n : ℕ) (due : List Duty) → Awaits (nops_due n ++ due) → Awaits due
nops_await zero due a = a
nops_await (suc n) due a = nops_await n due a

nops_begin : (n : ℕ) (due : List Duty) → Begins (nops_due n ++ due) → Begins due
nops_begin zero due a = a
nops_begin (suc n) due a = nops_begin n due a

news_await : (rev : ℕ) (revs : List Rev) (nops : List ℕ) (due : List Duty) → Awaits (news_due rev revs nops ++ due) → Awaits due
news_await rev [] nops due a = nops_await (length nops) due a
news_await rev (r ∷ revs) nops due a =
    let n = due_at rev nops in
    let rest = news_due (counted rev 1) revs (drop n nops) in
    news_await (counted rev 1) revs (drop n nops) due (nops_await n (Tell r ∷ (rest ++ due)) (subst Awaits (append_assoc (nops_due n) (Tell r ∷ rest) due) a))

news_begin : (rev : ℕ) (revs : List Rev) (nops : List ℕ) (due : List Duty) → Begins (news_due rev revs nops ++ due) → Begins due
news_begin rev [] nops due a = nops_begin (length nops) due a
news_begin rev (r ∷ revs) nops due a =
    let n = due_at rev nops in
    let rest = news_due (counted rev 1) revs (drop n nops) in
    news_begin (counted rev 1) revs (drop n nops) due (nops_begin n (Tell r ∷ (rest ++ due)) (subst Begins (append_assoc (nops_due n) (Tell r ∷ rest) due) a))

counted_more : (a b n : ℕ) → b ≡ counted a 1 → counted b n ≡ counted a (suc n)
counted_more a b n h = omega (arith, h)

no_more : (n : ℕ) → n ≡ counted n 0
no_more n = omega arith

news_further : (at : Place) (revs : List Rev) (nops : List ℕ) → (told_all at revs nops).rev ≡ counted at.rev (length revs)
news_further at [] nops = nops_rev at (length nops) ∙ no_more at.rev
news_further at (r ∷ revs) nops =
    let n = due_at at.rev nops in
    let here = nops_told at n in
    news_further (told here r) revs (drop n nops) ∙ counted_more at.rev (told here r).rev (length revs) (ap (λ k. counted k 1) (nops_rev at n))

full_test : (a b : ℕ) → (a == b) ≡ true → a ≡ b
full_test a b h = grind (arith, nat_tests)

-- behind what a full fetch brought a receive is due, and the cursor is the head
fetch_keeps : (at : Place) (f : Fetched) (calls : List (PadEntry × PadReply)) → Keeps at (news_due at.rev f.revs.items f.nops.items ++ ((if is_full at f then [] else (Fetch ∷ [])) ++ Hear ∷ [])) (calls ++ (entry.Fetch at.me at.rev at.nops, reply.Fetched (Ok f)) ∷ [])
fetch_keeps at f calls = record {
  full = λ a. (calls, at.me, at.rev, at.nops, (f, refl, reached a, reached a ∙ sym (ap (λ p. p.rev) (behind_news at f.revs.items f.nops.items ((if is_full at f then [] else (Fetch ∷ [])) ++ Hear ∷ []) (quiet (is_full at f))) ∙ news_further at f.revs.items f.nops.items)));
  none = λ a. absurd (never (is_full at f) (news_begin at.rev f.revs.items f.nops.items ((if is_full at f then [] else (Fetch ∷ [])) ++ Hear ∷ []) a));
}
  where
    quiet : (b : Bool) → Quiet ((if b then [] else (Fetch ∷ [])) ++ Hear ∷ [])
    quiet true = tt
    quiet false = tt

    never : (b : Bool) → Begins ((if b then [] else (Fetch ∷ [])) ++ Hear ∷ []) → ⊥
    never true a = a
    never false a = a

    by : (b : Bool) → is_full at f ≡ b → Awaits ((if b then [] else (Fetch ∷ [])) ++ Hear ∷ []) → f.head ≡ counted at.rev (length f.revs.items)
    by true e a = full_test f.head (counted at.rev (length f.revs.items)) e
    by false e a = absurd a

    reached : Awaits (news_due at.rev f.revs.items f.nops.items ++ ((if is_full at f then [] else (Fetch ∷ [])) ++ Hear ∷ [])) → f.head ≡ counted at.rev (length f.revs.items)
    reached a = by (is_full at f) refl (news_await at.rev f.revs.items f.nops.items ((if is_full at f then [] else (Fetch ∷ [])) ++ Hear ∷ []) a)

abbrev Next : Place → List Duty → List (PadEntry × PadReply) → Type 0
Next to due calls = Shaped due × Keeps to due calls

-- the calls of one thing done
made_of : (did x : Did) (calls : List (PadEntry × PadReply)) → did ≡ x → (to : Place) (due : List Duty) → Next to due (calls ++ calls_of (x ∷ [])) → Next to due (calls ++ calls_of (did ∷ []))
made_of did x calls is to due n = subst (λ d. Next to due (calls ++ calls_of (d ∷ []))) (sym is) n

moved_next : (to at : Place) (more due others : List Duty) (calls : List (PadEntry × PadReply)) → Then to more ≡ Then at due → Next at (due ++ others) calls → Next to (more ++ others) calls
moved_next to at more due others calls same n = subst (λ p. Next p (more ++ others) calls) (sym (same_to to at more due same)) (subst (λ d. Next at (d ++ others) calls) (sym (same_more to at more due same)) n)

step : (at : Place) (d : Duty) (due : List Duty) (did : Did) (to : Place) (more : List Duty) (calls : List (PadEntry × PadReply)) → Shaped (d ∷ due) → Keeps at (d ∷ due) calls → Does at d did (Then to more) → Next to (more ++ due) (calls ++ calls_of (did ∷ []))
step at (Greet drawn) due did to more calls s k (g, n, is, same) = made_of did (Heard g n) calls is to (more ++ due) (subst (λ e. Shaped (more ++ e)) (sym s) (fits_then to more [] (greeted at drawn g n) same (greeted_fits at drawn g n)), early_keeps to more due calls [] (greeted at drawn g n) s same (greeted_early at drawn g n) (k.none tt) refl)
step at (Begin drawn text) due did to more calls s k (g, reads, is, same) = made_of did (Understood text g) calls is to (more ++ due) (subst (λ e. Shaped (more ++ e)) (sym s) (fits_then to more [] (begun at drawn g) same (begun_fits at drawn g)), early_keeps to more due calls [] (begun at drawn g) s same (begun_early at drawn g) (k.none tt) refl)
step at (Understand text) due did to more calls s k (g, reads, is, same) = (subst (λ e. Shaped (more ++ e)) (sym s) (fits_then to more [] (asked at g) same (asked_fits at g)), busy_keeps to more due (calls ++ calls_of (did ∷ [])) (asked at g) same (subst (λ e. Busy e (asked at g)) (sym s) (asked_busy at g)))
step at TellNop due did to more calls s k (inl (is, same)) = made_of did (Said (nop_telling at)) calls is to (more ++ due) (moved_next to (nop_told at) more [] due (calls ++ []) same (s, subst (Keeps (nop_told at) due) (sym (append-nil calls)) (record { full = k.full; none = k.none })))
step at TellNop due did to more calls s k (inr (n, is, same)) = absurd (not_both to at more _ same)
step at (Show st gr rq doc cs) due did to more calls s k (forward, backward, slides, inl (is, same)) = made_of did (Said _) calls is to (more ++ due) (moved_next to at more [] due (calls ++ []) same (s, subst (Keeps at due) (sym (append-nil calls)) (record { full = k.full; none = k.none })))
step at (Show st gr rq doc cs) due did to more calls s k (forward, backward, slides, inr (n, is, same)) = absurd (not_both to at more _ same)
step at (Ask drawn ready) due did to more calls s k (now, g, is, same) = made_of did _ calls is to (more ++ due) (subst (λ e. Shaped (more ++ e)) (sym s) (fits_then to more [] (granted at ready g) same (granted_fits at ready g)), early_keeps to more due calls [] (granted at ready g) s same (granted_early at ready g) (k.none tt) refl)
step at (Enter grant resume) due did to more calls s k (g, is, same) = made_of did _ calls is to (more ++ due) (subst (λ e. Shaped (more ++ e)) (sym s) (fits_then to more [] (entered at grant resume g) same (entered_fits at grant resume g)), early_keeps to more due calls [] (entered at grant resume g) s same (entered_early at grant resume g) (k.none tt) refl)
step at (Login grant) due did to more calls s k (now, g, is, same) = (subst (λ e. Shaped (more ++ e)) (sym s) (fits_then to more [] (welcomed at grant g) same (welcomed_fits at grant g)), busy_keeps to more due (calls ++ calls_of (did ∷ [])) (welcomed at grant g) same (subst (λ e. Busy e (welcomed at grant g)) (sym s) (welcomed_busy at grant g)))
step at (Rejoin grant again) due did to more calls s k (now, g, is, same) = (subst (λ e. Shaped (more ++ e)) (sym s) (fits_then to more [] (rejoined at again.rev g) same (rejoined_fits at again.rev g)), busy_keeps to more due (calls ++ calls_of (did ∷ [])) (rejoined at again.rev g) same (subst (λ e. Busy e (rejoined at again.rev g)) (sym s) (rejoined_busy at again.rev g)))
step at Hear due did to more calls s k (g, n, is, same) = (subst (λ e. Shaped (more ++ e)) (sym s) (fits_then to more [] (heard at g n) same (heard_fits at g n)), busy_keeps to more due (calls ++ calls_of (did ∷ [])) (heard at g n) same (subst (λ e. Busy e (heard at g n)) (sym s) (heard_busy at g n)))
step at (Take base change) due did to more calls s k (now, g, is, same) = (subst (λ e. Shaped (more ++ e)) (sym s) (fits_then to more (Fetch ∷ Hear ∷ []) (took at g) same (took_fits at g)), busy_keeps to more due (calls ++ calls_of (did ∷ [])) (took at g) same (subst (λ e. Busy e (took at g)) (sym s) (took_busy at g)))
step at (Look st gr rq) due did to more calls s k (g, is, same) = (subst (λ e. Shaped (more ++ e)) (sym s) (fits_then to more (Fetch ∷ Hear ∷ []) (looked at st gr rq g) same (looked_fits at st gr rq g)), busy_keeps to more due (calls ++ calls_of (did ∷ [])) (looked at st gr rq g) same (subst (λ e. Busy e (looked at st gr rq g)) (sym s) (looked_busy at st gr rq g)))
step at Fetch due did to more calls s k (Ok f, is, same) =
    let news = news_due at.rev f.revs.items f.nops.items in
    let after = if is_full at f then [] else (Fetch ∷ []) in
    let call : PadEntry × PadReply = (entry.Fetch at.me at.rev at.nops, reply.Fetched (Ok f)) in
    made_of did _ calls is to (more ++ due) (
      subst (λ e. Shaped (more ++ e)) (sym s) (fits_then to more (Hear ∷ []) (fetched at (Ok f)) same (fetched_fits at (Ok f))),
      subst (λ e. Keeps to (more ++ e) (calls ++ call ∷ [])) (sym s)
          (subst (λ p. Keeps p (more ++ Hear ∷ []) (calls ++ call ∷ [])) (sym (same_to to at more _ same))
          (subst (λ m. Keeps at (m ++ Hear ∷ []) (calls ++ call ∷ [])) (sym (same_more to at more _ same))
          (subst (λ l. Keeps at l (calls ++ call ∷ [])) (sym (append_assoc news after (Hear ∷ []))) (fetch_keeps at f calls)))),
    )
step at Fetch due did to more calls s k (Err b, is, same) = absurd (not_both to at more _ same)
step at (Tell rev) due did to more calls s k (inl (is, same)) = made_of did (Said (telling at rev)) calls is to (more ++ due) (moved_next to (told at rev) more [] due (calls ++ []) same (s, subst (Keeps (told at rev) due) (sym (append-nil calls)) (record { full = k.full; none = k.none })))
step at (Tell rev) due did to more calls s k (inr (n, is, same)) = absurd (not_both to at more _ same)
step at (Say m) due did to more calls s k (inl (is, same)) = made_of did (Said m) calls is to (more ++ due) (moved_next to at more [] due (calls ++ []) same (s, subst (Keeps at due) (sym (append-nil calls)) (record { full = k.full; none = k.none })))
step at (Say m) due did to more calls s k (inr (n, is, same)) = absurd (not_both to at more _ same)

-- ---- the law

abbrev pub Hears : Place → List Duty → List Did → List (PadEntry × PadReply) → Type 0
Hears at due log calls = (calls ++ calls_of log ≡ []) ⊎ ((mid : Place) × (left : List Duty) × Runs at due log (Then mid left) × EndsFull (calls ++ calls_of log) mid.rev)

kind : Did → ℕ
kind (Heard g n) = 0
kind (Said m) = 1
kind (Unsaid n) = 2
kind (Called e r) = 3
kind (Granted now e r) = 4
kind (Entered pad r) = 5
kind (Understood text r) = 6

not_heard : (g : LinkGot) (n : ℕ) (x : Did) (k : ℕ) → kind x ≡ suc k → Heard g n ≡ x → ⊥
unfolding kind
not_heard g n x k one is = let h : 0 ≡ suc k = ap kind is ∙ one in omega (arith, h)

-- only a receive hears
by_duty : (at : Place) (d : Duty) (due : List Duty) (g : LinkGot) (n : ℕ) (calls : List (PadEntry × PadReply)) (o : Outcome) → Does at d (Heard g n) o → Keeps at (d ∷ due) calls → Hears at (d ∷ due) [] calls
unfolding kind
by_duty at (Greet drawn) due g n calls o does k = inl (append-nil calls ∙ k.none tt)
by_duty at Hear due g n calls o does k = inr (at, Hear ∷ due, refl, subst (λ c. EndsFull c at.rev) (sym (append-nil calls)) (k.full tt))
by_duty at (Begin drawn text) due g n calls o (r, reads, is, same) k = absurd (not_heard g n _ 5 refl is)
by_duty at (Understand text) due g n calls o (r, reads, is, same) k = absurd (not_heard g n _ 5 refl is)
by_duty at TellNop due g n calls o (inl (is, same)) k = absurd (not_heard g n _ 0 refl is)
by_duty at TellNop due g n calls o (inr (m, is, same)) k = absurd (not_heard g n _ 1 refl is)
by_duty at (Show st gr rq doc cs) due g n calls o (forward, backward, slides, inl (is, same)) k = absurd (not_heard g n _ 0 refl is)
by_duty at (Show st gr rq doc cs) due g n calls o (forward, backward, slides, inr (m, is, same)) k = absurd (not_heard g n _ 1 refl is)
by_duty at (Ask drawn ready) due g n calls o (now, r, is, same) k = absurd (not_heard g n _ 3 refl is)
by_duty at (Enter grant resume) due g n calls o (r, is, same) k = absurd (not_heard g n _ 4 refl is)
by_duty at (Login grant) due g n calls o (now, r, is, same) k = absurd (not_heard g n _ 2 refl is)
by_duty at (Rejoin grant again) due g n calls o (now, r, is, same) k = absurd (not_heard g n _ 2 refl is)
by_duty at (Take base change) due g n calls o (now, r, is, same) k = absurd (not_heard g n _ 2 refl is)
by_duty at (Look st gr rq) due g n calls o (r, is, same) k = absurd (not_heard g n _ 2 refl is)
by_duty at Fetch due g n calls o (r, is, same) k = absurd (not_heard g n _ 2 refl is)
by_duty at (Tell rev) due g n calls o (inl (is, same)) k = absurd (not_heard g n _ 0 refl is)
by_duty at (Tell rev) due g n calls o (inr (m, is, same)) k = absurd (not_heard g n _ 1 refl is)
by_duty at (Say m) due g n calls o (inl (is, same)) k = absurd (not_heard g n _ 0 refl is)
by_duty at (Say m) due g n calls o (inr (w, is, same)) k = absurd (not_heard g n _ 1 refl is)

not_nil : (a b : List Did) (d : Did) → a ++ d ∷ b ≡ [] → ⊥
not_nil a b d e = let h : length (a ++ d ∷ b) ≡ 0 = ap length e in omega (arith, h, length-append a (d ∷ b))

pub turn_law : (a : List Did) (at : Place) (due : List Duty) (calls : List (PadEntry × PadReply)) (g : LinkGot) (n : ℕ) (b : List Did) (out : Outcome) → Shaped due → Keeps at due calls → Runs at due (a ++ Heard g n ∷ b) out → Hears at due a calls
turn_law [] at [] calls g n b out s k r = absurd s
turn_law [] at (d ∷ due) calls g n b out s k (inl (to, more, does, r)) = by_duty at d due g n calls (Then to more) does k
turn_law [] at (d ∷ due) calls g n b out s k (inr (to, e, does, nil, is)) = by_duty at d due g n calls (Ends to e) does k
turn_law (x ∷ a) at [] calls g n b out s k r = absurd s
turn_law (x ∷ a) at (d ∷ due) calls g n b out s k (inr (to, e, does, nil, is)) = absurd (not_nil a b (Heard g n) nil)
turn_law (x ∷ a) at (d ∷ due) calls g n b out s k (inl (to, more, does, r)) = go (turn_law a to (more ++ due) (calls ++ calls_of (x ∷ [])) g n b out (next).0 (next).1 r)
  where
    next : Next to (more ++ due) (calls ++ calls_of (x ∷ []))
    next = step at d due x to more calls s k does

    joined : (calls ++ calls_of (x ∷ [])) ++ calls_of a ≡ calls ++ calls_of (x ∷ a)
    joined = append_assoc calls (calls_of (x ∷ [])) (calls_of a) ∙ ap (λ l. calls ++ l) (sym (calls_on (x ∷ []) a))

    go : Hears to (more ++ due) a (calls ++ calls_of (x ∷ [])) → Hears at (d ∷ due) (x ∷ a) calls
    go (inl none) = inl (sym joined ∙ none)
    go (inr (mid, left, runs, full)) = inr (mid, left, inl (to, more, does, runs), subst (λ c. EndsFull c mid.rev) joined full)

pub first_keeps : (drawn : Drawn) → Keeps nowhere (Greet drawn ∷ []) []
first_keeps drawn = record { full = λ a. absurd a; none = λ _. refl }
