-- What a writer sends behind a line is what that line alters.
use Rattle.std.proofs.Common.{◌≡◌, ℕ, suc, Bool, true, false, if◌then◌else◌, List, [], ◌∷◌, ◌++◌, length, Option, Some, None, refl, sym, ap, ◌∙◌, subst, inl, inr}
use Rattle.std.specs.Prelude.{Result, Ok, Err}
use Rattle.ep_units.specs.declared.session.Session.{Session}
use Rattle.ep_units.specs.Text.{Text}
use Rattle.ep_cs.specs.Change.{Change, stamped}
use Rattle.ep_cs.specs.Doc.{Doc, text_of}
use Rattle.ep_cs.specs.Edit.{Edit, compose, identity}
use Rattle.ep_cs.specs.Fits.{is_identity}
use Rattle.ep_history.specs.Kept.{KeptClient, is_kept_own, kept_dropped, kept_edited, kept_other, kept_own, kept_submitted}
use Rattle.ep_client.specs.Hearing.{kept_hears, told_of}
use Rattle.ep_client.specs.Refusals.{hear_fault, rev_fault}
use Rattle.ep_client.specs.declared.bad.ClientBad.{ClientBad}
use Rattle.ep_client.specs.declared.heard.Heard.{Heard}
use Rattle.ep_client.specs.declared.heard.Heard.TheVariants as hear
use Rattle.ep_client.specs.declared.heard.Told.TheVariants as told
use Rattle.ep_event.specs.declared.event.Local.{Local}
use Rattle.ep_invert.specs.declared.bad.SpliceBad.{SpliceBad}
use Rattle.ep_link.specs.declared.passed.LinkGot.{LinkGot}
use Rattle.ep_link.specs.declared.passed.LinkGot.TheVariants as got
use Rattle.ep_local.specs.Local.{local_bad, local_edit}
use Rattle.ep_wire_words.specs.declared.bad.WireBad.{WireBad}
use Rattle.ep_wire_words.specs.declared.client.ClientMsg.{ClientMsg}
use Rattle.ep_wire_words.specs.declared.client.ClientMsg.TheVariants as msgs
use Rattle.ep_wire_words.specs.declared.server.ServerMsg.{ServerMsg}
use Rattle.ep_wire_words.specs.declared.server.ServerMsg.TheVariants as msg
use Rattle.ep_script.specs.WriteLine.{write_line_of}
use Rattle.ep_script.specs.declared.line.LineBad.{LineBad}
use Rattle.ep_script.specs.declared.write_line.WriteLine.{WriteLine}
use Rattle.ep_script.specs.declared.write_line.WriteLine.TheVariants as line
use Rattle.ep_peer.specs.Altered.{HasNothingOfItsOwn, IsAsked, IsIdleAfter, IsNextOf, alterations, altered_as, altered_by, altered_line, altered_unless, altering}
use Rattle.ep_peer.specs.Cuts.{Cut, Line, Long}
use Rattle.ep_peer.specs.Output.{IsSentOf, client_after, client_by, edits_by, edits_unless, message_of, messages_if, output, output_by, said_of}
use Rattle.ep_peer.specs.Writer.{Did, Lined, Awaited, First, Commit, Stand, Opening, Listening, Having, Reading, Sending, Outcome, Goes, Ends, Does, Runs, accepted, begun, editing, goes_on, heard, hearing, lined, ready, said_line, stops, submits, submitting, told_later, understood, user_changes, written}
use Rattle.ep_peer.proofs.Steps.{StepTo, client, steps}
use Rattle.ep_peer.proofs.Walking.{not_both, sends, split_at}
use Rattle.ep_peer.proofs.Still.{IsIdle, IsStill, idle_nop, idle_on, idle_own, line_long, line_settled, only_edit, rev_long, sent_first, still_dropped, still_first, still_other, submits_first}

-- ---- the client where a writer stands

abbrev IsCalm : Stand → Type 0
IsCalm (Opening pad token) = Unit {0}
IsCalm (Listening First) = Unit {0}
IsCalm (Listening (Commit n k)) = IsStill k
IsCalm (Having First text) = Unit {0}
IsCalm (Having (Commit n k) text) = IsStill k
IsCalm (Reading n k) = IsIdle k
IsCalm (Sending n k) = IsStill k

abbrev AreCalm : Outcome → Type 0
AreCalm (Goes s) = IsCalm s
AreCalm (Ends r) = Unit {0}

-- ---- messages

calm_heard : (w : Awaited) (g : LinkGot) (n : ℕ) → IsCalm (Listening w) → AreCalm (heard w g n)
calm_heard First (got.Message text) n h = tt
calm_heard First got.Binary n h = tt
calm_heard First got.Nothing n h = tt
calm_heard First got.Closed n h = tt
calm_heard First got.Failed n h = tt
calm_heard First got.NoMemory n h = tt
calm_heard (Commit m k) (got.Message text) n h = h
calm_heard (Commit m k) got.Binary n h = tt
calm_heard (Commit m k) got.Nothing n h = h
calm_heard (Commit m k) got.Closed n h = tt
calm_heard (Commit m k) got.Failed n h = tt
calm_heard (Commit m k) got.NoMemory n h = tt

calm_rev : (n : ℕ) (k : KeptClient) (rev : ℕ) (change : Change) (s : Session) → IsStill k → rev_fault rev change s k ≡ None → (t : Bool) → is_kept_own s k.sent_in ≡ t
    → AreCalm (goes_on n (if t then kept_own k else kept_dropped (kept_other change.edit k)) (if t then told.Commit else told.News))
calm_rev n k rev change s h fault true own = idle_own k h
calm_rev n k rev change s h fault false own = still_dropped (kept_other change.edit k) (still_other k change.edit h (rev_long rev change s k own fault))

calm_hears : (n : ℕ) (k : KeptClient) (h : Heard) → IsStill k → hear_fault h k ≡ None → AreCalm (goes_on n (kept_hears h k) (told_of h k))
calm_hears n k (hear.Commit rev) still fault = idle_own k still
calm_hears n k (hear.Nop rev) still fault = idle_nop k rev still fault
calm_hears n k (hear.Rev rev change s) still fault = calm_rev n k rev change s still fault (is_kept_own s k.sent_in) refl

calm_hearing : (n : ℕ) (k : KeptClient) (h : Heard) → IsStill k → (o : Option ClientBad) → hear_fault h k ≡ o → AreCalm (hearing n k h o)
calm_hearing n k h still None fault = calm_hears n k h still fault
calm_hearing n k h still (Some why) fault = tt

calm_later : (n : ℕ) (k : KeptClient) (text : List ℕ) (m : ServerMsg) → IsStill k → AreCalm (told_later n k text m)
calm_later n k text (msg.Vars pad author read_only session birth rev doc time) h = tt
calm_later n k text (msg.Accepted rev session) h = calm_hearing n k (accepted k rev) h (hear_fault (accepted k rev) k) refl
calm_later n k text (msg.News rev change author session time delta) h = calm_hearing n k (hear.Rev rev change session) h (hear_fault (hear.Rev rev change session) k) refl
calm_later n k text (msg.Reconnect current birth head rev change author session time) h = tt
calm_later n k text (msg.ReconnectNone current birth head rev) h = tt
calm_later n k text (msg.Slid start reached granularity request forward backward) h = tt
calm_later n k text (msg.Closing word) h = tt

calm_begun : (text : List ℕ) (m : ServerMsg) → AreCalm (begun text m)
calm_begun text (msg.Vars pad author read_only session birth rev doc time) = record { connected = refl; nothing = refl; view = refl; local = refl }
calm_begun text (msg.Accepted rev session) = tt
calm_begun text (msg.News rev change author session time delta) = tt
calm_begun text (msg.Reconnect current birth head rev change author session time) = tt
calm_begun text (msg.ReconnectNone current birth head rev) = tt
calm_begun text (msg.Slid start reached granularity request forward backward) = tt
calm_begun text (msg.Closing word) = tt

calm_having : (w : Awaited) (text : List ℕ) (r : Result ServerMsg WireBad) → IsCalm (Having w text) → AreCalm (understood w text r)
calm_having First text (Err why) h = tt
calm_having (Commit n k) text (Err why) h = tt
calm_having First text (Ok m) h = calm_begun text m
calm_having (Commit n k) text (Ok m) h = calm_later n k text m h

-- ---- lines

abbrev as_change : ℕ → Edit → Doc → List ClientMsg
as_change rev x doc = if is_identity x then [] else msgs.Edit rev (stamped x (text_of doc)) ∷ []

-- where a line's edit leads, and what is sent of it
module _ (n : ℕ) (k : KeptClient) (e : Local) (h : IsIdle k) (fits : local_bad e k.view ≡ None) where
  abbrev edit : Edit
  edit = local_edit e k.view

  abbrev first : Bool → Option KeptClient
  first t = if t then None else Some (sent_first k edit h (line_long e k.view fits) (line_settled e k.view))

  calm_first : (t : Bool) → is_identity (compose k.local edit) ≡ t → AreCalm (submitting n (kept_edited edit k) (first t))
  calm_first true is = idle_on k edit h (line_long e k.view fits) (line_settled e k.view) is
  calm_first false is = still_first k edit h (line_long e k.view fits) (line_settled e k.view)

  calm_edited : AreCalm (submits n (kept_edited edit k))
  calm_edited = subst (λ o. AreCalm (submitting n (kept_edited edit k) o)) (sym (submits_first k edit h (line_long e k.view fits) (line_settled e k.view)))
      (calm_first (is_identity (compose k.local edit)) refl)

  said_first : (t : Bool) → message_of (first t) ≡ (if t then [] else msgs.Edit k.rev (stamped (compose k.local edit) (text_of k.doc)) ∷ [])
  said_first true = refl
  said_first false = refl

  -- it is just what the edit alters
  said_edited : message_of (kept_submitted (kept_edited edit k)) ≡ altering k edit
  said_edited =
      ap message_of (submits_first k edit h (line_long e k.view fits) (line_settled e k.view))
      ∙ (said_first (is_identity (compose k.local edit))
      ∙ (λ i. as_change k.rev (only_edit k edit h (line_long e k.view fits) (line_settled e k.view) i) (sym h.view i)))

calm_editing : (n : ℕ) (k : KeptClient) (e : Local) → IsIdle k → (o : Option SpliceBad) → local_bad e k.view ≡ o → AreCalm (editing n k e o)
calm_editing n k e h None is = calm_edited n k e h is
calm_editing n k e h (Some why) is = tt

calm_said : (n : ℕ) (k : KeptClient) (r : Result WriteLine LineBad) → IsIdle k → AreCalm (said_line n k r)
calm_said n k (Ok line.Blank) h = h
calm_said n k (Ok (line.Edit e)) h = calm_editing n k e h (local_bad e k.view) refl
calm_said n k (Err why) h = tt

calm_lined : (n : ℕ) (k : KeptClient) (c : Cut) → IsIdle k → AreCalm (lined n k c)
calm_lined n k (Line bytes) h = calm_said n k (write_line_of bytes) h
calm_lined n k Long h = tt

alters_edit : (k : KeptClient) (e : Local) → IsIdle k → (o : Option SpliceBad) → local_bad e k.view ≡ o → messages_if (edits_unless k e o) ≡ altered_unless k e o
alters_edit k e h None is = said_edited 0 k e h is
alters_edit k e h (Some why) is = refl

alters_said : (k : KeptClient) (r : Result WriteLine LineBad) → IsIdle k → messages_if (edits_by k r) ≡ altered_as k r
alters_said k (Ok line.Blank) h = refl
alters_said k (Ok (line.Edit e)) h = alters_edit k e h (local_bad e k.view) refl
alters_said k (Err why) h = refl

alters_line : (k : KeptClient) (c : Cut) → IsIdle k → output_by (Some k) (Lined c) ≡ altered_line k c
alters_line k (Line bytes) h = alters_said k (write_line_of bytes) h
alters_line k Long h = refl

-- ---- all of them

calm_so : (o out : Outcome) → out ≡ o → AreCalm o → AreCalm out
calm_so o out so h = subst AreCalm (sym so) h

calm : (s : Stand) (did : Did) (out : Outcome) → Does s did out → IsCalm s → AreCalm out
calm (Opening pad token) did out (inl (is, so)) h = calm_so (Goes (Listening First)) out so tt
calm (Opening pad token) did out (inr (n, is, so)) h = calm_so (stops _) out so tt
calm (Listening w) did out (g, n, is, so) h = calm_so (heard w g n) out so (calm_heard w g n h)
calm (Having w text) did out (r, reads, is, so) h = calm_so (understood w text r) out so (calm_having w text r h)
calm (Reading n k) did out (inl (c, is, so)) h = calm_so (lined (suc n) k c) out so (calm_lined (suc n) k c h)
calm (Reading n k) did out (inr (inl (is, so))) h = calm_so (Ends (Ok (written k))) out so tt
calm (Reading n k) did out (inr (inr (faults, is, so))) h = calm_so (stops _) out so tt
calm (Sending n k) did out (inl (is, so)) h = calm_so (Goes (Listening (Commit n k))) out so h
calm (Sending n k) did out (inr (faults, is, so)) h = calm_so (stops _) out so tt

abbrev AltersBy : Option KeptClient → Did → Type 0
AltersBy c did = output_by c did ≡ altered_by c did

alters_by : (s : Stand) (did : Did) (out : Outcome) → Does s did out → IsCalm s → AltersBy (client s) did
alters_by (Opening pad token) did out h calm = refl
alters_by (Listening First) did out h calm = refl
alters_by (Listening (Commit m k)) did out (g, n, is, so) calm = subst (AltersBy (Some k)) (sym is) refl
alters_by (Having First text) did out h calm = refl
alters_by (Having (Commit m k) text) did out (r, reads, is, so) calm = subst (AltersBy (Some k)) (sym is) refl
alters_by (Reading n k) did out (inl (c, is, so)) calm = subst (AltersBy (Some k)) (sym is) (alters_line k c calm)
alters_by (Reading n k) did out (inr (inl (is, so))) calm = subst (AltersBy (Some k)) (sym is) refl
alters_by (Reading n k) did out (inr (inr (faults, is, so))) calm = subst (AltersBy (Some k)) (sym is) refl
alters_by (Sending n k) did out (inl (is, so)) calm = subst (AltersBy (Some k)) (sym is) refl
alters_by (Sending n k) did out (inr (faults, is, so)) calm = subst (AltersBy (Some k)) (sym is) refl

-- ---- the output is what the lines alter

alters_next : (s : Stand) (did : Did) (log : List Did) (out next : Outcome) → AltersBy (client s) did → StepTo s did next → AreCalm next → Runs next log out
    → ((t : Stand) → IsCalm t → Runs (Goes t) log out → output (client t) log ≡ alterations (client t) log)
    → output (client s) (did ∷ log) ≡ alterations (client s) (did ∷ log)
alters_next s did log out (Goes t) by h calm r f =
    (λ i. by i ++ output (client_by (client s) did) log)
    ∙ ap (λ ms. altered_by (client s) did ++ ms) (ap (λ c. output c log) h.client_is ∙ (f t calm r ∙ ap (λ c. alterations c log) (sym h.client_is)))
alters_next s did [] out (Ends e) by h calm r f = λ i. by i ++ []
alters_next s did (d ∷ log) out (Ends e) by h calm r f = absurd r

alters : (s : Stand) (log : List Did) (out : Outcome) → IsCalm s → Runs (Goes s) log out → output (client s) log ≡ alterations (client s) log
alters s [] out h r = refl
alters s (did ∷ log) out h (next, does, r) =
    alters_next s did log out next (alters_by s did next does h) (steps s did next does) (calm s did next does h) r (λ t c q. alters t log out c q)

pub sends_alterations : (pad token : Text) (log : List Did) (out : Outcome) → Runs (Goes (Opening pad token)) log out → IsSentOf (said_of log) (ready pad token ∷ alterations None log)
sends_alterations pad token log out r =
    subst (λ ms. IsSentOf (said_of log) (ready pad token ∷ ms)) (alters (Opening pad token) log out tt r) (sends (Opening pad token) log out r)

-- ---- where a walk comes to

abbrev stand_in : Outcome → Stand → Stand
stand_in (Goes s) t = s
stand_in (Ends r) t = t

-- it keeps calm, and the client there is the one behind what was done
comes_next : (s : Stand) (did : Did) (log : List Did) (t : Stand) (next : Outcome) → StepTo s did next → AreCalm next → Runs next log (Goes t)
    → ((u : Stand) → IsCalm u → Runs (Goes u) log (Goes t) → IsCalm t × (client_after (client u) log ≡ client t)) → IsCalm t × (client_after (client s) (did ∷ log) ≡ client t)
comes_next s did log t (Goes u) h calm r f = let w = f u calm r in (w.0, ap (λ c. client_after c log) h.client_is ∙ w.1)
comes_next s did [] t (Ends e) h calm r f = absurd (not_both t e r)
comes_next s did (d ∷ log) t (Ends e) h calm r f = absurd r

comes : (s : Stand) (log : List Did) (t : Stand) → IsCalm s → Runs (Goes s) log (Goes t) → IsCalm t × (client_after (client s) log ≡ client t)
comes s [] t h r = let e : t ≡ s = ap (λ o. stand_in o s) r in (subst IsCalm (sym e) h, ap client (sym e))
comes s (did ∷ log) t h (next, does, r) = comes_next s did log t next (steps s did next does) (calm s did next does h) r (λ u c q. comes u log t c q)

-- where the source is asked the client is idle
idle_asked : (t : Stand) (did : Did) (next : Outcome) → IsCalm t → IsAsked did → Does t did next → (k : KeptClient) × (client t ≡ Some k) × IsIdle k
idle_asked (Opening pad token) did next h a (inl (is, so)) = absurd (subst IsAsked is a)
idle_asked (Opening pad token) did next h a (inr (n, is, so)) = absurd (subst IsAsked is a)
idle_asked (Listening w) did next h a (g, n, is, so) = absurd (subst IsAsked is a)
idle_asked (Having w text) did next h a (r, reads, is, so) = absurd (subst IsAsked is a)
idle_asked (Reading n k) did next h a does = (k, refl, h)
idle_asked (Sending n k) did next h a (inl (is, so)) = absurd (subst IsAsked is a)
idle_asked (Sending n k) did next h a (inr (faults, is, so)) = absurd (subst IsAsked is a)

own_nothing : (k : KeptClient) → IsIdle k → HasNothingOfItsOwn k
own_nothing k h = (h.view, h.nothing, h.local ∙ ap (λ (d : Doc). identity (length d)) h.view)

pub idle_before : (pad token : Text) (log more : List Did) (did : Did) (out : Outcome) → IsAsked did → Runs (Goes (Opening pad token)) (log ++ did ∷ more) out → IsIdleAfter log
idle_before pad token log more did out a r = let w = split_at (Goes (Opening pad token)) log (did ∷ more) out r in at w.0 w.1 w.2
  where
    at : (mid : Outcome) → Runs (Goes (Opening pad token)) log mid → Runs mid (did ∷ more) out → IsIdleAfter log
    at (Goes t) q (next, does, rest) =
        let w = comes (Opening pad token) log t tt q in
        let i = idle_asked t did next w.0 a does in
        (i.0, w.1 ∙ i.1, own_nothing i.0 i.2)
    at (Ends e) q rest = absurd rest

-- ---- what comes behind a line

abbrev IsLined : Did → Type 0
IsLined (Lined c) = Unit {0}
IsLined did = ⊥

abbrev cut_in : Did → Cut → Cut
cut_in (Lined d) c = d
cut_in did c = c

module _ (did : Did) (more : List Did) (out : Outcome) where
  next_read : (n : ℕ) (k : KeptClient) → Runs (Goes (Reading n k)) (did ∷ more) out → IsAsked did
  next_read n k (next, inl (c, is, so), r) = subst IsAsked (sym is) tt
  next_read n k (next, inr (inl (is, so)), r) = subst IsAsked (sym is) tt
  next_read n k (next, inr (inr (faults, is, so)), r) = subst IsAsked (sym is) tt

  next_sent : (n : ℕ) (k : KeptClient) → Runs (Goes (Sending n k)) (did ∷ more) out → IsNextOf (user_changes k ∷ []) did
  next_sent n k (next, inl (is, so), r) = inl is
  next_sent n k (next, inr (faults, is, so), r) = inr (faults, is)

  next_submitted : (n : ℕ) (k : KeptClient) (o : Option KeptClient) → Runs (submitting n k o) (did ∷ more) out → IsNextOf (message_of o) did
  next_submitted n k None r = next_read n k r
  next_submitted n k (Some sent) r = next_sent n sent r

  next_edited : (n : ℕ) (k : KeptClient) (e : Local) → IsIdle k → (o : Option SpliceBad) → local_bad e k.view ≡ o → Runs (editing n k e o) (did ∷ more) out → IsNextOf (altered_unless k e o) did
  next_edited n k e h None is r =
      let new = kept_edited (local_edit e k.view) k in subst (λ ms. IsNextOf ms did) (said_edited n k e h is) (next_submitted n new (kept_submitted new) r)
  next_edited n k e h (Some why) is r = absurd r

  next_said : (n : ℕ) (k : KeptClient) (w : Result WriteLine LineBad) → IsIdle k → Runs (said_line n k w) (did ∷ more) out → IsNextOf (altered_as k w) did
  next_said n k (Ok line.Blank) h r = next_read n k r
  next_said n k (Ok (line.Edit e)) h r = next_edited n k e h (local_bad e k.view) refl r
  next_said n k (Err why) h r = absurd r

  next_lined : (n : ℕ) (k : KeptClient) (c : Cut) → IsIdle k → Runs (lined n k c) (did ∷ more) out → IsNextOf (altered_line k c) did
  next_lined n k (Line bytes) h r = next_said n k (write_line_of bytes) h r
  next_lined n k Long h r = absurd r

  -- where a line was read, and this was done then
  next_at : (t : Stand) (c : Cut) → IsCalm t → Runs (Goes t) (Lined c ∷ did ∷ more) out → IsNextOf (altered_by (client t) (Lined c)) did
  next_at (Opening pad token) c h (next, inl (is, so), r) = absurd (subst IsAsked is tt)
  next_at (Opening pad token) c h (next, inr (n, is, so), r) = absurd (subst IsAsked is tt)
  next_at (Listening w) c h (next, (g, n, is, so), r) = absurd (subst IsAsked is tt)
  next_at (Having w text) c h (next, (q, reads, is, so), r) = absurd (subst IsAsked is tt)
  next_at (Reading n k) c h (next, inl (d, is, so), r) =
      next_lined (suc n) k c h (subst (λ o. Runs o (did ∷ more) out) (so ∙ ap (lined (suc n) k) (sym (ap (λ x. cut_in x c) is))) r)
  next_at (Reading n k) c h (next, inr (inl (is, so)), r) = absurd (subst IsLined is tt)
  next_at (Reading n k) c h (next, inr (inr (faults, is, so)), r) = absurd (subst IsLined is tt)
  next_at (Sending n k) c h (next, inl (is, so), r) = absurd (subst IsAsked is tt)
  next_at (Sending n k) c h (next, inr (faults, is, so), r) = absurd (subst IsAsked is tt)

pub next_of : (pad token : Text) (log more : List Did) (c : Cut) (did : Did) (out : Outcome) → Runs (Goes (Opening pad token)) (log ++ Lined c ∷ did ∷ more) out
    → IsNextOf (altered_by (client_after None log) (Lined c)) did
next_of pad token log more c did out r = let w = split_at (Goes (Opening pad token)) log (Lined c ∷ did ∷ more) out r in at w.0 w.1 w.2
  where
    at : (mid : Outcome) → Runs (Goes (Opening pad token)) log mid → Runs mid (Lined c ∷ did ∷ more) out → IsNextOf (altered_by (client_after None log) (Lined c)) did
    at (Goes t) q rest =
        let w = comes (Opening pad token) log t tt q in subst (λ o. IsNextOf (altered_by o (Lined c)) did) (sym w.1) (next_at did more out t c w.0 rest)
    at (Ends e) q rest = absurd rest
