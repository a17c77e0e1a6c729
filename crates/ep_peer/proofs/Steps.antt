-- One thing that a writer does, as the laws of its walk count it.
use Rattle.std.proofs.Common.{◌≡◌, ◌≤◌, ℕ, suc, ◌+◌, List, [], ◌∷◌, ◌++◌, length, Option, Some, None, refl, sym, ap, ◌∙◌, subst, lit≤, inl, inr}
use Rattle.std.specs.Prelude.{Result, Ok, Err}
use Rattle.ep_client.specs.Hearing.{kept_hears, told_of}
use Rattle.ep_client.specs.Refusals.{hear_fault}
use Rattle.ep_client.specs.declared.bad.ClientBad.{ClientBad}
use Rattle.ep_client.specs.declared.heard.Heard.{Heard}
use Rattle.ep_client.specs.declared.heard.Heard.TheVariants as hear
use Rattle.ep_client.specs.declared.heard.Told.{Told}
use Rattle.ep_client.specs.declared.heard.Told.TheVariants as told
use Rattle.ep_event.specs.declared.event.Local.{Local}
use Rattle.ep_history.specs.Kept.{KeptClient, kept_edited, kept_submitted}
use Rattle.ep_invert.specs.declared.bad.SpliceBad.{SpliceBad}
use Rattle.ep_link.specs.declared.passed.LinkGot.{LinkGot}
use Rattle.ep_link.specs.declared.passed.LinkGot.TheVariants as got
use Rattle.ep_local.specs.Local.{local_bad, local_edit}
use Rattle.ep_wire_words.specs.declared.bad.WireBad.{WireBad}
use Rattle.ep_wire_words.specs.declared.client.ClientMsg.{ClientMsg}
use Rattle.ep_wire_words.specs.declared.server.ServerMsg.{ServerMsg}
use Rattle.ep_wire_words.specs.declared.server.ServerMsg.TheVariants as msg
use Rattle.ep_script.specs.WriteLine.{write_line_of}
use Rattle.ep_script.specs.declared.line.LineBad.{LineBad}
use Rattle.ep_script.specs.declared.write_line.WriteLine.{WriteLine}
use Rattle.ep_script.specs.declared.write_line.WriteLine.TheVariants as line
use Rattle.ep_peer.specs.Cuts.{Cut, Line, Long}
use Rattle.ep_peer.specs.Output.{client_by, commit_by, commit_unless, edits_by, edits_unless, hears, hears_unless, message_of, messages_if, one_commit, or_as_before, output_by, said_by, sent_by, submits_if, commit_if}
use Rattle.ep_peer.specs.Writer.{Did, Said, Unsaid, Gave, Understood, Lined, Unlined, Over, Awaited, First, Commit, Stand, Opening, Listening, Having, Reading, Sending, Outcome, Goes, Ends, Does, accepted, editing, goes_on, heard, hearing, lined, news_of, ready, said_line, stops, submitting, told_later, understood, user_changes, written}
use Rattle.ep_peer.specs.declared.bad.PeerBad.{PeerBad}
use Rattle.ep_peer.specs.declared.bad.PeerBad.TheVariants as bad
use Rattle.ep_peer.specs.declared.writer.Written.{Written}

-- the client of where it stands
abbrev pub client : Stand → Option KeptClient
client (Opening pad token) = None
client (Listening First) = None
client (Listening (Commit n k)) = Some k
client (Having First text) = None
client (Having (Commit n k) text) = Some k
client (Reading n k) = Some k
client (Sending n k) = Some k

-- what is to be sent next
abbrev pub due : Stand → List ClientMsg
due (Opening pad token) = ready pad token ∷ []
due (Listening w) = []
due (Having w text) = []
due (Reading n k) = []
due (Sending n k) = user_changes k ∷ []

-- how many commits are waited for
abbrev pub awaits : Stand → ℕ
awaits (Opening pad token) = 0
awaits (Listening First) = 0
awaits (Listening (Commit n k)) = 1
awaits (Having First text) = 0
awaits (Having (Commit n k) text) = 1
awaits (Reading n k) = 0
awaits (Sending n k) = 0

abbrev pub IsOn : Did → Type 0
IsOn Over = ⊥
IsOn d = Unit {0}

-- it goes on, and what was due and is put out is sent or due
pub record GoesBy (s : Stand) (did : Did) (next : Stand) : Type 0 where
  pub sent : due s ++ output_by (client s) did ≡ said_by did ++ due next
  pub client_is : client_by (client s) did ≡ client next
  pub counts : awaits s + sent_by did ≡ commit_by (client s) did + awaits next
  pub on : IsOn did

-- at a good end the source told its own, and nothing is waited for
abbrev pub EndsBy : Stand → Did → Result Written PeerBad → Type 0
EndsBy s did (Ok w) = (did ≡ Over) × (awaits s + (sent_by did + 0) ≡ commit_by (client s) did + 0) × ((k : KeptClient) × (client_by (client s) did ≡ Some k) × (w ≡ written k))
EndsBy s did (Err e) = Unit {0}

abbrev pub StepTo : Stand → Did → Outcome → Type 0
StepTo s did (Goes next) = GoesBy s did next
StepTo s did (Ends r) = (said_by did ≡ []) × (length (due s ++ output_by (client s) did) ≤ 1) × EndsBy s did r

moved : (s : Stand) (a did : Did) (o out : Outcome) → did ≡ a → out ≡ o → StepTo s a o → StepTo s did out
moved s a did o out is so h = subst (λ d. StepTo s d out) (sym is) (subst (StepTo s a) (sym so) h)

goes_plain : (s : Stand) (did : Did) (next : Stand) → due s ++ output_by (client s) did ≡ said_by did ++ due next → client_by (client s) did ≡ client next → awaits s + sent_by did ≡ commit_by (client s) did + awaits next → IsOn did → StepTo s did (Goes next)
goes_plain s did next a b c d = record { sent = a; client_is = b; counts = c; on = d }

-- ---- receives

listening : (w : Awaited) (g : LinkGot) (n : ℕ) → StepTo (Listening w) (Gave g n) (heard w g n)
listening First (got.Message text) n = goes_plain (Listening First) (Gave (got.Message text) n) (Having First text) refl refl refl tt
listening First got.Binary n = (refl, lit≤ tt, tt)
listening First got.Nothing n = goes_plain (Listening First) (Gave got.Nothing n) (Listening First) refl refl refl tt
listening First got.Closed n = (refl, lit≤ tt, tt)
listening First got.Failed n = (refl, lit≤ tt, tt)
listening First got.NoMemory n = (refl, lit≤ tt, tt)
listening (Commit m k) (got.Message text) n = goes_plain (Listening (Commit m k)) (Gave (got.Message text) n) (Having (Commit m k) text) refl refl refl tt
listening (Commit m k) got.Binary n = (refl, lit≤ tt, tt)
listening (Commit m k) got.Nothing n = goes_plain (Listening (Commit m k)) (Gave got.Nothing n) (Listening (Commit m k)) refl refl refl tt
listening (Commit m k) got.Closed n = (refl, lit≤ tt, tt)
listening (Commit m k) got.Failed n = (refl, lit≤ tt, tt)
listening (Commit m k) got.NoMemory n = (refl, lit≤ tt, tt)

-- ---- messages

module _ (n : ℕ) (k : KeptClient) (text : List ℕ) (m : ServerMsg) (h : Heard) (news : news_of k m ≡ Some h) where
  -- what is heard
  heard_well : (t : Told) → told_of h k ≡ t → hear_fault h k ≡ None → StepTo (Having (Commit n k) text) (Understood text (Ok m)) (goes_on n (kept_hears h k) t)
  heard_well told.Commit is none =
      goes_plain (Having (Commit n k) text) (Understood text (Ok m)) (Reading n (kept_hears h k)) refl
      (ap Some (ap (hears k) news ∙ ap (hears_unless k h) none))
      (sym (ap (λ c. c + 0) (ap (commit_if k) news ∙ (ap (commit_unless k h) none ∙ ap one_commit is)))) tt
  heard_well told.News is none =
      goes_plain (Having (Commit n k) text) (Understood text (Ok m)) (Listening (Commit n (kept_hears h k))) refl
      (ap Some (ap (hears k) news ∙ ap (hears_unless k h) none))
      (sym (ap (λ c. c + 1) (ap (commit_if k) news ∙ (ap (commit_unless k h) none ∙ ap one_commit is)))) tt

  hears_so : (o : Option ClientBad) → hear_fault h k ≡ o → StepTo (Having (Commit n k) text) (Understood text (Ok m)) (hearing n k h o)
  hears_so None is = heard_well (told_of h k) refl is
  hears_so (Some why) is = (refl, lit≤ tt, tt)

later : (n : ℕ) (k : KeptClient) (text : List ℕ) (m : ServerMsg) → StepTo (Having (Commit n k) text) (Understood text (Ok m)) (told_later n k text m)
later n k text (msg.Vars pad author read_only session birth rev doc time) = (refl, lit≤ tt, tt)
later n k text (msg.Accepted rev session) = hears_so n k text (msg.Accepted rev session) (accepted k rev) refl (hear_fault (accepted k rev) k) refl
later n k text (msg.News rev change author session time delta) = hears_so n k text (msg.News rev change author session time delta) (hear.Rev rev change session) refl (hear_fault (hear.Rev rev change session) k) refl
later n k text (msg.Reconnect current birth head rev change author session time) = (refl, lit≤ tt, tt)
later n k text (msg.ReconnectNone current birth head rev) = (refl, lit≤ tt, tt)
later n k text (msg.Slid start reached granularity request forward backward) = (refl, lit≤ tt, tt)
later n k text (msg.Closing word) = (refl, lit≤ tt, tt)

having : (w : Awaited) (text : List ℕ) (r : Result ServerMsg WireBad) → StepTo (Having w text) (Understood text r) (understood w text r)
having First text (Err why) = (refl, lit≤ tt, tt)
having (Commit n k) text (Err why) = (refl, lit≤ tt, tt)
having First text (Ok (msg.Vars pad author read_only session birth rev doc time)) =
    goes_plain (Having First text) (Understood text (Ok (msg.Vars pad author read_only session birth rev doc time))) (Reading 0 _) refl refl refl tt
having First text (Ok (msg.Accepted rev session)) = (refl, lit≤ tt, tt)
having First text (Ok (msg.News rev change author session time delta)) = (refl, lit≤ tt, tt)
having First text (Ok (msg.Reconnect current birth head rev change author session time)) = (refl, lit≤ tt, tt)
having First text (Ok (msg.ReconnectNone current birth head rev)) = (refl, lit≤ tt, tt)
having First text (Ok (msg.Slid start reached granularity request forward backward)) = (refl, lit≤ tt, tt)
having First text (Ok (msg.Closing word)) = (refl, lit≤ tt, tt)
having (Commit n k) text (Ok m) = later n k text m

-- ---- lines

-- what a line puts out, and the client behind it, are those of where it leads
abbrev LinedAs : List ClientMsg → Option KeptClient → Outcome → Type 0
LinedAs ms c (Goes s) = (ms ≡ due s) × (c ≡ client s) × (awaits s ≡ 0)
LinedAs ms c (Ends (Ok w)) = ⊥
LinedAs ms c (Ends (Err e)) = length ms ≤ 1

lined_so : (n : ℕ) (k : KeptClient) (c : Cut) (out : Outcome) → LinedAs (output_by (Some k) (Lined c)) (client_by (Some k) (Lined c)) out → StepTo (Reading n k) (Lined c) out
lined_so n k c (Goes s) h = goes_plain (Reading n k) (Lined c) s h.0 h.1 (sym (ap (λ m. 0 + m) h.2)) tt
lined_so n k c (Ends (Ok w)) h = absurd h
lined_so n k c (Ends (Err e)) h = (refl, h, tt)

submitted_so : (n : ℕ) (k : KeptClient) (o : Option KeptClient) → LinedAs (message_of o) (Some (or_as_before k o)) (submitting n k o)
submitted_so n k None = (refl, refl, refl)
submitted_so n k (Some sent) = (refl, refl, refl)

edited_so : (n : ℕ) (k : KeptClient) (e : Local) (o : Option SpliceBad) → LinedAs (messages_if (edits_unless k e o)) (Some (submits_if k (edits_unless k e o))) (editing n k e o)
edited_so n k e None = let new = kept_edited (local_edit e k.view) k in submitted_so n new (kept_submitted new)
edited_so n k e (Some why) = lit≤ tt

said_so : (n : ℕ) (k : KeptClient) (r : Result WriteLine LineBad) → LinedAs (messages_if (edits_by k r)) (Some (submits_if k (edits_by k r))) (said_line n k r)
said_so n k (Ok line.Blank) = (refl, refl, refl)
said_so n k (Ok (line.Edit e)) = edited_so n k e (local_bad e k.view)
said_so n k (Err why) = lit≤ tt

reading : (n : ℕ) (k : KeptClient) (c : Cut) → StepTo (Reading n k) (Lined c) (lined (suc n) k c)
reading n k (Line bytes) = lined_so n k (Line bytes) (lined (suc n) k (Line bytes)) (said_so (suc n) k (write_line_of bytes))
reading n k Long = (refl, lit≤ tt, tt)

-- ---- all of them

pub steps : (s : Stand) (did : Did) (out : Outcome) → Does s did out → StepTo s did out
steps (Opening pad token) did out (inl (is, so)) = moved (Opening pad token) (Said (ready pad token)) did (Goes (Listening First)) out is so (goes_plain (Opening pad token) (Said (ready pad token)) (Listening First) refl refl refl tt)
steps (Opening pad token) did out (inr (n, is, so)) = moved (Opening pad token) (Unsaid n) did (stops (bad.LinkFault n)) out is so (refl, lit≤ tt, tt)
steps (Listening w) did out (g, n, is, so) = moved (Listening w) (Gave g n) did (heard w g n) out is so (listening w g n)
steps (Having w text) did out (r, reads, is, so) = moved (Having w text) (Understood text r) did (understood w text r) out is so (having w text r)
steps (Reading n k) did out (inl (c, is, so)) = moved (Reading n k) (Lined c) did (lined (suc n) k c) out is so (reading n k c)
steps (Reading n k) did out (inr (inl (is, so))) = moved (Reading n k) Over did (Ends (Ok (written k))) out is so (refl, lit≤ tt, (refl, refl, (k, refl, refl)))
steps (Reading n k) did out (inr (inr (faults, is, so))) = moved (Reading n k) (Unlined faults) did (stops (bad.SourceFault faults)) out is so (refl, lit≤ tt, tt)
steps (Sending n k) did out (inl (is, so)) = moved (Sending n k) (Said (user_changes k)) did (Goes (Listening (Commit n k))) out is so (goes_plain (Sending n k) (Said (user_changes k)) (Listening (Commit n k)) refl refl refl tt)
steps (Sending n k) did out (inr (faults, is, so)) = moved (Sending n k) (Unsaid faults) did (stops (bad.LinkFault faults)) out is so (refl, lit≤ tt, tt)
