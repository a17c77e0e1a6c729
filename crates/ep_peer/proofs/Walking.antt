-- The laws of a writer's walk.
use Rattle.std.proofs.Common.{◌≡◌, ◌≤◌, ℕ, ◌+◌, add_assoc, arith, rules, List, [], ◌∷◌, ◌++◌, length, Some, None, refl, sym, ap, ◌∙◌, subst, lit≤, append_assoc, append-nil}
use Rattle.std.specs.Prelude.{Result, Ok}
use Rattle.ep_units.specs.Text.{Text}
use Rattle.ep_cs.specs.Change.{Change}
use Rattle.ep_history.specs.Kept.{KeptClient}
use Rattle.ep_wire_words.specs.declared.client.ClientMsg.{ClientMsg}
use Rattle.ep_wire_words.specs.declared.client.ClientMsg.TheVariants as msgs
use Rattle.ep_peer.specs.Cuts.{Cut}
use Rattle.ep_peer.specs.Output.{IsSentOf, client_after, client_by, commit_by, commits_heard, edits_sent, output, output_by, said_by, said_of, sent_by}
use Rattle.ep_peer.specs.Writer.{Did, Said, Unsaid, Gave, Understood, Lined, Unlined, Over, Stand, Opening, Listening, Having, Reading, Sending, Outcome, Goes, Ends, Does, IsOver, Runs, written}
use Rattle.ep_peer.specs.declared.bad.PeerBad.{PeerBad}
use Rattle.ep_peer.specs.declared.writer.Written.{Written}
use Rattle.ep_peer.proofs.Steps.{EndsBy, GoesBy, IsOn, StepTo, awaits, client, due, steps}

pub not_both : (s : Stand) (r : Result Written PeerBad) → Goes s ≡ Ends r → ⊥
not_both s r h = search rules

stand_of : Outcome → Stand → Stand
stand_of (Goes s) t = s
stand_of (Ends r) t = t

result_of : Outcome → Result Written PeerBad → Result Written PeerBad
result_of (Goes s) r = r
result_of (Ends q) r = q

-- ---- what was sent is a beginning of the output

due_few : (s : Stand) → length (due s) ≤ 1
due_few (Opening pad token) = lit≤ tt
due_few (Listening w) = lit≤ tt
due_few (Having w text) = lit≤ tt
due_few (Reading n k) = lit≤ tt
due_few (Sending n k) = lit≤ tt

onward : (s : Stand) (did : Did) (next : Stand) (log : List Did) → GoesBy s did next → IsSentOf (said_of log) (due next ++ output (client next) log) → IsSentOf (said_of (did ∷ log)) (due s ++ output (client s) (did ∷ log))
onward s did next log h (rest, whole, few) = (
  rest,
  sym (append_assoc (due s) (output_by (client s) did) (output (client_by (client s) did) log))
      ∙ (ap (λ ms. ms ++ output (client_by (client s) did) log) h.sent
      ∙ (ap (λ c. (said_by did ++ due next) ++ output c log) h.client_is
      ∙ (append_assoc (said_by did) (due next) (output (client next) log)
      ∙ (ap (λ ms. said_by did ++ ms) whole ∙ sym (append_assoc (said_by did) (said_of log) rest))))),
  few,
)

last_step : (s : Stand) (did : Did) → said_by did ≡ [] → length (due s ++ output_by (client s) did) ≤ 1 → IsSentOf (said_of (did ∷ [])) (due s ++ output (client s) (did ∷ []))
last_step s did none few = (
  due s ++ output_by (client s) did,
  ap (λ ms. due s ++ ms) (append-nil (output_by (client s) did)) ∙ sym (ap (λ ms. (ms ++ []) ++ (due s ++ output_by (client s) did)) none),
  few,
)

sends_next : (s : Stand) (did : Did) (log : List Did) (out next : Outcome) → StepTo s did next → Runs next log out
    → ((t : Stand) → Runs (Goes t) log out → IsSentOf (said_of log) (due t ++ output (client t) log)) → IsSentOf (said_of (did ∷ log)) (due s ++ output (client s) (did ∷ log))
sends_next s did log out (Goes t) h r f = onward s did t log h (f t r)
sends_next s did [] out (Ends e) h r f = last_step s did h.0 h.1
sends_next s did (d ∷ log) out (Ends e) h r f = absurd r

pub sends : (s : Stand) (log : List Did) (out : Outcome) → Runs (Goes s) log out → IsSentOf (said_of log) (due s ++ output (client s) log)
sends s [] out r = (due s, append-nil (due s), due_few s)
sends s (did ∷ log) out (next, does, r) = sends_next s did log out next (steps s did next does) r (λ t q. sends t log out q)

-- ---- what is waited for was sent, and not committed

-- a walk goes to where its rest begins
pub split_at : (from : Outcome) (a b : List Did) (out : Outcome) → Runs from (a ++ b) out → (mid : Outcome) × Runs from a mid × Runs mid b out
split_at from [] b out r = (from, refl, r)
split_at (Goes s) (did ∷ a) b out (next, does, r) = let w = split_at next a b out r in (w.0, (next, does, w.1), w.2)
split_at (Ends e) (did ∷ a) b out r = absurd r

counted : (a b c d e f : ℕ) → a + b ≡ c + d → d + e ≡ f → a + (b + e) ≡ c + f
counted a b c d e f h k = omega (arith, h, k)

counts_next : (s : Stand) (did : Did) (log : List Did) (t : Stand) (next : Outcome) → StepTo s did next → Runs next log (Goes t)
    → ((u : Stand) → Runs (Goes u) log (Goes t) → awaits u + edits_sent log ≡ commits_heard (client u) log + awaits t) → awaits s + edits_sent (did ∷ log) ≡ commits_heard (client s) (did ∷ log) + awaits t
counts_next s did log t (Goes u) h r f =
    counted (awaits s) (sent_by did) (commit_by (client s) did) (awaits u) (edits_sent log) (commits_heard (client u) log + awaits t) h.counts (f u r)
    ∙ (sym (add_assoc (commit_by (client s) did) (commits_heard (client u) log) (awaits t)) ∙ ap (λ c. (commit_by (client s) did + commits_heard c log) + awaits t) (sym h.client_is))
counts_next s did [] t (Ends e) h r f = absurd (not_both t e r)
counts_next s did (d ∷ log) t (Ends e) h r f = absurd r

pub counts : (s : Stand) (log : List Did) (t : Stand) → Runs (Goes s) log (Goes t) → awaits s + edits_sent log ≡ commits_heard (client s) log + awaits t
unfolding stand_of
counts s [] t r = let e : awaits t ≡ awaits s = ap awaits (ap (λ o. stand_of o s) r) in omega (arith, e)
counts s (did ∷ log) t (next, does, r) = counts_next s did log t next (steps s did next does) r (λ u q. counts u log t q)

idle_lined : (s : Stand) (c : Cut) (next : Outcome) → Does s (Lined c) next → awaits s ≡ 0
idle_lined (Opening pad token) c next h = refl
idle_lined (Listening w) c next (g, n, is, so) = absurd (search rules)
idle_lined (Having w text) c next (r, reads, is, so) = absurd (search rules)
idle_lined (Reading n k) c next h = refl
idle_lined (Sending n k) c next h = refl

idle_said : (s : Stand) (m : ClientMsg) (next : Outcome) → Does s (Said m) next → awaits s ≡ 0
idle_said (Opening pad token) m next h = refl
idle_said (Listening w) m next (g, n, is, so) = absurd (search rules)
idle_said (Having w text) m next (r, reads, is, so) = absurd (search rules)
idle_said (Reading n k) m next h = refl
idle_said (Sending n k) m next h = refl

even : (a b c : ℕ) → 0 + a ≡ b + c → c ≡ 0 → a ≡ b
even a b c h k = omega (arith, h, k)

-- before something that is done only where nothing is waited for
module _ (s : Stand) (log : List Did) (did : Did) (more : List Did) (out : Outcome) (idle : awaits s ≡ 0) (f : (t : Stand) (next : Outcome) → Does t did next → awaits t ≡ 0) where
  before_at : (mid : Outcome) → Runs (Goes s) log mid → Runs mid (did ∷ more) out → edits_sent log ≡ commits_heard (client s) log
  before_at (Goes t) r (next, does, q) = even (edits_sent log) (commits_heard (client s) log) (awaits t) (sym (ap (λ n. n + edits_sent log) idle) ∙ counts s log t r) (f t next does)
  before_at (Ends e) r q = absurd q

  before : Runs (Goes s) (log ++ did ∷ more) out → edits_sent log ≡ commits_heard (client s) log
  before r = let w = split_at (Goes s) log (did ∷ more) out r in before_at w.0 w.1 w.2

pub before_lined : (pad token : Text) (log more : List Did) (c : Cut) (out : Outcome) → Runs (Goes (Opening pad token)) (log ++ Lined c ∷ more) out → edits_sent log ≡ commits_heard None log
before_lined pad token log more c out r = before (Opening pad token) log (Lined c) more out refl (λ t next h. idle_lined t c next h) r

pub before_said : (pad token : Text) (log more : List Did) (base : ℕ) (change : Change) (out : Outcome) → Runs (Goes (Opening pad token)) (log ++ Said (msgs.Edit base change) ∷ more) out → edits_sent log ≡ commits_heard None log
before_said pad token log more base change out r = before (Opening pad token) log (Said (msgs.Edit base change)) more out refl (λ t next h. idle_said t (msgs.Edit base change) next h) r

-- ---- a good end

over_next : (did : Did) (log : List Did) → IsOn did → IsOver log → IsOver (did ∷ log)
over_next (Said m) log on h = h
over_next (Unsaid n) log on h = h
over_next (Gave g n) log on h = h
over_next (Understood text r) log on h = h
over_next (Lined c) log on h = h
over_next (Unlined n) log on h = h
over_next Over log on h = absurd on

-- it ends where the source told its end, nothing is waited for, and this is the client
abbrev pub EndsWell : Stand → List Did → Written → Type 0
EndsWell s log w = IsOver log × (awaits s + edits_sent log ≡ commits_heard (client s) log) × ((k : KeptClient) × (client_after (client s) log ≡ Some k) × (w ≡ written k))

well_next : (s : Stand) (did : Did) (log : List Did) (t : Stand) (w : Written) → GoesBy s did t → EndsWell t log w → EndsWell s (did ∷ log) w
well_next s did log t w h (over, even, (k, is, so)) = (
  over_next did log h.on over,
  counted (awaits s) (sent_by did) (commit_by (client s) did) (awaits t) (edits_sent log) (commits_heard (client t) log) h.counts even
      ∙ ap (λ c. commit_by (client s) did + commits_heard c log) (sym h.client_is),
  (k, ap (λ c. client_after c log) h.client_is ∙ is, so),
)

well_last : (s : Stand) (did : Did) (w : Written) (r : Result Written PeerBad) → r ≡ Ok w → EndsBy s did r → EndsWell s (did ∷ []) w
well_last s did w r is h = let b = subst (EndsBy s did) is h in (subst (λ d. IsOver (d ∷ [])) (sym b.0) refl, b.1, b.2)

ends_next : (s : Stand) (did : Did) (log : List Did) (w : Written) (next : Outcome) → StepTo s did next → Runs next log (Ends (Ok w)) → ((t : Stand) → Runs (Goes t) log (Ends (Ok w)) → EndsWell t log w) → EndsWell s (did ∷ log) w
unfolding result_of
ends_next s did log w (Goes t) h r f = well_next s did log t w h (f t r)
ends_next s did [] w (Ends e) h r f = well_last s did w e (sym (ap (λ o. result_of o e) r)) h.2
ends_next s did (d ∷ log) w (Ends e) h r f = absurd r

pub ends_well : (s : Stand) (log : List Did) (w : Written) → Runs (Goes s) log (Ends (Ok w)) → EndsWell s log w
ends_well s [] w r = absurd (not_both s (Ok w) (sym r))
ends_well s (did ∷ log) w (next, does, r) = ends_next s did log w next (steps s did next does) r (λ t q. ends_well t log w q)
