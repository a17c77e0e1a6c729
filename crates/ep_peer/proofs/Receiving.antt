-- Receives, and what is read of them.
use Rattle.std.proofs.Common.{◌≡◌, ℕ, List, [], ◌∷◌, Option, Some, None, refl, sym, ap, subst, append-nil, inl, inr}
use Rattle.std.specs.Prelude.{Result, Ok, Err}
use Rattle.ep_client.specs.declared.heard.Told.{Told}
use Rattle.ep_client.specs.declared.heard.Told.TheVariants as told
use Rattle.ep_history.specs.Kept.{KeptClient}
use Rattle.ep_link.specs.Traffic.{Adds, came}
use Rattle.ep_link.specs.declared.passed.LinkGot.{LinkGot}
use Rattle.ep_link.specs.declared.passed.LinkGot.TheVariants as got
use Rattle.ep_link.specs.declared.passed.Passed.{Passed}
use Rattle.ep_peer.specs.Bads.{bad_of_wire}
use Rattle.ep_peer.specs.Parts.{Done, Performs, ReadAs, Receives, as_some, outcome_of, read_to, received_to}
use Rattle.ep_peer.specs.Writer.{Gave, Understood, Awaited, Commit, Listening, Having, Reading, Goes, goes_on, stops, heard, understood}
use Rattle.ep_peer.specs.declared.bad.PeerBad.{PeerBad}
use Rattle.ep_peer.specs.declared.hear.Received.{Received}
use Rattle.ep_peer.proofs.Parting.{done_as, done_ended, done_on}

abbrev Part : Option (List Passed) → Option (List Passed) → Awaited → Result (Option Received) PeerBad → Type 0
Part x y w r = Done x y (Goes (Listening w)) r (received_to w)

-- a text that was read as a message
reads : (x y : Option (List Passed)) (w : Awaited) (text : List ℕ) (n : ℕ) (r : Received) → Adds x y (came (got.Message text)) → ReadAs text (Ok r) → Part x y w (Ok (Some r))
reads x y w text n r t (is, so) = record {
  log = Gave (got.Message text) n ∷ Understood text (Ok r.msg) ∷ [];
  traffic = t;
  quiet = tt;
  performs = (
    Goes (Having w text),
    (got.Message text, n, refl, refl),
    (understood w text (Ok r.msg), (Ok r.msg, so, refl, refl), ap (λ t. understood w t (Ok r.msg)) is),
  );
}

-- one that was refused
refuses : (x y : Option (List Passed)) (w : Awaited) (text : List ℕ) (n : ℕ) (e : PeerBad) → Adds x y (came (got.Message text)) → ReadAs text (Err e) → Part x y w (Err e)
refuses x y w text n e t (inl is) = record {
  log = Gave (got.Message text) n ∷ [];
  traffic = t;
  quiet = tt;
  performs = (Goes (Having w text), (Goes (Having w text), (got.Message text, n, refl, refl), refl), inr is);
}
refuses x y w text n e t (inr (why, so, is)) = record {
  log = Gave (got.Message text) n ∷ Understood text (Err why) ∷ [];
  traffic = t;
  quiet = tt;
  performs = (
    stops (bad_of_wire why),
    (Goes (Having w text), (got.Message text, n, refl, refl), (stops (bad_of_wire why), (Err why, so, refl, refl), refl)),
    inl (ap stops (sym is)),
  );
}

at_text : (x y : Option (List Passed)) (w : Awaited) (text : List ℕ) (n : ℕ) (r : Result (Option Received) PeerBad) (first : Result Received PeerBad) → Adds x y (came (got.Message text)) → as_some r first → ReadAs text first → Part x y w r
at_text x y w text n (Ok (Some r)) first t is h = reads x y w text n r t (subst (ReadAs text) is h)
at_text x y w text n (Ok None) first t is h = absurd is
at_text x y w text n (Err e) first t is h = refuses x y w text n e t (subst (ReadAs text) is h)

-- what is no text
performs_other : (w : Awaited) (g : LinkGot) (n : ℕ) (r : Result (Option Received) PeerBad) → ((w : Awaited) → heard w g n ≡ outcome_of w r) → Performs (Goes (Listening w)) (Gave g n ∷ []) r (received_to w)
performs_other w g n (Ok o) f = (received_to w o, (g, n, refl, sym (f w)), refl)
performs_other w g n (Err e) f = (stops e, (stops e, (g, n, refl, sym (f w)), refl), inl refl)

at_other : (x y : Option (List Passed)) (w : Awaited) (g : LinkGot) (n : ℕ) (r : Result (Option Received) PeerBad) → Adds x y (came g) → ((w : Awaited) → heard w g n ≡ outcome_of w r) → Part x y w r
at_other x y w g n r t f = record { log = Gave g n ∷ []; traffic = subst (Adds x y) (sym (append-nil (came g))) t; quiet = tt; performs = performs_other w g n r f }

pub receives_part : (x y : Option (List Passed)) (w : Awaited) (r : Result (Option Received) PeerBad) → Receives x y r → Done x y (Goes (Listening w)) r (received_to w)
receives_part x y w r (got.Message text, n, t, (first, is, h)) = at_text x y w text n r first t is h
receives_part x y w r (got.Binary, n, t, h) = at_other x y w got.Binary n r t h
receives_part x y w r (got.Nothing, n, t, h) = at_other x y w got.Nothing n r t h
receives_part x y w r (got.Closed, n, t, h) = at_other x y w got.Closed n r t h
receives_part x y w r (got.Failed, n, t, h) = at_other x y w got.Failed n r t h
receives_part x y w r (got.NoMemory, n, t, h) = at_other x y w got.NoMemory n r t h

-- so far nothing came
abbrev pub Waits : Option (List Passed) → Option (List Passed) → Awaited → Type 0
Waits x y w = Done {X = Unit {0}} x y (Goes (Listening w)) (Ok tt) (λ _. Goes (Listening w))

waits_on : (x y z : Option (List Passed)) (w : Awaited) (r : Result (Option Received) PeerBad) → Waits x y w → Receives y z r → Done x z (Goes (Listening w)) r (received_to w)
waits_on x y z w r p h = done_on {X = Unit {0}} x y z (Goes (Listening w)) tt r (λ _. Goes (Listening w)) (received_to w) p (receives_part y z w r h)

pub waits_none : (x y z : Option (List Passed)) (w : Awaited) (o : Option Received) → o ≡ None → Waits x y w → Receives y z (Ok o) → Waits x z w
waits_none x y z w o is p h = done_as {X = Option Received} {Y = Unit {0}} x z (Goes (Listening w)) None tt (received_to w) (λ _. Goes (Listening w)) refl (waits_on x y z w (Ok None) p (subst (λ o. Receives y z (Ok o)) is h))

pub waits_some : (x y z : Option (List Passed)) (w : Awaited) (o : Option Received) (r : Received) → o ≡ Some r → Waits x y w → Receives y z (Ok o) → Done {X = Received} x z (Goes (Listening w)) (Ok r) (read_to w)
waits_some x y z w o r is p h = done_as {X = Option Received} {Y = Received} x z (Goes (Listening w)) (Some r) r (received_to w) (read_to w) refl (waits_on x y z w (Ok (Some r)) p (subst (λ o. Receives y z (Ok o)) is h))

pub waits_err : (x y z : Option (List Passed)) (w : Awaited) (e : PeerBad) → Waits x y w → Receives y z (Err e) → Done {X = Received} x z (Goes (Listening w)) (Err e) (read_to w)
waits_err x y z w e p h = done_ended {X = Option Received} {Y = Received} x z (Goes (Listening w)) (Err e) (received_to w) (Err e) (read_to w) e refl refl (waits_on x y z w (Err e) p h)

-- ---- up to the commit

abbrev pub Hears : Option (List Passed) → Option (List Passed) → ℕ → KeptClient → KeptClient → Type 0
Hears x y n old k = Done {X = Unit {0}} x y (Goes (Listening (Commit n old))) (Ok tt) (λ _. Goes (Listening (Commit n k)))

abbrev Heard : Option (List Passed) → Option (List Passed) → ℕ → KeptClient → KeptClient → Result Told PeerBad → Type 0
Heard x y n k new r = Done x y (Goes (Listening (Commit n k))) r (goes_on n new)

hears_on : (x y z : Option (List Passed)) (n : ℕ) (old k new : KeptClient) (r : Result Told PeerBad) → Hears x y n old k → Heard y z n k new r → Done x z (Goes (Listening (Commit n old))) r (goes_on n new)
hears_on x y z n old k new r p q = done_on {X = Unit {0}} x y z (Goes (Listening (Commit n old))) tt r (λ _. Goes (Listening (Commit n k))) (goes_on n new) p q

pub hears_commit : (x y z : Option (List Passed)) (n : ℕ) (old k new : KeptClient) (t : Told) → t ≡ told.Commit → Hears x y n old k → Heard y z n k new (Ok t) → Done {X = Unit {0}} x z (Goes (Listening (Commit n old))) (Ok tt) (λ _. Goes (Reading n new))
hears_commit x y z n old k new t is p q = done_as {X = Told} {Y = Unit {0}} x z (Goes (Listening (Commit n old))) t tt (goes_on n new) (λ _. Goes (Reading n new)) (ap (goes_on n new) is) (hears_on x y z n old k new (Ok t) p q)

pub hears_news : (x y z : Option (List Passed)) (n : ℕ) (old k new : KeptClient) (t : Told) → t ≡ told.News → Hears x y n old k → Heard y z n k new (Ok t) → Hears x z n old new
hears_news x y z n old k new t is p q = done_as {X = Told} {Y = Unit {0}} x z (Goes (Listening (Commit n old))) t tt (goes_on n new) (λ _. Goes (Listening (Commit n new))) (ap (goes_on n new) is) (hears_on x y z n old k new (Ok t) p q)

pub hears_err : (x y z : Option (List Passed)) (n : ℕ) (old k new : KeptClient) (e : PeerBad) → Hears x y n old k → Heard y z n k new (Err e) → Done {X = Unit {0}} x z (Goes (Listening (Commit n old))) (Err e) (λ _. Goes (Reading n new))
hears_err x y z n old k new e p q = done_ended {X = Told} {Y = Unit {0}} x z (Goes (Listening (Commit n old))) (Err e) (goes_on n new) (Err e) (λ _. Goes (Reading n new)) e refl refl (hears_on x y z n old k new (Err e) p q)
