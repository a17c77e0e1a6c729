-- Parts of a writer, one after the other.
use Rattle.std.proofs.Common.{◌≡◌, List, [], ◌∷◌, ◌++◌, Option, Some, None, refl, sym, ap, ◌∙◌, subst, append_assoc, append-nil, inl, inr}
use Rattle.std.specs.Prelude.{Result, Ok, Err}
use Rattle.std.specs.Result.{IsErrAnd}
use Rattle.ep_link.specs.Traffic.{Adds, came}
use Rattle.ep_link.specs.declared.passed.Passed.{Passed}
use Rattle.ep_link.specs.declared.passed.Passed.TheVariants.{Sent}
use Rattle.ep_wire_words.specs.declared.client.ClientMsg.{ClientMsg}
use Rattle.ep_peer.specs.Parts.{Comes, Done, IsQuiet, Performs, SendsAs, bad_of_say}
use Rattle.ep_peer.specs.Writer.{Did, Said, Unsaid, Gave, Understood, Lined, Unlined, Over, Stand, Outcome, Goes, Ends, Runs, Does, Sends, stops, text_of_msg, traffic_of, lines_of}
use Rattle.ep_peer.specs.declared.bad.PeerBad.{PeerBad}
use Rattle.ep_peer.specs.declared.bad.PeerBad.TheVariants as bad
use Rattle.ep_peer.specs.declared.say.SayBad.{SayBad}
use Rattle.ep_peer.specs.declared.say.SayBad.TheVariants as unsaid

pub runs_on : (from : Outcome) (a : List Did) (mid : Outcome) (b : List Did) (out : Outcome) → Runs from a mid → Runs mid b out → Runs from (a ++ b) out
runs_on from [] mid b out r s = subst (λ o. Runs o b out) r s
runs_on (Goes s) (did ∷ a) mid b out (next, does, r) t = (next, does, runs_on next a mid b out r t)
runs_on (Ends e) (did ∷ a) mid b out r t = absurd r

-- ---- the parts of a log

pub traffic_on : (a b : List Did) → traffic_of (a ++ b) ≡ traffic_of a ++ traffic_of b
traffic_on [] b = refl
traffic_on (Gave g n ∷ a) b = ap (λ t. came g ++ t) (traffic_on a b) ∙ sym (append_assoc (came g) (traffic_of a) (traffic_of b))
traffic_on (Said m ∷ a) b = ap (λ t. Sent (text_of_msg m) ∷ t) (traffic_on a b)
traffic_on (Unsaid n ∷ a) b = traffic_on a b
traffic_on (Understood text r ∷ a) b = traffic_on a b
traffic_on (Lined c ∷ a) b = traffic_on a b
traffic_on (Unlined n ∷ a) b = traffic_on a b
traffic_on (Over ∷ a) b = traffic_on a b

pub lines_on : (a b : List Did) → lines_of (a ++ b) ≡ lines_of a ++ lines_of b
lines_on [] b = refl
lines_on (Lined c ∷ a) b = ap (λ t. c ∷ t) (lines_on a b)
lines_on (Gave g n ∷ a) b = lines_on a b
lines_on (Said m ∷ a) b = lines_on a b
lines_on (Unsaid n ∷ a) b = lines_on a b
lines_on (Understood text r ∷ a) b = lines_on a b
lines_on (Unlined n ∷ a) b = lines_on a b
lines_on (Over ∷ a) b = lines_on a b

pub quiet_on : (a b : List Did) → IsQuiet a → IsQuiet b → IsQuiet (a ++ b)
quiet_on [] b h k = k
quiet_on (Gave g n ∷ a) b h k = quiet_on a b h k
quiet_on (Said m ∷ a) b h k = quiet_on a b h k
quiet_on (Unsaid n ∷ a) b h k = quiet_on a b h k
quiet_on (Understood text r ∷ a) b h k = quiet_on a b h k
quiet_on (Lined c ∷ a) b h k = absurd h
quiet_on (Unlined n ∷ a) b h k = absurd h
quiet_on (Over ∷ a) b h k = absurd h

pub adds_on : (x y z : Option (List Passed)) (a b : List Passed) → Adds x y a → Adds y z b → Adds x z (a ++ b)
adds_on None None None a b h k = tt
adds_on None None (Some z) a b h k = k
adds_on None (Some y) z a b h k = absurd h
adds_on (Some x) None z a b h k = absurd h
adds_on (Some x) (Some y) None a b h k = k
adds_on (Some x) (Some y) (Some z) a b h k = k ∙ ap (λ t. t ++ b) h ∙ append_assoc x a b

pub adds_nothing : (x : Option (List Passed)) → Adds x x []
adds_nothing None = tt
adds_nothing (Some x) = sym (append-nil x)

pub traffic_both : (x y z : Option (List Passed)) (a b : List Did) → Adds x y (traffic_of a) → Adds y z (traffic_of b) → Adds x z (traffic_of (a ++ b))
traffic_both x y z a b h k = subst (Adds x z) (sym (traffic_on a b)) (adds_on x y z (traffic_of a) (traffic_of b) h k)

-- ---- parts

performs_on : {Y : Type 0} (from : Outcome) (a : List Did) (mid : Outcome) (b : List Did) (r : Result Y PeerBad) (to : Y → Outcome) → Runs from a mid → Performs mid b r to → Performs from (a ++ b) r to
performs_on from a mid b (Ok y) to p q = runs_on from a mid b (to y) p q
performs_on from a mid b (Err e) to p q = (q.0, runs_on from a mid b q.0 p q.1, q.2)

pub done_on : {X Y : Type 0} (x y z : Option (List Passed)) (from : Outcome) (v : X) (r : Result Y PeerBad) (to : X → Outcome) (rest : Y → Outcome) → Done x y from (Ok v) to → Done y z (to v) r rest → Done x z from r rest
done_on x y z from v r to rest p q = record {
  log = p.log ++ q.log;
  traffic = traffic_both x y z p.log q.log p.traffic q.traffic;
  quiet = quiet_on p.log q.log p.quiet q.quiet;
  performs = performs_on from p.log (to v) q.log r rest p.performs q.performs;
}

-- where it stands doesn't count where it ended
performs_ended : {X Y : Type 0} (from : Outcome) (log : List Did) (r : Result X PeerBad) (to : X → Outcome) (q : Result Y PeerBad) (rest : Y → Outcome) (e : PeerBad) → r ≡ Err e → q ≡ Err e → Performs from log r to → Performs from log q rest
performs_ended {X = X} {Y = Y} from log r to q rest e is too p =
    let w : Performs {X = X} from log (Err e) to = subst (λ r. Performs from log r to) is p in
    subst (λ q. Performs from log q rest) (sym too) w

pub done_ended : {X Y : Type 0} (x y : Option (List Passed)) (from : Outcome) (r : Result X PeerBad) (to : X → Outcome) (q : Result Y PeerBad) (rest : Y → Outcome) (e : PeerBad) → r ≡ Err e → q ≡ Err e → Done x y from r to → Done x y from q rest
done_ended x y from r to q rest e is too p = record { log = p.log; traffic = p.traffic; quiet = p.quiet; performs = performs_ended from p.log r to q rest e is too p.performs }

-- the same by another name for where it stands
pub done_as : {X Y : Type 0} (x y : Option (List Passed)) (from : Outcome) (v : X) (w : Y) (to : X → Outcome) (rest : Y → Outcome) → to v ≡ rest w → Done x y from (Ok v) to → Done x y from (Ok w) rest
done_as x y from v w to rest is p = record { log = p.log; traffic = p.traffic; quiet = p.quiet; performs = subst (Runs from p.log) is p.performs }

performs_comes : {X : Type 0} (from : Outcome) (r : Result X PeerBad) (to : X → Outcome) → Comes from r to → Performs from [] r to
performs_comes from (Ok x) to h = sym h
performs_comes from (Err e) to h = (from, refl, h)

-- what comes without anything done
pub done_comes : {X : Type 0} (x : Option (List Passed)) (from : Outcome) (r : Result X PeerBad) (to : X → Outcome) → Comes from r to → Done x x from r to
done_comes x from r to h = record { log = []; traffic = adds_nothing x; quiet = tt; performs = performs_comes from r to h }

-- nothing is done yet
pub done_nothing : (x : Option (List Passed)) (from : Outcome) → Done {X = Unit {0}} x x from (Ok tt) (λ _. from)
done_nothing x from = done_comes {X = Unit {0}} x from (Ok tt) (λ _. from) refl

-- memory ran out before anything was done
pub done_short : {X : Type 0} (x : Option (List Passed)) (from : Outcome) (r : Result X PeerBad) (to : X → Outcome) → r ≡ Err bad.NoMemory → Done x x from r to
done_short {X = X} x from r to is = subst (λ r. Done {X = X} x x from r to) (sym is) (done_comes {X = X} x from (Err bad.NoMemory) to (inr refl))

pub err_is : {X E : Type 0} (r : Result X E) (e : E) → IsErrAnd r (λ x. x ≡ e) → r ≡ Err e
err_is (Ok x) e h = absurd h
err_is (Err x) e h = ap Err h

-- ---- a message that goes out

pub said : (x y : Option (List Passed)) (s : Stand) (m : ClientMsg) (next : Outcome) → ((did : Did) (out : Outcome) → Sends m did out next → Does s did out) → Adds x y (Sent (text_of_msg m) ∷ [])
    → Done {X = Unit {0}} x y (Goes s) (Ok tt) (λ _. next)
said x y s m next does h = record { log = Said m ∷ []; traffic = h; quiet = tt; performs = (next, does (Said m) next (inl (refl, refl)), refl) }

pub unsaid_so : {X : Type 0} (x y : Option (List Passed)) (s : Stand) (m : ClientMsg) (next : Outcome) (b : SayBad) (r : Result X PeerBad) (to : X → Outcome) → ((did : Did) (out : Outcome) → Sends m did out next → Does s did out)
    → r ≡ Err (bad_of_say b) → Adds x y [] → Done x y (Goes s) r to
unsaid_so {X = X} x y s m next (unsaid.Fault n) r to does is h = subst (λ r. Done {X = X} x y (Goes s) r to) (sym is)
    (record { log = Unsaid n ∷ []; traffic = h; quiet = tt; performs = (stops (bad.LinkFault n), (stops (bad.LinkFault n), does (Unsaid n) (stops (bad.LinkFault n)) (inr (n, refl, refl)), refl), inl refl) })
unsaid_so {X = X} x y s m next unsaid.NoMemory r to does is h = subst (λ r. Done {X = X} x y (Goes s) r to) (sym is)
    (record { log = []; traffic = h; quiet = tt; performs = (Goes s, refl, inr refl) })

pub says_err : {X : Type 0} (x y : Option (List Passed)) (s : Stand) (m : ClientMsg) (next : Outcome) (b : SayBad) (q : Result (Unit {0}) SayBad) (r : Result X PeerBad) (to : X → Outcome) → ((did : Did) (out : Outcome) → Sends m did out next → Does s did out)
    → q ≡ Err b → r ≡ Err (bad_of_say b) → SendsAs m x y q → Done x y (Goes s) r to
says_err x y s m next b q r to does was is h = unsaid_so x y s m next b r to does is (subst (SendsAs m x y) was h)

pub says_ok : (x y : Option (List Passed)) (s : Stand) (m : ClientMsg) (next : Outcome) (u : Unit {0}) (q : Result (Unit {0}) SayBad) → ((did : Did) (out : Outcome) → Sends m did out next → Does s did out)
    → q ≡ Ok u → SendsAs m x y q → Done {X = Unit {0}} x y (Goes s) (Ok tt) (λ _. next)
says_ok x y s m next u q does was h = said x y s m next does (subst (SendsAs m x y) was h)

-- ---- what comes behind a part, and before one

pub then_comes : {X Y : Type 0} (x y : Option (List Passed)) (from : Outcome) (v : X) (r : Result Y PeerBad) (to : X → Outcome) (rest : Y → Outcome) → Done x y from (Ok v) to → Comes (to v) r rest → Done x y from r rest
then_comes x y from v r to rest p h = done_on x y y from v r to rest p (done_comes y (to v) r rest h)

pub comes_first : {X Y : Type 0} (x y : Option (List Passed)) (from : Outcome) (v : X) (r : Result Y PeerBad) (to : X → Outcome) (rest : Y → Outcome) → Comes from (Ok v) to → Done x y (to v) r rest → Done x y from r rest
comes_first x y from v r to rest h p = done_on x x y from v r to rest (done_comes x from (Ok v) to h) p

pub comes_ended : {X Y : Type 0} (x : Option (List Passed)) (from : Outcome) (q : Result X PeerBad) (to : X → Outcome) (r : Result Y PeerBad) (rest : Y → Outcome) (e : PeerBad) → q ≡ Err e → r ≡ Err e → Comes from q to → Done x x from r rest
comes_ended x from q to r rest e was is h = done_ended x x from q to r rest e was is (done_comes x from q to h)
