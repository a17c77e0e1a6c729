-- A schedule makes one world.
use Rattle.std.proofs.Common.{◌≡◌, ℕ, zero, suc, ◌+◌, Bool, true, false, sym, ap, ◌∙◌, subst}
use Rattle.ep_schedule.specs.World.{Name, WorldState}
use Rattle.ep_event.specs.declared.event.Event.TheVariants.{Edit, Hear, Push}
use Rattle.ep_make.specs.Draws.{drawn_edit, name_of}
use Rattle.ep_make.specs.Generator.{following, pick}
use Rattle.ep_make.specs.Round.{Drains, IsDrained, Rests, Round, after, sent, view_length}
use Rattle.ep_make.specs.Schedule.{Each, LogsIn, Makes, Rounds, Settles, new_world}

-- two worlds to which one is led are the same
abbrev IsOne : (WorldState → WorldState → Type 0) → Type 0
IsOne Step = (w v u : WorldState) → Step w v → Step w u → v ≡ u

true_false : {A : Type 0} (b : Bool) → b ≡ true → b ≡ false → A
true_false b e f = absurd (let h : true ≡ false = sym e ∙ f in cc)

one_drain : (k j : ℕ) (n : Name) (w v u : WorldState) → Drains k n w v → Drains j n w u → v ≡ u
one_drain zero zero n w v u a b = a.1 ∙ sym b.1
one_drain zero (suc j) n w v u a b = true_false _ b.0 a.0
one_drain (suc k) zero n w v u a b = true_false _ a.0 b.0
one_drain (suc k) (suc j) n w v u a b = one_drain k j n (after (after w (Push n)) (Hear n)) v u a.1 b.1

drained : (n : Name) → IsOne (IsDrained n)
drained n w v u a b = one_drain a.0 b.0 n w v u a.1 b.1

rested : (k : ℕ) (n : Name) → IsOne (Rests k n)
rested zero n w v u a b = drained n w v u a b
rested (suc zero) n w v u a b = a ∙ sym b
rested (suc (suc k)) n w v u a b = a ∙ sym b

settled : (k : ℕ) (n : Name) → IsOne (Settles k n)
settled zero n w v u a b = a ∙ sym b
settled (suc k) n w v u a b =
    let e = settled k n w a.0 b.0 a.2 b.2 in
    let d = drained n b.0 a.1 b.1 (subst (λ x. IsDrained n x a.1) e a.3) b.3 in
    a.4 ∙ ap (λ x. sent x n) d ∙ sym b.4

each : (Step : Name → WorldState → WorldState → Type 0) → ((n : Name) → IsOne (Step n)) → (k : ℕ) → IsOne (Each Step k)
each Step one zero w v u a b = a ∙ sym b
each Step one (suc k) w v u a b =
    let e = each Step one k w a.0 b.0 a.1 b.1 in
    one (name_of (suc k)) b.0 v u (subst (λ x. Step (name_of (suc k)) x v) e a.2) b.2

one_round : (clients x : ℕ) (w : WorldState) (y z : ℕ) (v u : WorldState) → Round clients x w y v → Round clients x w z u → (y ≡ z) × (v ≡ u)
one_round clients x w y z v u a b =
    let n = name_of (pick clients x + 1) in
    let d = drawn_edit (view_length w n) (following x) in
    (a.1 ∙ sym b.1, rested (pick 3 d.1) n (sent (after w (Edit n d.0)) n) v u a.0 b.0)

rounds : (k clients x : ℕ) (w : WorldState) (y z : ℕ) (v u : WorldState) → Rounds k clients x w y v → Rounds k clients x w z u → (y ≡ z) × (v ≡ u)
rounds zero clients x w y z v u a b = (a.0 ∙ sym b.0, a.1 ∙ sym b.1)
rounds (suc k) clients x w y z v u a b =
    let e = rounds k clients x w a.0 b.0 a.1 b.1 a.2 b.2 in
    one_round clients b.0 b.1 y z v u (subst (λ i. Round clients i b.1 y v) e.0 (subst (λ s. Round clients a.0 s y v) e.1 a.3)) b.3

pub one_world : (number clients edits : ℕ) (v w : WorldState) → Makes number clients edits v → Makes number clients edits w → v ≡ w
one_world number clients edits v w a b =
    let begun = each LogsIn (λ n w v u e f. e ∙ sym f) clients new_world a.begun b.begun a.logins b.logins in
    let played = rounds edits clients number b.begun a.last b.last a.played b.played (subst (λ x. Rounds edits clients number x a.last a.played) begun a.rounds) b.rounds in
    let settles = each (Settles 3) (settled 3) clients b.played a.settled b.settled (subst (λ x. Each (Settles 3) clients x a.settled) played.1 a.settles) b.settles in
    each IsDrained drained clients b.settled v w (subst (λ x. Each IsDrained clients x v) settles a.drains) b.drains
