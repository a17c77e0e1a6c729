-- What is found on a disk.
use Rattle.std.proofs.Common.{◌≡◌, ℕ, Bool, true, false, List, [], ◌∷◌, ◌++◌, refl, sym, ap, ◌∙◌, subst}
use Rattle.ep_outside.specs.declared.limits.Limits.{Limits}
use Rattle.ep_history.specs.Pad.{PadState}
use Rattle.ep_history.specs.Records.{AreLegal, AreNext, next_pad, told, told_from, unopened, without_sessions}
use Rattle.ep_history.specs.Machine.{settled}
use Rattle.ep_history.specs.declared.record.Record.{Record}
use Rattle.ep_history.proofs.Recorded.{next-apart}
use Rattle.ep_history.proofs.Steps.{told-limits}
use Rattle.ep_pad.specs.Opening.{found}
use Rattle.ep_pad.proofs.Waking.{IsShut, IsTold}

-- records tell no session
bare : (pad : PadState) (rs : List Record) → without_sessions pad ≡ pad → without_sessions (told_from pad rs) ≡ told_from pad rs
bare pad [] e = e
bare pad (r ∷ rs) e = bare (next_pad pad r) rs (next-apart pad r ∙ ap (λ p. next_pad p r) e)

told-append : (pad : PadState) (rs qs : List Record) → told_from pad (rs ++ qs) ≡ told_from (told_from pad rs) qs
told-append pad [] qs = refl
told-append pad (r ∷ rs) qs = told-append (next_pad pad r) rs qs

told-bare : (limits : Limits) (rs : List Record) → without_sessions (told limits rs) ≡ told (told limits rs).limits rs
told-bare limits rs = bare (unopened limits) rs refl ∙ ap (λ (l : Limits). told l rs) (sym (told-limits (unopened limits) rs))

pub found-told : (limits : Limits) (rs pending : List Record) (n : ℕ) (kept : Bool) → IsTold (settled kept (found limits rs pending n))
found-told limits rs pending n true =
    subst (λ (p : PadState). without_sessions p ≡ told p.limits (rs ++ pending)) (told-append (unopened limits) rs pending) (told-bare limits (rs ++ pending))
found-told limits rs pending n false = told-bare limits rs

legal-front : (pad : PadState) (rs qs : List Record) → AreNext pad (rs ++ qs) → AreNext pad rs
legal-front pad [] qs n = tt
legal-front pad (r ∷ rs) qs n = (n.0, legal-front (next_pad pad r) rs qs n.1)

pub found-legal : (limits : Limits) (rs pending : List Record) (n : ℕ) (kept : Bool) → AreLegal limits (rs ++ pending) → AreLegal limits (settled kept (found limits rs pending n)).records
found-legal limits rs pending n true legal = legal
found-legal limits rs pending n false legal = legal-front (unopened limits) rs pending legal

pub found-shut : (limits : Limits) (rs pending : List Record) (n : ℕ) → IsShut limits n (found limits rs pending n)
found-shut limits rs pending n = record { shut = refl; limits = told-limits (unopened limits) rs; faults = refl }
