use Rattle.std.proofs.Common.{ℕ, ◌≡◌, ◌∷◌, Bool, false, nat_le, List, Result, Ok, Err, if◌then◌else◌, ap, sym, arith}
use Rattle.std.proofs.lemmas.Bool.Decides.{nat_tests}
use Rattle.std.proofs.lemmas.Result.{err_from_is_err_and}
use Rattle.ep_units.specs.Text.{Text}
use Rattle.ep_outside.specs.declared.keeper.Pair.{Pair}
use Rattle.ep_dir_records.specs.Answers.{◌>>◌}
use Rattle.ep_dir_records.specs.Keys.{count_put}
use Rattle.ep_dir_records.specs.Readings.{name_of, not_past}
use Rattle.ep_dir_records.specs.declared.ids.IdKind.TheVariants as id
use Rattle.ep_dir_records.specs.declared.dir_bad.DirBad.{DirBad}
use Rattle.ep_dir_records.specs.declared.dir_bad.DirBad.TheVariants.{Past}
use Rattle.ep_dir_records.proofs.Chains.{reads_as, reads_stop, reads_then}
use Rattle.ep_groups.specs.Directory.{made, session_put}
use Rattle.ep_groups.proofs.dir_machine.DirMachine.planned_session.Goals as goal

-- src/sessions.rt:33:28
pub returns-in_err-session : goal.returns-in_err-session
returns-in_err-session g c =
    let until = c.args.valid_until in
    let now = c.args.now in
    let puts = session_put c.args.group.now c.args.author.now until in
    let drawn = c.args.drawn.now.digits in
    let past : nat_le until now ≡ false = grind (arith, nat_tests, c.if-valid_until-now.false) in
    let judged : Bool → Result (Unit {0}) DirBad = λ b. if b then Err (Past now) else Ok tt in
    let p = err_from_is_err_and c.from_residual-in_err-session.result c.from_residual-in_err-session.ensures.1 in
    rw (p.1, p.2, sym c.self.view_is) (reads_then (λ u (m : List Pair). name_of c.args.author.now m >> (not_past until now >> made id.Session drawn puts m)) c.in_ok-in_group.ensures
    (reads_then (λ name (m : List Pair). not_past until now >> made id.Session drawn puts m) c.in_ok-name_of.ensures
    (reads_as (λ m. not_past until now >> made id.Session drawn puts m) (λ m. ap (λ b. judged b >> made id.Session drawn puts m) past)
    (reads_stop (λ (new : Text × ℕ) (m : List Pair). Ok (new.0, count_put new.1 ∷ puts new.0)) c.in_err-session.ensures))))
